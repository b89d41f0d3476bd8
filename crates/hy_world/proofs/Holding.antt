-- The clouds that hold the current version of a key.
use Rattle.std.proofs.Common.{◌≡◌, ◌≢◌, ℕ, ◌+◌, ◌<◌, Bool, true, false, ◌&&◌, ◌||◌, ◌==◌, not, nat_lt, List, [], ◌∷◌, length, slice_index_or, Option, Some, None, cond, refl, sym, ap, subst, ◌∙◌, inl, inr, arith}
use Rattle.std.specs.Prelude.{filter}
use Rattle.std.specs.List.{range_with_len}
use Rattle.std.specs.Int.{bit_at}
use Rattle.std.proofs.lemmas.Bool.{cases_Bool, cases_eq, cases_lt, lt-ltb, le-ltb, eq-eqb, ne_eqb}
use Rattle.hy_record.specs.Clouds.{clouds_of, set_of}
use Rattle.hy_record.specs.Record.{RecordValue, is_tombstone, is_valid_fragment}
use Rattle.hy_record.specs.Stamp.{Timestamp}
use Rattle.hy_protocol.specs.Cloud.{bytes_held}
use Rattle.hy_cloud.specs.declared.cloud.Cloud.{Cloud}
use Rattle.hy_cloud.specs.Objects.{StandsForWishes}
use Rattle.hy_order.specs.declared.held.Held.{Held}
use Rattle.hy_operation.specs.declared.marks.Marks.{Marks}
use Rattle.hy_operation.specs.Marks.{is_marked, marked_below}
use Rattle.hy_operation.proofs.Filters.{filter-agrees}
use Rattle.hy_trace.specs.Deeds.{Params, Deed, granted}
use Rattle.hy_trace.specs.Held.{is_valid_held, holds_valid, holders_of, held_by, held_with}
use Rattle.hy_world.specs.declared.nodes.Nodes.{Nodes}
use Rattle.hy_world.specs.Nodes.{NodesStand}
use Rattle.hy_world.specs.Holders.{is_holder}

filter-both : (p q : ℕ → Bool) (xs : List ℕ) → filter q (filter p xs) ≡ filter (λ x. p x && q x) xs
filter-both p q [] = refl
filter-both p q (x ∷ xs) = let rest = filter-both p q xs in elim (cases_Bool (p x)) [
  | inl taken ↦ rw taken (ap (λ (ys : List ℕ). cond (q x) (x ∷ ys) ys) rest)
  | inr left_out ↦ rw left_out rest
]

and-false : (b : Bool) → (b && false) ≡ false
and-false true = refl
and-false false = refl

or-false : (b : Bool) → (b || false) ≡ b
or-false true = refl
or-false false = refl

below-more : (n i : ℕ) → n ≢ i → nat_lt i n ≡ nat_lt i (n + 1)
below-more n i apart =
    elim (cases_lt i n) [
      | inl inside ↦ lt-ltb i n inside ∙ sym (lt-ltb i (n + 1) (omega arith))
      | inr past ↦ le-ltb i n past ∙ sym (le-ltb i (n + 1) (omega arith))
    ]

-- the marks with one cloud more
pub marked-more : (h : ℕ → Bool) (n i : ℕ) (was now holds : Bool) → was ≡ (nat_lt i n && h i) → now ≡ (was || (holds && n == i)) → holds ≡ h n → now ≡ (nat_lt i (n + 1) && h i)
marked-more h n i was now holds before is holds_is =
    elim (cases_eq n i) [
      | inl same ↦
          let low : nat_lt i n ≡ false = le-ltb i n (omega arith) in
          let high : nat_lt i (n + 1) ≡ true = lt-ltb i (n + 1) (omega arith) in
          let test : (n == i) ≡ true = eq-eqb n i same in
          let none : was ≡ false = before ∙ ap (λ (b : Bool). b && h i) low in
          is ∙ ap (λ (b : Bool). b || (holds && n == i)) none ∙ ap (λ (b : Bool). holds && b) test ∙ first holds ∙ holds_is ∙ ap h same ∙ sym (ap (λ (b : Bool). b && h i) high)
      | inr apart ↦
          let test : (n == i) ≡ false = ne_eqb n i apart in
          is ∙ ap (λ (b : Bool). was || (holds && b)) test ∙ ap (λ (b : Bool). was || b) (and-false holds) ∙ or-false was ∙ before ∙ ap (λ (b : Bool). b && h i) (below-more n i apart)
    ]
  where
    first : (b : Bool) → (b && true) ≡ b
    first true = refl
    first false = refl

-- where the marks are those of the holders, so is the set
pub holders-marked : (p : Params) (t : List Deed) (key : List ℕ) (r : RecordValue) (marks : Marks) → ((i : ℕ) → i < 16 → is_marked marks i ≡ (nat_lt i 16 && is_holder p t key r i)) → set_of (marked_below marks 16) ≡ set_of (holders_of p t key r)
unfolding holders_of clouds_of
holders-marked p t key r marks marked =
    ap set_of (filter-agrees (is_marked marks) (is_holder p t key r) 0 16 (λ i below. (let small : i < 16 = omega arith in marked i small ∙ ap (λ (b : Bool). b && is_holder p t key r i) (lt-ltb i 16 small)))
    ∙ sym (filter-both (λ cloud. bit_at r.clouds cloud == 1) (holds_valid p t key r) (range_with_len 0 16)))

-- a cloud that is not of the list is no holder, and one of it is where it holds valid bytes
pub not-listed : (p : Params) (t : List Deed) (key : List ℕ) (r : RecordValue) (i set : ℕ) (b : Bool) → set ≡ r.clouds → b ≡ (bit_at set i == 1) → b ≡ false → false ≡ is_holder p t key r i
not-listed p t key r i set b set_is is out = ap (λ (x : Bool). x && holds_valid p t key r i) (sym out ∙ is ∙ ap (λ (s : ℕ). bit_at s i == 1) set_is)

pub listed : (p : Params) (t : List Deed) (key : List ℕ) (r : RecordValue) (i set : ℕ) (b holds : Bool) → set ≡ r.clouds → b ≡ (bit_at set i == 1) → b ≡ true → holds ≡ holds_valid p t key r i → holds ≡ is_holder p t key r i
listed p t key r i set b holds set_is is into holds_is = holds_is ∙ ap (λ (x : Bool). x && holds_valid p t key r i) (sym into ∙ is ∙ ap (λ (s : ℕ). bit_at s i == 1) set_is)

-- what a cloud holds
pub kept : (p : Params) (t : List Deed) (w : Nodes) (i : ℕ) (x : Cloud) → NodesStand p t w → i < length w.clouds.items → x ≡ slice_index_or w.clouds.items i x → StandsForWishes x (granted i t)
kept p t w i x r inside is = subst (λ (z : Cloud). StandsForWishes z (granted i t)) (sym is) (r.keeping i x inside)

pub holds-liar : (p : Params) (t : List Deed) (key : List ℕ) (r : RecordValue) (i : ℕ) → p.is_liar i ≡ true → false ≡ holds_valid p t key r i
unfolding holds_valid
holds-liar p t key r i liar = rw liar refl

holds-by : (p : Params) (t : List Deed) (key : List ℕ) (r : RecordValue) (i : ℕ) (stamp : Timestamp) (held : Option (List ℕ)) (holds : Bool) → p.is_liar i ≡ false → stamp ≡ r.stamp → held ≡ bytes_held (granted i t) key stamp → holds ≡ is_valid_held r i held → holds ≡ holds_valid p t key r i
unfolding holds_valid
holds-by p t key r i stamp held holds honest stamp_is held_is is =
    is ∙ ap (is_valid_held r i) (held_is ∙ ap (bytes_held (granted i t) key) stamp_is) ∙ ap (λ (b : Bool). not b && is_valid_held r i (bytes_held (granted i t) key r.stamp)) (sym honest)

pub holds-bytes : (p : Params) (t : List Deed) (key : List ℕ) (r : RecordValue) (i : ℕ) (stamp : Timestamp) (bytes : List ℕ) (holds : Bool) → p.is_liar i ≡ false → stamp ≡ r.stamp → Some bytes ≡ bytes_held (granted i t) key stamp → holds ≡ is_valid_fragment r i bytes → holds ≡ holds_valid p t key r i
holds-bytes p t key r i stamp bytes holds honest stamp_is held is = holds-by p t key r i stamp (Some bytes) holds honest stamp_is held is

pub holds-none : (p : Params) (t : List Deed) (key : List ℕ) (r : RecordValue) (i : ℕ) (stamp : Timestamp) → p.is_liar i ≡ false → stamp ≡ r.stamp → None ≡ bytes_held (granted i t) key stamp → false ≡ holds_valid p t key r i
holds-none p t key r i stamp honest stamp_is held = holds-by p t key r i stamp None false honest stamp_is held refl

-- what is told of a record
pub held-tomb : (p : Params) (t : List Deed) (key : List ℕ) (r : RecordValue) → is_tombstone r.kind ≡ true → None ≡ held_with p t key (Some r)
held-tomb p t key r tomb = sym (ap (held_by p t key r) tomb)

pub held-value : (p : Params) (t : List Deed) (key : List ℕ) (r : RecordValue) (stamp : Timestamp) (clouds : ℕ) → is_tombstone r.kind ≡ false → stamp ≡ r.stamp → clouds ≡ set_of (holders_of p t key r) → Some (record { key = key; stamp = stamp; clouds = clouds }) ≡ held_with p t key (Some r)
held-value p t key r stamp clouds value stamp_is clouds_is = same stamp r.stamp clouds (set_of (holders_of p t key r)) stamp_is clouds_is ∙ sym (ap (held_by p t key r) value)
  where
    same : (s u : Timestamp) (m n : ℕ) → s ≡ u → m ≡ n → ◌≡◌ {A = Option Held} (Some (record { key = key; stamp = s; clouds = m })) (Some (record { key = key; stamp = u; clouds = n }))
    same s u m n ss ms = cc
