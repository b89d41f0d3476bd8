-- What is read is spelled so, and what is spelled so is read.
use Rattle.std.proofs.Common.{◌≡◌, ℕ, zero, suc, ◌+◌, ◌-◌, ◌*◌, ◌^◌, ◌<◌, ◌≤◌, Bool, true, false, cond, ltb, eqb, List, [], ◌∷◌, ◌++◌, length, take, drop, All, Result, Ok, Err, refl, sym, ap, subst, ◌∙◌, append_assoc, arith, inl, inr}
use Rattle.std.specs.Prelude.{IsTrue, IfOk, ◌&&◌, nat_lt, nat_le}
use Rattle.std.specs.List.{concat}
use Rattle.std.specs.Int.Count.{ones}
use Rattle.std.proofs.Math.Nat.{pow-le-pow_right}
use Rattle.std.proofs.lemmas.Bool.{ltb-false, le-ltb, lt-ltb, eqb-true, eq-eqb, ne_eqb, cases_lt}
use Rattle.std.proofs.lemmas.Bool.Decides.{nat_tests}
use Rattle.std.proofs.lemmas.List.{append-nil, nil_from_length, take_at, drop_at, take-append-drop, length-append, length-take, length-drop}
use Rattle.std.proofs.lemmas.List.Elements.{All-nil, All-cons, All-head, All-tail}
use Rattle.byteorder.specs.Endian.{big_bytes}
use Rattle.hy_base.specs.declared.limits.TheConstants.{MAX_F, MAX_K, MAX_VALUE, SN_END}
use Rattle.hy_record.specs.declared.kind.Kind.{Kind}
use Rattle.hy_record.specs.declared.kind.Kind.TheVariants.{Tomb, Whole, Coded}
use Rattle.hy_record.specs.declared.record.fault.RecordFault.{RecordFault}
use Rattle.hy_record.specs.declared.record.fault.RecordFault.TheVariants as faults
use Rattle.hy_record.specs.declared.record.reading.Layout.{Layout}
use Rattle.hy_record.specs.declared.record.reading.Fields.{Fields}
use Rattle.hy_record.specs.Stamp.{Timestamp, IsStamp, IsWritten}
use Rattle.hy_record.specs.Hash.{HASH_SIZE, IsHash}
use Rattle.hy_record.specs.Record.{RecordValue, IsRecord, most_bytes, most_faults, is_part_count, is_cloud_list, hash_count, tombstone}
use Rattle.hy_record.specs.Spelling.{stamp_bytes, layout_bytes, kind_byte, value_bytes, record_bytes, SpellsKind, SpellsRecord}
use Rattle.hy_base.specs.Results.{◌>>=◌}
use Rattle.hy_base.proofs.Results.{bind_ok, ok_is}
use Rattle.hy_record.specs.Reading.{Gives, IsValueLayout, IsLayout, no_layout, field_at, stamp_at, value_layout_at, layout_at, hash_at, hashes_at, hashes_due, record_with, ended_at, version_at, kind_at, fields_at, record_of}
use Rattle.hy_record.proofs.Numbers.{IsBytes, IsBytes-drop}
use Rattle.hy_record.proofs.Fields.{guard_false, guard_true, Takes, Takes-then, field_takes, field_again}

-- ---- timestamps

abbrev is_number : ℕ → Bool
is_number sn = nat_lt 0 sn && nat_lt sn SN_END

abbrev is_client : ℕ → Bool
is_client cid = nat_lt 0 cid

number_facts : (sn : ℕ) → is_number sn ≡ true → (0 < sn) × (sn < SN_END)
number_facts sn e = grind (arith, nat_tests)

number_test : (sn : ℕ) → 0 < sn → sn < SN_END → is_number sn ≡ true
number_test sn some below = grind (arith, nat_tests)

stamp_takes : (whole : ℕ) (bytes : List ℕ) (x : Timestamp × List ℕ) → IsBytes bytes → stamp_at whole bytes ≡ Ok x → Takes bytes (stamp_bytes x.0) x.1 × IsStamp x.0 × IsWritten x.0
unfolding stamp_at
stamp_takes whole bytes x fits e =
    let a = bind_ok (field_at 4 2 is_number whole bytes) (λ sn. field_at 4 6 is_client whole sn.1 >>= λ cid. Ok (record { sn = sn.0; cid = cid.0 }, cid.1)) x e in
    let b = bind_ok (field_at 4 6 is_client whole a.0.1) (λ cid. Ok (record { sn = a.0.0; cid = cid.0 }, cid.1)) x a.2 in
    let t = field_takes 4 2 is_number whole bytes a.0.0 a.0.1 fits a.1 in
    let u = field_takes 4 6 is_client whole a.0.1 b.0.0 b.0.1 t.0.rest_fits b.1 in
    let n = number_facts a.0.0 t.2 in
    let some : 0 < b.0.0 = let test = u.2 in grind (arith, nat_tests) in
    let client : b.0.0 < 2 ^ 32 = omega (arith, u.1) in
    let made : Timestamp × List ℕ = (record { sn = a.0.0; cid = b.0.0 }, b.0.1) in
    subst (λ (y : Timestamp × List ℕ). Takes bytes (stamp_bytes y.0) y.1 × IsStamp y.0 × IsWritten y.0) (ok_is made x b.2)
    (Takes-then bytes (big_bytes 4 a.0.0) a.0.1 (big_bytes 4 b.0.0) b.0.1 t.0 u.0, record { number = n.1; client = client }, record { number = n.0; client = some })

stamp_again : (whole : ℕ) (stamp : Timestamp) (rest : List ℕ) → IsStamp stamp → IsWritten stamp → stamp_at whole (stamp_bytes stamp ++ rest) ≡ Ok (stamp, rest)
unfolding stamp_at
stamp_again whole stamp rest ranged written =
    let regrouped : stamp_bytes stamp ++ rest ≡ big_bytes 4 stamp.sn ++ (big_bytes 4 stamp.cid ++ rest) = append_assoc (big_bytes 4 stamp.sn) (big_bytes 4 stamp.cid) rest in
    let client : is_client stamp.cid ≡ true = let some = written.client in grind (arith, nat_tests) in
    let first = field_again 4 2 is_number whole stamp.sn (big_bytes 4 stamp.cid ++ rest) (omega (arith, ranged.number)) (number_test stamp.sn written.number ranged.number) in
    let second = field_again 4 6 is_client whole stamp.cid rest (omega (arith, ranged.client)) client in
    ap (stamp_at whole) regrouped ∙ rw (first, second) refl

-- ---- layouts

abbrev is_size : ℕ → Bool
is_size size = nat_le size MAX_VALUE

abbrev is_fault_count : ℕ → Bool
is_fault_count f = nat_le f MAX_F

few_parts : (kind : Kind) (k : ℕ) → is_part_count kind k ≡ true → k ≤ MAX_K
few_parts Tomb k e = grind (arith, nat_tests)
few_parts Whole k e = grind (arith, nat_tests)
few_parts Coded k e = grind (arith, nat_tests)

abbrev text_of : Layout → List ℕ
text_of l = layout_bytes l.size l.f l.k l.clouds

value_layout_takes : (kind : Kind) (whole : ℕ) (bytes : List ℕ) (x : Layout × List ℕ) → IsBytes bytes → value_layout_at kind whole bytes ≡ Ok x → Takes bytes (text_of x.0) x.1 × IsValueLayout kind x.0
unfolding value_layout_at
value_layout_takes kind whole bytes x fits e =
    let a = bind_ok (field_at 4 10 is_size whole bytes) (λ size. field_at 1 14 is_fault_count whole size.1 >>= λ f. field_at 1 15 (λ k. is_part_count kind k) whole f.1 >>= λ k. field_at 2 16 (λ clouds. is_cloud_list f.0 k.0 clouds) whole k.1 >>= λ clouds. Ok (record { size = size.0; f = f.0; k = k.0; clouds = clouds.0 }, clouds.1)) x e in
    let b = bind_ok (field_at 1 14 is_fault_count whole a.0.1) (λ f. field_at 1 15 (λ k. is_part_count kind k) whole f.1 >>= λ k. field_at 2 16 (λ clouds. is_cloud_list f.0 k.0 clouds) whole k.1 >>= λ clouds. Ok (record { size = a.0.0; f = f.0; k = k.0; clouds = clouds.0 }, clouds.1)) x a.2 in
    let c = bind_ok (field_at 1 15 (λ k. is_part_count kind k) whole b.0.1) (λ k. field_at 2 16 (λ clouds. is_cloud_list b.0.0 k.0 clouds) whole k.1 >>= λ clouds. Ok (record { size = a.0.0; f = b.0.0; k = k.0; clouds = clouds.0 }, clouds.1)) x b.2 in
    let d = bind_ok (field_at 2 16 (λ clouds. is_cloud_list b.0.0 c.0.0 clouds) whole c.0.1) (λ clouds. Ok (record { size = a.0.0; f = b.0.0; k = c.0.0; clouds = clouds.0 }, clouds.1)) x c.2 in
    let ta = field_takes 4 10 is_size whole bytes a.0.0 a.0.1 fits a.1 in
    let tb = field_takes 1 14 is_fault_count whole a.0.1 b.0.0 b.0.1 ta.0.rest_fits b.1 in
    let tc = field_takes 1 15 (λ k. is_part_count kind k) whole b.0.1 c.0.0 c.0.1 tb.0.rest_fits c.1 in
    let td = field_takes 2 16 (λ clouds. is_cloud_list b.0.0 c.0.0 clouds) whole c.0.1 d.0.0 d.0.1 tc.0.rest_fits d.1 in
    let ab = Takes-then bytes (big_bytes 4 a.0.0) a.0.1 (big_bytes 1 b.0.0) b.0.1 ta.0 tb.0 in
    let abc = Takes-then bytes (big_bytes 4 a.0.0 ++ big_bytes 1 b.0.0) b.0.1 (big_bytes 1 c.0.0) c.0.1 ab tc.0 in
    let abcd = Takes-then bytes (big_bytes 4 a.0.0 ++ big_bytes 1 b.0.0 ++ big_bytes 1 c.0.0) c.0.1 (big_bytes 2 d.0.0) d.0.1 abc td.0 in
    let sized : a.0.0 ≤ MAX_VALUE = let test = ta.2 in grind (arith, nat_tests) in
    let faulty : b.0.0 ≤ MAX_F = let test = tb.2 in grind (arith, nat_tests) in
    let made : Layout × List ℕ = (record { size = a.0.0; f = b.0.0; k = c.0.0; clouds = d.0.0 }, d.0.1) in
    subst (λ (y : Layout × List ℕ). Takes bytes (text_of y.0) y.1 × IsValueLayout kind y.0) {x = made} (ok_is made x d.2)
    (abcd, record { size = sized; faults = faulty; parts = tc.2; few = few_parts kind c.0.0 tc.2; clouds = td.2 })

cloud_test : (f k clouds : ℕ) → is_cloud_list f k clouds ≡ true → clouds < 2 ^ (2 * f + k)
cloud_test f k clouds e = grind (arith, nat_tests)

few_clouds : (f k clouds : ℕ) → f ≤ MAX_F → k ≤ MAX_K → is_cloud_list f k clouds ≡ true → clouds < 256 ^ 2
few_clouds f k clouds faults parts e =
    let below : clouds < 2 ^ (2 * f + k) = cloud_test f k clouds e in
    let most : 2 ^ (2 * f + k) ≤ 2 ^ 10 = pow-le-pow_right {n = 2} (omega arith) {i = 2 * f + k} {j = 10} (omega arith) in
    omega arith

value_layout_again : (kind : Kind) (whole : ℕ) (l : Layout) (rest : List ℕ) → IsValueLayout kind l → value_layout_at kind whole (text_of l ++ rest) ≡ Ok (l, rest)
unfolding value_layout_at
value_layout_again kind whole l rest ruled =
    let b4 = big_bytes 4 l.size in
    let b1 = big_bytes 1 l.f in
    let c1 = big_bytes 1 l.k in
    let b2 = big_bytes 2 l.clouds in
    let regrouped : text_of l ++ rest ≡ b4 ++ (b1 ++ (c1 ++ (b2 ++ rest))) = append_assoc (b4 ++ b1 ++ c1) b2 rest ∙ append_assoc (b4 ++ b1) c1 (b2 ++ rest) ∙ append_assoc b4 b1 (c1 ++ (b2 ++ rest)) in
    let sized : is_size l.size ≡ true = let h = ruled.size in grind (arith, nat_tests) in
    let faulty : is_fault_count l.f ≡ true = let h = ruled.faults in grind (arith, nat_tests) in
    let first = field_again 4 10 is_size whole l.size (b1 ++ (c1 ++ (b2 ++ rest))) (omega (arith, ruled.size)) sized in
    let second = field_again 1 14 is_fault_count whole l.f (c1 ++ (b2 ++ rest)) (omega (arith, ruled.faults)) faulty in
    let third = field_again 1 15 (λ k. is_part_count kind k) whole l.k (b2 ++ rest) (omega (arith, ruled.few)) ruled.parts in
    let fourth = field_again 2 16 (λ clouds. is_cloud_list l.f l.k clouds) whole l.clouds rest (few_clouds l.f l.k l.clouds ruled.faults ruled.few ruled.clouds) ruled.clouds in
    ap (value_layout_at kind whole) regrouped ∙ rw (first, second, third, fourth) refl

-- the bytes of what this kind stands for
abbrev layout_text : Kind → Layout → List ℕ
layout_text Tomb l = []
layout_text Whole l = text_of l
layout_text Coded l = text_of l

layout_takes : (kind : Kind) (whole : ℕ) (bytes : List ℕ) (x : Layout × List ℕ) → IsBytes bytes → layout_at kind whole bytes ≡ Ok x → Takes bytes (layout_text kind x.0) x.1 × IsLayout kind x.0
unfolding layout_at
layout_takes Tomb whole bytes x fits e =
    subst (λ (y : Layout × List ℕ). Takes bytes [] y.1 × (y.0 ≡ no_layout)) (ok_is (no_layout, bytes) x e) (record { parts = refl; rest_fits = fits }, refl)
layout_takes Whole whole bytes x fits e = value_layout_takes Whole whole bytes x fits e
layout_takes Coded whole bytes x fits e = value_layout_takes Coded whole bytes x fits e

layout_again : (kind : Kind) (whole : ℕ) (l : Layout) (rest : List ℕ) → IsLayout kind l → layout_at kind whole (layout_text kind l ++ rest) ≡ Ok (l, rest)
unfolding layout_at
layout_again Tomb whole l rest is = ap (λ (x : Layout). Ok (x, rest)) (sym is)
layout_again Whole whole l rest ruled = value_layout_again Whole whole l rest ruled
layout_again Coded whole l rest ruled = value_layout_again Coded whole l rest ruled

-- the faults and the parts of a layout are few
pub layout_few : (kind : Kind) (l : Layout) → IsLayout kind l → (l.f ≤ MAX_F) × (l.k ≤ MAX_K)
layout_few Tomb l is = rw is (omega arith, omega arith)
layout_few Whole l ruled = (ruled.faults, ruled.few)
layout_few Coded l ruled = (ruled.faults, ruled.few)

-- ---- hashes

hash_takes : (whole : ℕ) (bytes : List ℕ) (x : List ℕ × List ℕ) → IsBytes bytes → hash_at whole bytes ≡ Ok x → Takes bytes x.0 x.1 × IsHash x.0
unfolding hash_at
hash_takes whole bytes x fits e =
    let g = guard_false (ltb (length bytes) HASH_SIZE) (faults.Short whole) (take HASH_SIZE bytes, drop HASH_SIZE bytes) x e in
    let room : HASH_SIZE ≤ length bytes = ltb-false (length bytes) HASH_SIZE g.0 in
    let size : length (take HASH_SIZE bytes) ≡ HASH_SIZE = simp length-take (omega arith) in
    subst (λ (y : List ℕ × List ℕ). Takes bytes y.0 y.1 × IsHash y.0) g.1 (record { parts = sym (take-append-drop HASH_SIZE bytes); rest_fits = IsBytes-drop HASH_SIZE bytes fits }, record { size = size })

hash_again : (whole : ℕ) (hash rest : List ℕ) → IsHash hash → hash_at whole (hash ++ rest) ≡ Ok (hash, rest)
unfolding hash_at
hash_again whole hash rest sized =
    let room : HASH_SIZE ≤ length (hash ++ rest) = simp length-append (omega (arith, sized.size)) in
    let enough : ltb (length (hash ++ rest)) HASH_SIZE ≡ false = le-ltb (length (hash ++ rest)) HASH_SIZE room in
    rw (enough, take_at hash rest HASH_SIZE sized.size, drop_at hash rest HASH_SIZE sized.size) refl

abbrev Hashes : Type 0
Hashes = List (List ℕ)

hashes_take : (count whole : ℕ) (bytes : List ℕ) (x : Hashes × List ℕ) → IsBytes bytes → hashes_at count whole bytes ≡ Ok x → Takes bytes (concat x.0) x.1 × (length x.0 ≡ count) × All IsHash x.0
unfolding hashes_at
hashes_take zero whole bytes x fits e =
    subst (λ (y : Hashes × List ℕ). Takes bytes (concat y.0) y.1 × (length y.0 ≡ 0) × All IsHash y.0) (ok_is ([], bytes) x e) (record { parts = refl; rest_fits = fits }, refl, All-nil IsHash)
hashes_take (suc count) whole bytes x fits e =
    let a = bind_ok (hash_at whole bytes) (λ first. hashes_at count whole first.1 >>= λ others. Ok (first.0 ∷ others.0, others.1)) x e in
    let b = bind_ok (hashes_at count whole a.0.1) (λ others. Ok (a.0.0 ∷ others.0, others.1)) x a.2 in
    let first = hash_takes whole bytes a.0 fits a.1 in
    let second = hashes_take count whole a.0.1 b.0 first.0.rest_fits b.1 in
    let both = Takes-then bytes a.0.0 a.0.1 (concat b.0.0) b.0.1 first.0 second.0 in
    let made : Hashes × List ℕ = (a.0.0 ∷ b.0.0, b.0.1) in
    subst (λ (y : Hashes × List ℕ). Takes bytes (concat y.0) y.1 × (length y.0 ≡ suc count) × All IsHash y.0) (ok_is made x b.2) (both, ap suc second.1, All-cons IsHash a.0.0 b.0.0 first.1 second.2)

hashes_again : (hashes : Hashes) (whole : ℕ) (rest : List ℕ) → All IsHash hashes → hashes_at (length hashes) whole (concat hashes ++ rest) ≡ Ok (hashes, rest)
unfolding hashes_at
hashes_again [] whole rest sized = refl
hashes_again (hash ∷ hashes) whole rest sized =
    let regrouped : concat (hash ∷ hashes) ++ rest ≡ hash ++ (concat hashes ++ rest) = append_assoc hash (concat hashes) rest in
    let first = hash_again whole hash (concat hashes ++ rest) (All-head IsHash hash hashes sized) in
    let others = hashes_again hashes whole rest (All-tail IsHash hash hashes sized) in
    ap (hashes_at (suc (length hashes)) whole) regrouped ∙ rw (first, others) refl

-- ---- fields

IsBytes-rest : (b : ℕ) (bytes : List ℕ) → IsBytes (b ∷ bytes) → IsBytes bytes
IsBytes-rest b bytes fits i = fits (suc i)

version_takes : (whole : ℕ) (bytes rest : List ℕ) → IsBytes bytes → version_at whole bytes ≡ Ok rest → Takes bytes (1 ∷ []) rest
unfolding version_at
version_takes whole [] rest fits e = absurd cc
version_takes whole (zero ∷ bytes) rest fits e = absurd cc
version_takes whole (suc zero ∷ bytes) rest fits e = subst (λ (y : List ℕ). Takes (1 ∷ bytes) (1 ∷ []) y) (ok_is bytes rest e) (record { parts = refl; rest_fits = IsBytes-rest 1 bytes fits })
version_takes whole (suc (suc b) ∷ bytes) rest fits e = absurd cc

kind_takes : (whole : ℕ) (bytes : List ℕ) (x : Kind × List ℕ) → IsBytes bytes → kind_at whole bytes ≡ Ok x → Takes bytes (kind_byte x.0 ∷ []) x.1
unfolding kind_at
kind_takes whole [] x fits e = absurd cc
kind_takes whole (zero ∷ bytes) x fits e = subst (λ (y : Kind × List ℕ). Takes (0 ∷ bytes) (kind_byte y.0 ∷ []) y.1) (ok_is (Tomb, bytes) x e) (record { parts = refl; rest_fits = IsBytes-rest 0 bytes fits })
kind_takes whole (suc zero ∷ bytes) x fits e = subst (λ (y : Kind × List ℕ). Takes (1 ∷ bytes) (kind_byte y.0 ∷ []) y.1) (ok_is (Whole, bytes) x e) (record { parts = refl; rest_fits = IsBytes-rest 1 bytes fits })
kind_takes whole (suc (suc zero) ∷ bytes) x fits e = subst (λ (y : Kind × List ℕ). Takes (2 ∷ bytes) (kind_byte y.0 ∷ []) y.1) (ok_is (Coded, bytes) x e) (record { parts = refl; rest_fits = IsBytes-rest 2 bytes fits })
kind_takes whole (suc (suc (suc b)) ∷ bytes) x fits e = absurd cc

-- the bytes that these fields spell
abbrev fields_bytes : Fields → List ℕ
fields_bytes fields = 1 ∷ kind_byte fields.kind ∷ (stamp_bytes fields.stamp ++ layout_text fields.kind fields.layout)

-- these fields were read from the bytes up to the rest
record Read (bytes : List ℕ) (fields : Fields) (rest : List ℕ) : Type 0 where
  takes : Takes bytes (fields_bytes fields) rest
  ranged : IsStamp fields.stamp
  written : IsWritten fields.stamp
  laid : IsLayout fields.kind fields.layout

fields_take : (whole : ℕ) (bytes : List ℕ) (x : Fields × List ℕ) → IsBytes bytes → fields_at whole bytes ≡ Ok x → Read bytes x.0 x.1
unfolding fields_at
fields_take whole bytes x fits e =
    let a = bind_ok (version_at whole bytes) (λ rest. kind_at whole rest >>= λ kind. stamp_at whole kind.1 >>= λ stamp. layout_at kind.0 whole stamp.1 >>= λ layout. Ok (record { kind = kind.0; stamp = stamp.0; layout = layout.0 }, layout.1)) x e in
    let b = bind_ok (kind_at whole a.0) (λ kind. stamp_at whole kind.1 >>= λ stamp. layout_at kind.0 whole stamp.1 >>= λ layout. Ok (record { kind = kind.0; stamp = stamp.0; layout = layout.0 }, layout.1)) x a.2 in
    let c = bind_ok (stamp_at whole b.0.1) (λ stamp. layout_at b.0.0 whole stamp.1 >>= λ layout. Ok (record { kind = b.0.0; stamp = stamp.0; layout = layout.0 }, layout.1)) x b.2 in
    let d = bind_ok (layout_at b.0.0 whole c.0.1) (λ layout. Ok (record { kind = b.0.0; stamp = c.0.0; layout = layout.0 }, layout.1)) x c.2 in
    let ta = version_takes whole bytes a.0 fits a.1 in
    let tb = kind_takes whole a.0 b.0 ta.rest_fits b.1 in
    let tc = stamp_takes whole b.0.1 c.0 tb.rest_fits c.1 in
    let td = layout_takes b.0.0 whole c.0.1 d.0 tc.0.rest_fits d.1 in
    let cd = Takes-then b.0.1 (stamp_bytes c.0.0) c.0.1 (layout_text b.0.0 d.0.0) d.0.1 tc.0 td.0 in
    let bcd = Takes-then a.0 (kind_byte b.0.0 ∷ []) b.0.1 (stamp_bytes c.0.0 ++ layout_text b.0.0 d.0.0) d.0.1 tb cd in
    let all = Takes-then bytes (1 ∷ []) a.0 (kind_byte b.0.0 ∷ (stamp_bytes c.0.0 ++ layout_text b.0.0 d.0.0)) d.0.1 ta bcd in
    let made : Fields × List ℕ = (record { kind = b.0.0; stamp = c.0.0; layout = d.0.0 }, d.0.1) in
    subst (λ (y : Fields × List ℕ). Read bytes y.0 y.1) {x = made} (ok_is made x d.2) (record { takes = all; ranged = tc.1; written = tc.2; laid = td.1 })

version_again : (whole : ℕ) (rest : List ℕ) → version_at whole (1 ∷ rest) ≡ Ok rest
unfolding version_at
version_again whole rest = refl

kind_again : (whole : ℕ) (kind : Kind) (rest : List ℕ) → kind_at whole (kind_byte kind ∷ rest) ≡ Ok (kind, rest)
unfolding kind_at
kind_again whole Tomb rest = refl
kind_again whole Whole rest = refl
kind_again whole Coded rest = refl

fields_again : (whole : ℕ) (fields : Fields) (rest : List ℕ) → IsStamp fields.stamp → IsWritten fields.stamp → IsLayout fields.kind fields.layout → fields_at whole (fields_bytes fields ++ rest) ≡ Ok (fields, rest)
unfolding fields_at
fields_again whole fields rest ranged written laid =
    let regrouped : fields_bytes fields ++ rest ≡ 1 ∷ kind_byte fields.kind ∷ (stamp_bytes fields.stamp ++ (layout_text fields.kind fields.layout ++ rest)) =
    ap (λ (t : List ℕ). 1 ∷ kind_byte fields.kind ∷ t) (append_assoc (stamp_bytes fields.stamp) (layout_text fields.kind fields.layout) rest) in
    let version = version_again whole (kind_byte fields.kind ∷ (stamp_bytes fields.stamp ++ (layout_text fields.kind fields.layout ++ rest))) in
    let kind = kind_again whole fields.kind (stamp_bytes fields.stamp ++ (layout_text fields.kind fields.layout ++ rest)) in
    let stamp = stamp_again whole fields.stamp (layout_text fields.kind fields.layout ++ rest) ranged written in
    let layout = layout_again fields.kind whole fields.layout rest laid in
    ap (fields_at whole) regrouped ∙ rw (version, kind, stamp, layout) refl

-- what is left after the fields is no longer than what they were read from
pub fields_shorter : (whole : ℕ) (bytes : List ℕ) (fields : Fields) (rest : List ℕ) → IsBytes bytes → fields_at whole bytes ≡ Ok (fields, rest) → length rest ≤ length bytes
fields_shorter whole bytes fields rest fits e =
    let t = fields_take whole bytes (fields, rest) fits e in
    omega (arith, ap (length {A = ℕ}) t.takes.parts, length-append (fields_bytes fields) rest)

-- ---- whole records

none_listed : IsTrue (is_cloud_list 0 0 0)
unfolding ones
none_listed = refl

-- these fields and as many hashes as are due are a record
pub fields_ruled : (kind : Kind) (stamp : Timestamp) (l : Layout) (hashes : Hashes) → IsStamp stamp → IsWritten stamp → IsLayout kind l → length hashes ≡ hash_count kind l.f l.k → All IsHash hashes
    → IsRecord (record_with (record { kind = kind; stamp = stamp; layout = l }) hashes)
fields_ruled Tomb stamp l hashes ranged written is count sized =
    subst (λ (x : Layout). IsRecord (record_with (record { kind = Tomb; stamp = stamp; layout = x }) hashes)) {x = no_layout} (sym is)
    (record { stamp = ranged; written = written; size = omega arith; faults = omega arith; parts = refl; clouds = none_listed; hashes = count; sizes = sized })
fields_ruled Whole stamp l hashes ranged written laid count sized =
    record { stamp = ranged; written = written; size = laid.size; faults = laid.faults; parts = laid.parts; clouds = laid.clouds; hashes = count; sizes = sized }
fields_ruled Coded stamp l hashes ranged written laid count sized =
    record { stamp = ranged; written = written; size = laid.size; faults = laid.faults; parts = laid.parts; clouds = laid.clouds; hashes = count; sizes = sized }

no_hashes : (hashes : Hashes) → length hashes ≡ 0 → concat hashes ≡ []
no_hashes hashes none = ap concat (nil_from_length hashes none)

-- the bytes of the fields and those of the hashes are the record's
value_text : (kind : Kind) (stamp : Timestamp) (l : Layout) (hashes : Hashes) → length hashes ≡ hash_count kind l.f l.k
    → layout_text kind l ++ concat hashes ≡ value_bytes kind (record_with (record { kind = kind; stamp = stamp; layout = l }) hashes)
value_text Tomb stamp l hashes count = no_hashes hashes count
value_text Whole stamp l hashes count = refl
value_text Coded stamp l hashes count = refl

record_text : (fields : Fields) (hashes : Hashes) → length hashes ≡ hashes_due fields → fields_bytes fields ++ concat hashes ≡ record_bytes (record_with fields hashes)
record_text fields hashes count =
    ap (λ (t : List ℕ). 1 ∷ kind_byte fields.kind ∷ t)
    (append_assoc (stamp_bytes fields.stamp) (layout_text fields.kind fields.layout) (concat hashes)
    ∙ ap (λ (t : List ℕ). stamp_bytes fields.stamp ++ t) (value_text fields.kind fields.stamp fields.layout hashes count))

-- the record at the front, and the bytes after it
unfoldable pub record_at : ℕ → List ℕ → Result (RecordValue × List ℕ) RecordFault
record_at whole bytes = fields_at whole bytes >>= λ fields. hashes_at (hashes_due fields.0) whole fields.1 >>= λ hashes. Ok (record_with fields.0 hashes.0, hashes.1)

one_cloud : (clouds : ℕ) → is_cloud_list 0 0 clouds ≡ true → clouds ≡ 0
one_cloud clouds e = let below = cloud_test 0 0 clouds e in omega arith

tombstone_only : (r : RecordValue) → r.kind ≡ Tomb → IsRecord r → tombstone r.stamp ≡ r
tombstone_only r is ruled =
    let size : r.size ≤ 0 = subst (λ (kk : Kind). r.size ≤ most_bytes kk) is ruled.size in
    let faulty : r.f ≤ 0 = subst (λ (kk : Kind). r.f ≤ most_faults kk) is ruled.faults in
    let parts : is_part_count Tomb r.k ≡ true = subst (λ (kk : Kind). is_part_count kk r.k ≡ true) is ruled.parts in
    let count : length r.hashes ≡ 0 = subst (λ (kk : Kind). length r.hashes ≡ hash_count kk r.f r.k) is ruled.hashes in
    let no_size : 0 ≡ r.size = omega arith in
    let no_fault : 0 ≡ r.f = omega arith in
    let no_part : 0 ≡ r.k = sym (eqb-true r.k 0 parts) in
    let listed : is_cloud_list 0 0 r.clouds ≡ true = subst (λ (k : ℕ). is_cloud_list 0 k r.clouds ≡ true) (sym no_part) (subst (λ (f : ℕ). is_cloud_list f r.k r.clouds ≡ true) (sym no_fault) ruled.clouds) in
    let no_cloud : 0 ≡ r.clouds = sym (one_cloud r.clouds listed) in
    let no_hash : [] ≡ r.hashes = sym (nil_from_length r.hashes count) in
    let no_kind : Tomb ≡ r.kind = sym is in
    let both : (Tomb, 0, 0, 0, 0, []) ≡ (r.kind, r.size, r.f, r.k, r.clouds, r.hashes) = cc in
    let made : Kind × ℕ × ℕ × ℕ × ℕ × Hashes → RecordValue = λ p. record { stamp = r.stamp; kind = p.0; size = p.1; f = p.2; k = p.3; clouds = p.4; hashes = p.5 } in
    ap made both

value_laid : (kind : Kind) (r : RecordValue) → r.kind ≡ kind → most_bytes kind ≡ MAX_VALUE → most_faults kind ≡ MAX_F → IsRecord r → IsValueLayout kind (record { size = r.size; f = r.f; k = r.k; clouds = r.clouds })
value_laid kind r is sizes faults ruled =
    let size : r.size ≤ MAX_VALUE = subst (λ (n : ℕ). r.size ≤ n) sizes (subst (λ (kk : Kind). r.size ≤ most_bytes kk) is ruled.size) in
    let faulty : r.f ≤ MAX_F = subst (λ (n : ℕ). r.f ≤ n) faults (subst (λ (kk : Kind). r.f ≤ most_faults kk) is ruled.faults) in
    let parts : is_part_count kind r.k ≡ true = subst (λ (kk : Kind). is_part_count kk r.k ≡ true) is ruled.parts in
    record { size = size; faults = faulty; parts = parts; few = few_parts kind r.k parts; clouds = ruled.clouds }

-- the fields of a record
abbrev fields_in : RecordValue → Fields
fields_in r = record { kind = r.kind; stamp = r.stamp; layout = record { size = r.size; f = r.f; k = r.k; clouds = r.clouds } }

no_layout-in : (r : RecordValue) → tombstone r.stamp ≡ r → (fields_in r).layout ≡ no_layout
no_layout-in r is = ap (λ (x : RecordValue). (fields_in x).layout) (sym is)

fields_laid : (kind : Kind) (r : RecordValue) → r.kind ≡ kind → IsRecord r → IsLayout kind (fields_in r).layout
fields_laid Tomb r is ruled = no_layout-in r (tombstone_only r is ruled)
fields_laid Whole r is ruled = value_laid Whole r is refl refl ruled
fields_laid Coded r is ruled = value_laid Coded r is refl refl ruled

-- a record's spelling is read again, whatever follows it
pub record_again : (whole : ℕ) (r : RecordValue) (rest : List ℕ) → IsRecord r → record_at whole (record_bytes r ++ rest) ≡ Ok (r, rest)
unfolding record_at
record_again whole r rest ruled =
    let fields = fields_in r in
    let text : record_bytes r ++ rest ≡ fields_bytes fields ++ (concat r.hashes ++ rest) =
    ap (λ (t : List ℕ). t ++ rest) (sym (record_text fields r.hashes ruled.hashes)) ∙ append_assoc (fields_bytes fields) (concat r.hashes) rest in
    let first = fields_again whole fields (concat r.hashes ++ rest) ruled.stamp ruled.written (fields_laid r.kind r refl ruled) in
    let others : hashes_at (hashes_due fields) whole (concat r.hashes ++ rest) ≡ Ok (r.hashes, rest) =
    subst (λ (n : ℕ). hashes_at n whole (concat r.hashes ++ rest) ≡ Ok (r.hashes, rest)) ruled.hashes (hashes_again r.hashes whole rest ruled.sizes) in
    ap (record_at whole) text ∙ rw (first, others) refl

-- all of the bytes spell the record that is read from them
pub record_of_takes : (bytes : List ℕ) (r : RecordValue) → IsBytes bytes → record_of bytes ≡ Ok r → IsRecord r × (bytes ≡ record_bytes r)
unfolding record_of ended_at
record_of_takes bytes r fits e =
    let whole = length bytes in
    let a = bind_ok (fields_at whole bytes) (λ fields. hashes_at (hashes_due fields.0) whole fields.1 >>= λ hashes. cond (eqb (length hashes.1) 0) (Ok (record_with fields.0 hashes.0)) (Err (faults.Extra (whole - length hashes.1)))) r e in
    let fields = a.0.0 in
    let b = bind_ok (hashes_at (hashes_due fields) whole a.0.1) (λ hashes. cond (eqb (length hashes.1) 0) (Ok (record_with fields hashes.0)) (Err (faults.Extra (whole - length hashes.1)))) r a.2 in
    let g = guard_true (eqb (length b.0.1) 0) (faults.Extra (whole - length b.0.1)) (record_with fields b.0.0) r b.2 in
    let t = fields_take whole bytes a.0 fits a.1 in
    let u = hashes_take (hashes_due fields) whole a.0.1 b.0 t.takes.rest_fits b.1 in
    let both = Takes-then bytes (fields_bytes fields) a.0.1 (concat b.0.0) b.0.1 t.takes u.0 in
    let nothing : b.0.1 ≡ [] = nil_from_length b.0.1 (eqb-true (length b.0.1) 0 g.0) in
    let text : fields_bytes fields ++ concat b.0.0 ≡ record_bytes (record_with fields b.0.0) = record_text fields b.0.0 u.1 in
    let all : bytes ≡ record_bytes (record_with fields b.0.0) =
    both.parts ∙ ap (λ (t : List ℕ). (fields_bytes fields ++ concat b.0.0) ++ t) nothing ∙ append-nil (fields_bytes fields ++ concat b.0.0) ∙ text in
    let ruled : IsRecord (record_with fields b.0.0) = fields_ruled fields.kind fields.stamp fields.layout b.0.0 t.ranged t.written t.laid u.1 u.2 in
    subst (λ (x : RecordValue). IsRecord x × (bytes ≡ record_bytes x)) g.1 (ruled, all)

pub record_of_again : (r : RecordValue) → IsRecord r → record_of (record_bytes r) ≡ Ok r
unfolding record_of ended_at
record_of_again r ruled =
    let whole = length (record_bytes r) in
    let fields = fields_in r in
    let text : record_bytes r ≡ fields_bytes fields ++ concat r.hashes = sym (record_text fields r.hashes ruled.hashes) in
    let first : fields_at whole (record_bytes r) ≡ Ok (fields, concat r.hashes) =
    ap (fields_at whole) text ∙ fields_again whole fields (concat r.hashes) ruled.stamp ruled.written (fields_laid r.kind r refl ruled) in
    let others : hashes_at (hashes_due fields) whole (concat r.hashes) ≡ Ok (r.hashes, []) =
    ap (hashes_at (hashes_due fields) whole) (sym (append-nil (concat r.hashes)))
    ∙ subst (λ (n : ℕ). hashes_at n whole (concat r.hashes ++ []) ≡ Ok (r.hashes, [])) ruled.hashes (hashes_again r.hashes whole [] ruled.sizes) in
    rw (first, others) refl

-- ---- spellings

single : (xs : Hashes) → length xs ≡ 1 → (x : List ℕ) × (xs ≡ x ∷ [])
single [] e = absurd (omega arith)
single (x ∷ []) e = (x, refl)
single (x ∷ y ∷ xs) e = absurd (omega arith)

kind_spells : (kind : Kind) (r : RecordValue) → r.kind ≡ kind → IsRecord r → SpellsKind kind (kind_byte kind ∷ (stamp_bytes r.stamp ++ value_bytes kind r)) r
kind_spells Tomb r is ruled = ap (λ (t : List ℕ). 0 ∷ t) (append-nil (stamp_bytes r.stamp))
kind_spells Whole r is ruled =
    let one = single r.hashes (subst (λ (kk : Kind). length r.hashes ≡ hash_count kk r.f r.k) is ruled.hashes) in
    let l = layout_bytes r.size r.f r.k r.clouds in
    let last : concat r.hashes ≡ one.0 = ap concat one.1 ∙ append-nil one.0 in
    (one.0, one.1, ap (λ (t : List ℕ). 1 ∷ (stamp_bytes r.stamp ++ (l ++ t))) last ∙ ap (λ (t : List ℕ). 1 ∷ t) (sym (append_assoc (stamp_bytes r.stamp) l one.0)))
kind_spells Coded r is ruled =
    let l = layout_bytes r.size r.f r.k r.clouds in
    ap (λ (t : List ℕ). 2 ∷ t) (sym (append_assoc (stamp_bytes r.stamp) l (concat r.hashes)))

-- the one spelling of a record spells it
pub record_spells : (r : RecordValue) → IsRecord r → SpellsRecord (record_bytes r) r
record_spells r ruled = (refl, ruled, kind_spells r.kind r refl ruled)

kind_spelled : (kind : Kind) (bytes : List ℕ) (r : RecordValue) → SpellsKind kind bytes r → bytes ≡ kind_byte kind ∷ (stamp_bytes r.stamp ++ value_bytes kind r)
kind_spelled Tomb bytes r s = s ∙ ap (λ (t : List ℕ). 0 ∷ t) (sym (append-nil (stamp_bytes r.stamp)))
kind_spelled Whole bytes r s =
    let l = layout_bytes r.size r.f r.k r.clouds in
    let last : concat r.hashes ≡ s.0 = ap concat s.1 ∙ append-nil s.0 in
    s.2 ∙ ap (λ (t : List ℕ). 1 ∷ t) (append_assoc (stamp_bytes r.stamp) l s.0) ∙ ap (λ (t : List ℕ). 1 ∷ (stamp_bytes r.stamp ++ (l ++ t))) (sym last)
kind_spelled Coded bytes r s =
    let l = layout_bytes r.size r.f r.k r.clouds in
    s ∙ ap (λ (t : List ℕ). 2 ∷ t) (append_assoc (stamp_bytes r.stamp) l (concat r.hashes))

-- what spells a record is its one spelling
pub record_spelled : (bytes : List ℕ) (r : RecordValue) → SpellsRecord bytes r → IsRecord r × (bytes ≡ record_bytes r)
record_spelled [] r s = absurd s
record_spelled (version ∷ bytes) r s =
    let rest = kind_spelled r.kind bytes r s.2 in
    (s.1, rw (s.0, rest) refl)

-- no record's spelling begins another's
pub record_prefix : (a b x y : List ℕ) (r s : RecordValue) → SpellsRecord a r → SpellsRecord b s → a ++ x ≡ b ++ y → (r ≡ s) × (a ≡ b)
record_prefix a b x y r s one other same =
    let p = record_spelled a r one in
    let q = record_spelled b s other in
    let joined : record_bytes r ++ x ≡ record_bytes s ++ y = ap (λ (t : List ℕ). t ++ x) (sym p.1) ∙ same ∙ ap (λ (t : List ℕ). t ++ y) q.1 in
    let read : Ok (r, x) ≡ record_at 0 (record_bytes s ++ y) = sym (record_again 0 r x p.0) ∙ ap (record_at 0) joined in
    let pair = ok_is (r, x) (s, y) (read ∙ record_again 0 s y q.0) in
    let equal : r ≡ s = ap (λ (z : RecordValue × List ℕ). z.0) pair in
    (equal, p.1 ∙ ap record_bytes equal ∙ sym q.1)

-- what a reader gave is spelled so
pub decoded_spells : (bytes : List ℕ) (result : Result RecordValue RecordFault) → IsBytes bytes → Gives (λ r. r) result (record_of bytes) → IfOk result (λ r. SpellsRecord bytes r)
decoded_spells bytes (Ok r) fits given =
    let t = record_of_takes bytes r fits given in
    rw t.1 (record_spells r t.0)
decoded_spells bytes (Err e) fits given = tt

-- what is spelled is what reading gives
pub spelled_decodes : (bytes : List ℕ) (r : RecordValue) → SpellsRecord bytes r → record_of bytes ≡ Ok r
spelled_decodes bytes r spelled =
    let t = record_spelled bytes r spelled in
    ap record_of t.1 ∙ record_of_again r t.0

-- ---- faults

-- an answer that is the fault that is due
pub fails_so : {Y : Type 0} (fault : RecordFault) (due : Result Y RecordFault) → due ≡ Err fault → Gives {X = Y} (λ y. y) (Err fault) due
fails_so (faults.Short size) due is = is
fails_so (faults.BadVersion byte) due is = is
fails_so (faults.BadKind byte) due is = is
fails_so (faults.BadShape place) due is = is
fails_so (faults.Extra place) due is = is
fails_so faults.NoMemory due is = tt

short_hashes : (count whole : ℕ) (bytes : List ℕ) → length bytes < HASH_SIZE * count → hashes_at count whole bytes ≡ Err (faults.Short whole)
unfolding hashes_at hash_at
short_hashes zero whole bytes short = absurd (omega arith)
short_hashes (suc count) whole bytes short =
    elim (cases_lt (length bytes) HASH_SIZE) [
      | inl none ↦ let test : ltb (length bytes) HASH_SIZE ≡ true = lt-ltb (length bytes) HASH_SIZE none in rw test refl
      | inr one ↦
          let test : ltb (length bytes) HASH_SIZE ≡ false = le-ltb (length bytes) HASH_SIZE one in
          let rest = short_hashes count whole (drop HASH_SIZE bytes) (omega (arith, length-drop HASH_SIZE bytes)) in
          rw (test, rest) refl
    ]

more_hashes : (count whole : ℕ) (bytes : List ℕ) → HASH_SIZE * count ≤ length bytes → (hashes : Hashes) × (rest : List ℕ) × (hashes_at count whole bytes ≡ Ok (hashes, rest)) × (length rest + HASH_SIZE * count ≡ length bytes)
unfolding hashes_at hash_at
more_hashes zero whole bytes enough = ([], bytes, refl, omega arith)
more_hashes (suc count) whole bytes enough =
    let test : ltb (length bytes) HASH_SIZE ≡ false = le-ltb (length bytes) HASH_SIZE (omega arith) in
    let later = more_hashes count whole (drop HASH_SIZE bytes) (omega (arith, length-drop HASH_SIZE bytes)) in
    (take HASH_SIZE bytes ∷ later.0, later.1, rw (test, later.2) refl, omega (arith, later.3, length-drop HASH_SIZE bytes))

-- the rest ends before the last hash is whole
pub ended-short : (fields : Fields) (whole : ℕ) (rest : List ℕ) → length rest < HASH_SIZE * hashes_due fields → ended_at fields whole rest ≡ Err (faults.Short whole)
unfolding ended_at
ended-short fields whole rest short = rw (short_hashes (hashes_due fields) whole rest short) refl

-- bytes stand after the last hash
pub ended-extra : (fields : Fields) (whole : ℕ) (rest : List ℕ) → HASH_SIZE * hashes_due fields < length rest → ended_at fields whole rest ≡ Err (faults.Extra (whole - (length rest - HASH_SIZE * hashes_due fields)))
unfolding ended_at
ended-extra fields whole rest over =
    let read = more_hashes (hashes_due fields) whole rest (omega arith) in
    let left : length read.1 ≡ length rest - HASH_SIZE * hashes_due fields = omega (arith, read.3) in
    let more : eqb (length read.1) 0 ≡ false = ne_eqb (length read.1) 0 (λ none. absurd (omega (arith, read.3))) in
    rw (read.2, more) (ap (λ (n : ℕ). Err (faults.Extra (whole - n))) left)

-- the rest is the hashes
pub ended-whole : (fields : Fields) (whole : ℕ) (hashes : Hashes) (rest : List ℕ) → length hashes ≡ hashes_due fields → All IsHash hashes → concat hashes ≡ rest → ended_at fields whole rest ≡ Ok (record_with fields hashes)
unfolding ended_at
ended-whole fields whole hashes rest count sized is =
    let read : hashes_at (hashes_due fields) whole rest ≡ Ok (hashes, []) =
    ap (hashes_at (hashes_due fields) whole) (sym is ∙ sym (append-nil (concat hashes)))
    ∙ subst (λ (n : ℕ). hashes_at n whole (concat hashes ++ []) ≡ Ok (hashes, [])) count (hashes_again hashes whole [] sized) in
    rw read refl

-- where the rest is as long as the hashes, nothing is at fault
pub ended-fits : (fields : Fields) (whole : ℕ) (rest : List ℕ) → length rest ≡ HASH_SIZE * hashes_due fields → (r : RecordValue) × (ended_at fields whole rest ≡ Ok r)
unfolding ended_at
ended-fits fields whole rest size =
    let read = more_hashes (hashes_due fields) whole rest (omega arith) in
    let none : eqb (length read.1) 0 ≡ true = eq-eqb (length read.1) 0 (omega (arith, read.3)) in
    (record_with fields read.0, rw (read.2, none) refl)
