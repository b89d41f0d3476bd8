-- What the first and the last point of a kind tell, with one point more.
use Rattle.std.proofs.Common.{◌≡◌, ℕ, ◌+◌, List, [], ◌∷◌, ◌++◌, length, take, get_or, ◌<◌, Bool, Option, Some, None, refl, sym, ap, ◌∙◌, arith}
use Rattle.std.specs.Option.{option_or}
use Rattle.hy_record.specs.Stamp.{Timestamp}
use Rattle.hy_points.specs.declared.point.ActKind.{ActKind}
use Rattle.hy_points.specs.declared.point.Point.{Point}
use Rattle.hy_points.specs.declared.point.Point.TheVariants.{Begin, Ask, Set, Try, End}
use Rattle.std.proofs.lemmas.List.{take_more, length-take-le}
use Rattle.hy_points.specs.Lookups.{first_from, last_from, asking_at, setting_at, trying_at, ending_at}
use Rattle.hy_points.specs.Index.{AreFirsts, under, key_at}

pub or-none : {A : Type 0} (a : Option A) → option_or a None ≡ a
or-none None = refl
or-none (Some x) = refl

or-assoc : {A : Type 0} (a b c : Option A) → option_or a (option_or b c) ≡ option_or (option_or a b) c
or-assoc None b c = refl
or-assoc (Some x) b c = refl

module _ {A : Type 0} (pick : ℕ → Point → Option A) where
  pub first-more : (place : ℕ) (log : List Point) (point : Point) → first_from pick place (log ++ point ∷ []) ≡ option_or (first_from pick place log) (pick (place + length log) point)
  first-more place [] point = or-none (pick place point) ∙ ap (λ n. pick n point) (let e : place ≡ place + 0 = omega arith in e)
  first-more place (first ∷ log) point =
      ap (option_or (pick place first)) (first-more (place + 1) log point)
      ∙ or-assoc (pick place first) (first_from pick (place + 1) log) (pick (place + 1 + length log) point)
      ∙ ap (λ n. option_or (option_or (pick place first) (first_from pick (place + 1) log)) (pick n point)) (let e : place + 1 + length log ≡ place + length (first ∷ log) = omega arith in e)

  pub last-more : (place : ℕ) (log : List Point) (point : Point) → last_from pick place (log ++ point ∷ []) ≡ option_or (pick (place + length log) point) (last_from pick place log)
  last-more place [] point = sym (or-none (pick place point)) ∙ ap (λ n. option_or (pick n point) None) (let e : place ≡ place + 0 = omega arith in e)
  last-more place (first ∷ log) point =
      ap (λ a. option_or a (pick place first)) (last-more (place + 1) log point)
      ∙ sym (or-assoc (pick (place + 1 + length log) point) (last_from pick (place + 1) log) (pick place first))
      ∙ ap (λ n. option_or (pick n point) (option_or (last_from pick (place + 1) log) (pick place first))) (let e : place + 1 + length log ≡ place + length (first ∷ log) = omega arith in e)

-- what stands under each operation, with one point more
pub firsts-more : {A : Type 0} (pick : ℕ → ℕ → Point → Option A) (points : List Point) (place : ℕ) (point : Point) (old new : List (ℕ × A))
    → place < length points → point ≡ get_or points place point → AreFirsts pick (take place points) old
    → ((op : ℕ) → under new op ≡ option_or (under old op) (pick op place point)) → AreFirsts pick (take (place + 1) points) new
firsts-more pick points place point old new within is before update = λ op.
    let e : take (place + 1) points ≡ take place points ++ point ∷ [] = take_more points place point within ∙ ap (λ p. take place points ++ p ∷ []) (sym is) in
    let n : length (take place points) ≡ place = length-take-le place points (omega (arith, within)) in
    update op
    ∙ ap (λ first. option_or first (pick op place point)) (before op)
    ∙ ap (λ n. option_or (first_from (pick op) 0 (take place points)) (pick op n point)) (let m : place ≡ 0 + length (take place points) = omega (arith, n) in m)
    ∙ sym (first-more (pick op) 0 (take place points) point)
    ∙ ap (first_from (pick op) 0) (sym e)

-- a point that tells nothing
pub firsts-same : {A : Type 0} (pick : ℕ → ℕ → Point → Option A) (points : List Point) (place : ℕ) (point : Point) (entries : List (ℕ × A))
    → place < length points → point ≡ get_or points place point → AreFirsts pick (take place points) entries
    → ((op : ℕ) → pick op place point ≡ None) → AreFirsts pick (take (place + 1) points) entries
firsts-same pick points place point entries within is before none =
    firsts-more pick points place point entries entries within is before (λ op. sym (ap (option_or (under entries op)) (none op) ∙ or-none (under entries op)))

-- points of other kinds tell nothing
pub key-none : (point : Point) → ((o client : ℕ) (key : List ℕ) (act : ActKind) → point ≡ Begin o client key act → ⊥) → (op place : ℕ) → key_at op place point ≡ None
key-none (Begin o client key act) other op place = absurd (other o client key act refl)
key-none (Ask o found) other op place = refl
key-none (Set o stamp applied) other op place = refl
key-none (Try o stamp found) other op place = refl
key-none (End o) other op place = refl

pub asking-none : (point : Point) → ((o : ℕ) (found : Timestamp) → point ≡ Ask o found → ⊥) → (op place : ℕ) → asking_at op place point ≡ None
asking-none (Begin o client key act) other op place = refl
asking-none (Ask o found) other op place = absurd (other o found refl)
asking-none (Set o stamp applied) other op place = refl
asking-none (Try o stamp found) other op place = refl
asking-none (End o) other op place = refl

pub setting-none : (point : Point) → ((o : ℕ) (stamp : Timestamp) (applied : Bool) → point ≡ Set o stamp applied → ⊥) → (op place : ℕ) → setting_at op place point ≡ None
setting-none (Begin o client key act) other op place = refl
setting-none (Ask o found) other op place = refl
setting-none (Set o stamp applied) other op place = absurd (other o stamp applied refl)
setting-none (Try o stamp found) other op place = refl
setting-none (End o) other op place = refl

pub trying-none : (point : Point) → ((o : ℕ) (stamp found : Timestamp) → point ≡ Try o stamp found → ⊥) → (op place : ℕ) → trying_at op place point ≡ None
trying-none (Begin o client key act) other op place = refl
trying-none (Ask o found) other op place = refl
trying-none (Set o stamp applied) other op place = refl
trying-none (Try o stamp found) other op place = absurd (other o stamp found refl)
trying-none (End o) other op place = refl

pub ending-none : (point : Point) → ((o : ℕ) → point ≡ End o → ⊥) → (op place : ℕ) → ending_at op place point ≡ None
ending-none (Begin o client key act) other op place = refl
ending-none (Ask o found) other op place = refl
ending-none (Set o stamp applied) other op place = refl
ending-none (Try o stamp found) other op place = refl
ending-none (End o) other op place = absurd (other o refl)
