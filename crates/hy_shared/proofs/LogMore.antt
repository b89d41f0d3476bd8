-- What a log tells with one more point, and what points of other operations leave as it was.
use Rattle.std.proofs.Common.{◌≡◌, ◌≢◌, ℕ, zero, suc, ◌+◌, ◌<◌, ◌≤◌, Bool, true, false, cond, eqb, List, [], ◌∷◌, ◌++◌, length, map, Option, Some, None, is_some, refl, sym, ap, ◌∙◌, subst, inl, inr, arith, eqb-true, ne_eqb, eq-eqb, append_assoc}
use Rattle.std.specs.Option.{option_or}
use Rattle.std.specs.List.{AllByRecursion}
use Rattle.std.proofs.lemmas.List.{map-append}
use Rattle.hy_points.specs.declared.point.Point.{Point}
use Rattle.hy_points.specs.Lookups.{first_from, last_from, beginning_at, asking_at, setting_at, trying_at, ending_at, beginning, asking, last_asking, setting, trying, ending}
use Rattle.hy_points.specs.Atomic.{Continues, Fits, IsAtomicLog}
use Rattle.hy_shared.specs.declared.layout.Layout.{Layout}
use Rattle.hy_shared.specs.declared.event.Event.{Event}
use Rattle.hy_shared.specs.declared.event.Event.TheVariants.{Begin, Ask, Set, End}
use Rattle.hy_shared.specs.Layout.{client_of}
use Rattle.hy_shared.specs.Events.{point_of, points_of, row_in}
use Rattle.hy_shared.specs.Rule.{IsOther}

-- ---- look-ups in general

module _ {A : Type 0} (pick : ℕ → Point → Option A) where
  -- the point tells nothing, wherever it stands
  abbrev pub IsSilent : Point → Type 0
  IsSilent p = (n : ℕ) → pick n p ≡ None

  pub first-silent : (ps : List Point) (place : ℕ) → AllByRecursion IsSilent ps → first_from pick place ps ≡ None
  first-silent [] place silent = refl
  first-silent (p ∷ ps) place silent = ap (λ o. option_or o (first_from pick (place + 1) ps)) (silent.0 place) ∙ first-silent ps (place + 1) silent.1

  pub last-silent : (ps : List Point) (place : ℕ) → AllByRecursion IsSilent ps → last_from pick place ps ≡ None
  last-silent [] place silent = refl
  last-silent (p ∷ ps) place silent = ap (λ o. option_or o (pick place p)) (last-silent ps (place + 1) silent.1) ∙ silent.0 place

  pub first-stays : (ps qs : List Point) (place : ℕ) → AllByRecursion IsSilent qs → first_from pick place (ps ++ qs) ≡ first_from pick place ps
  first-stays [] qs place silent = first-silent qs place silent
  first-stays (p ∷ ps) qs place silent = ap (option_or (pick place p)) (first-stays ps qs (place + 1) silent)

  pub last-stays : (ps qs : List Point) (place : ℕ) → AllByRecursion IsSilent qs → last_from pick place (ps ++ qs) ≡ last_from pick place ps
  last-stays [] qs place silent = last-silent qs place silent
  last-stays (p ∷ ps) qs place silent = ap (λ o. option_or o (pick place p)) (last-stays ps qs (place + 1) silent)

  pub first-more : (place : ℕ) (ps : List Point) (q : Point) → first_from pick place (ps ++ q ∷ []) ≡ option_or (first_from pick place ps) (pick (place + length ps) q)
  first-more place [] q = or-none (pick place q) ∙ ap (λ n. pick n q) (let e : place ≡ place + 0 = omega arith in e)
    where
      or-none : (o : Option A) → option_or o None ≡ o
      or-none None = refl
      or-none (Some x) = refl
  first-more place (p ∷ ps) q =
      by_first (pick place p) (first-more (place + 1) ps q ∙ ap (λ k. option_or (first_from pick (place + 1) ps) (pick k q)) (let n : place + 1 + length ps ≡ place + suc (length ps) = omega arith in n))
    where
      by_first : (o : Option A) → first_from pick (place + 1) (ps ++ q ∷ []) ≡ option_or (first_from pick (place + 1) ps) (pick (place + suc (length ps)) q)
          → option_or o (first_from pick (place + 1) (ps ++ q ∷ [])) ≡ option_or (option_or o (first_from pick (place + 1) ps)) (pick (place + suc (length ps)) q)
      by_first None rest = rest
      by_first (Some x) rest = refl

  pub last-more : (place : ℕ) (ps : List Point) (q : Point) → last_from pick place (ps ++ q ∷ []) ≡ option_or (pick (place + length ps) q) (last_from pick place ps)
  last-more place [] q = sym (or-none (pick place q)) ∙ ap (λ n. option_or (pick n q) None) (let e : place ≡ place + 0 = omega arith in e)
    where
      or-none : (o : Option A) → option_or o None ≡ o
      or-none None = refl
      or-none (Some x) = refl
  last-more place (p ∷ ps) q =
      ap (λ o. option_or o (pick place p)) (last-more (place + 1) ps q ∙ ap (λ k. option_or (pick k q) (last_from pick (place + 1) ps)) (let n : place + 1 + length ps ≡ place + suc (length ps) = omega arith in n))
      ∙ or-or (pick (place + suc (length ps)) q) (last_from pick (place + 1) ps) (pick place p)
    where
      or-or : (a b c : Option A) → option_or (option_or a b) c ≡ option_or a (option_or b c)
      or-or None b c = refl
      or-or (Some x) b c = refl

-- ---- the points of other operations

module _ (op : ℕ) where
  abbrev pub IsOfOther : Event → Type 0
  IsOfOther e = eqb (row_in e) op ≡ false

  pub begins-not : (e : Event) → IsOfOther e → IsSilent (beginning_at op) (point_of e)
  begins-not (Begin row c key act) not n = rw not refl
  begins-not (Ask row found) not n = refl
  begins-not (Set row key stamp applied words) not n = refl
  begins-not (End row stamp) not n = refl

  pub asks-not : (e : Event) → IsOfOther e → IsSilent (asking_at op) (point_of e)
  asks-not (Begin row c key act) not n = refl
  asks-not (Ask row found) not n = rw not refl
  asks-not (Set row key stamp applied words) not n = refl
  asks-not (End row stamp) not n = refl

  pub sets-not : (e : Event) → IsOfOther e → IsSilent (setting_at op) (point_of e)
  sets-not (Begin row c key act) not n = refl
  sets-not (Ask row found) not n = refl
  sets-not (Set row key stamp applied words) not n = rw not refl
  sets-not (End row stamp) not n = refl

  pub ends-not : (e : Event) → IsOfOther e → IsSilent (ending_at op) (point_of e)
  ends-not (Begin row c key act) not n = refl
  ends-not (Ask row found) not n = refl
  ends-not (Set row key stamp applied words) not n = refl
  ends-not (End row stamp) not n = rw not refl

-- ---- the points of another client

module _ (z : Layout) (client op : ℕ) (own : client_of z op ≡ client) where
  pub other-row : (e : Event) → IsOther z client e → IsOfOther op e
  other-row e not = ne_eqb (row_in e) op (λ same. not (ap (client_of z) same ∙ own))

  silent : {A : Type 0} (pick : ℕ → Point → Option A) → ((e : Event) → IsOfOther op e → IsSilent pick (point_of e)) → (es : List Event) → AllByRecursion (IsOther z client) es → AllByRecursion (IsSilent pick) (points_of es)
  silent pick f [] others = tt
  silent pick f (e ∷ es) others = (f e (other-row e others.0), silent pick f es others.1)

  -- the look-ups of the client's operations stay where others' events come behind
  pub beginning-stays : (log rest : List Event) → AllByRecursion (IsOther z client) rest → beginning (points_of (log ++ rest)) op ≡ beginning (points_of log) op
  unfolding beginning
  beginning-stays log rest others = ap (first_from (beginning_at op) 0) (map-append point_of log rest) ∙ first-stays (beginning_at op) (points_of log) (points_of rest) 0 (silent (beginning_at op) (begins-not op) rest others)

  pub asking-stays : (log rest : List Event) → AllByRecursion (IsOther z client) rest → asking (points_of (log ++ rest)) op ≡ asking (points_of log) op
  unfolding asking
  asking-stays log rest others = ap (first_from (asking_at op) 0) (map-append point_of log rest) ∙ first-stays (asking_at op) (points_of log) (points_of rest) 0 (silent (asking_at op) (asks-not op) rest others)

  pub last-asking-stays : (log rest : List Event) → AllByRecursion (IsOther z client) rest → last_asking (points_of (log ++ rest)) op ≡ last_asking (points_of log) op
  unfolding last_asking
  last-asking-stays log rest others = ap (last_from (asking_at op) 0) (map-append point_of log rest) ∙ last-stays (asking_at op) (points_of log) (points_of rest) 0 (silent (asking_at op) (asks-not op) rest others)

  pub setting-stays : (log rest : List Event) → AllByRecursion (IsOther z client) rest → setting (points_of (log ++ rest)) op ≡ setting (points_of log) op
  unfolding setting
  setting-stays log rest others = ap (first_from (setting_at op) 0) (map-append point_of log rest) ∙ first-stays (setting_at op) (points_of log) (points_of rest) 0 (silent (setting_at op) (sets-not op) rest others)

  pub ending-stays : (log rest : List Event) → AllByRecursion (IsOther z client) rest → ending (points_of (log ++ rest)) op ≡ ending (points_of log) op
  unfolding ending
  ending-stays log rest others = ap (first_from (ending_at op) 0) (map-append point_of log rest) ∙ first-stays (ending_at op) (points_of log) (points_of rest) 0 (silent (ending_at op) (ends-not op) rest others)

-- ---- one more point

pub points-more : (log : List Event) (e : Event) → points_of (log ++ e ∷ []) ≡ points_of log ++ point_of e ∷ []
points-more log e = map-append point_of log (e ∷ [])

pub beginning-more : (log : List Event) (e : Event) (op : ℕ) → beginning (points_of (log ++ e ∷ [])) op ≡ option_or (beginning (points_of log) op) (beginning_at op (length (points_of log)) (point_of e))
unfolding beginning
beginning-more log e op = ap (first_from (beginning_at op) 0) (points-more log e) ∙ first-more (beginning_at op) 0 (points_of log) (point_of e) ∙ ap (λ n. option_or (first_from (beginning_at op) 0 (points_of log)) (beginning_at op n (point_of e))) (let n : 0 + length (points_of log) ≡ length (points_of log) = omega arith in n)

pub asking-more : (log : List Event) (e : Event) (op : ℕ) → asking (points_of (log ++ e ∷ [])) op ≡ option_or (asking (points_of log) op) (asking_at op (length (points_of log)) (point_of e))
unfolding asking
asking-more log e op = ap (first_from (asking_at op) 0) (points-more log e) ∙ first-more (asking_at op) 0 (points_of log) (point_of e) ∙ ap (λ n. option_or (first_from (asking_at op) 0 (points_of log)) (asking_at op n (point_of e))) (let n : 0 + length (points_of log) ≡ length (points_of log) = omega arith in n)

pub last-asking-more : (log : List Event) (e : Event) (op : ℕ) → last_asking (points_of (log ++ e ∷ [])) op ≡ option_or (asking_at op (length (points_of log)) (point_of e)) (last_asking (points_of log) op)
unfolding last_asking
last-asking-more log e op = ap (last_from (asking_at op) 0) (points-more log e) ∙ last-more (asking_at op) 0 (points_of log) (point_of e) ∙ ap (λ n. option_or (asking_at op n (point_of e)) (last_from (asking_at op) 0 (points_of log))) (let n : 0 + length (points_of log) ≡ length (points_of log) = omega arith in n)

pub setting-more : (log : List Event) (e : Event) (op : ℕ) → setting (points_of (log ++ e ∷ [])) op ≡ option_or (setting (points_of log) op) (setting_at op (length (points_of log)) (point_of e))
unfolding setting
setting-more log e op = ap (first_from (setting_at op) 0) (points-more log e) ∙ first-more (setting_at op) 0 (points_of log) (point_of e) ∙ ap (λ n. option_or (first_from (setting_at op) 0 (points_of log)) (setting_at op n (point_of e))) (let n : 0 + length (points_of log) ≡ length (points_of log) = omega arith in n)

pub ending-more : (log : List Event) (e : Event) (op : ℕ) → ending (points_of (log ++ e ∷ [])) op ≡ option_or (ending (points_of log) op) (ending_at op (length (points_of log)) (point_of e))
unfolding ending
ending-more log e op = ap (first_from (ending_at op) 0) (points-more log e) ∙ first-more (ending_at op) 0 (points_of log) (point_of e) ∙ ap (λ n. option_or (first_from (ending_at op) 0 (points_of log)) (ending_at op n (point_of e))) (let n : 0 + length (points_of log) ≡ length (points_of log) = omega arith in n)

-- ---- atomic logs

continues-more : (F : List Point → Point → Type 0) (before log : List Point) (p : Point) → Continues F before log → F (before ++ log) p → Continues F before (log ++ p ∷ [])
continues-more F before [] p fits here = (subst (λ b. F b p) (let e = Rattle.std.proofs.Common.append-nil before in e) here, tt)
continues-more F before (q ∷ log) p fits here = (fits.0, continues-more F (before ++ q ∷ []) log p fits.1 (subst (λ b. F b p) (sym (append_assoc before (q ∷ []) log)) here))

pub atomic-more : (log : List Event) (e : Event) → IsAtomicLog (points_of log) → Fits (points_of log) (point_of e) → IsAtomicLog (points_of (log ++ e ∷ []))
unfolding IsAtomicLog
atomic-more log e atomic fits = subst (Continues Fits []) (sym (points-more log e)) (continues-more Fits [] (points_of log) (point_of e) atomic fits)

continues-front : (F : List Point → Point → Type 0) (before log rest : List Point) → Continues F before (log ++ rest) → Continues F before log
continues-front F before [] rest fits = tt
continues-front F before (q ∷ log) rest fits = (fits.0, continues-front F (before ++ q ∷ []) log rest fits.1)

pub atomic-front : (log rest : List Event) → IsAtomicLog (points_of (log ++ rest)) → IsAtomicLog (points_of log)
unfolding IsAtomicLog
atomic-front log rest atomic = continues-front Fits [] (points_of log) (points_of rest) (subst (Continues Fits []) (map-append point_of log rest) atomic)

-- ---- no event is a try

never-tried : (op place : ℕ) (log : List Event) → first_from (trying_at op) place (points_of log) ≡ None
never-tried op place [] = refl
never-tried op place (Begin row client key act ∷ log) = never-tried op (place + 1) log
never-tried op place (Ask row found ∷ log) = never-tried op (place + 1) log
never-tried op place (Set row key stamp applied words ∷ log) = never-tried op (place + 1) log
never-tried op place (End row stamp ∷ log) = never-tried op (place + 1) log

pub none-tried : (log : List Event) (op : ℕ) → trying (points_of log) op ≡ None
unfolding trying
none-tried log op = never-tried op 0 log
