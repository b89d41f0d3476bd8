-- The timestamp of a key's record, with one more point of the log.
use Rattle.std.proofs.Common.{◌≡◌, ℕ, ◌+◌, true, cond, List, [], ◌∷◌, ◌++◌, length, Some, None, refl, sym, ap, ◌∙◌, subst, arith, length-append}
use Rattle.std.proofs.lemmas.List.{take_at, take_all}
use Rattle.hy_record.specs.Stamp.{Timestamp, stamp_lt}
use Rattle.hy_points.specs.declared.point.Point.{Point}
use Rattle.hy_points.specs.declared.point.Point.TheVariants.{Set}
use Rattle.hy_points.specs.Lookups.{is_of_key}
use Rattle.hy_points.specs.Atomic.{IsAtomicLog, applied_stamp, logged_stamp}
use Rattle.hy_points.proofs.Heights.{height, height-raised, stays-at}
use Rattle.hy_points.proofs.Courses.{logged-height}
use Rattle.hy_shared.proofs.Lists.{at-length}

module _ (ps : List Point) (q : Point) (atomic : IsAtomicLog (ps ++ q ∷ [])) (key : List ℕ) where
  abbrev whole : List Point
  whole = ps ++ q ∷ []

  before : logged_stamp ps key ≡ height (applied_stamp whole key) whole (length ps)
  before = ap (λ l. logged_stamp l key) (sym (take_at ps (q ∷ []) (length ps) refl)) ∙ logged-height whole atomic (length ps) key

  after : logged_stamp whole key ≡ height (applied_stamp whole key) whole (length ps + 1)
  after = ap (λ l. logged_stamp l key) (sym (take_all (length ps + 1) whole (omega (arith, length-append ps (q ∷ []))))) ∙ logged-height whole atomic (length ps + 1) key

  -- a point that is no applied writing of the key
  pub stamp-stays : applied_stamp whole key q ≡ None → logged_stamp whole key ≡ logged_stamp ps key
  stamp-stays none = after ∙ stays-at (applied_stamp whole key) whole (length ps) q (at-length ps q []) none ∙ sym before

  -- an applied writing of the key above its record
  pub stamp-raised : (op : ℕ) (stamp : Timestamp) → q ≡ Set op stamp true → is_of_key whole key op ≡ true → stamp_lt (logged_stamp ps key) stamp ≡ true → logged_stamp whole key ≡ stamp
  stamp-raised op stamp is of above =
      after ∙ height-raised (applied_stamp whole key) whole (length ps) stamp (record { point = q; there = at-length ps q []; picks = ap (applied_stamp whole key) is ∙ ap (λ b. cond b (Some stamp) None) of }) (subst (λ s. stamp_lt s stamp ≡ true) before above)
