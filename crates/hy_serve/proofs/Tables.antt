-- Lemmas on tables by number.
use Rattle.std.proofs.Common.{◌≡◌, ◌==◌, ℕ, Bool, Some, subst, cond}
use Rattle.std.specs.Ordering.{nat_cmp}
use Rattle.std.specs.Cmp.{unsigned_tied}
use Rattle.std.specs.BTreeMap as tree
use Rattle.std.specs.BTreeMap.{BTreeMap}

-- what a table has at each key, when it has this at one
pub put-at : {V : Type 0} (old new : BTreeMap ℕ V) (key : ℕ) (value : V) → tree.UpdatesBy nat_cmp (nat_cmp key) old new (Some value)
    → (k : ℕ) → tree.get nat_cmp new k ≡ cond (key == k) (Some value) (tree.get nat_cmp old k)
put-at old new key value updates k =
    subst (λ (b : Bool). tree.get nat_cmp new k ≡ cond b (Some value) (tree.get nat_cmp old k)) (unsigned_tied key k) (updates.0 k)
