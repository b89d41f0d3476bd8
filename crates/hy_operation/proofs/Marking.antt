-- Marks on clouds, as the list of them.
use Rattle.std.proofs.Common.{◌≡◌, ℕ, zero, suc, false, refl}
use Rattle.std.specs.Prelude.{replicate, slice_get, unwrap_or}

pub unmarked : (cloud n : ℕ) → unwrap_or (slice_get (replicate n false) cloud) false ≡ false
unmarked cloud zero = refl
unmarked zero (suc n) = refl
unmarked (suc cloud) (suc n) = unmarked cloud n
