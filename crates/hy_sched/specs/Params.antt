-- The parameters of a store, as a schedule tells them.
use Rattle.std.specs.Prelude.{ℕ, ◌==◌, ◌^◌, ◌<◌, Bool}
use Rattle.std.specs.Int.{bit_at}
use Rattle.hy_base.specs.Shape.{IsShape, cloud_count}
use Rattle.hy_sched.specs.declared.params.Params.{Params}

-- the cloud is Byzantine
abbrev pub is_liar : Params → ℕ → Bool
is_liar params cloud = bit_at params.liars cloud == 1

-- a store can have this shape, and each of its Byzantine clouds is a cloud of it
pub record IsParams (params : Params) : Type 0 where
  pub shape : IsShape params.f params.k
  pub liars : params.liars < 2 ^ cloud_count params.f params.k
