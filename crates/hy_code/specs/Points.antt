-- Picks as points that polynomials go through.
use Rattle.std.specs.Prelude.{◌≡◌, ◌==◌, ◌<◌, ℕ, List, [], ◌∷◌, map, slice_index}
use Rattle.hy_gf.specs.Gf.{gf}
use Rattle.hy_code.specs.Fragments.{clouds}
use Rattle.hy_code.specs.Polynomial.{AreDifferent}
use Rattle.hy_code.specs.Weights.{scale}
use Rattle.hy_code.specs.declared.pick.Pick.{Pick}

-- the clouds and the bytes of picks are bytes
abbrev pub AreInRange : List Pick → Type 0
AreInRange [] = Unit {0}
AreInRange (pick ∷ picks) = (pick.cloud < 256) × ((place : ℕ) → slice_index pick.bytes place < 256) × AreInRange picks

-- picks of different clouds, with the part of each weight that the clouds decide
pub record ArePoints (picks : List Pick) (scales : List ℕ) : Type 0 where
  pub in_range : AreInRange picks
  pub different : AreDifferent (clouds picks)
  pub scales_are : scales ≡ map (scale gf ◌==◌ (clouds picks)) (clouds picks)
