-- What an operation did: it wrote, or it read what it tells; a swap wrote where it found what it expects when it tried.
use Rattle.std.proofs.Common.{◌≡◌, ℕ, Bool, true, false, List, Some, None, refl, ap}
use Rattle.std.specs.Prelude.{◌⊎◌, ◌&&◌}
use Rattle.hy_record.specs.Stamp.{Timestamp, stamp_eq}
use Rattle.hy_record.proofs.Order.{stamp_eq-true}
use Rattle.hy_points.specs.declared.point.ActKind.{ActKind}
use Rattle.hy_points.specs.declared.point.ActKind.TheVariants.{Put, Get, Delete, Swap}
use Rattle.hy_points.specs.declared.point.Point.{Point}
use Rattle.hy_points.specs.declared.telling.Asking.{Asking}
use Rattle.hy_points.specs.declared.telling.Setting.{Setting}
use Rattle.hy_points.specs.declared.telling.Trying.{Trying}
use Rattle.hy_points.specs.Lookups.{asking, setting, trying}
use Rattle.hy_points.specs.Atomic.{expects, writes}

pub both-of : (x y : Bool) → (x && y) ≡ true → (x ≡ true) × (y ≡ true)
both-of true y e = (refl, e)
both-of false y e = cc

-- swaps that are one expect one timestamp
pub swap-same : {a b : Timestamp} → Swap a ≡ Swap b → a ≡ b
swap-same e = cc

pub expecting : (act : ActKind) (found : Timestamp) → expects act found ≡ true → act ≡ Swap found
expecting Put found is = cc
expecting Get found is = cc
expecting Delete found is = cc
expecting (Swap expected) found is = ap Swap (stamp_eq-true expected found is)

-- a swap that found what it expected when it tried: it wrote
pub record IsSwapped (log : List Point) (op : ℕ) (act : ActKind) (set : Setting) : Type 0 where
  pub tried : Trying
  pub kind : act ≡ Swap tried.found
  pub has : trying log op ≡ Some tried
  pub is : set ≡ record { place = tried.place; stamp = tried.stamp; is_applied = true }

-- a swap that found another timestamp when it tried: it read
pub record IsRefused (log : List Point) (op : ℕ) (act : ActKind) (ask : Asking) : Type 0 where
  pub expected : Timestamp
  pub tried : Trying
  pub kind : act ≡ Swap expected
  pub has : trying log op ≡ Some tried
  pub other : stamp_eq expected tried.found ≡ false
  pub is : ask ≡ record { place = tried.place; found = tried.found }

-- a swap that found another timestamp first, and did not try
pub record IsPassed (log : List Point) (op : ℕ) (act : ActKind) (ask : Asking) : Type 0 where
  pub expected : Timestamp
  pub kind : act ≡ Swap expected
  pub none : trying log op ≡ None
  pub asked : asking log op ≡ Some ask
  pub other : stamp_eq expected ask.found ≡ false

-- where an operation read what it tells
abbrev pub HasRead : List Point → ℕ → ActKind → Asking → Type 0
HasRead log op act ask = ((act ≡ Get) × (asking log op ≡ Some ask)) ⊎ (IsPassed log op act ask ⊎ IsRefused log op act ask)

-- where it wrote, or was refused to
abbrev pub Wrote : List Point → ℕ → ActKind → Setting → Type 0
Wrote log op act set = ((writes act ≡ true) × (setting log op ≡ Some set)) ⊎ IsSwapped log op act set
