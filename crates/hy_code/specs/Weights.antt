-- The weights with which given values add up to the value at another place, after Lagrange.
use Rattle.std.specs.Prelude.{Bool, List, if◌then◌else◌}
use Rattle.std.specs.List.{fold}
use Rattle.hy_gf.specs.Field.{Operations}

-- a weight so far, times (target - m) / (x - m) where m is another place than x
abbrev pub weight_step : {T : Type 0} → Operations T → (T → T → Bool) → T → T → T → T → T
weight_step F same x target w m =
    if same m x then w else F.product (F.product w (F.sum target m)) (F.inverse (F.sum x m))

-- the weight of the value at x: the product of (target - m) / (x - m) over the other places m
abbrev pub weight : {T : Type 0} → Operations T → (T → T → Bool) → List T → T → T → T
weight F same places x target = fold (weight_step F same x target) F.one places

-- ---- a weight in two factors, of which the places alone decide the second

abbrev pub raised_step : {T : Type 0} → Operations T → (T → T → Bool) → T → T → T → T → T
raised_step F same x target w m = if same m x then w else F.product w (F.sum target m)

-- the product of target - m over the other places m
abbrev pub raised : {T : Type 0} → Operations T → (T → T → Bool) → List T → T → T → T
raised F same places x target = fold (raised_step F same x target) F.one places

abbrev pub scale_step : {T : Type 0} → Operations T → (T → T → Bool) → T → T → T → T
scale_step F same x w m = if same m x then w else F.product w (F.inverse (F.sum x m))

-- the product of 1 / (x - m) over the other places m
abbrev pub scale : {T : Type 0} → Operations T → (T → T → Bool) → List T → T → T
scale F same places x = fold (scale_step F same x) F.one places
