-- Why picks are refused.
use Rattle.std.specs.Prelude.{ℕ, ◌==◌, List, [], ◌∷◌, ◌++◌, length, take, not, nat_lt, Option, Some, None, if◌then◌else◌}
use Rattle.std.specs.List.{list_any, position_from}
use Rattle.std.specs.Option.{option_or, option_map}
use Rattle.hy_base.specs.Shape.{fragment_size}
use Rattle.hy_code.specs.declared.fault.RebuildFault.{RebuildFault}
use Rattle.hy_code.specs.declared.fault.RebuildFault.TheVariants.{Few, Length, Twice}
use Rattle.hy_code.specs.declared.pick.Pick.{Pick}

-- the place of the first pick that has not this many bytes
abbrev pub wrong_length : ℕ → List Pick → Option ℕ
wrong_length size picks = position_from (λ pick. not (length pick.bytes == size)) 0 picks

-- the cloud of the first pick whose cloud stands earlier too, where the picks of `earlier` stand before the list
abbrev pub repeated_cloud : List Pick → List Pick → Option ℕ
repeated_cloud earlier [] = None
repeated_cloud earlier (pick ∷ later) =
    if list_any (λ before. before.cloud == pick.cloud) earlier
    then Some pick.cloud
    else repeated_cloud (earlier ++ pick ∷ []) later

-- what is wrong with picks of which all are used
abbrev pub fault_of : ℕ → List Pick → Option RebuildFault
fault_of size picks = option_or (option_map Length (wrong_length size picks)) (option_map Twice (repeated_cloud [] picks))

-- why the first k picks rebuild no value of this size: they are too few, or a length is wrong, or a cloud stands twice
abbrev pub refusal : ℕ → ℕ → List Pick → Option RebuildFault
refusal size k picks =
    if nat_lt (length picks) k then Some (Few (length picks)) else fault_of (fragment_size size k) (take k picks)
