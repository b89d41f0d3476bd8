-- The operands of a command that are left.
use Rattle.std.specs.Prelude.{ℕ, List, map, ◌++◌, String, string_bytes}
use Rattle.std.specs.declared.alloc.Global.{Global}

-- the words before an option, and those after it
abbrev pub operands_left : List (String Global) → List (String Global) → List (List ℕ)
operands_left front back = map string_bytes front ++ map string_bytes back
