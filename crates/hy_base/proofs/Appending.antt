-- Lemmas on writes, one after another.
use Rattle.std.proofs.Common.{◌≡◌, ℕ, ◌+◌, ◌-◌, List, ◌++◌, length, take, drop, Option, sym, ap, ◌∙◌, subst, arith, length-drop}
use Rattle.std.proofs.lemmas.List.{take_all}
use Rattle.std.proofs.Math.Seq.{take-add}
use Rattle.std.proofs.KnownBytes.{Appends-trans}
use Rattle.std.specs.Io.KnownBytes.{Appends}

-- what was added of a front of the bytes, and then of the rest of them
pub Appends-more : (old between new : Option (List ℕ)) (bytes : List ℕ) (written count : ℕ)
    → Appends old between (take written bytes)
    → Appends between new (take count (take (length bytes - written) (drop written bytes)))
    → Appends old new (take (written + count) bytes)
Appends-more old between new bytes written count p q =
    let rest = drop written bytes in
    let whole : take (length bytes - written) rest ≡ rest = take_all (length bytes - written) rest (omega (arith, length-drop written bytes)) in
    let joined : take (written + count) bytes ≡ take written bytes ++ take count (take (length bytes - written) rest) =
    take-add written count bytes ∙ ap (λ piece. take written bytes ++ take count piece) (sym whole) in
    subst (Appends old new) (sym joined) (Appends-trans old between new _ _ p q)
