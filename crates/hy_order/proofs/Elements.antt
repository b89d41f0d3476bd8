-- What holds of each element.
use Rattle.std.proofs.Common.{List, [], ◌∷◌}
use Rattle.std.specs.List.{AllByRecursion}

-- what follows from what holds of each
pub each : {X : Type 0} {P Q : X → Type 0} → ((x : X) → P x → Q x) → (xs : List X) → AllByRecursion P xs → AllByRecursion Q xs
each weaker [] all = tt
each weaker (x ∷ xs) all = (weaker x all.0, each weaker xs all.1)
