-- How many fields have a name.
use Rattle.std.specs.Prelude.{◌≡◌, ℕ, List, [], ◌∷◌}
use Rattle.hy_cwire.specs.declared.fields.Named.{Named}
use Rattle.hy_cwire.specs.declared.fields.Named.TheVariants.{None, One, Several}

-- these are the values: none, one, or more
abbrev pub IsNamed : List (List ℕ) → Named → Type 0
IsNamed values None = values ≡ []
IsNamed values (One value) = values ≡ value.now ∷ []
IsNamed values Several =
    (first : List ℕ) × (second : List ℕ) × (more : List (List ℕ)) × (values ≡ first ∷ second ∷ more)
