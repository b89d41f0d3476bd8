-- The fragments of a value, and the value that picked fragments rebuild.
use Rattle.std.specs.Prelude.{◌≡◌, ℕ, ◌+◌, ◌*◌, ◌≤◌, List, length, map, take, slice_index}
use Rattle.std.specs.List.{flat_map, range_with_len}
use Rattle.hy_base.specs.Shape.{fragment_size}
use Rattle.hy_gf.specs.Gf.{gf, IsElement}
use Rattle.hy_code.specs.Polynomial.{AreElements, AreDifferent, value_at, polynomial_through}
use Rattle.hy_code.specs.declared.pick.Pick.{Pick}

-- the numbers of the clouds that picks come from
abbrev pub clouds : List Pick → List ℕ
clouds picks = map (λ pick. pick.cloud) picks

-- the bytes of picks at one place
abbrev pub column : List Pick → ℕ → List ℕ
column picks place = map (λ pick. slice_index pick.bytes place) picks

-- at each of `size` places, the value at `target` of the polynomial through the picks' clouds and their bytes there
unfoldable pub row_at : ℕ → List Pick → ℕ → List ℕ
row_at size picks target =
    map (λ place. value_at gf (polynomial_through gf (clouds picks) (column picks place)) target) (range_with_len 0 size)

-- part `number` of a value, with zeros where the value has ended, as if the cloud of this number held it
abbrev pub part_of : List ℕ → ℕ → ℕ → Pick
part_of value size number =
    record { cloud = number; bytes = map (λ place. slice_index value (number * size + place)) (range_with_len 0 size) }

-- the k parts of a value
unfoldable pub parts_of : List ℕ → ℕ → List Pick
parts_of value k = map (part_of value (fragment_size (length value) k)) (range_with_len 0 k)

-- the fragment of cloud i: at each place, the value at i of the polynomial whose values at 0 to k - 1 are the parts' bytes
unfoldable pub fragment_of : List ℕ → ℕ → ℕ → List ℕ
fragment_of value k i = row_at (fragment_size (length value) k) (parts_of value k) i

-- the value of this size whose k parts lie on the polynomials through the picks
unfoldable pub rebuilt_value : ℕ → ℕ → List Pick → List ℕ
rebuilt_value size k picks = take size (flat_map (row_at (fragment_size size k) picks) (range_with_len 0 k))

-- k picks from different clouds, each the value's fragment for its cloud
pub record AreFragments (value : List ℕ) (k : ℕ) (picks : List Pick) : Type 0 where
  pub count : length picks ≡ k
  pub numbers : AreElements IsElement (clouds picks)
  pub different : AreDifferent (clouds picks)
  pub fragments : map (λ pick. pick.bytes) picks ≡ map (fragment_of value k) (clouds picks)

-- any k fragments of a value rebuild it
abbrev pub AnyPartsRebuild : Type 0
AnyPartsRebuild =
    (value : List ℕ) (k : ℕ) (picks : List Pick) →
    AreElements IsElement value → 1 ≤ k → k ≤ 256 → AreFragments value k picks →
    rebuilt_value (length value) k picks ≡ value
