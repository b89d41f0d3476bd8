-- What holds of every fragment.
use Rattle.std.proofs.Common.{◌≡◌, ℕ, ◌+◌, ◌*◌, ◌<◌, List, [], ◌∷◌, length, ap, ◌∙◌, arith, lit<}
use Rattle.std.specs.Prelude.{slice_index}
use Rattle.std.specs.Int.Bits.{bit_xor, xor_zero_r}
use Rattle.std.proofs.lemmas.Grind.{same_number_lists}
use Rattle.std.proofs.lemmas.List.FromFn.{length-map-range_with_len}
use Rattle.std.proofs.Math.Nat.{div-one}
use Rattle.hy_base.specs.Shape.{fragment_size}
use Rattle.hy_gf.specs.Gf.{gf}
use Rattle.hy_gf.specs.GfLaws.{product-comm, zero-product}
use Rattle.hy_code.proofs.AnyParts.{place_polynomial, part_bytes, byte_of_fragment}
use Rattle.hy_code.specs.Fragments.{clouds, column, row_at, parts_of, fragment_of}
use Rattle.hy_code.specs.Polynomial.{value_at, polynomial_through}

-- each fragment has as many bytes as a part
pub length-fragment_of : (value : List ℕ) (k i : ℕ) → length (fragment_of value k i) ≡ fragment_size (length value) k
unfolding fragment_of row_at
length-fragment_of value k i =
    length-map-range_with_len (λ place. value_at gf (polynomial_through gf (clouds (parts_of value k)) (column (parts_of value k) place)) i) 0 (fragment_size (length value) k)

fragment_size-one : (n : ℕ) → fragment_size n 1 ≡ n
fragment_size-one n = omega (arith, div-one n)

constant : (y i : ℕ) → i < 256 → value_at gf (y ∷ []) i ≡ y
constant y i small = ap (bit_xor y) (product-comm i 0 small (lit< tt) ∙ zero-product i) ∙ xor_zero_r y

-- of a value that is not cut, each fragment is the value
pub fragment_of-one : (value : List ℕ) (i : ℕ) → i < 256 → fragment_of value 1 i ≡ value
unfolding place_polynomial part_bytes
fragment_of-one value i small =
    same_number_lists (fragment_of value 1 i) value size
    (λ place within.
    byte_of_fragment value 1 i place (omega (arith, size, length-fragment_of value 1 i))
    ∙ constant (slice_index value (0 * fragment_size (length value) 1 + place)) i small
    ∙ ap (slice_index value) (omega arith))
  where
    size : length (fragment_of value 1 i) ≡ length value
    size = length-fragment_of value 1 i ∙ fragment_size-one (length value)
