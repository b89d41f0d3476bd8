-- The first fragments are the parts.
use Rattle.std.proofs.Common.{◌≡◌, ℕ, suc, ◌+◌, ◌-◌, ◌*◌, ◌<◌, ◌≤◌, List, [], ◌∷◌, ◌++◌, length, get_or, map, sym, ap, ◌∙◌, arith}
use Rattle.std.specs.List.{range_with_len}
use Rattle.std.specs.Prelude.{slice_index}
use Rattle.std.proofs.lemmas.Grind.{same_number_lists}
use Rattle.std.proofs.lemmas.List.FromFn.{get_or-map-range_with_len, length-map-range_with_len}
use Rattle.std.proofs.lemmas.Simd.{map-map}
use Rattle.hy_base.specs.Shape.{fragment_size}
use Rattle.hy_gf.specs.Gf.{IsElement}
use Rattle.hy_code.proofs.AnyParts.{byte_of_fragment, part_byte}
use Rattle.hy_code.proofs.FragmentLaws.{length-fragment_of}
use Rattle.hy_code.proofs.Ranges.{map-same, map-range_with_len-add}
use Rattle.hy_code.specs.Fragments.{part_of, parts_of, fragment_of}
use Rattle.hy_code.specs.Polynomial.{AreElements}
use Rattle.hy_code.specs.declared.pick.Pick.{Pick}

pub elements_from : (xs : List ℕ) → ((i : ℕ) → get_or xs i 0 < 256) → AreElements IsElement xs
elements_from [] each = tt
elements_from (x ∷ xs) each = (each 0, elements_from xs (λ i. each (suc i)))

part_is : (value : List ℕ) (k i : ℕ) → AreElements IsElement value → k ≤ 256 → i < k → (part_of value (fragment_size (length value) k) i).bytes ≡ fragment_of value k i
part_is value k i elements small within =
    same_number_lists (map byte (range_with_len 0 size)) (fragment_of value k i) (long ∙ sym (length-fragment_of value k i))
    (λ place inside.
    get_or-map-range_with_len byte 0 size place place 0 (omega (arith, long)) (omega arith)
    ∙ sym (byte_of_fragment value k i place (omega (arith, long)) ∙ part_byte value k elements small place i within))
  where
    size : ℕ
    size = fragment_size (length value) k

    byte : ℕ → ℕ
    byte place = slice_index value (i * size + place)

    long : length (map byte (range_with_len 0 size)) ≡ size
    long = length-map-range_with_len byte 0 size

first_parts : (value : List ℕ) (k : ℕ) → AreElements IsElement value → k ≤ 256 → map (λ (pick : Pick). pick.bytes) (parts_of value k) ≡ map (fragment_of value k) (range_with_len 0 k)
unfolding parts_of
first_parts value k elements small =
    let size = fragment_size (length value) k in
    map-map (λ (pick : Pick). pick.bytes) (part_of value size) (range_with_len 0 k)
    ∙ map-same (λ i. (part_of value size i).bytes) (fragment_of value k) 0 k (λ i low high. part_is value k i elements small (omega arith))

-- the parts and the other fragments are all of them
pub all_fragments : (value : List ℕ) (k n : ℕ) (parts : List Pick) (others : List (List ℕ)) → AreElements IsElement value → k ≤ 256 → k ≤ n → parts ≡ parts_of value k → others ≡ map (fragment_of value k) (range_with_len k (n - k)) → map (λ (pick : Pick). pick.bytes) parts ++ others ≡ map (fragment_of value k) (range_with_len 0 n)
all_fragments value k n parts others elements small fit parts_are others_are =
    let f = fragment_of value k in
    ap (λ p. map (λ (pick : Pick). pick.bytes) p ++ others) parts_are
    ∙ ap (λ xs. xs ++ others) (first_parts value k elements small)
    ∙ ap (λ xs. map f (range_with_len 0 k) ++ xs) (others_are ∙ ap (λ a. map f (range_with_len a (n - k))) (omega arith))
    ∙ sym (map-range_with_len-add f 0 k (n - k))
    ∙ ap (λ m. map f (range_with_len 0 m)) (omega arith)
