-- Bytes as rows of one length.
use Rattle.std.specs.Prelude.{ℕ, ◌*◌, List, drop, map, take}
use Rattle.std.specs.List.{range_with_len}

-- the rows of this size that follow one another in the bytes
unfoldable pub rows_of : ℕ → ℕ → List ℕ → List (List ℕ)
rows_of count size bytes = map (λ row. take size (drop (row * size) bytes)) (range_with_len 0 count)
