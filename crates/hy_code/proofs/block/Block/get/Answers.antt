-- A row lies within the bytes.
use Rattle.std.proofs.Common.{◌≡◌, ◌<◌, ◌≤◌, ◌+◌, ◌*◌, ◌^◌, ℕ, List, [], length, take, drop, get_or, sym, ap, ◌∙◌, arith, Vec, Global}
use Rattle.hy_code.specs.Block.{rows_of}
use Rattle.hy_code.proofs.Blocks.{length-rows_of, get_or-rows_of, row_fits}
use Rattle.hy_code.proofs.block.Block.get.Goals as goal

inside : (rows : List (List ℕ)) (count size i : ℕ) (bytes : List ℕ) → rows_of count size bytes ≡ rows → i < length rows → i < count
inside rows count size i bytes is within = omega (arith, ap length is, length-rows_of count size bytes)

ends : (rows : List (List ℕ)) (count size i : ℕ) (bytes : List ℕ) → rows_of count size bytes ≡ rows → i < length rows → length bytes ≡ count * size → i * size + size ≤ length bytes
ends rows count size i bytes is within long =
    omega (arith, row_fits i count size (inside rows count size i bytes is within), long)

fits : (bytes : Vec ℕ Global) (n : ℕ) → n ≤ length bytes.items → n < 2 ^ 64
fits bytes n within = let small = bytes.small in omega (arith, bytes.ok.0)

pub overflow_mul-start : goal.overflow_mul-start
overflow_mul-start c = record { fits = fits c.self.inside.bytes _ (omega (arith, ends c.args.self.now c.self.inside.count c.self.inside.size c.args.i c.self.inside.bytes.items c.self.view_is c.requires c.self.invariant)) }

pub overflow_add-result : goal.overflow_add-result
overflow_add-result c = record { fits = fits c.self.inside.bytes _ (ends c.args.self.now c.self.inside.count c.self.inside.size c.args.i c.self.inside.bytes.items c.self.view_is c.requires c.self.invariant) }

pub slice_bounds-result-end : goal.slice_bounds-result-end
slice_bounds-result-end c = omega (arith, ends c.args.self.now c.self.inside.count c.self.inside.size c.args.i c.self.inside.bytes.items c.self.view_is c.requires c.self.invariant, ap length c.deref.ensures.value)

pub returns : goal.returns
returns c =
    let block = c.self.inside in
    let i = c.args.i in
    let size = block.size in
    let within : i < block.count = inside c.args.self.now block.count size i block.bytes.items c.self.view_is c.requires in
    ap (λ n. take n (drop (i * size) c.deref.result.now)) (omega arith)
    ∙ ap (λ bytes. take size (drop (i * size) bytes)) c.deref.ensures.value
    ∙ sym (get_or-rows_of block.count size block.bytes.items i within)
    ∙ ap (λ (rows : List (List ℕ)). get_or rows i []) c.self.view_is
