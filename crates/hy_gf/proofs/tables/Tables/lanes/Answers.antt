use Rattle.std.proofs.Common.{◌≡◌, ℕ, ◌+◌, ◌*◌, ◌/◌, ◌%◌, ◌<◌, List, ap, ◌∙◌, get_or, arith, w8, Fits}
use Rattle.std.specs.Int.Bits.{bit_xor}
use Rattle.std.proofs.lemmas.Simd.{Each1-get_or}
use Rattle.hy_gf.specs.Gf.{gf_product}
use Rattle.hy_gf.specs.Lanes.{HasLanes}
use Rattle.hy_gf.proofs.Halves.{looked_up}
use Rattle.hy_gf.proofs.LaneLemmas.{lanes_same}
use Rattle.hy_gf.proofs.tables.Tables.lanes.Goals as goal

-- an entry of a table that stands in both halves
entry : (table twice : List ℕ) (k i : ℕ) → HasLanes twice (λ j. get_or table (j % 16) 0) → k < 32 → i < 16 → get_or twice (16 * (k / 16) + i) 0 ≡ get_or table i 0
entry table twice k i has within small =
    has.each (16 * (k / 16) + i) (omega arith) ∙ ap (λ j. get_or table j 0) (omega arith)

pub returns : goal.returns
returns c =
    let v = c.args.lanes in
    let low = c.self.inside.low in
    let high = c.self.inside.high in
    lanes_same _ _ _ c.sums.ensures
    (λ k l.
    let byte = get_or v k 0 in
    let small : byte < 256 = (Each1-get_or (Fits w8) v k 0 (omega (arith, c.fits-lanes.0)) c.fits-lanes.1).fits in
    ap (λ x. bit_xor x (get_or c.by_upper_half-upper.result k 0))
    (c.by_lower_half-lower.ensures.each k l ∙ entry low c.twice.result k (byte % 16) c.twice.ensures l (omega arith))
    ∙ ap (bit_xor (get_or low (byte % 16) 0))
    (c.by_upper_half-upper.ensures.each k l ∙ entry high c.twice-2.result k (byte / 16) c.twice-2.ensures l (omega arith))
    ∙ looked_up c.self.inside.factor byte low high c.self.invariant small
    ∙ ap (λ factor. gf_product factor byte) c.self.view_is)
