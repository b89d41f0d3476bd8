use Rattle.std.proofs.Common.{ℕ, List, ◌∙◌, sym, ap}
use Rattle.std.specs.Prelude.{◌++◌, ◌∷◌, [], map, slice_index_or}
use Rattle.std.specs.List.{range_with_len}
use Rattle.std.proofs.Math.Nat.{zero-add}
use Rattle.std.proofs.lemmas.List.FromFn.{map-range_with_len_more}
use Rattle.sha2.specs.Sha256.{sha256}
use Rattle.hy_put.proofs.content.fragment_hashes.Goals as goal

pub loop-cloud-preserved : goal.loop-cloud-preserved
loop-cloud-preserved c =
    c.in_ok-push.ensures.items ∙ ap (λ (hs : List (List ℕ)). hs ++ c.sha.result ∷ []) c.loop-cloud.invariant
    ∙ ap (λ (h : List ℕ). map (λ cloud. sha256 (slice_index_or c.args.fragments.now cloud [])) (range_with_len 0 c.loop-cloud.cloud) ++ h ∷ []) (c.sha.ensures ∙ ap sha256 c.get.ensures)
    ∙ sym (map-range_with_len_more (λ (cloud : ℕ). sha256 (slice_index_or c.args.fragments.now cloud [])) 0 c.loop-cloud.cloud c.loop-cloud.cloud (zero-add c.loop-cloud.cloud))
