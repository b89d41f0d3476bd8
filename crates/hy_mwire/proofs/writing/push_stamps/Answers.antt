-- One more timestamp is written behind those before it.
use Rattle.std.proofs.Common.{◌≡◌, ◌+◌, ◌++◌, ◌∷◌, [], List, ℕ, All, length, take, ap, sym, subst, ◌∙◌, append_assoc}
use Rattle.std.specs.List.{flat_map}
use Rattle.std.proofs.lemmas.List.{take_more, append-nil}
use Rattle.std.proofs.lemmas.List.Concat.{flat_map-append}
use Rattle.std.proofs.lemmas.List.Elements.{All-push}
use Rattle.byteorder.specs.Endian.{big_bytes}
use Rattle.hy_record.specs.Stamp.{Timestamp, IsStamp}
use Rattle.hy_record.specs.Spelling.{stamp_bytes}
use Rattle.hy_mwire.proofs.writing.push_stamps.Goals as goal

more : (front count : List ℕ) (stamps : List Timestamp) (one : Timestamp) → (front ++ (count ++ flat_map stamp_bytes stamps)) ++ stamp_bytes one ≡ front ++ (count ++ flat_map stamp_bytes (stamps ++ one ∷ []))
more front count stamps one =
    let last : flat_map stamp_bytes (stamps ++ one ∷ []) ≡ flat_map stamp_bytes stamps ++ stamp_bytes one = flat_map-append stamp_bytes stamps (one ∷ []) ∙ ap (λ (t : List ℕ). flat_map stamp_bytes stamps ++ t) (append-nil (stamp_bytes one)) in
    append_assoc front (count ++ flat_map stamp_bytes stamps) (stamp_bytes one)
    ∙ ap (λ (t : List ℕ). front ++ t) (append_assoc count (flat_map stamp_bytes stamps) (stamp_bytes one) ∙ ap (λ (t : List ℕ). count ++ t) (sym last))

pub loop-stamp-preserved : goal.loop-stamp-preserved
loop-stamp-preserved c =
    let stamps = c.items-stamps.result.now in
    let one = c.stamp-item.result in
    let front = take c.loop-stamp.stamp-index stamps in
    let taken : take (c.loop-stamp.stamp-index + 1) stamps ≡ front ++ one ∷ [] = take_more stamps c.loop-stamp.stamp-index one c.loop-stamp-test.true ∙ ap (λ (s : Timestamp). front ++ s ∷ []) (sym c.stamp-item.is) in
    let count = big_bytes 2 (length stamps) in
    record {
      bytes = c.in_ok-push_stamp.ensures.bytes ∙ ap (λ (t : List ℕ). t ++ stamp_bytes one) c.loop-stamp.invariant.bytes ∙ more c.args.out.now.items count front one ∙ ap (λ (s : List Timestamp). c.args.out.now.items ++ (count ++ flat_map stamp_bytes s)) (sym taken);
      each = subst (λ (s : List Timestamp). All IsStamp s) (sym taken) (All-push IsStamp front one c.loop-stamp.invariant.each c.in_ok-push_stamp.ensures.known);
    }
