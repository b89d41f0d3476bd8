use Rattle.std.proofs.Common.{◌+◌, ℕ, List, sym, subst}
use Rattle.std.proofs.lemmas.List.{take_rest}
use Rattle.hy_mwire.specs.declared.message.Message.{Message}
use Rattle.hy_journal.specs.Requests.{HasRequest, IsReadTo}
use Rattle.hy_journal.proofs.Requesting.{one_more}
use Rattle.hy_journal.proofs.requests.read_requests.Goals as goal

pub loop-place-preserved : goal.loop-place-preserved
loop-place-preserved c =
    let bytes = c.args.bytes.now in
    let place = c.loop-place.place in
    let found = rw c.in-Some.is at c.in_ok-message.ensures in
    let has = subst (λ (l : List ℕ). HasRequest l c.in-Some.message c.in-Some.size) (take_rest bytes place) found in
    record {
      so_far = subst (λ (l : List Message). IsReadTo bytes l (place + c.in-Some.size)) (sym c.in_ok-push-in-Some.ensures.items)
          (one_more bytes c.loop-place.messages.items place c.in-Some.message c.in-Some.size c.loop-place.invariant.so_far has);
    }
