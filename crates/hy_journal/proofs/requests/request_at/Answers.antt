use Rattle.std.proofs.Common.{◌<◌, ℕ, sym, ◌∙◌, arith}
use Rattle.std.proofs.lemmas.List.Elements.{All-from_get_or}
use Rattle.hy_journal.proofs.Requesting.{lacks_partial, lacks_fault, lacks_kind, has_request}
use Rattle.hy_journal.proofs.requests.request_at.Goals as goal

pub returns-then-is_request : goal.returns-then-is_request
returns-then-is_request c =
    let seen = rw c.in-Message.is at c.in_ok-message.ensures.front in
    let within = rw c.in-Message.is at c.in_ok-message.ensures.within in
    has_request c.frames_are_read_back.ensures.only c.args.bytes.now c.in-Message.message c.in-Message.size
    (All-from_get_or (λ (b : ℕ). b < 256) c.args.bytes.now 0 (λ i short. omega (arith, c.type_inv.bytes i))) seen within
    (sym c.is_request.ensures ∙ c.if-is_request.true)

pub returns-else-is_request : goal.returns-else-is_request
returns-else-is_request c =
    let seen = rw c.in-Message.is at c.in_ok-message.ensures.front in
    lacks_kind c.frames_are_read_back.ensures.again c.args.bytes.now c.in-Message.message c.in-Message.size seen
    (sym c.is_request.ensures ∙ c.if-is_request.false)

pub returns-in-Partial : goal.returns-in-Partial
returns-in-Partial c =
    let seen = rw c.in-Partial.is at c.in_ok-message.ensures.front in
    lacks_partial c.frames_are_read_back.ensures.again c.args.bytes.now seen

pub returns-in-Fault : goal.returns-in-Fault
returns-in-Fault c =
    let seen = rw c.in-Fault.is at c.in_ok-message.ensures.front in
    lacks_fault c.frames_are_read_back.ensures.again c.args.bytes.now c.in-Fault._fault seen
