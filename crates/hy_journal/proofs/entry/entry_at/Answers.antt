use Rattle.std.proofs.Common.{◌<◌, ℕ, sym, ◌∙◌, arith}
use Rattle.std.proofs.lemmas.List.Elements.{All-from_get_or}
use Rattle.hy_journal.proofs.Entries.{lacks_partial, lacks_swap, lacks_gate, lacks_kind, has_entry}
use Rattle.hy_journal.proofs.entry.entry_at.Goals as goal

pub returns-then-size-bytes : goal.returns-then-size-bytes
returns-then-size-bytes c =
    let seen = rw c.in-Message.is at c.in_ok-message.ensures.front in
    lacks_gate c.frames_are_read_back.ensures.again c.args.bytes.now c.in-Message.message c.in-Message.size seen c.if-size-bytes.true

pub returns-in-Some : goal.returns-in-Some
returns-in-Some c =
    let seen = rw c.in-Message.is at c.in_ok-message.ensures.front in
    let within = rw c.in-Message.is at c.in_ok-message.ensures.within in
    let is = sym c.entry_of.ensures ∙ c.in-Some.is in
    has_entry c.frames_are_read_back.ensures.only c.args.bytes.now c.in-Message.message c.in-Message.size c.in-Some.entry
    (All-from_get_or (λ (b : ℕ). b < 256) c.args.bytes.now 0 (λ i short. omega (arith, c.type_inv.bytes i))) seen c.if-size-bytes.false within is

pub returns-in-None : goal.returns-in-None
returns-in-None c =
    let seen = rw c.in-Message.is at c.in_ok-message.ensures.front in
    lacks_kind c.frames_are_read_back.ensures.again c.args.bytes.now c.in-Message.message c.in-Message.size seen (sym c.entry_of.ensures ∙ c.in-None.is)

pub returns-in-Partial : goal.returns-in-Partial
returns-in-Partial c =
    let seen = rw c.in-Partial.is at c.in_ok-message.ensures.front in
    lacks_partial c.frames_are_read_back.ensures.again c.args.bytes.now seen

pub returns-in-None-2 : goal.returns-in-None-2
returns-in-None-2 c =
    let seen = rw c.in-Fault.is at c.in_ok-message.ensures.front in
    let lacks = rw c.in-None-2.is at c.in_ok-swap-in-Fault.ensures in
    lacks_swap c.frames_are_read_back.ensures.again c.args.bytes.now c.in-Fault._fault seen lacks
