use Rattle.std.proofs.Common.{◌<◌, ℕ, sym, ◌∙◌, arith}
use Rattle.std.proofs.lemmas.List.Elements.{All-from_get_or}
use Rattle.hy_journal.proofs.Swaps.{no_partial, no_fault, no_size, no_watch, has_watch}
use Rattle.hy_journal.proofs.swap.watch_at.Goals as goal

pub returns-then-size-frame : goal.returns-then-size-frame
returns-then-size-frame c =
    let seen = rw c.in-Message.is at c.in_ok-message.ensures.front in
    no_size c.frames_are_read_back.ensures.again c.args.frame.now c.in-Message.message c.in-Message.size seen c.if-size-frame.true

pub returns-in-Some : goal.returns-in-Some
returns-in-Some c =
    let seen = rw c.in-Message.is at c.in_ok-message.ensures.front in
    let is = sym c.watch_in.ensures ∙ c.in-Some.is in
    has_watch c.frames_are_read_back.ensures.only c.args.frame.now c.in-Message.message c.in-Message.size c.in-Some.watch
    (All-from_get_or (λ (b : ℕ). b < 256) c.args.frame.now 0 (λ i short. omega (arith, c.type_inv.frame i))) seen c.if-size-frame.false is

pub returns-in-None : goal.returns-in-None
returns-in-None c =
    let seen = rw c.in-Message.is at c.in_ok-message.ensures.front in
    no_watch c.frames_are_read_back.ensures.again c.args.frame.now c.in-Message.message c.in-Message.size seen (sym c.watch_in.ensures ∙ c.in-None.is)

pub returns-in-Partial : goal.returns-in-Partial
returns-in-Partial c =
    let seen = rw c.in-Partial.is at c.in_ok-message.ensures.front in
    no_partial c.frames_are_read_back.ensures.again c.args.frame.now seen

pub returns-in-Fault : goal.returns-in-Fault
returns-in-Fault c =
    let seen = rw c.in-Fault.is at c.in_ok-message.ensures.front in
    no_fault c.frames_are_read_back.ensures.again c.args.frame.now c.in-Fault._fault seen
