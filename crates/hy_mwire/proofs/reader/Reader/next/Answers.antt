-- The stream of which one more message was given.
use Rattle.std.proofs.Common.{◌≡◌, List, ℕ, subst, sym, ap, ◌∙◌}
use Rattle.hy_mwire.specs.Front.{front_at, message}
use Rattle.hy_mwire.specs.Stream.{Unread, StandsFor}
use Rattle.hy_mwire.specs.HeldStream.{unread_of}
use Rattle.hy_mwire.proofs.Streams.{stands-said}
use Rattle.hy_mwire.proofs.reader.Reader.next.Goals as goal

pub returns-in-Message-clause-stands : goal.returns-in-Message-clause-stands
returns-in-Message-clause-stands c = λ taken said stands.
    let old = unread_of c.self.inside in
    let before = subst (λ (u : Unread). StandsFor taken said u) (sym c.self.view_is) stands in
    let seen = rw c.in-Message.is at c.in_ok-front_unless_ready.ensures.front in
    let is : front_at c.self.inside.place c.self.inside.unread ≡ message c.in-Message.message c.in-Message.size = ap (λ (t : List ℕ). front_at c.self.inside.place t) (sym c.bytes.ensures) ∙ seen in
    stands-said taken said old _ c.in-Message.message c.in-Message.size is c.read.ensures c.saturating_add-self-inside.ensures c.in_default.is before
