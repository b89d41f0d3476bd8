-- A message that is ready still stands in front when a piece has come.
use Rattle.std.proofs.Common.{◌∙◌}
use Rattle.hy_mwire.proofs.Readies.{ready-append}
use Rattle.hy_mwire.proofs.reader.Reader.feed.Goals as goal

pub front_unless_ready-requires : goal.front_unless_ready-requires
front_unless_ready-requires c = ready-append c.self.inside.place c.self.inside.unread c.args.piece.now c.bytes.result.now c.self.inside.ready (c.bytes.ensures ∙ c.in_ok-push.ensures.ok) c.self.invariant
