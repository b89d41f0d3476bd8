-- The text was written whole.
use Rattle.hy_top.proofs.Telling.{told_whole}
use Rattle.hy_top.proofs.top.tell.Goals as goal

pub returns-in-Ok-write_all-clause-told : goal.returns-in-Ok-write_all-clause-told
returns-in-Ok-write_all-clause-told g c =
    told_whole c.args.answer _ c.in-Ok.status c.requires c.in-Ok.ensures.status (record {
      unfailed = c.in-Ok-write_all.ensures.cause.kept;
      whole = rw (← c.in-Ok.ensures.text, ← c.bytes.ensures) c.in-Ok-write_all.ensures.ok;
    })
