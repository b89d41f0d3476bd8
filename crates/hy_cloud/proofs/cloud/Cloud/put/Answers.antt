use Rattle.std.proofs.Common.{sym, ap, ◌∙◌}
use Rattle.std.specs.Option.{option_copied}
use Rattle.hy_record.specs.declared.cloud.CloudAct.TheVariants.{Put}
use Rattle.hy_cloud.proofs.Objects.{put-stays, put-begins}
use Rattle.hy_cloud.proofs.cloud.Cloud.put.Goals as goal

pub returns-then-eq-clause-ok : goal.returns-then-eq-clause-ok
returns-then-eq-clause-ok c = put-stays c.args.self.now.objects.entries c.args.wish.now c.args.bytes.now c.in-Some.held.now c.requires (sym c.object.ensures ∙ ap option_copied c.in-Some.is)

pub returns-else-eq-clause-ok : goal.returns-else-eq-clause-ok
returns-else-eq-clause-ok c = put-stays c.args.self.now.objects.entries c.args.wish.now c.args.bytes.now c.in-Some.held.now c.requires (sym c.object.ensures ∙ ap option_copied c.in-Some.is)

pub returns-in_ok-insert-in-None-clause-ok : goal.returns-in_ok-insert-in-None-clause-ok
returns-in_ok-insert-in-None-clause-ok c =
    let absent = sym c.object.ensures ∙ ap option_copied c.in-None.is in
    put-begins c.args.self.now.objects.entries c.insert.new.self.entries c.args.wish.now c.in_ok-copy-in-None.copy (c.requires ∙ ap Put (sym c.bytes-in-None.ensures ∙ sym c.in_ok-copy-in-None.ensures)) absent c.in_ok-insert-in-None.ensures.updates.0
