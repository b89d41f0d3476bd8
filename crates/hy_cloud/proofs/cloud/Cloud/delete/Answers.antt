use Rattle.hy_cloud.proofs.Objects.{delete-ends}
use Rattle.hy_cloud.proofs.cloud.Cloud.delete.Goals as goal

pub returns-clause-becomes : goal.returns-clause-becomes
returns-clause-becomes c = delete-ends c.args.self.now.objects.entries c.remove.new.self.entries c.args.wish.now c.requires c.remove.ensures.updates.0
