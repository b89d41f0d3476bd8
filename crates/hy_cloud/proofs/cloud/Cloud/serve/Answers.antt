use Rattle.hy_cloud.proofs.Objects.{answers-by, stands-on, all-answers, all-stand}
use Rattle.hy_cloud.proofs.cloud.Cloud.serve.Goals as goal

pub returns-in-Put-clause-says : goal.returns-in-Put-clause-says
returns-in-Put-clause-says c = all-answers c.args.self.now.objects.entries c.args.wish.now c.put.result c.put.ensures.says

pub returns-in-Put-clause-ok : goal.returns-in-Put-clause-ok
returns-in-Put-clause-ok c = all-stand c.args.self.now.objects.entries c.put.new.self.objects.entries c.args.wish.now c.put.result c.put.ensures.ok

pub returns-in-Get-clause-says : goal.returns-in-Get-clause-says
returns-in-Get-clause-says c = all-answers c.args.self.now.objects.entries c.args.wish.now c.get.result c.get.ensures.says

pub returns-in-Get-clause-ok : goal.returns-in-Get-clause-ok
returns-in-Get-clause-ok c = all-stand c.args.self.now.objects.entries c.args.self.now.objects.entries c.args.wish.now c.get.result c.get.ensures.ok

pub returns-in-Delete-clause-says : goal.returns-in-Delete-clause-says
returns-in-Delete-clause-says c wishes stands = answers-by c.args.self.now.objects.entries c.args.wish.now wishes c.delete.result c.delete.ensures.says stands

pub returns-in-Delete-clause-ok : goal.returns-in-Delete-clause-ok
returns-in-Delete-clause-ok c wishes stands = stands-on c.args.self.now.objects.entries c.delete.new.self.objects.entries c.args.wish.now wishes c.delete.ensures.becomes stands
