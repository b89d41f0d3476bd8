use Rattle.std.proofs.Common.{◌∷◌}
use Rattle.hy_client.proofs.Tasks.{on-ok, on-err, put-runs, get-runs, collect-runs, swap-runs}
use Rattle.hy_client.proofs.machine.Machine.step.Goals as goal

pub returns-in-Put-clause-ok : goal.returns-in-Put-clause-ok
returns-in-Put-clause-ok c = on-ok _ _ _ (λ step. put-runs c.args.self.now c.in-Put.put c.step.new.self (λ inputs. c.args.cue.now ∷ inputs) c.in-Put.is step) c.step.ensures.ok

pub returns-in-Put-clause-err : goal.returns-in-Put-clause-err
returns-in-Put-clause-err c = on-err _ _ _ (λ step. put-runs c.args.self.now c.in-Put.put c.step.new.self (λ inputs. inputs) c.in-Put.is step) c.step.ensures.err

pub returns-in-Get-clause-ok : goal.returns-in-Get-clause-ok
returns-in-Get-clause-ok c = on-ok _ _ _ (λ step. get-runs c.args.self.now c.in-Get.get c.step-in-Get.new.self (λ inputs. c.args.cue.now ∷ inputs) c.in-Get.is step) c.step-in-Get.ensures.ok

pub returns-in-Get-clause-err : goal.returns-in-Get-clause-err
returns-in-Get-clause-err c = on-err _ _ _ (λ step. get-runs c.args.self.now c.in-Get.get c.step-in-Get.new.self (λ inputs. inputs) c.in-Get.is step) c.step-in-Get.ensures.err

pub returns-in-Collect-clause-ok : goal.returns-in-Collect-clause-ok
returns-in-Collect-clause-ok c = on-ok _ _ _ (λ step. collect-runs c.args.self.now c.in-Collect.collect c.step-in-Collect.new.self (λ inputs. c.args.cue.now ∷ inputs) c.in-Collect.is step) c.step-in-Collect.ensures.ok

pub returns-in-Collect-clause-err : goal.returns-in-Collect-clause-err
returns-in-Collect-clause-err c = on-err _ _ _ (λ step. collect-runs c.args.self.now c.in-Collect.collect c.step-in-Collect.new.self (λ inputs. inputs) c.in-Collect.is step) c.step-in-Collect.ensures.err

pub returns-in-Swap-clause-ok : goal.returns-in-Swap-clause-ok
returns-in-Swap-clause-ok c = on-ok _ _ _ (λ step. swap-runs c.args.self.now c.in-Swap.swap c.step-in-Swap.new.self (λ inputs. c.args.cue.now ∷ inputs) c.in-Swap.is step) c.step-in-Swap.ensures.ok

pub returns-in-Swap-clause-err : goal.returns-in-Swap-clause-err
returns-in-Swap-clause-err c = on-err _ _ _ (λ step. swap-runs c.args.self.now c.in-Swap.swap c.step-in-Swap.new.self (λ inputs. inputs) c.in-Swap.is step) c.step-in-Swap.ensures.err
