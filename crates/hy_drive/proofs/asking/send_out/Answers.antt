use Rattle.hy_drive.proofs.asking.send_out.Goals as goal

pub returns-in-Meta-clause-large : goal.returns-in-Meta-clause-large
returns-in-Meta-clause-large g c = c.ask_service.ensures.large c.args.job.now
