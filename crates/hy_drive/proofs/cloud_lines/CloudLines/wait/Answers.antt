use Rattle.hy_drive.proofs.Lines.{awaits-new}
use Rattle.hy_drive.proofs.cloud_lines.CloudLines.wait.Goals as goal

pub returns : goal.returns
returns c = awaits-new c.args.self.now.lines c.insert.new.self c.args.conn c.args.errand c.args.asked c.in_ok-reader.reader
    c.in_ok-reader.ensures.fresh c.in_ok-reader.ensures.stands c.in_ok-insert.ensures.updates
