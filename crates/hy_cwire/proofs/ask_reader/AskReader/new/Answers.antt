use Rattle.std.proofs.Common.{lit<}
use Rattle.hy_cwire.proofs.Blocks.{no-block-nil}
use Rattle.hy_cwire.proofs.ask_reader.AskReader.new.Goals as goal

pub returns-clause-stands : goal.returns-clause-stands
returns-clause-stands c = (c.new.ensures, no-block-nil, lit< tt)
