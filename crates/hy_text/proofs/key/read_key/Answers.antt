use Rattle.std.proofs.Common.{sym}
use Rattle.hy_text.proofs.Keys.{key_word-refused}
use Rattle.hy_text.proofs.key.read_key.Goals as goal

pub returns-in-Err : goal.returns-in-Err
returns-in-Err c = sym (key_word-refused c.args.word.now c.in-Err.field-0 (sym c.in-Err.ensures))
