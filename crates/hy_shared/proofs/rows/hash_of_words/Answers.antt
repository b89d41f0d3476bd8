use Rattle.std.proofs.Common.{rules, ap, ◌∙◌}
use Rattle.hy_shared.specs.Rows.{hash_words}
use Rattle.hy_shared.proofs.RowWords.{number-of-bytes, four-words}
use Rattle.hy_shared.proofs.rows.hash_of_words.Goals as goal

pub returns-clause-words : goal.returns-clause-words
returns-clause-words c =
    ap hash_words c.of.ensures
    ∙ four-words _ _ _ _ c.args.a c.args.b c.args.c c.args.d (number-of-bytes c.args.a c.to_be_bytes-a.result (search rules) c.to_be_bytes-a.ensures) (number-of-bytes c.args.b c.to_be_bytes-b.result (search rules) c.to_be_bytes-b.ensures)
    (number-of-bytes c.args.c c.to_be_bytes-c.result (search rules) c.to_be_bytes-c.ensures) (number-of-bytes c.args.d c.to_be_bytes-d.result (search rules) c.to_be_bytes-d.ensures)
