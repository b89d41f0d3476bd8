-- The value of the first word that is the same, else the next.
use Rattle.std.proofs.Common.{◌≡◌, true, false, sym, ◌∙◌}
use Rattle.std.specs.Str.{bytes_eq}
use Rattle.hy_text.proofs.Tables.{named_here, named_later, named_none}
use Rattle.hy_text.proofs.table.read_named.Goals as goal

pub returns-then-eq : goal.returns-then-eq
returns-then-eq g c =
    let same : bytes_eq c.args.word.now (g.T.Named.word_of c.value-item.result) ≡ true = sym (rw c.word.ensures at c.eq.ensures) ∙ c.if-eq.true in
    sym (named_here g.T.Named.word_of c.args.values.now c.args.word.now c.loop-value.value-index c.value-item.result c.loop-value-test.true c.value-item.is same) ∙ c.loop-value.invariant

pub loop-value-preserved : goal.loop-value-preserved
loop-value-preserved g c =
    let other : bytes_eq c.args.word.now (g.T.Named.word_of c.value-item.result) ≡ false = sym (rw c.word.ensures at c.eq.ensures) ∙ c.if-eq.false in
    sym (named_later g.T.Named.word_of c.args.values.now c.args.word.now c.loop-value.value-index c.value-item.result c.loop-value-test.true c.value-item.is other) ∙ c.loop-value.invariant

pub returns : goal.returns
returns g c =
    sym (named_none g.T.Named.word_of c.args.values.now c.args.word.now c.loop-value.value-index c.loop-value-test.false) ∙ c.loop-value.invariant
