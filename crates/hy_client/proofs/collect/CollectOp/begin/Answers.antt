use Rattle.std.proofs.lemmas.Bool.{eqb-true, eqb-false}
use Rattle.std.proofs.lemmas.List.{nil_from_length}
use Rattle.std.proofs.Common.{◌≡◌, ◌<◌, ℕ, ◌∙◌, sym, refl, ap, subst, List, Some, None, length, arith}
use Rattle.hy_record.specs.Stamp.{Timestamp}
use Rattle.hy_record.specs.declared.turn.Out.{Out}
use Rattle.hy_record.specs.declared.turn.Turn.{Turn}
use Rattle.hy_client.proofs.Collecting.{asking-ends, asking-begins}
use Rattle.hy_client.proofs.collect.CollectOp.begin.Goals as goal

some-length : (n : ℕ) → (n ≡ 0 → ⊥) → 0 < n
some-length n some = omega (arith, some)

pub returns-then-is_empty : goal.returns-then-is_empty
returns-then-is_empty c = λ client op key was plan inputs h. asking-ends plan c.args.self.now _ inputs _ _ h was (record { issuer = refl; clouds = refl; enough = refl; at = refl }) (ap (λ (ss : List Timestamp). Some ss) (sym c.items.ensures.value ∙ nil_from_length c.items.result.now (eqb-true (length c.items.result.now) 0 (sym c.is_empty.ensures ∙ c.if-is_empty.true)))) c.replying.ensures

pub returns : goal.returns
returns c = λ client op key was plan inputs h. asking-begins plan c.args.self.now _ inputs _ _ h was _ c.args.stamps.now (record { issuer = refl; clouds = refl; enough = refl; at = refl }) refl (subst (λ (ss : List Timestamp). 0 < length ss) c.items.ensures.value (some-length (length c.items.result.now) (eqb-false (length c.items.result.now) 0 (sym c.is_empty.ensures ∙ c.if-is_empty.false)))) c.in_ok-deletion.ensures
    (c.sending.ensures ∙ (let sent : List Out → Turn = λ outs. record { sends = outs; reply = None } in ap sent c.in_ok-sends.ensures))
