use Rattle.std.proofs.Common.{◌≡◌, ◌∙◌, ◌<◌, ◌-◌, ℕ, List, sym, ap, subst, true, false, length, get_or, refl, inl, inr, arith}
use Rattle.std.specs.Prelude.{◌==◌, ◌||◌, slice_set}
use Rattle.hy_operation.specs.Marks.{is_marked}
use Rattle.std.proofs.lemmas.List.{length-set, get_or_default}
use Rattle.std.proofs.Math.Seq.{map-set_same}
use Rattle.hy_record.specs.Stamp.{Timestamp}
use Rattle.hy_record.specs.Stamps.{is_rising}
use Rattle.hy_client.specs.Targets.{stamps_of}
use Rattle.hy_client.specs.declared.target.Target.{Target}
use Rattle.hy_client.proofs.Deletions.{gone-again, gone-last, gone-first}
use Rattle.std.proofs.lemmas.Bool.{eq-eqb, ne_eqb}
use Rattle.hy_client.proofs.deletion.Deletion.gone.Goals as goal
use Rattle.hy_client.proofs.deletion.Deletion.gone.Goals.{else-last-via-then-last+else-self-le1, else-last-via-else-last}

pub returns-then-has-clause-hears : goal.returns-then-has-clause-hears
returns-then-has-clause-hears c =
    let e : Target = c.index.result.now in
    let inside = subst (λ (ts : List Target). c.in-Some.place < length ts) c.deref.ensures.value c.in-Some.ensures.inside in
    let found = subst (λ (ts : List Target). c.args.reply.now.stamp ≡ (get_or ts c.in-Some.place e).stamp) c.deref.ensures.value (c.in-Some.ensures.found e) in
    let marked : is_marked (get_or c.args.self.now.targets.items c.in-Some.place e).gone c.args.reply.now.cloud ≡ true = ap (λ (t : Target). is_marked t.gone c.args.reply.now.cloud) (sym c.index.ensures) ∙ sym c.has.ensures ∙ c.if-has.true in
    λ clouds enough stamps since few in_store gone h some. gone-again clouds enough stamps since c.args.reply.now c.args.self.now c.in-Some.place e c.args.self.now.rising inside found few in_store gone some h marked

pub returns-then-self-le1-clause-hears : goal.returns-then-self-le1-clause-hears
returns-then-self-le1-clause-hears c =
    let e : Target = c.index.result.now in
    let inside = subst (λ (ts : List Target). c.in-Some.place < length ts) c.deref.ensures.value c.in-Some.ensures.inside in
    let found = subst (λ (ts : List Target). c.args.reply.now.stamp ≡ (get_or ts c.in-Some.place e).stamp) c.deref.ensures.value (c.in-Some.ensures.found e) in
    let unmarked : is_marked (get_or c.args.self.now.targets.items c.in-Some.place e).gone c.args.reply.now.cloud ≡ false = ap (λ (t : Target). is_marked t.gone c.args.reply.now.cloud) (sym c.index.ensures) ∙ sym c.has.ensures ∙ c.if-has.false in
    λ clouds enough stamps since few in_store gone h some.
    (c.in_ok-stamps.ensures ∙ h.lists, gone-last clouds enough stamps since c.args.reply.now c.args.self.now c.in-Some.place e c.args.self.now.rising inside found few in_store gone some h unmarked (ap (λ (t : Target). t.lacking) (get_or_default c.args.self.now.targets.items c.in-Some.place e c.index-2.result.now inside ∙ sym c.index-2.ensures) ∙ c.if-last.true) c.if-self-le1.true)

pub invariant_of-self : goal.invariant_of-self
invariant_of-self c =
    let e : Target = c.index_mut.result.now in
    let same : stamps_of (slice_set c.args.self.now.targets.items c.in-Some.place c.acknowledge.new.self) ≡ stamps_of c.args.self.now.targets.items =
    map-set_same (λ (t : Target). t.stamp) c.args.self.now.targets.items c.in-Some.place c.acknowledge.new.self e (c.acknowledge.ensures.stamp ∙ ap (λ (t : Target). t.stamp) c.index_mut.ensures.value) in
    let few = c.args.self.now.few in
    record {
      few = omega (arith, few, length-set c.args.self.now.targets.items c.in-Some.place c.acknowledge.new.self);
      rising = subst (λ (ss : List Timestamp). is_rising ss ≡ true) (sym same) c.args.self.now.rising;
    }

pub returns-clause-hears : goal.returns-clause-hears
returns-clause-hears c =
    let e : Target = c.index_mut.result.now in
    let own : Target = get_or c.args.self.now.targets.items c.in-Some.place e in
    let inside = subst (λ (ts : List Target). c.in-Some.place < length ts) c.deref.ensures.value c.in-Some.ensures.inside in
    let found = subst (λ (ts : List Target). c.args.reply.now.stamp ≡ (get_or ts c.in-Some.place e).stamp) c.deref.ensures.value (c.in-Some.ensures.found e) in
    let first : c.index.result.now ≡ own = c.index.ensures ∙ get_or_default c.args.self.now.targets.items c.in-Some.place c.index.result.now e inside in
    let unmarked : is_marked own.gone c.args.reply.now.cloud ≡ false = ap (λ (t : Target). is_marked t.gone c.args.reply.now.cloud) (sym first) ∙ sym c.has.ensures ∙ c.if-has.false in
    let stamp = c.acknowledge.ensures.stamp ∙ ap (λ (t : Target). t.stamp) c.index_mut.ensures.value in
    let marks = λ (i : ℕ) (few : i < 16). c.acknowledge.ensures.gone i few ∙ ap (λ (t : Target). is_marked t.gone i || c.args.reply.now.cloud == i) c.index_mut.ensures.value in
    let less = c.acknowledge.ensures.lacking ∙ ap (λ (t : Target). t.lacking - 1) c.index_mut.ensures.value in
    let second : own ≡ c.index-2.result.now = get_or_default c.args.self.now.targets.items c.in-Some.place e c.index-2.result.now inside ∙ sym c.index-2.ensures in
    let lacked = ap (λ (t : Target). t.lacking) second in
    let left = c.saturating_sub-self.ensures ∙ ap (λ (n : ℕ). c.args.self.now.left - n) c.from.ensures in
    λ clouds enough stamps since few in_store gone h some. gone-first clouds enough stamps since c.args.reply.now c.args.self.now c.in-Some.place e c.args.self.now.rising inside found few in_store gone some h
    c.acknowledge.new.self _ unmarked stamp marks less refl
    (elim c.else-last.branch [
      | else-last-via-then-last+else-self-le1 w ↦ inl (lacked ∙ w.if-last.true, w.if-self-le1.false, rw (eq-eqb c.index-2.result.now.lacking 1 w.if-last.true) at left)
      | else-last-via-else-last w ↦ inr ((λ is. w.if-last.false (sym lacked ∙ is)), (rw (ne_eqb c.index-2.result.now.lacking 1 w.if-last.false) at left) ∙ (let none : c.args.self.now.left - 0 ≡ c.args.self.now.left = omega arith in none))
    ])
