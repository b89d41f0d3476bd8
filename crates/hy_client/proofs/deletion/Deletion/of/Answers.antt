use Rattle.std.proofs.Common.{◌≡◌, ◌∙◌, List, ap, subst, sym, length, arith, true}
use Rattle.std.proofs.lemmas.List.{length-map}
use Rattle.std.proofs.lemmas.List.{take_all}
use Rattle.hy_record.specs.Stamps.{is_rising}
use Rattle.hy_record.specs.Stamp.{Timestamp}
use Rattle.hy_client.specs.Targets.{stamps_of}
use Rattle.hy_client.specs.declared.target.Target.{Target}
use Rattle.hy_client.proofs.Deletions.{fresh_targets, fresh-stamps, begins}
use Rattle.hy_client.proofs.deletion.Deletion.of.Goals as goal

pub invariant_of-result : goal.invariant_of-result
invariant_of-result c =
    let all : c.loop-stamp.targets.items ≡ fresh_targets c.none-gone.result c.args.enough c.args.stamps.now =
    c.loop-stamp.invariant ∙ ap (fresh_targets c.none-gone.result c.args.enough) (take_all _ _ c.loop-stamp-test.false ∙ c.items-stamp-items.ensures.value) in
    let same : stamps_of c.loop-stamp.targets.items ≡ c.args.stamps.now = ap stamps_of all ∙ fresh-stamps c.none-gone.result c.args.enough c.args.stamps.now in
    let count : length c.loop-stamp.targets.items ≡ length c.items-stamp-items.result.now = sym (length-map c.loop-stamp.targets.items (λ (t : Target). t.stamp)) ∙ ap length (same ∙ sym c.items-stamp-items.ensures.value) in
    let few = c.items-stamp-items.ensures.few in
    record {
      few = omega (arith, count, few);
      rising = subst (λ (ss : List Timestamp). is_rising ss ≡ true) (c.items-stamp-items.ensures.value ∙ sym same) c.items-stamp-items.ensures.rising;
    }

pub returns : goal.returns
returns c =
    let all : c.loop-stamp.targets.items ≡ fresh_targets c.none-gone.result c.args.enough c.args.stamps.now =
    c.loop-stamp.invariant ∙ ap (fresh_targets c.none-gone.result c.args.enough) (take_all _ _ c.loop-stamp-test.false ∙ c.items-stamp-items.ensures.value) in
    begins c.none-gone.result c.args.enough c.args.stamps.now _ c.none-gone.ensures all (omega (arith, c.len-left.ensures, c.loop-stamp.targets.ok.0))
