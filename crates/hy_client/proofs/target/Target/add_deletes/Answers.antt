use Rattle.std.proofs.Common.{◌≡◌, ◌∙◌, ◌+◌, ◌++◌, ℕ, List, [], ◌∷◌, Bool, true, false, sym, ap, append_assoc}
use Rattle.std.specs.Prelude.{not, map, filter}
use Rattle.std.specs.List.{range_with_len}
use Rattle.std.proofs.lemmas.List.{map-append}
use Rattle.hy_record.specs.declared.turn.Out.{Out}
use Rattle.hy_operation.specs.Marks.{is_marked}
use Rattle.hy_operation.proofs.Filters.{filter-passes, filter-skips}
use Rattle.hy_client.specs.Targets.{delete_in}
use Rattle.hy_client.proofs.target.Target.add_deletes.Goals as goal
use Rattle.hy_client.proofs.target.Target.add_deletes.Goals.{then-not-has+in_ok-push, else-not-has}

one-more : (delete : ℕ → Out) (p : ℕ → Bool) (n : ℕ) (first sends after : List Out) → p n ≡ true → sends ≡ first ++ map delete (filter p (range_with_len 0 n)) → after ≡ sends ++ delete n ∷ [] → after ≡ first ++ map delete (filter p (range_with_len 0 (n + 1)))
one-more delete p n first sends after passes was is =
    is ∙ ap (λ (outs : List Out). outs ++ delete n ∷ []) was ∙ append_assoc first (map delete (filter p (range_with_len 0 n))) (delete n ∷ [])
    ∙ ap (λ (outs : List Out). first ++ outs) (sym (map-append delete (filter p (range_with_len 0 n)) (n ∷ [])) ∙ ap (map delete) (sym (filter-passes p n passes)))

as-many : (delete : ℕ → Out) (p : ℕ → Bool) (n : ℕ) (first sends : List Out) → p n ≡ false → sends ≡ first ++ map delete (filter p (range_with_len 0 n)) → sends ≡ first ++ map delete (filter p (range_with_len 0 (n + 1)))
as-many delete p n first sends fails was = was ∙ ap (λ (clouds : List ℕ). first ++ map delete clouds) (sym (filter-skips p n fails))

pub loop-cloud-preserved : goal.loop-cloud-preserved
loop-cloud-preserved c =
    let p : ℕ → Bool = λ cloud. not (is_marked c.args.self.now.gone cloud) in
    let delete : ℕ → Out = delete_in c.args.issuer.now c.args.self.now.stamp in
    elim c.if-not-has.branch [
      | then-not-has+in_ok-push w ↦ rw w.sends-is (one-more delete p c.loop-cloud.cloud _ c.loop-cloud.sends.items _ (ap not (sym c.has.ensures ∙ w.if-not-has.true)) c.loop-cloud.invariant (w.in_ok-push.ensures.items ∙ ap (λ (out : Out). c.loop-cloud.sends.items ++ out ∷ []) w.wish.ensures))
      | else-not-has w ↦ rw w.sends-is (as-many delete p c.loop-cloud.cloud _ c.loop-cloud.sends.items (ap not (sym c.has.ensures ∙ w.if-not-has.false)) c.loop-cloud.invariant)
    ]
