use Rattle.std.proofs.Common.{◌≡◌, ◌++◌, ◌∷◌, [], List, ℕ, take, ap, sym, ◌∙◌, append_assoc}
use Rattle.std.specs.List.{concat}
use Rattle.std.proofs.lemmas.List.{take_more, append-nil}
use Rattle.std.proofs.lemmas.List.Folds.{concat-append}
use Rattle.hy_record.proofs.record.spelling.push_hashes.Goals as goal

-- one more list at the end of those joined
more : (front : List ℕ) (xs : List (List ℕ)) (x : List ℕ) → (front ++ concat xs) ++ x ≡ front ++ concat (xs ++ x ∷ [])
more front xs x = append_assoc front (concat xs) x ∙ ap (λ (t : List ℕ). front ++ t) (ap (λ (t : List ℕ). concat xs ++ t) (sym (append-nil x)) ∙ sym (concat-append xs (x ∷ [])))

pub loop-hash-preserved : goal.loop-hash-preserved
loop-hash-preserved c =
    let hash = c.hash-item.result in
    let front = take c.loop-hash.hash-index c.args.hashes.now in
    let taken = take_more c.args.hashes.now c.loop-hash.hash-index hash c.loop-hash-test.true in
    let joined = more c.args.out.now.items front hash in
    rw (c.in_ok-extend_from_slice.ensures.items, c.loop-hash.invariant, c.bytes.ensures.value, taken, ← c.hash-item.is) joined
