-- One more hash.
use Rattle.std.proofs.Common.{◌≡◌, ℕ, ◌+◌, ◌-◌, ◌*◌, List, [], ◌∷◌, ◌++◌, take, drop, ap, ◌∙◌, sym, arith}
use Rattle.std.specs.List.{concat}
use Rattle.std.proofs.Math.Seq.{take-add}
use Rattle.std.proofs.lemmas.List.{append-nil, length-append}
use Rattle.std.proofs.lemmas.List.Elements.{All-push}
use Rattle.std.proofs.lemmas.List.Folds.{concat-append}
use Rattle.hy_record.specs.Hash.{HASH_SIZE, IsHash}
use Rattle.hy_record.proofs.record.reading.hashes_of.Goals as goal

next_hash : (bytes : List ℕ) (i : ℕ) (front : List (List ℕ)) (hash : List ℕ) → concat front ≡ take (HASH_SIZE * i) bytes → hash ≡ take (32 * i + 32 - 32 * i) (drop (32 * i) bytes)
    → concat (front ++ hash ∷ []) ≡ take (HASH_SIZE * (i + 1)) bytes
next_hash bytes i front hash so_far is =
    let size : 32 * i + 32 - 32 * i ≡ 32 = omega arith in
    let more : 32 * i + 32 ≡ HASH_SIZE * (i + 1) = omega arith in
    concat-append front (hash ∷ [])
    ∙ ap (λ (t : List ℕ). concat front ++ t) (append-nil hash)
    ∙ ap (λ (t : List ℕ). t ++ hash) so_far
    ∙ ap (λ (t : List ℕ). take (32 * i) bytes ++ t) (is ∙ ap (λ (n : ℕ). take n (drop (32 * i) bytes)) size)
    ∙ sym (take-add (32 * i) 32 bytes)
    ∙ ap (λ (n : ℕ). take n bytes) more

pub loop-i-preserved : goal.loop-i-preserved
loop-i-preserved c =
    let hash = c.copy_from_slice.new.self in
    let is : c.known.result ≡ hash = c.known.ensures.same ∙ c.of.ensures in
    let pushed : c.push.new.self.items ≡ c.loop-i.hashes.items ++ hash ∷ [] = c.in_ok-push.ensures.items ∙ ap (λ (h : List ℕ). c.loop-i.hashes.items ++ h ∷ []) is in
    let sized : IsHash hash = rw (← is) c.known.ensures.size in
    record {
      read = rw pushed (next_hash c.args.bytes.now c.loop-i.i c.loop-i.hashes.items hash c.loop-i.invariant.read c.copy_from_slice.ensures.after);
      count = rw pushed (simp length-append (omega (arith, c.loop-i.invariant.count)));
      sizes = rw pushed (All-push IsHash c.loop-i.hashes.items hash c.loop-i.invariant.sizes sized);
    }
