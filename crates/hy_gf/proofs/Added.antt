-- Rows to which terms are added, place by place.
use Rattle.std.proofs.Common.{◌≡◌, ℕ, zero, suc, ◌+◌, ◌-◌, ◌<◌, ◌≤◌, List, [], ◌∷◌, length, get_or, set, length-set, refl, sym, ap, ◌∙◌, arith, inl, inr}
use Rattle.std.specs.Int.Bits.{bit_xor, xor_assoc}
use Rattle.std.specs.Simd.Lanes.{chunk, put_chunk, zip2}
use Rattle.std.proofs.lemmas.Bool.{cases_lt}
use Rattle.std.proofs.lemmas.Grind.{same_number_lists, get_or-set_at}
use Rattle.std.proofs.lemmas.List.{get_or-set_other}
use Rattle.std.proofs.lemmas.Simd.{length-chunk, get_or-chunk, length-put_chunk, get_or-put_chunk_below, get_or-put_chunk_at, get_or-put_chunk_above}
use Rattle.hy_gf.specs.Gf.{gf_sum, gf_product}
use Rattle.hy_gf.specs.Lanes.{HasLanes}
use Rattle.hy_gf.specs.Row.{IsAdded, row_sum}
use Rattle.hy_gf.specs.RowLaws.{length-row_sum, get_or-row_sum}
use Rattle.hy_gf.proofs.LaneLemmas.{zipped}

pub none_added : (term : ℕ → ℕ) (row : List ℕ) → IsAdded term 0 row row
none_added term row = record { length_same = refl; added = λ place h. absurd (omega arith); others = λ place h. refl }

-- ---- 32 more places

module _ (term : ℕ → ℕ) (n : ℕ) (before row lanes : List ℕ) (so_far : IsAdded term n before row) (has : HasLanes lanes (λ k. term (n + k))) (room : n + 32 ≤ length row) where
  abbrev sums : List ℕ
  sums = zip2 gf_sum (chunk n 32 row) lanes

  summed : HasLanes sums (λ k. gf_sum (get_or row (n + k) 0) (term (n + k)))
  summed =
      zipped gf_sum (chunk n 32 row) lanes (λ k. get_or row (n + k) 0) (λ k. term (n + k))
      (record { long = length-chunk n 32 row room; each = λ k l. get_or-chunk n 32 row k 0 l }) has

  at_place : (place : ℕ) → n ≤ place → place < n + 32 → get_or (put_chunk n row sums) place 0 ≡ gf_sum (get_or before place 0) (term place)
  at_place place low high =
      let j = place - n in
      let here : n + j ≡ place = omega arith in
      ap (λ p. get_or (put_chunk n row sums) p 0) (sym here)
      ∙ get_or-put_chunk_at n row sums j 0 (omega (arith, summed.long)) (omega (arith, summed.long))
      ∙ summed.each j (omega arith)
      ∙ ap (λ p. gf_sum (get_or row p 0) (term p)) here
      ∙ ap (λ x. gf_sum x (term place)) (so_far.others place low)

  pub lanes_added : IsAdded term (n + 32) before (put_chunk n row sums)
  lanes_added = record {
    length_same = length-put_chunk n row sums ∙ so_far.length_same;
    added = λ place h. elim (cases_lt place n) [
      | inl low ↦ get_or-put_chunk_below n row sums place 0 low ∙ so_far.added place low
      | inr high ↦ at_place place high h
    ];
    others = λ place h.
        get_or-put_chunk_above n row sums place 0 (omega (arith, summed.long)) ∙ so_far.others place (omega arith);
  }

-- ---- one more place

pub byte_added : (term : ℕ → ℕ) (n : ℕ) (before row : List ℕ) → IsAdded term n before row → n < length row → IsAdded term (n + 1) before (set row n (gf_sum (get_or row n 0) (term n)))
byte_added term n before row so_far room =
    let sum = gf_sum (get_or row n 0) (term n) in
    record {
      length_same = length-set row n sum ∙ so_far.length_same;
      added = λ place h. elim (cases_lt place n) [
        | inl low ↦ get_or-set_other row n place sum 0 (omega arith) ∙ so_far.added place low
        | inr high ↦
            let here : place ≡ n = omega arith in
            get_or-set_at row n place sum 0 here room
            ∙ ap (λ x. gf_sum x (term n)) (so_far.others n (omega arith))
            ∙ ap (λ p. gf_sum (get_or before p 0) (term p)) (sym here)
      ];
      others = λ place h. get_or-set_other row n place sum 0 (omega arith) ∙ so_far.others place (omega arith);
    }

-- ---- all places

-- the terms are the products of a row
pub row_added : (term : ℕ → ℕ) (factor : ℕ) (row before after : List ℕ) → length row ≡ length before → ((place : ℕ) → place < length before → term place ≡ gf_product factor (get_or row place 0)) → IsAdded term (length before) before after → after ≡ row_sum factor row before
row_added term factor row before after same product all =
    same_number_lists after (row_sum factor row before) (all.length_same ∙ sym (length-row_sum factor row before))
    (λ place within.
    let inside : place < length before = omega (arith, all.length_same) in
    all.added place inside
    ∙ ap (gf_sum (get_or before place 0)) (product place inside)
    ∙ sym (get_or-row_sum factor place row before inside same))

regrouped : (x a b c d : ℕ) → bit_xor x (bit_xor (bit_xor a b) (bit_xor c d)) ≡ bit_xor (bit_xor (bit_xor (bit_xor x a) b) c) d
regrouped x a b c d =
    sym (xor_assoc (bit_xor (bit_xor x a) b) c d
    ∙ ap (λ y. bit_xor y (bit_xor c d)) (xor_assoc x a b)
    ∙ xor_assoc x (bit_xor a b) (bit_xor c d))

-- the terms are the sums of four products
module _ (fa fb fc fd : ℕ) (a b c d before : List ℕ) (same_a : length a ≡ length before) (same_b : length b ≡ length before) (same_c : length c ≡ length before) (same_d : length d ≡ length before) where
  abbrev one : List ℕ
  one = row_sum fa a before

  abbrev two : List ℕ
  two = row_sum fb b one

  abbrev three : List ℕ
  three = row_sum fc c two

  length-one : length one ≡ length before
  length-one = length-row_sum fa a before

  length-two : length two ≡ length before
  length-two = length-row_sum fb b one ∙ length-one

  length-three : length three ≡ length before
  length-three = length-row_sum fc c two ∙ length-two

  at_three : (place : ℕ) → place < length before → get_or three place 0 ≡ gf_sum (gf_sum (gf_sum (get_or before place 0) (gf_product fa (get_or a place 0))) (gf_product fb (get_or b place 0))) (gf_product fc (get_or c place 0))
  at_three place within =
      get_or-row_sum fc place c two (omega (arith, length-two)) (same_c ∙ sym length-two)
      ∙ ap (λ x. gf_sum x (gf_product fc (get_or c place 0)))
      (get_or-row_sum fb place b one (omega (arith, length-one)) (same_b ∙ sym length-one)
      ∙ ap (λ x. gf_sum x (gf_product fb (get_or b place 0))) (get_or-row_sum fa place a before within same_a))

  pub four_added : (term : ℕ → ℕ) (after : List ℕ) → ((place : ℕ) → term place ≡ gf_sum (gf_sum (gf_product fa (get_or a place 0)) (gf_product fb (get_or b place 0))) (gf_sum (gf_product fc (get_or c place 0)) (gf_product fd (get_or d place 0)))) → IsAdded term (length before) before after → after ≡ row_sum fd d three
  four_added term after sum all =
      same_number_lists after (row_sum fd d three) (all.length_same ∙ sym (length-row_sum fd d three ∙ length-three))
      (λ place within.
      let inside : place < length before = omega (arith, all.length_same) in
      all.added place inside
      ∙ ap (gf_sum (get_or before place 0)) (sum place)
      ∙ regrouped (get_or before place 0) (gf_product fa (get_or a place 0)) (gf_product fb (get_or b place 0)) (gf_product fc (get_or c place 0)) (gf_product fd (get_or d place 0))
      ∙ sym (get_or-row_sum fd place d three (omega (arith, length-three)) (same_d ∙ sym length-three)
      ∙ ap (λ x. gf_sum x (gf_product fd (get_or d place 0))) (at_three place inside)))
