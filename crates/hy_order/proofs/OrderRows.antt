-- The lines of orders: what is read is the row of an order of the key that is due.
use Rattle.std.proofs.Common.{◌≡◌, ℕ, ◌≤◌, Bool, true, false, cond, IsTrue, List, [], ◌∷◌, ◌++◌, map, Ok, Err, refl, sym, ap, subst, ◌∙◌, arith}
use Rattle.std.specs.Prelude.{codes}
use Rattle.std.specs.List.{AllByRecursion}
use Rattle.std.specs.Fmt.{decimal}
use Rattle.std.specs.Str.{bytes_eq}
use Rattle.std.proofs.lemmas.Slice.Eq.{bytes_eq-Decides}
use Rattle.hy_base.specs.declared.fault.Cause.TheVariants.{BadKey}
use Rattle.hy_base.specs.declared.limits.TheConstants.{MAX_COUNT}
use Rattle.hy_record.specs.Key.{is_key}
use Rattle.hy_text.specs.Line.{first_word, later_words}
use Rattle.hy_base.specs.Results.{◌>>=◌}
use Rattle.hy_text.specs.Slot.{keyword, number_of}
use Rattle.hy_text.proofs.Numbers.{number_takes, number_again}
use Rattle.hy_text.proofs.Printed.{length-key}
use Rattle.hy_base.proofs.Results.{bind_ok, ok_is}
use Rattle.hy_text.proofs.Slots.{keyword_takes, words_from_first}
use Rattle.hy_order.specs.declared.order.Order.{Order}
use Rattle.hy_text.specs.Kind.{is_next_due, items_from}
use Rattle.hy_text.specs.OpenLine.{OpenLine, Rest}
use Rattle.hy_order.specs.Report.{order_row}
use Rattle.hy_order.specs.ReportRanges.{IsTextNumber}
use Rattle.hy_order.specs.ReportReading.{order_of_words, order_lines, is_key_due}
use Rattle.hy_order.specs.WordReaders.{due_key, numbers_of}
use Rattle.hy_text.proofs.ItemRows.{Takes, ReadsAgain, AreLinesOf, FitAlong, state_after, items_take}

numbers_take : (words : List (List ℕ)) (numbers : List ℕ) → numbers_of words ≡ Ok numbers → (words ≡ map decimal numbers) × AllByRecursion IsTextNumber numbers
unfolding numbers_of
numbers_take [] numbers e =
    let same : [] ≡ numbers = ok_is [] numbers e in
    subst (λ (ns : List ℕ). ([] ≡ map decimal ns) × AllByRecursion IsTextNumber ns) same (refl, tt)
numbers_take (word ∷ words) numbers e =
    let number = bind_ok (number_of 1 MAX_COUNT word) _ numbers e in
    let more = bind_ok (numbers_of words) (λ later. Ok (number.0 ∷ later)) numbers number.2 in
    let n = number_takes 1 MAX_COUNT word number.0 number.1 in
    let rest = numbers_take words more.0 more.1 in
    let row : word ∷ words ≡ decimal number.0 ∷ map decimal more.0 = ap (λ (w : List ℕ). w ∷ words) n.printed ∙ ap (λ (ws : List (List ℕ)). decimal number.0 ∷ ws) rest.0 in
    subst (λ (ns : List ℕ). (word ∷ words ≡ map decimal ns) × AllByRecursion IsTextNumber ns) (ok_is (number.0 ∷ more.0) numbers more.2)
    (row, ((n.low_end, n.high_end), rest.1))

pub numbers_again : (numbers : List ℕ) → AllByRecursion IsTextNumber numbers → numbers_of (map decimal numbers) ≡ Ok numbers
unfolding numbers_of
numbers_again [] fits = refl
numbers_again (number ∷ numbers) fits =
    let low : 1 ≤ number = fits.0.0 in
    let high : number ≤ MAX_COUNT = fits.0.1 in
    rw (number_again 1 MAX_COUNT number (omega arith) low high, numbers_again numbers fits.1) refl

due_taken : (t : Bool) (u : Unit {0}) → cond t (Ok tt) (Err BadKey) ≡ Ok u → t ≡ true
due_taken true u e = refl
due_taken false u e = absurd cc

-- the order is of the first key that is due, and its numbers are in range
pub record FitsKeys (keys : List (List ℕ)) (order : Order) : Type 0 where
  pub there : is_key_due keys ≡ true
  pub key : order.key ≡ first_word keys
  pub numbers : AllByRecursion IsTextNumber order.ops

-- the keys that are due are keys
abbrev pub AreKeys : List (List ℕ) → Type 0
AreKeys keys = AllByRecursion (λ key. IsTrue (is_key key)) keys

later_are : (keys : List (List ℕ)) → AreKeys keys → AreKeys (later_words keys)
later_are [] are = tt
later_are (key ∷ keys) are = are.1

-- the words after the keyword are those of the order
record SpellsOrder (key : List ℕ) (words : List (List ℕ)) (order : Order) : Type 0 where
  row : codes "order" ∷ words ≡ order_row order
  same : order.key ≡ key
  numbers : AllByRecursion IsTextNumber order.ops

order_takes : (key : List ℕ) (words : List (List ℕ)) (order : Order) → IsTrue (is_key key) → order_of_words key words ≡ Ok order → SpellsOrder key words order
unfolding order_of_words
order_takes key words order is e =
    let due = bind_ok (due_key key (first_word words)) (λ _. numbers_of (later_words words) >>= λ numbers. Ok (record { key = key; ops = numbers })) order e in
    let numbers = bind_ok (numbers_of (later_words words)) (λ numbers. Ok (record { key = key; ops = numbers })) order due.2 in
    let first : first_word words ≡ key = (bytes_eq-Decides (first_word words) key).0 (due_taken (bytes_eq (first_word words) key) due.0 due.1) in
    let n = numbers_take (later_words words) numbers.0 numbers.1 in
    let row : words ≡ key ∷ map decimal numbers.0 = words_from_first words key first (length-key key is) ∙ ap (λ (ws : List (List ℕ)). key ∷ ws) n.0 in
    subst (SpellsOrder key words) (ok_is (record { key = key; ops = numbers.0 }) order numbers.2)
    (record { row = ap (λ (ws : List (List ℕ)). codes "order" ∷ ws) row; same = refl; numbers = n.1 })

order_line_takes : Takes order_lines order_row FitsKeys AreKeys
order_line_takes [] word words order are due e = absurd cc
order_line_takes (key ∷ keys) word words order are due e =
    let kept = bind_ok (keyword (codes "order") word) (λ _. order_of_words key words) order e in
    let spells = order_takes key words order are.0 kept.2 in
    record {
      row = ap (λ (w : List ℕ). w ∷ words) (keyword_takes (codes "order") word kept.0 kept.1) ∙ spells.row;
      fits = record { there = due; key = spells.same; numbers = spells.numbers };
    }

pub orders_take : (keys : List (List ℕ)) (number : ℕ) (lines : List OpenLine) (read : List Order × Rest) → AreKeys keys → items_from order_lines keys number lines ≡ Ok read
    → AreLinesOf order_lines order_row FitsKeys keys lines read
orders_take keys number lines read are e = items_take order_lines order_row FitsKeys AreKeys order_line_takes (λ keys order are. later_are keys are) keys number lines read are e

-- the orders take the keys one by one
pub keys_taken : (keys : List (List ℕ)) (orders : List Order) → FitAlong order_lines FitsKeys keys orders
    → keys ≡ map (λ (order : Order). order.key) orders ++ state_after order_lines keys orders
keys_taken keys [] fits = refl
keys_taken [] (order ∷ orders) fits = let there = fits.0.there in absurd cc
keys_taken (key ∷ keys) (order ∷ orders) fits =
    ap (λ (k : List ℕ). k ∷ keys) (sym fits.0.key) ∙ ap (λ (ks : List (List ℕ)). order.key ∷ ks) (keys_taken keys orders fits.1)

pub numbers_taken : (keys : List (List ℕ)) (orders : List Order) → FitAlong order_lines FitsKeys keys orders → AllByRecursion (λ (order : Order). AllByRecursion IsTextNumber order.ops) orders
numbers_taken keys [] fits = tt
numbers_taken keys (order ∷ orders) fits = (fits.0.numbers, numbers_taken (later_words keys) orders fits.1)

-- ---- an order is read again

pub order_again : ReadsAgain order_lines order_row FitsKeys
unfolding order_of_words
order_again [] order fits = let there = fits.there in absurd cc
order_again (key ∷ keys) order fits =
    let same : bytes_eq order.key key ≡ true = (bytes_eq-Decides order.key key).1 fits.key in
    (refl, rw (same, numbers_again order.ops fits.numbers, ← fits.key) refl)

-- where no key is due, no order is
pub no_key_due : (lines : List OpenLine) → is_next_due order_lines [] lines ≡ false
no_key_due [] = refl
no_key_due (line ∷ lines) = refl

-- orders of keys in a row fit them
pub orders_fit : (keys : List (List ℕ)) (orders : List Order) → map (λ (order : Order). order.key) orders ≡ keys → AllByRecursion (λ (order : Order). AllByRecursion IsTextNumber order.ops) orders
    → FitAlong order_lines FitsKeys keys orders × (state_after order_lines keys orders ≡ [])
orders_fit keys [] e numbers = (tt, sym e)
orders_fit [] (order ∷ orders) e numbers = absurd cc
orders_fit (key ∷ keys) (order ∷ orders) e numbers =
    let head : order.key ≡ key = ap first_word e in
    let tail : map (λ (order : Order). order.key) orders ≡ keys = ap later_words e in
    let more = orders_fit keys orders tail numbers.1 in
    ((record { there = refl; key = head; numbers = numbers.0 }, more.0), more.1)
