-- The line of an operation: what is read is the row of an operation in range, with an end that its action can have.
use Rattle.std.proofs.Common.{◌≡◌, ℕ, ◌+◌, ◌≤◌, min, true, IsTrue, List, [], ◌∷◌, ◌++◌, Ok, refl, sym, ap, subst, ◌∙◌, arith, append-nil}
use Rattle.std.specs.Prelude.{codes}
use Rattle.std.specs.List.{AllByRecursion}
use Rattle.std.specs.Fmt.{decimal}
use Rattle.std.proofs.lemmas.Slice.Eq.{bytes_eq-Decides}
use Rattle.hy_text.specs.Line.{first_word, later_words}
use Rattle.hy_text.specs.Slot.{number_of, end_of}
use Rattle.hy_base.proofs.Results.{bind_ok, ok_is}
use Rattle.hy_text.proofs.Slots as slots
use Rattle.hy_record.specs.declared.action.Action.{Action}
use Rattle.hy_record.specs.declared.action.Action.TheVariants as asked
use Rattle.hy_order.specs.declared.operation.Operation.{Operation}
use Rattle.hy_order.specs.declared.report.TheConstants.{LAST_STEP}
use Rattle.hy_order.specs.History.{IsHistory, IsNumberedFrom, is_own_key, is_end_of}
use Rattle.hy_text.specs.Kind.{items_from}
use Rattle.hy_text.specs.OpenLine.{OpenLine, Rest}
use Rattle.hy_base.specs.declared.limits.TheConstants.{MAX_COUNT}
use Rattle.hy_text.specs.Action.{action_words, IsTextAction, action_from}
use Rattle.hy_text.specs.declared.action.Verbs.TheVariants.{All}
use Rattle.hy_order.specs.Report.{end_words, operation_row}
use Rattle.hy_order.specs.ReportRanges.{IsTextOperation, AreTextOperations}
use Rattle.hy_order.specs.ReportReading.{Before, operation_of_words, operation_lines}
use Rattle.hy_order.specs.WordReaders.{number_after, end_from}
use Rattle.hy_text.proofs.Numbers.{number_again}
use Rattle.hy_text.proofs.Groups.{number_first, action_takes, action_again}
use Rattle.hy_order.proofs.EndRows.{end_takes, end_again}
use Rattle.hy_text.proofs.ItemRows.{Takes, ReadsAgain, AreLinesOf, FitAlong, items_take}

-- the words after the keyword are those of the operation, which is in range and has the next number
pub record SpellsOperation (last step : ℕ) (words : List (List ℕ)) (op : Operation) : Type 0 where
  pub row : codes "op" ∷ words ≡ operation_row op
  pub range : IsTextOperation step op
  pub number : op.number ≡ last + 1
  pub can : is_end_of op.action op.end ≡ true

pub operation_takes : (last step : ℕ) (words : List (List ℕ)) (op : Operation) → operation_of_words last step words ≡ Ok op → SpellsOperation last step words op
unfolding operation_of_words
operation_takes last step words op e =
    let second : List (List ℕ) = later_words words in
    let number = bind_ok (number_after last (first_word words)) _ op e in
    let client = bind_ok (number_of 1 MAX_COUNT (first_word second)) _ op number.2 in
    let action = bind_ok (action_from All MAX_COUNT (later_words second)) _ op client.2 in
    let invoked = bind_ok (number_of (step + 1) LAST_STEP (first_word action.0.1)) _ op action.2 in
    let end = bind_ok (end_from action.0.0 invoked.0 (later_words action.0.1)) _ op invoked.2 in
    let none = bind_ok (end_of end.0.1) (λ _. Ok (record { number = number.0; client = client.0; action = action.0.0; invoked = invoked.0; end = end.0.0 })) op end.2 in
    let n = number_first (last + 1) (min (last + 1) MAX_COUNT) words number.0 (omega arith) number.1 in
    let c = number_first 1 MAX_COUNT second client.0 (omega arith) client.1 in
    let a = action_takes All MAX_COUNT (later_words second) action.0 (omega arith) action.1 in
    let i = number_first (step + 1) LAST_STEP action.0.1 invoked.0 (omega arith) invoked.1 in
    let t = end_takes action.0.0 invoked.0 (later_words action.0.1) end.0 end.1 in
    let rest : later_words action.0.1 ≡ end_words end.0.0 = t.row ∙ ap (λ (ws : List (List ℕ)). end_words end.0.0 ++ ws) (slots.end_takes end.0.1 none.0 none.1) ∙ append-nil (end_words end.0.0) in
    let row : words ≡ decimal number.0 ∷ decimal client.0 ∷ (action_words action.0.0 ++ (decimal invoked.0 ∷ end_words end.0.0)) =
    n.row ∙ ap (λ (ws : List (List ℕ)). decimal number.0 ∷ ws) (c.row ∙ ap (λ (ws : List (List ℕ)). decimal client.0 ∷ ws)
    (a.row ∙ ap (λ (ws : List (List ℕ)). action_words action.0.0 ++ ws) (i.row ∙ ap (λ (ws : List (List ℕ)). decimal invoked.0 ∷ ws) rest))) in
    subst (SpellsOperation last step words) (ok_is (record { number = number.0; client = client.0; action = action.0.0; invoked = invoked.0; end = end.0.0 }) op none.2)
    (record {
      row = ap (λ (ws : List (List ℕ)). codes "op" ∷ ws) row;
      range = record {
        number = omega (arith, n.high_end);
        client_low = c.low_end;
        client_high = c.high_end;
        action = a.fits;
        invoked_low = omega (arith, i.low_end);
        invoked_high = i.high_end;
        end = t.fits.range;
      };
      number = omega (arith, n.low_end, n.high_end);
      can = t.fits.can;
    })

-- ---- all lines of operations

-- the operation is in range, has the next number, and an end that its action can have
pub record FitsAfter (before : Before) (op : Operation) : Type 0 where
  pub range : IsTextOperation before.step op
  pub number : op.number ≡ before.number + 1
  pub can : IsTrue (is_end_of op.action op.end)

-- nothing is asked of what stands before an operation
abbrev pub AnyBefore : Before → Type 0
AnyBefore before = Unit {0}

operation_line_takes : Takes operation_lines operation_row FitsAfter AnyBefore
operation_line_takes before keyword words op holds due e =
    let spells = operation_takes before.number before.step words op e in
    let word : keyword ≡ codes "op" = (bytes_eq-Decides keyword (codes "op")).0 due in
    record {
      row = ap (λ (w : List ℕ). w ∷ words) word ∙ spells.row;
      fits = record { range = spells.range; number = spells.number; can = spells.can };
    }

pub operations_take : (number : ℕ) (lines : List OpenLine) (read : List Operation × Rest) → items_from operation_lines (record { number = 0; step = 0 }) number lines ≡ Ok read
    → AreLinesOf operation_lines operation_row FitsAfter (record { number = 0; step = 0 }) lines read
operations_take number lines read e = items_take operation_lines operation_row FitsAfter AnyBefore operation_line_takes (λ before op holds. tt) (record { number = 0; step = 0 }) number lines read tt e

-- an action in range has a key of its own kind
own_key : (action : Action) → IsTextAction MAX_COUNT action → IsTrue (is_own_key action)
own_key (asked.Put key value) fits = fits.0.kind
own_key (asked.Get key) fits = refl
own_key (asked.Delete key) fits = fits.kind
own_key (asked.Collect key) fits = refl
own_key (asked.Swap key expected value) fits = fits.0.kind

pub own_keys : (step : ℕ) (ops : List Operation) → AreTextOperations step ops → AllByRecursion (λ op. IsTrue (is_own_key op.action)) ops
own_keys step [] range = tt
own_keys step (op ∷ ops) range = (own_key op.action range.0.action, own_keys op.invoked ops range.1)

-- what each operation fits makes a history of them
pub record AreOperations (before : Before) (ops : List Operation) : Type 0 where
  pub numbered : IsNumberedFrom (before.number + 1) ops
  pub ends : AllByRecursion (λ op. IsTrue (is_end_of op.action op.end)) ops
  pub range : AreTextOperations before.step ops

pub operations_from_fits : (before : Before) (ops : List Operation) → FitAlong operation_lines FitsAfter before ops → AreOperations before ops
operations_from_fits before [] fits = record { numbered = tt; ends = tt; range = tt }
operations_from_fits before (op ∷ ops) fits =
    let more = operations_from_fits (record { number = op.number; step = op.invoked }) ops fits.1 in
    record {
      numbered = (fits.0.number, subst (λ (n : ℕ). IsNumberedFrom (n + 1) ops) fits.0.number more.numbered);
      ends = (fits.0.can, more.ends);
      range = (fits.0.range, more.range);
    }

pub is_history : (number : ℕ) (lines : List OpenLine) (read : List Operation × Rest) → items_from operation_lines (record { number = 0; step = 0 }) number lines ≡ Ok read → IsHistory read.0
is_history number lines read e =
    let all = operations_from_fits (record { number = 0; step = 0 }) read.0 (operations_take number lines read e).fits in
    record { numbered = all.numbered; keys = own_keys 0 read.0 all.range; ends = all.ends }

-- ---- an operation is read again

number_after_again : (last number : ℕ) → number ≡ last + 1 → number ≤ MAX_COUNT → number_after last (decimal number) ≡ Ok number
number_after_again last number next high =
    let low : last + 1 ≤ number = omega arith in
    let top : number ≤ min (last + 1) MAX_COUNT = omega arith in
    number_again (last + 1) (min (last + 1) MAX_COUNT) number (omega arith) low top

pub operation_again : ReadsAgain operation_lines operation_row FitsAfter
unfolding operation_of_words
operation_again before op fits =
    let range = fits.range in
    let client_low : 1 ≤ op.client = range.client_low in
    let client_high : op.client ≤ MAX_COUNT = range.client_high in
    let invoked_low : before.step + 1 ≤ op.invoked = omega (arith, range.invoked_low) in
    let invoked_high : op.invoked ≤ LAST_STEP = range.invoked_high in
    let number = number_after_again before.number op.number fits.number range.number in
    let client = number_again 1 MAX_COUNT op.client (omega arith) client_low client_high in
    let action = action_again All MAX_COUNT op.action (decimal op.invoked ∷ end_words op.end) (omega arith) refl range.action in
    let invoked = number_again (before.step + 1) LAST_STEP op.invoked (omega arith) invoked_low invoked_high in
    let end : end_from op.action op.invoked (end_words op.end) ≡ Ok (op.end, []) =
    ap (end_from op.action op.invoked) (sym (append-nil (end_words op.end))) ∙ end_again op.action op.invoked op.end [] range.end fits.can in
    (refl, rw (number, client, action, invoked, end) refl)

-- operations of a history in range fit what stands before them
pub operations_fit : (before : Before) (ops : List Operation) → IsNumberedFrom (before.number + 1) ops → AllByRecursion (λ op. IsTrue (is_end_of op.action op.end)) ops → AreTextOperations before.step ops
    → FitAlong operation_lines FitsAfter before ops
operations_fit before [] numbered ends range = tt
operations_fit before (op ∷ ops) numbered ends range = (
  record { range = range.0; number = numbered.0; can = ends.0 },
  operations_fit (record { number = op.number; step = op.invoked }) ops (subst (λ (n : ℕ). IsNumberedFrom (n + 1) ops) (sym numbered.0) numbered.1) ends.1 range.1,
)
