-- The lines of a report, joined from the pieces in which they are written.
use Rattle.std.proofs.Common.{◌≡◌, ℕ, List, [], ◌∷◌, ◌++◌, map, ap, sym, ◌∙◌, append_assoc, append-nil}
use Rattle.std.specs.Prelude.{codes}
use Rattle.std.specs.Fmt.{decimal}
use Rattle.hy_record.specs.Clouds.{clouds_of}
use Rattle.hy_text.specs.Line.{line_text, led_by, spaced}
use Rattle.hy_order.specs.declared.held.Held.{Held}
use Rattle.hy_order.specs.declared.operation.Operation.{Operation}
use Rattle.hy_order.specs.declared.order.Order.{Order}
use Rattle.hy_text.specs.Action.{action_words}
use Rattle.hy_text.specs.Clouds.{cloud_word}
use Rattle.hy_text.specs.Stamp.{stamp_words}
use Rattle.hy_order.specs.Report.{operation_row, order_row, held_row, end_words}
use Rattle.hy_text.proofs.Spaced.{led_by-append, line_text-cons}

-- words after the first, written group by group
line_of_groups : (old first a b c d : List ℕ) (words : List (List ℕ)) → spaced words ≡ a ++ (b ++ (c ++ d))
    → (((((old ++ first) ++ a) ++ b) ++ c) ++ d) ++ 10 ∷ [] ≡ old ++ line_text (first ∷ words)
line_of_groups old first a b c d words groups =
    let regrouped : (((((old ++ first) ++ a) ++ b) ++ c) ++ d) ++ 10 ∷ [] ≡ old ++ (first ++ ((a ++ (b ++ (c ++ d))) ++ 10 ∷ [])) = simp append_assoc in
    regrouped ∙ ap (λ line. old ++ (first ++ (line ++ 10 ∷ []))) (sym groups) ∙ ap (λ line. old ++ line) (sym (line_text-cons first words))

operation_line_joined : (old : List ℕ) (op : Operation) →
    (((((old ++ codes "op") ++ (32 ∷ decimal op.number ++ 32 ∷ decimal op.client)) ++ spaced (action_words op.action)) ++ 32 ∷ decimal op.invoked) ++ spaced (end_words op.end)) ++ 10 ∷ []
    ≡ old ++ line_text (operation_row op)
operation_line_joined old op =
    let words : List (List ℕ) = decimal op.number ∷ decimal op.client ∷ (action_words op.action ++ (decimal op.invoked ∷ end_words op.end)) in
    let groups : spaced words ≡ (32 ∷ decimal op.number ++ 32 ∷ decimal op.client) ++ (spaced (action_words op.action) ++ (32 ∷ decimal op.invoked ++ spaced (end_words op.end))) =
    simp (led_by-append, append_assoc) in
    line_of_groups old (codes "op") (32 ∷ decimal op.number ++ 32 ∷ decimal op.client) (spaced (action_words op.action)) (32 ∷ decimal op.invoked) (spaced (end_words op.end)) words groups

pub operation_line : (op : Operation) (old x1 x2 x3 x4 x5 x6 x7 : List ℕ)
    → x1 ≡ old ++ codes "op" → x2 ≡ x1 ++ 32 ∷ decimal op.number → x3 ≡ x2 ++ 32 ∷ decimal op.client
    → x4 ≡ x3 ++ spaced (action_words op.action) → x5 ≡ x4 ++ 32 ∷ decimal op.invoked → x6 ≡ x5 ++ spaced (end_words op.end)
    → x7 ≡ x6 ++ 10 ∷ [] → x7 ≡ old ++ line_text (operation_row op)
operation_line op old x1 x2 x3 x4 x5 x6 x7 e1 e2 e3 e4 e5 e6 e7 =
    cc (operation_line_joined old op, append_assoc (old ++ codes "op") (32 ∷ decimal op.number) (32 ∷ decimal op.client))

order_line_joined : (old : List ℕ) (order : Order) →
    (((((old ++ codes "order") ++ 32 ∷ order.key) ++ led_by 32 (map decimal order.ops)) ++ []) ++ []) ++ 10 ∷ [] ≡ old ++ line_text (order_row order)
order_line_joined old order =
    let groups : spaced (order.key ∷ map decimal order.ops) ≡ (32 ∷ order.key) ++ (led_by 32 (map decimal order.ops) ++ ([] ++ [])) = simp append-nil in
    line_of_groups old (codes "order") (32 ∷ order.key) (led_by 32 (map decimal order.ops)) [] [] (order.key ∷ map decimal order.ops) groups

pub order_line : (order : Order) (old x1 x2 x3 x4 : List ℕ)
    → x1 ≡ old ++ codes "order" → x2 ≡ x1 ++ 32 ∷ order.key → x3 ≡ x2 ++ led_by 32 (map decimal order.ops)
    → x4 ≡ x3 ++ 10 ∷ [] → x4 ≡ old ++ line_text (order_row order)
order_line order old x1 x2 x3 x4 e1 e2 e3 e4 =
    let whole : x4 ≡ ((x3 ++ []) ++ []) ++ 10 ∷ [] = rw (append-nil, append-nil) e4 in
    cc (order_line_joined old order)

held_line_joined : (old : List ℕ) (held : Held) →
    (((((old ++ codes "held") ++ 32 ∷ held.key) ++ spaced (stamp_words held.stamp)) ++ 32 ∷ cloud_word (clouds_of held.clouds)) ++ []) ++ 10 ∷ [] ≡ old ++ line_text (held_row held)
held_line_joined old held =
    let words : List (List ℕ) = held.key ∷ (stamp_words held.stamp ++ cloud_word (clouds_of held.clouds) ∷ []) in
    let groups : spaced words ≡ (32 ∷ held.key) ++ (spaced (stamp_words held.stamp) ++ (32 ∷ cloud_word (clouds_of held.clouds) ++ [])) =
    ap (λ rest. 32 ∷ held.key ++ rest) (led_by-append 32 (stamp_words held.stamp) (cloud_word (clouds_of held.clouds) ∷ [])) in
    line_of_groups old (codes "held") (32 ∷ held.key) (spaced (stamp_words held.stamp)) (32 ∷ cloud_word (clouds_of held.clouds)) [] words groups

pub held_line : (held : Held) (old x1 x2 x3 x4 x5 : List ℕ)
    → x1 ≡ old ++ codes "held" → x2 ≡ x1 ++ 32 ∷ held.key → x3 ≡ x2 ++ spaced (stamp_words held.stamp)
    → x4 ≡ x3 ++ 32 ∷ cloud_word (clouds_of held.clouds) → x5 ≡ x4 ++ 10 ∷ [] → x5 ≡ old ++ line_text (held_row held)
held_line held old x1 x2 x3 x4 x5 e1 e2 e3 e4 e5 =
    let whole : x5 ≡ (x4 ++ []) ++ 10 ∷ [] = rw append-nil e5 in
    cc (held_line_joined old held)
