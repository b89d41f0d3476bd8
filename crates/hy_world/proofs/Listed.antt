-- Each current version with a value is listed in the report, since the history names each key that has a record.
use Rattle.std.proofs.Common.{◌≡◌, ℕ, Bool, true, false, List, [], ◌∷◌, reverse, Option, Some, None, refl, ap, ◌∙◌, inl, inr}
use Rattle.std.specs.Prelude.{◌⊎◌, ◌||◌}
use Rattle.std.specs.List.{filter_map, cons_option}
use Rattle.std.specs.Str.{bytes_eq}
use Rattle.std.specs.Cmp.Lexicographic.{bytes_decides}
use Rattle.std.proofs.lemmas.Bool.{false≢true}
use Rattle.hy_record.specs.Record.{RecordValue, is_tombstone}
use Rattle.hy_record.specs.Clouds.{set_of}
use Rattle.hy_meta.specs.Service.{record_after}
use Rattle.hy_meta.proofs.Writes.{record-of_attempt}
use Rattle.hy_meta.proofs.Lasting.{applied-tried}
use Rattle.hy_order.specs.declared.held.Held.{Held}
use Rattle.hy_order.specs.declared.operation.Operation.{Operation}
use Rattle.hy_order.specs.Keys.{register_key, register_keys, sorted_keys}
use Rattle.hy_order.proofs.SortedKeys.{has_key, has_key-insert_key, has_key-after_insert}
use Rattle.hy_trace.specs.Deeds.{Params, Deed, served}
use Rattle.hy_trace.specs.Trace.{IsTrace}
use Rattle.hy_trace.specs.Held.{holders_of, held_of, held_with, held_by}
use Rattle.hy_trace.specs.History.{Begun, begun_of, operation_of, history_of}
use Rattle.hy_trace.specs.Report.{keys_of, report_of}
use Rattle.hy_theorems.specs.Writing.{Change, Puts, Deletes, Swaps, change_action}
use Rattle.hy_theorems.proofs.Beginnings.{begun-in}
use Rattle.hy_theorems.proofs.Invariant.{tried-means, trace-holds}
use Rattle.hy_theorems.proofs.Listing.{IsIn, in-contains, in-map, in-reverse}
use Rattle.hy_world.specs.Promises.{ListsCurrent}

key-in : (keys : List (List ℕ)) (key : List ℕ) → has_key keys key ≡ true → IsIn keys key
key-in [] key is = absurd (false≢true is)
key-in (first ∷ others) key is = by_test (bytes_eq first key) refl is (λ there. key-in others key there)
  where
    by_test : (b : Bool) → bytes_eq first key ≡ b → (b || has_key others key) ≡ true → (has_key others key ≡ true → IsIn others key) → (first ≡ key) ⊎ IsIn others key
    by_test true same there later = inl ((bytes_decides first key).0 same)
    by_test false other there later = inr (later there)

-- the key of each operation on a register is among the keys
named-key : (ops : List Operation) (op : Operation) (key : List ℕ) → IsIn ops op → register_key op.action ≡ Some key → has_key (sorted_keys (register_keys ops)) key ≡ true
named-key [] op key is names = absurd is
named-key (first ∷ others) op key (inl is) names =
    (let key_is : register_key first.action ≡ Some key = ap (λ (x : Operation). register_key x.action) is ∙ names in
    rw key_is (has_key-insert_key key (sorted_keys (register_keys others))))
named-key (first ∷ others) op key (inr later) names = by_key (register_key first.action) (named-key others op key later names)
  where
    by_key : (o : Option (List ℕ)) → has_key (sorted_keys (register_keys others)) key ≡ true → has_key (sorted_keys (cons_option o (register_keys others))) key ≡ true
    by_key None is = is
    by_key (Some k) is = has_key-after_insert k key (sorted_keys (register_keys others)) is

change-names : (key : List ℕ) (change : Change) → register_key (change_action key change) ≡ Some key
change-names key (Puts value) = refl
change-names key Deletes = refl
change-names key (Swaps expected value) = refl

-- a key that has a record is named by the history
record-named : (p : Params) (t : List Deed) (key : List ℕ) (r : RecordValue) → IsTrace p t → record_after (served t) key ≡ Some r → IsIn (keys_of p t) key
unfolding history_of
record-named p t key r trace is =
    let of = record-of_attempt (served t) key r is in
    let by = tried-means p t of.attempt trace (trace-holds p t trace) (applied-tried (served t) of.attempt of.applied) in
    let b : Begun = record { client = of.attempt.client; op = of.attempt.op; start = by.start } in
    let there : IsIn (history_of p t) (operation_of p t b) = in-map (operation_of p t) (reverse (begun_of t)) b (in-reverse (begun_of t) b (begun-in of.attempt.client of.attempt.op t by.start by.began)) in
    let names : register_key by.start.action ≡ Some key = ap register_key by.action_is ∙ change-names of.attempt.key by.change ∙ ap (λ (k : List ℕ). Some k) of.key_is in
    key-in (keys_of p t) key (named-key (history_of p t) (operation_of p t b) key there names)

mapped-in : (h : List ℕ → Option Held) (keys : List (List ℕ)) (key : List ℕ) (held : Held) → IsIn keys key → h key ≡ Some held → IsIn (filter_map h keys) held
mapped-in h [] key held is held_is = absurd is
mapped-in h (first ∷ others) key held (inl is) held_is = (let first_is : h first ≡ Some held = ap h is ∙ held_is in rw first_is (inl refl))
mapped-in h (first ∷ others) key held (inr later) held_is = by_held (h first) (mapped-in h others key held later held_is)
  where
    by_held : (o : Option Held) → IsIn (filter_map h others) held → IsIn (cons_option o (filter_map h others)) held
    by_held None is = is
    by_held (Some other) is = inr is

pub lists-current : (p : Params) (t : List Deed) → IsTrace p t → ListsCurrent p t (report_of p t).held
lists-current p t trace = λ key r is value.
    let held : Held = record { key = key; stamp = r.stamp; clouds = set_of (holders_of p t key r) } in
    let held_is : held_of p t key ≡ Some held = ap (held_with p t key) is ∙ ap (held_by p t key r) value in
    in-contains (report_of p t).held held (mapped-in (held_of p t) (keys_of p t) key held (record-named p t key r trace is) held_is)
