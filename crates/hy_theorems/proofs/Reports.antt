-- The report of a trace is linearizable.
use Rattle.std.proofs.Common.{◌≡◌, ℕ, Bool, true, false, List, [], ◌∷◌, map, Option, Some, None, refl, ap, ◌∙◌, inl, inr}
use Rattle.std.specs.Prelude.{◌||◌, IsTrue}
use Rattle.std.specs.List.{cons_option}
use Rattle.std.specs.Str.{bytes_eq}
use Rattle.std.proofs.lemmas.Bool.{false≢true}
use Rattle.hy_record.specs.declared.action.Action.{Action}
use Rattle.hy_record.specs.declared.action.Action.TheVariants as asked
use Rattle.hy_base.specs.Shape.{IsShape}
use Rattle.hy_order.specs.declared.operation.Operation.{Operation}
use Rattle.hy_order.specs.History.{key_of_action}
use Rattle.hy_order.specs.Keys.{sorted_keys}
use Rattle.hy_order.specs.Keys.{register_key, register_keys}
use Rattle.hy_order.specs.Linearization.{IsLinearized, IsReportLinearizable, acts_on_register, has_order}
use Rattle.hy_order.proofs.SortedKeys.{has_key, has_key-insert_key, has_key-after_insert}
use Rattle.hy_trace.specs.Deeds.{Params, Deed}
use Rattle.hy_trace.specs.Trace.{IsTrace}
use Rattle.hy_trace.specs.History.{history_of}
use Rattle.hy_trace.specs.Hashed.{IsCollisionFree, ArePutBytes}
use Rattle.hy_trace.specs.Report.{order_of, keys_of, report_of}
use Rattle.hy_theorems.proofs.Listing.{IsIn, all-in, all-over}
use Rattle.hy_theorems.proofs.Histories.{is-linearization}

keys-orders : (p : Params) (t : List Deed) (keys : List (List ℕ)) (key : List ℕ) → has_key keys key ≡ true → has_order (map (order_of p t) keys) key ≡ true
keys-orders p t [] key is = is
keys-orders p t (first ∷ others) key is = later (bytes_eq first key) is (λ e. keys-orders p t others key e)
  where
    later : (b : Bool) → (b || has_key others key) ≡ true → (has_key others key ≡ true → has_order (map (order_of p t) others) key ≡ true) → (b || has_order (map (order_of p t) others) key) ≡ true
    later true e rest = refl
    later false e rest = rest e

named-first : (a : Action) → acts_on_register a ≡ true → register_key a ≡ Some (key_of_action a)
named-first (asked.Put key v) is = refl
named-first (asked.Get key) is = refl
named-first (asked.Delete key) is = refl
named-first (asked.Swap key e v) is = refl
named-first (asked.Collect key) is = absurd (false≢true is)

-- the key of each put, get and delete is among the keys
named : (ops : List Operation) (op : Operation) → IsIn ops op → acts_on_register op.action ≡ true → has_key (sorted_keys (register_keys ops)) (key_of_action op.action) ≡ true
named [] op is acts = absurd is
named (first ∷ others) op (inl is) acts =
    (let key_is : register_key first.action ≡ Some (key_of_action op.action) = ap (λ (x : Operation). register_key x.action) is ∙ named-first op.action acts in
    rw key_is (has_key-insert_key (key_of_action op.action) (sorted_keys (register_keys others))))
named (first ∷ others) op (inr later) acts = by_key (register_key first.action) (named others op later acts)
  where
    by_key : (o : Option (List ℕ)) → has_key (sorted_keys (register_keys others)) (key_of_action op.action) ≡ true → has_key (sorted_keys (cons_option o (register_keys others))) (key_of_action op.action) ≡ true
    by_key None is = is
    by_key (Some k) is = has_key-after_insert k (key_of_action op.action) (sorted_keys (register_keys others)) is

pub is-linearizable : (p : Params) (t : List Deed) → IsTrace p t → IsShape p.f p.k → IsCollisionFree p t → ArePutBytes t → IsReportLinearizable (report_of p t)
is-linearizable p t trace shape free bytes_only = record {
  keys = all-in (λ op. IsTrue (acts_on_register op.action) → IsTrue (has_order (map (order_of p t) (keys_of p t)) (key_of_action op.action))) (history_of p t)
      (λ op is acts. keys-orders p t (keys_of p t) (key_of_action op.action) (named (history_of p t) op is acts));
  orders = all-over (IsLinearized (history_of p t)) (order_of p t) (keys_of p t) (all-in (λ key. IsLinearized (history_of p t) (order_of p t key)) (keys_of p t) (λ key is. is-linearization p t trace key shape free bytes_only));
}
