-- The report of a trace: its history, an order for each key that a put, a get, a delete or a swap names, and the clouds that hold the current versions.
use Rattle.std.specs.Prelude.{ℕ, List, map}
use Rattle.std.specs.List.{filter_map}
use Rattle.hy_order.specs.declared.order.Order.{Order}
use Rattle.hy_order.specs.declared.report.Report.{Report}
use Rattle.hy_order.specs.Keys.{register_keys, sorted_keys}
use Rattle.hy_trace.specs.Deeds.{Params, Deed}
use Rattle.hy_trace.specs.History.{history_of}
use Rattle.hy_trace.specs.Order.{linearization_of}
use Rattle.hy_trace.specs.Held.{held_of}

-- the order of a key
abbrev pub order_of : Params → List Deed → List ℕ → Order
order_of p t key = record { key = key; ops = linearization_of p t key }

-- the keys of the trace's puts, gets, deletes and swaps, each once, in byte order
abbrev pub keys_of : Params → List Deed → List (List ℕ)
keys_of p t = sorted_keys (register_keys (history_of p t))

-- the report
abbrev pub report_of : Params → List Deed → Report
report_of p t =
    record {
      history = history_of p t;
      orders = map (order_of p t) (keys_of p t);
      held = filter_map (held_of p t) (keys_of p t);
    }
