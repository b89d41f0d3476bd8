-- What a report is made of.
use Rattle.std.specs.Prelude.{ℕ, List}
use Rattle.hy_order.specs.declared.order.Order.{Order}

abbrev pub order_key : Order → List ℕ
order_key order = order.key
