use Rattle.orders.proofs.laws.Orders.{Serving}
use Rattle.orders.proofs.serve_orders.Given as goal

abbrev pub invariant-loop-order : goal.invariant-loop-order
invariant-loop-order l = Serving 10 l.set l.initial.w l.initial.orders l.initial.block l.w l.orders l.block l.order-index
