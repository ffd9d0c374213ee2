-- `orders::serve_orders` meets its contract. The loop's invariant, `Serving` of `laws.Orders`: in the places of the orders served stand the numbers
-- returned, the other orders are as they were, and what these give from the walk and the block as they are is what is left of what all give. A turn
-- goes on by what `serve_one` ensures of the order at hand and `number` of its answer (`serving_more`); behind the last order none is left
-- (`serving_all`).
-- Assumes nothing.
use native.Mathlib.Omega.{arith}
use Rattle.orders.proofs.laws.Orders.{serving_more, serving_all}
use Rattle.orders.proofs.serve_orders.Goals as goal

pub loop-order-preserved : goal.loop-order-preserved
loop-order-preserved c =
    serving_more c.loop-order.invariant (omega arith) c.serve_one-m.ensures (search) c.number.ensures

pub returns : goal.returns
returns c = serving_all c.loop-order.invariant (omega arith)
