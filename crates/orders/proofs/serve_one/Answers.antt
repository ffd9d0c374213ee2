-- `orders::serve_one` meets its contract. Each order has a law of `laws.Orders`, whose premises are the tests on the way and what the call that it
-- is ensures: a move of one lookup over the table of the count (`one_served`), a fetch, which makes no lookup (`fetch_served`), and else a move to a stop (`stop_served`).
-- Assumes nothing.
use mathlib.Core.Path.{sym}
use Rattle.layout.proofs.laws.Cases.{starred}
use Rattle.orders.proofs.laws.Orders.{one_served, fetch_served, stop_served}
use Rattle.orders.proofs.serve_one.Goals as goal

pub returns-then-order-eq-ONE_LOOKUP : goal.returns-then-order-eq-ONE_LOOKUP
returns-then-order-eq-ONE_LOOKUP c = search one_served

pub returns-then-order-eq-FETCH : goal.returns-then-order-eq-FETCH
returns-then-order-eq-FETCH c = fetch_served (search) (search) (sym starred.no_lookup) (search)

pub returns : goal.returns
returns c = search stop_served
