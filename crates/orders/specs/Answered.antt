-- DEMAND 3 OF ORDERS: from the walk that an accepted start hands back, orders over a made set are calls lent as demand 3 asks, so what serving them
-- answers is the plain count's. The statement; it is proved in proofs/laws/Answered.antt.
use Rattle.std.specs.Prelude.{List, map, ◌≡◌, ℕ}
use Rattle.round.specs.Key.{rounds_of}
use Rattle.external.specs.Coding.{decode_input}
use Rattle.calls.specs.Calls.{Call, started}
use Rattle.calls.specs.PlainCount.{args_of, plain_count, Lent}
use Rattle.whitebox.specs.Bundles.{made_set, made_table, due_held}
use Rattle.whitebox.specs.Demand3.{Given, due_for}
use Rattle.demands.specs.Demands.{Begun}
use Rattle.evaluate.specs.Held.{held}
use Rattle.evaluate.specs.declared.walk.Opening.{Opening}
use Rattle.evaluate.specs.declared.walk.Walk.{Walk}
use Rattle.orders.specs.Orders.{calls_of, last_block, numbers_of, AllServed}

-- The orders are the calls cs, and were served with the walk r, the numbers `written` and the block `left` at the end.
pub record OrdersDue (c nk : ℕ) (key l x lent : List ℕ) (cs : List Call) (r : Walk) (written left : List ℕ) : Type 0 where
  pub lent_calls : Lent (rounds_of nk) (made_table c nk key l) (made_set c nk key l) 0 cs
  -- The numbers are those of the plain count's replies, and the block is what the last fetch must leave.
  pub numbers : written ≡ numbers_of (due_for c nk key l x cs)
  pub block : left ≡ last_block lent cs (due_for c nk key l x cs)
  -- The walk is the one due at the plain count.
  pub walk : held r ≡ due_held c nk key l (decode_input (rounds_of nk) l x) (plain_count (rounds_of nk) 0 (map args_of cs))

-- For every cipher, key of nk words, accepted bundle, accepted start, orders and lent block.
abbrev pub OrdersAnswered : ℕ → Type 0
OrdersAnswered nk =
    (c : ℕ) (key l x : List ℕ) → Given nk key l → (o : Opening) → Begun c x o → (orders lent : List ℕ) (r : Walk) (written left : List ℕ)
    → AllServed (rounds_of nk) (made_set c nk key l) o.walk orders lent r written left
    → OrdersDue c nk key l x lent (calls_of (rounds_of nk) (made_set c nk key l) (started c x) lent orders) r written left

-- AES-128: a key of 16 bytes, ten rounds, as `serve_orders` ensures.
abbrev pub Orders128 : Type 0
Orders128 = OrdersAnswered 4
