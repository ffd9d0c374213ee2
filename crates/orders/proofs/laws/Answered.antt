-- Laws, not definitions: orders over a made set are lent as demand 3 asks. By induction over the orders: the count of the walk is the plain count, so a
-- single lookup is lent the set's table whose number is the plain count; a move to a stop is lent the set.
-- Assumes nothing.
use mathlib.Core.Bool.{Bool, true, false, cond}
use mathlib.Core.List.{List, [], ◌∷◌}
use mathlib.Core.Logic.{inl, inr}
use mathlib.Core.Path.{◌≡◌, refl, ap, ◌∙◌, subst}
use Prim.Native.Nat.{ℕ, ◌≤◌, ◌<◌}
use native.Mathlib.Decide.{dec_lt}
use native.Mathlib.Omega.{arith}
use lib.Dec.{eqb}
use Rattle.round.specs.Key.{rounds_of}
use Rattle.layout.specs.Stages.{lookups}
use Rattle.calls.specs.Calls.{Held, table_part, Call, to_stop, one_lookup, fetch, handed, block_left, started, serve, last_walk}
use Rattle.calls.specs.PlainCount.{args_of, plain, LentCall, Lent}
use Rattle.calls.proofs.laws.Calls.{next_le, start_count, counted}
use Rattle.whitebox.specs.Bundles.{made_set, made_table}
use Rattle.whitebox.specs.Demand3.{Presented}
use Rattle.whitebox.proofs.laws.Demands.{demand3_for}
use Rattle.whitebox.proofs.laws.Joined.{made_in_set}
use Rattle.demands.proofs.laws.Demands.{presented}
use Rattle.orders.specs.Orders.{one_order, fetch_order, call_for, block_behind, last_block, numbers_of, calls_of}
use Rattle.orders.specs.Answered.{OrdersAnswered, Orders128}

-- ---- any tables that are the set's parts
module _ (nr : ℕ) (tables : ℕ → List ℕ) (set : List ℕ) (parts : (n : ℕ) → n < lookups nr → table_part nr set n ≡ tables n) where
  lent_one : (n : ℕ) → n ≤ lookups nr → LentCall nr tables set (one_lookup (table_part nr set n)) n
  lent_one n h = elim (dec_lt n (lookups nr)) [
    | yes l ↦ inr (inl (parts n l))
    | no l ↦ inl (omega arith)
  ]

  lent_call : (o n : ℕ) (block : List ℕ) → n ≤ lookups nr → LentCall nr tables set (call_for nr set o n block) n
  unfolding call_for
  lent_call o n block h = by (eqb o one_order) (eqb o fetch_order)
    where
      by : (a b : Bool) → LentCall nr tables set (cond a (one_lookup (table_part nr set n)) (cond b (fetch block) (to_stop set o))) n
      by true b = lent_one n h
      by false true = tt
      by false false = inl refl

  lent_calls : (os : List ℕ) (w : Held) (block : List ℕ) → w.state.count ≤ lookups nr
      → Lent nr tables set w.state.count (calls_of nr set w block os)
  unfolding calls_of
  lent_calls [] w block h = tt
  lent_calls (o ∷ os) w block h =
      let n : ℕ = w.state.count in
      let c : Call = call_for nr set o n block in
      let v : Held = handed nr c w in
      let same : v.state.count ≡ (plain nr (args_of c) n).count = counted nr c w h in
      let within : v.state.count ≤ lookups nr = rw same (next_le nr (args_of c) n h) in
      let left : List ℕ = block_behind c (block_left nr c w) block in
      (lent_call o n block h, subst (λ (k : ℕ). Lent nr tables set k (calls_of nr set v left os)) same (lent_calls os v left within))

-- ---- the set of a cipher, a key and an accepted bundle, from an accepted start for that cipher
pub orders_answered : (nk : ℕ) → OrdersAnswered nk
orders_answered nk c key l x given o begun orders lent r written left all =
    let nr : ℕ = rounds_of nk in
    let set : List ℕ = made_set c nk key l in
    let p : Presented x = presented c x o begun in
    let cs : List Call = calls_of nr set (started c x) lent orders in
    let zero = start_count c x in
    let lent-cs : Lent nr (made_table c nk key l) set 0 cs =
    subst (λ (k : ℕ). Lent nr (made_table c nk key l) set k cs) zero
    (lent_calls nr (made_table c nk key l) set (made_in_set nk c key l).part orders (started c x) lent (omega arith)) in
    let due = (demand3_for nk).calls c key l x given p cs lent-cs in
    record {
      lent_calls = lent-cs;
      numbers =
          all.numbers
          ∙ ap (λ (w : Held). numbers_of (serve nr w (calls_of nr set w lent orders))) begun.opens.walk
          ∙ ap numbers_of due.calls;
      block =
          all.block
          ∙ ap (λ (w : Held). last_block lent (calls_of nr set w lent orders) (serve nr w (calls_of nr set w lent orders))) begun.opens.walk
          ∙ ap (last_block lent cs) due.calls;
      walk = all.walk ∙ ap (λ (w : Held). last_walk nr w (calls_of nr set w lent orders)) begun.opens.walk ∙ due.last;
    }

pub orders : Orders128
orders = orders_answered 4
