-- A list of calls as numbers: orders, served one after the other from a held walk over one lent memory. Which calls they are, and what serving
-- them answers. Definitions only.
use Rattle.std.specs.Prelude.{cond, List, [], ◌∷◌, map, ◌≡◌, ℕ, eqb}
use Rattle.answers.specs.Answers.{returned}
use Rattle.calls.specs.Calls.{Held, table_part, Call, to_stop, one_lookup, fetch, handed, block_left, Served, serve, last_walk}
use Rattle.evaluate.specs.Promises.{Moves}
use Rattle.evaluate.specs.Held.{held}
use Rattle.evaluate.specs.declared.walk.Move.{Move}
use Rattle.evaluate.specs.declared.walk.Walk.{Walk}

-- The two orders that are no stop: the greatest numbers of 64 bits. As stops they would be refused.
abbrev pub one_order : ℕ
one_order = 18446744073709551615

abbrev pub fetch_order : ℕ
fetch_order = 18446744073709551614

-- Which call an order is over the memory `set`, for a walk at count n, where the lent block holds `block`: a move of one lookup over the part
-- where the count's table stands, as far as the memory goes, a fetch into the block, or a move to the stop that the order is.
unfoldable pub call_for : ℕ → List ℕ → ℕ → ℕ → List ℕ → Call
call_for nr set order n block =
    cond (eqb order one_order) (one_lookup (table_part nr set n)) (cond (eqb order fetch_order) (fetch block) (to_stop set order))

-- The lent block behind a call that left it so: a move is lent none, and does not touch it.
abbrev pub block_behind : Call → List ℕ → List ℕ → List ℕ
block_behind (to_stop mem stop) left block = block
block_behind (one_lookup mem) left block = block
block_behind (fetch lent) left block = left

-- Behind a list of calls and what they answered: as the last fetch left it.
unfoldable pub last_block : List ℕ → List Call → List Served → List ℕ
last_block block [] ss = block
last_block block (c ∷ cs) [] = block
last_block block (c ∷ cs) (s ∷ ss) = last_block (block_behind c s.block block) cs ss

-- The numbers returned, call by call, as the calls for C do.
abbrev pub numbers_of : List Served → List ℕ
numbers_of ss = map (λ (s : Served). returned s.reply) ss

module _ (nr : ℕ) (set : List ℕ) where
  -- The calls that orders are, from the walk w on. The list follows the walk and the block, for a single lookup's table goes by the count and a
  -- fetch is lent the block as it then is.
  unfoldable pub calls_of : Held → List ℕ → List ℕ → List Call
  calls_of w block [] = []
  calls_of w block (o ∷ os) =
      let c = call_for nr set o w.state.count block in c ∷ calls_of (handed nr c w) (block_behind c (block_left nr c w) block) os

  -- ---- the contracts
  -- One order is served: the call that it is, as `move_to` and `move_one` answer, or with the answer of `fetch`, the walk left and the offset
  -- of no lookup, and the block.
  pub record OneServed (order : ℕ) (w : Walk) (lent : List ℕ) (r : Move) (left : List ℕ) : Type 0 where
    pub moves : Moves nr (call_for nr set order w.count lent) w r
    pub block :
        left ≡ block_behind (call_for nr set order w.count lent) (block_left nr (call_for nr set order w.count lent) (held w)) lent

  -- All of them: the last walk, in the place of each order the number that its reply is returned as, and the block.
  pub record AllServed (w : Walk) (orders lent : List ℕ) (r : Walk) (written left : List ℕ) : Type 0 where
    pub walk : held r ≡ last_walk nr (held w) (calls_of (held w) lent orders)
    pub numbers : written ≡ numbers_of (serve nr (held w) (calls_of (held w) lent orders))
    pub block : left ≡ last_block lent (calls_of (held w) lent orders) (serve nr (held w) (calls_of (held w) lent orders))
