-- The plain count, word for word from document 01, "Lists of calls": it "is fed the calls' arguments only: stops and lengths. It starts at
-- 0." And which memory a list of calls may be lent, and what it must answer; the offsets are document 02's, Ticket 2. Definitions only.
use Rattle.std.specs.Prelude.{cond, ◌||◌, List, [], ◌∷◌, ◌⊎◌, ◌≢◌, ◌≡◌, ℕ, suc, ◌-◌, eqb, ltb, length}
use Rattle.answers.specs.Answers.{Reply, accepted, refused}
use Rattle.layout.specs.Stages.{lookups, set_bytes, nowhere, table_size}
use Rattle.calls.specs.Calls.{Held, Call, to_stop, one_lookup, fetch, place_read, Served}

-- A call's arguments: the length of the lent memory and the stop; the length of the lent table; the length of the lent block.
pub data Args : Type 0 where
  stop_args : ℕ → ℕ → Args
  one_args : ℕ → Args
  fetch_args : ℕ → Args

abbrev pub args_of : Call → Args
args_of (to_stop mem stop) = stop_args (length mem) stop
args_of (one_lookup mem) = one_args (length mem)
args_of (fetch block) = fetch_args (length block)

-- What the plain count says of a call: the reply, and the count behind it.
pub record Counted : Type 0 where
  pub reply : Reply
  pub count : ℕ

module _ (nr : ℕ) where
  unfoldable pub plain : Args → ℕ → Counted
  -- "Move to a stop: a length other than the set's is refused with 9. Else a stop above 3,008 or below the count is refused with 11. Else
  -- the count becomes the stop."
  plain (stop_args len stop) n =
      cond (eqb len (set_bytes nr))
      (cond (ltb (lookups nr) stop || ltb stop n) (record { reply = refused 11 0; count = n }) (record { reply = accepted; count = stop }))
      (record { reply = refused 9 0; count = n })
  -- "Move of one look-up: at 3,008 it is refused with 11. Else a length other than that table's is refused with 9. Else the count grows by
  -- one."
  plain (one_args len) n =
      cond (eqb n (lookups nr)) (record { reply = refused 11 0; count = n })
      (cond (eqb len (table_size nr n)) (record { reply = accepted; count = suc n }) (record { reply = refused 9 0; count = n }))
  -- "Fetch: a block not of 16 bytes is refused with 10. Else a count other than 3,008 is refused with 12. Else it is accepted." "A fetch and
  -- a refused call leave the count."
  plain (fetch_args len) n =
      cond (eqb len 16)
      (cond (eqb n (lookups nr)) (record { reply = accepted; count = n }) (record { reply = refused 12 0; count = n }))
      (record { reply = refused 10 0; count = n })

  unfoldable pub plain_count : ℕ → List Args → ℕ
  plain_count n [] = n
  plain_count n (a ∷ rest) = plain_count (plain a n).count rest

  -- ---- what may be lent, along the plain count
  -- "A move to a stop is lent this set or any memory of another length. A move of one look-up is lent the set's table whose number is the
  -- count, or any memory of another length; at 3,008, any memory." "A fetch is lent a block of any length."
  module _ (tables : ℕ → List ℕ) (set : List ℕ) where
    abbrev pub LentCall : Call → ℕ → Type 0
    LentCall (to_stop mem stop) n = (mem ≡ set) ⊎ (length mem ≢ set_bytes nr)
    LentCall (one_lookup mem) n = (n ≡ lookups nr) ⊎ ((mem ≡ tables n) ⊎ (length mem ≢ table_size nr n))
    LentCall (fetch block) n = Unit {0}

    abbrev pub Lent : ℕ → List Call → Type 0
    Lent n [] = Unit {0}
    Lent n (c ∷ cs) = LentCall c n × Lent (plain (args_of c) n).count cs

  -- ---- what a list of calls must answer, from the plain count n on: `walks` gives the walk at each count, `answer` the answer block
  module _ (walks : ℕ → Held) (answer : List ℕ) where
    abbrev pub block_for : Reply → List ℕ → List ℕ
    block_for accepted block = answer
    block_for (refused c i) block = block

    abbrev pub block_due : Call → ℕ → List ℕ
    block_due (to_stop mem stop) n = []
    block_due (one_lookup mem) n = []
    block_due (fetch block) n = block_for (plain (fetch_args (length block)) n).reply block

    -- A call behind which the plain count has grown from n to n' made lookup n' - 1 last, and passes on where that one reads in the walk due before it.
    -- Where the count has not grown none was made.
    abbrev pub offset_due : ℕ → ℕ → ℕ
    offset_due n n' = cond (ltb n n') (place_read nr (walks (n' - 1))).offset (nowhere nr)

    unfoldable pub due_served : ℕ → List Call → List Served
    due_served n [] = []
    due_served n (c ∷ cs) =
        let p = plain (args_of c) n in
        record { reply = p.reply; walk = walks p.count; offset = offset_due n p.count; block = block_due c n } ∷ due_served p.count cs

-- ---- two lists of calls that are compared: "start, stops, lengths and blocks are the same and each list of calls is lent its own set"
abbrev pub AlikeCall : Call → Call → Type 0
AlikeCall (to_stop mem stop) (to_stop mem' stop') = (length mem ≡ length mem') × (stop ≡ stop')
AlikeCall (to_stop mem stop) (one_lookup mem') = ⊥
AlikeCall (to_stop mem stop) (fetch block') = ⊥
AlikeCall (one_lookup mem) (to_stop mem' stop') = ⊥
AlikeCall (one_lookup mem) (one_lookup mem') = length mem ≡ length mem'
AlikeCall (one_lookup mem) (fetch block') = ⊥
AlikeCall (fetch block) (to_stop mem' stop') = ⊥
AlikeCall (fetch block) (one_lookup mem') = ⊥
AlikeCall (fetch block) (fetch block') = block ≡ block'

abbrev pub Alike : List Call → List Call → Type 0
Alike [] [] = Unit {0}
Alike [] (c ∷ cs) = ⊥
Alike (c ∷ cs) [] = ⊥
Alike (c ∷ cs) (c' ∷ cs') = AlikeCall c c' × Alike cs cs'

-- What is compared, call by call: "refusals, counts and answer blocks". The offsets are not: other codings read other entries.
pub record Seen : Type 0 where
  pub reply : Reply
  pub count : ℕ
  pub block : List ℕ

abbrev pub seen : Served → Seen
seen s = record { reply = s.reply; count = s.walk.state.count; block = s.block }
