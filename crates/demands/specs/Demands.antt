-- DEMANDS 2 AND 3, AND THE ROUND TRIP, OF THE CALLS IN CODE, for a reader to hold against the mission. Crate whitebox states them of definitions, in its
-- specs/Demand2.antt, Demand3.antt and RoundTrip.antt; here they are stated of calls that meet the contracts of crate evaluate (its specs/Promises.antt), of
-- whole walks (Whole.antt) and of chains of calls (Chains.antt). Of demand 2 it is here that a whole walk leaves `walked_over`; that this is the cipher's block is
-- whitebox/specs/Demand2.antt, and of the bytes that the maker leaves tables/specs/Made.antt. Each statement is a type; proofs/laws/Demands.antt proves them.
use Rattle.std.specs.Prelude.{List, map, ◌≢◌, ◌≡◌, ℕ, ◌≤◌, length}
use Rattle.bits.specs.Bytes.{Bytes}
use Rattle.round.specs.Key.{rounds_of}
use Rattle.external.specs.Coding.{decode_input, SameOuter}
use Rattle.layout.specs.Stages.{lookups}
use Rattle.calls.specs.Calls.{to_stop}
use Rattle.calls.specs.PlainCount.{args_of, plain_count, Lent, Alike, seen}
use Rattle.whitebox.specs.Bundles.{made_set, made_table, due_held}
use Rattle.whitebox.specs.Demand3.{Given, Presented, Places, due_for}
use Rattle.external.specs.Coding.{Crossed}
use Rattle.evaluate.specs.Held.{held}
use Rattle.evaluate.specs.Promises.{Opens, Moves}
use Rattle.evaluate.specs.Whole.{WalkMade, WholeWalk}
use Rattle.evaluate.specs.Chains.{CallMade, call_of, served_in, last_in, Chain}
use Rattle.evaluate.specs.declared.walk.Move.{Move}
use Rattle.evaluate.specs.declared.walk.Opening.{Opening}
use Rattle.answers.specs.Answer.{Accepted}

-- ---- the round trip of document 02, Ticket 1: "walking one set and then the other gives back any presented block". Here `first` is what the first walk's
-- fetch left, which is presented to the second, and `last` what the second's left. The inverse set and the walks over it name their cipher by the numbers i' and i, any but 0.
pub record TripMade (nk i i' : ℕ) (key l l' x : List ℕ) : Type 0 where
  pub forward_first : (lent lent' first last : List ℕ) → length lent ≡ 16 → length lent' ≡ 16
      → WalkMade 0 (rounds_of nk) (made_set 0 nk key l) x lent first → WalkMade i (rounds_of nk) (made_set i' nk key l') first lent' last → last ≡ x
  pub inverse_first : (lent lent' first last : List ℕ) → length lent ≡ 16 → length lent' ≡ 16
      → WalkMade i (rounds_of nk) (made_set i' nk key l') x lent first → WalkMade 0 (rounds_of nk) (made_set 0 nk key l) first lent' last → last ≡ x

abbrev pub TripsMade : ℕ → Type 0
TripsMade nk =
    (i i' : ℕ) (key l l' x : List ℕ) → i ≢ 0 → i' ≢ 0 → Given nk key l → Given nk key l' → Crossed (rounds_of nk) l l' → Presented x
    → TripMade nk i i' key l l' x

-- ---- demand 3: a chain of calls; "the list begins with the walk that an accepted start hands back"
pub record Begun (c : ℕ) (x : List ℕ) (o : Opening) : Type 0 where
  pub bytes : Bytes x
  pub opens : Opens c x o
  pub accepted : o.answer ≡ Accepted

-- What a move from the start's walk straight to the count of the chain's last walk hands back: it is accepted, and that walk is what it gives.
pub record Straight (o : Opening) (ms : List CallMade) (r : Move) : Type 0 where
  pub answer : r.answer ≡ Accepted
  pub walk : r.walk ≡ last_in o.walk ms

-- The chain ms over the set of the cipher c, from the opening o for that cipher over the block x, where the plain count ends at n.
pub record ChainAnswered (c nk : ℕ) (key l x : List ℕ) (o : Opening) (ms : List CallMade) (n : ℕ) : Type 0 where
  -- Call by call, what demand 3 has the list of these calls answer (`Answered` of whitebox/specs/Demand3.antt).
  pub calls : served_in (rounds_of nk) o.walk ms ≡ due_for c nk key l x (map call_of ms)
  -- At the end: the plain count n is from 0 to the number of lookups, and each place of the walk holds what is due there at that count.
  pub within : n ≤ lookups (rounds_of nk)
  pub places : Places c nk key l (decode_input (rounds_of nk) l x) n (held (last_in o.walk ms)).state
  -- The walk is the one due at that count, which is, byte for byte, what one move straight to that count hands back.
  pub last : held (last_in o.walk ms) ≡ due_held c nk key l (decode_input (rounds_of nk) l x) n
  pub straight : (r : Move) → Moves (rounds_of nk) (to_stop (made_set c nk key l) n) o.walk r → Straight o ms r

abbrev pub ChainsAnswered : ℕ → Type 0
ChainsAnswered nk =
    (c : ℕ) (key l x : List ℕ) → Given nk key l → (o : Opening) → Begun c x o → (ms : List CallMade) → Chain (rounds_of nk) o.walk ms
    → Lent (rounds_of nk) (made_table c nk key l) (made_set c nk key l) 0 (map call_of ms)
    → ChainAnswered c nk key l x o ms (plain_count (rounds_of nk) 0 (map args_of (map call_of ms)))

-- "Where two sets are compared, start, stops, lengths and blocks are the same and each list of calls is lent its own set; refusals, counts and
-- answer blocks are the same call by call."
abbrev pub TwoChains : ℕ → Type 0
TwoChains nk =
    (c : ℕ) (key l l' x : List ℕ) → Given nk key l → Given nk key l' → SameOuter (rounds_of nk) l l' → (o o' : Opening) → Begun c x o → Begun c x o'
    → (ms ms' : List CallMade) → Chain (rounds_of nk) o.walk ms → Chain (rounds_of nk) o'.walk ms'
    → Alike (map call_of ms) (map call_of ms')
    → Lent (rounds_of nk) (made_table c nk key l) (made_set c nk key l) 0 (map call_of ms)
    → Lent (rounds_of nk) (made_table c nk key l') (made_set c nk key l') 0 (map call_of ms')
    → map seen (served_in (rounds_of nk) o.walk ms) ≡ map seen (served_in (rounds_of nk) o'.walk ms')

-- ---- All of them.
pub record CallsFor (nk : ℕ) : Type 0 where
  -- Demand 2: what the fetch of a whole walk left is `walked_over`, of which whitebox/specs/Demand2.antt speaks.
  pub whole_walk : WholeWalk (rounds_of nk)
  pub round_trip : TripsMade nk
  pub chains : ChainsAnswered nk
  pub two : TwoChains nk

-- AES-128: a key of 16 bytes, ten rounds.
abbrev pub Calls128 : Type 0
Calls128 = CallsFor 4
