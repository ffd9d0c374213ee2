-- WHICH BITS THE DOOR DEPENDS ON, OF THE CALLS IN CODE (document 02, Ticket 7), for a reader; proved in proofs/laws/Proved.antt. Crate sensitivity states it of
-- definitions; here it is stated of calls of `next_bit` that meet the contract of src/search.rt (`Finds`) and of walks that meet those of evaluate/src/walk.rt. Of any
-- number nr of rounds and either cipher.
use Rattle.std.specs.Prelude.{List, [], ◌∷◌, map, ◌↔◌, ◌≡◌, ℕ, suc, ◌+◌, ◌-◌, ◌*◌, length, Ok, Some, None}
use Rattle.answers.specs.Answers.{refused, reply_of}
use Rattle.bits.specs.Flips.{flipped}
use Rattle.round.specs.Key.{rounds_of}
use Rattle.layout.specs.Ciphers.{kept, reads_of}
use Rattle.layout.specs.Stages.{set_bytes}
use Rattle.calls.specs.Calls.{judge_whole}
use Rattle.calls.specs.PlainCount.{Alike}
use Rattle.whitebox.specs.Bundles.{made_set}
use Rattle.whitebox.specs.Demand3.{Given, Presented}
use Rattle.sensitivity.specs.Reads.{bits_read}
use Rattle.sensitivity.specs.Theorems.{Lendable, LentOver}
use Rattle.evaluate.specs.Chains.{CallMade, call_of, served_in, Chain}
use Rattle.evaluate.specs.Promises.{Opens}
use Rattle.evaluate.specs.Whole.{WalkMade}
use Rattle.evaluate.specs.declared.walk.Opening.{Opening}
use Rattle.next_bit.specs.Promises.{Finds}
use Rattle.next_bit.specs.NextBit.{bit_answer, next_bit_of}
use Rattle.next_bit.specs.Search.{Tells}
use Rattle.answers.specs.Answer.{Accepted}
use Rattle.next_bit.specs.NextBit.{NextBit}

-- ---- what is turned down, for a set and a block of these lengths: "wrong lengths get 9 and 10 as before"
pub record BitTests (nr set block : ℕ) : Type 0 where
  pub set_first : (set ≡ set_bytes nr → ⊥) → reply_of (judge_whole nr set block) ≡ refused 9 0
  pub block_second : set ≡ set_bytes nr → (block ≡ 16 → ⊥) → reply_of (judge_whole nr set block) ≡ refused 10 0
  pub none : set ≡ set_bytes nr → block ≡ 16 → judge_whole nr set block ≡ Accepted

abbrev pub TestsInOrder : Type 0
TestsInOrder = (nr set block : ℕ) → BitTests nr set block

-- The call answers by these tests alone, whatever number it is given.
abbrev pub AnswersByLengths : Type 0
AnswersByLengths = (c nr : ℕ) (set x : List ℕ) (from : ℕ) (r : NextBit) → Finds c nr set x from r → bit_answer r ≡ judge_whole nr (length set) (length x)

-- It goes by the cipher that the number names, as a walk does.
abbrev pub GoesByCipher : Type 0
GoesByCipher = (c nr : ℕ) (set x : List ℕ) (from : ℕ) → next_bit_of (kept c) nr set x from ≡ next_bit_of c nr set x from

-- ---- over any memory of the right length, made or not
-- "Gives the smallest such bit at or after a given bit number [..] or says that none is left."
abbrev pub FindsSmallest : Type 0
FindsSmallest =
    (c nr : ℕ) (set x : List ℕ) → Lendable nr set x → (from : ℕ) (r : NextBit) → Finds c nr set x from r → Tells (bits_read (reads_of c) nr set x) from r

-- "The list is had from a call": calls one after the other, the first from `from` on and each other one from behind the bit that was found before, gave the bits vs
-- and then that none is left.
abbrev pub Asked : ℕ → ℕ → List ℕ → List ℕ → ℕ → List ℕ → Type 0
Asked c nr set x from [] = Finds c nr set x from (Ok None)
Asked c nr set x from (v ∷ vs) = Finds c nr set x from (Ok (Some v)) × Asked c nr set x (suc v) vs

-- Calls from bit 0 on give the list, no bit more and none less.
pub record ListHad (c nr : ℕ) (set x : List ℕ) : Type 0 where
  pub had : Asked c nr set x 0 (bits_read (reads_of c) nr set x)
  pub only : (vs : List ℕ) → Asked c nr set x 0 vs → vs ≡ bits_read (reads_of c) nr set x
  pub many : (vs : List ℕ) → Asked c nr set x 0 vs → length vs ≡ 7936 + 1792 * (nr - 1)

abbrev pub ListsHad : Type 0
ListsHad = (c nr : ℕ) (set x : List ℕ) → Lendable nr set x → ListHad c nr set x

-- A bit i that a call from i on does not give, turned over, leaves the whole walk as it was: two chains of calls from the walk that a start handed back, of moves to
-- stops, moves of one lookup and fetches, refused ones too, the one over the set and the other over the set with bit i turned over, answer the same, call by call.
abbrev pub OthersAloneMade : Type 0
OthersAloneMade =
    (c nr : ℕ) (set x : List ℕ) → Lendable nr set x → (i : ℕ) (r : NextBit) → Finds c nr set x i r → (r ≡ Ok (Some i) → ⊥)
    → (o : Opening) → Opens c x o → (ms ms' : List CallMade) → Chain nr o.walk ms → Chain nr o.walk ms' → Alike (map call_of ms) (map call_of ms')
    → LentOver nr set (map call_of ms) → LentOver nr (flipped set i) (map call_of ms') → served_in nr o.walk ms' ≡ served_in nr o.walk ms

-- ---- of a made set, and any presented block: "turning over one bit changes the answer for that block exactly when the bit is in the list"
-- A call from i on handed back r, a walk over the set left `left`, and one over the set with bit i turned over left `left'`: these differ exactly if r is bit i. Where it is
-- not, they are the same.
pub record RestsOn (i : ℕ) (r : NextBit) (left left' : List ℕ) : Type 0 where
  pub differ_exactly : (left' ≡ left → ⊥) ↔ (r ≡ Ok (Some i))
  pub keeps : (r ≡ Ok (Some i) → ⊥) → left' ≡ left

-- Each of the two walks was lent any block of 16 bytes.
abbrev pub AnswersRestOn : ℕ → Type 0
AnswersRestOn nk =
    (c : ℕ) (key l x : List ℕ) → Given nk key l → Presented x → (i : ℕ) (r : NextBit) → Finds c (rounds_of nk) (made_set c nk key l) x i r
    → (lent lent' left left' : List ℕ) → length lent ≡ 16 → length lent' ≡ 16
    → WalkMade c (rounds_of nk) (made_set c nk key l) x lent left → WalkMade c (rounds_of nk) (flipped (made_set c nk key l) i) x lent' left'
    → RestsOn i r left left'

-- ---- All of them.
pub record BitsHad : Type 0 where
  pub tests : TestsInOrder
  pub answers : AnswersByLengths
  pub ciphers : GoesByCipher
  pub smallest : FindsSmallest
  pub lists : ListsHad
  pub others : OthersAloneMade
  pub made : (nk : ℕ) → AnswersRestOn nk
  -- AES-128, ten rounds: "24,064 of them".
  pub ten_rounds : (c : ℕ) (set x : List ℕ) → Lendable 10 set x → (vs : List ℕ) → Asked c 10 set x 0 vs → length vs ≡ 24064
