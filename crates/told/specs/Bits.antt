-- The next bit for C, which tells it through a pointer: what it leaves there, and what a host reads off it. Of nr rounds; the call is for ten. Definitions, and three
-- statements, which are proved in proofs/laws/Bits.antt.
use Rattle.std.specs.Prelude.{List, ◌≡◌, ℕ, ◌<◌, length}
use Rattle.bits.specs.Flips.{flipped}
use Rattle.rounds.specs.Rounds.{Rounds}
use Rattle.round.specs.Key.{rounds_of}
use Rattle.layout.specs.Ciphers.{reads_of}
use Rattle.calls.specs.Calls.{judge_whole}
use Rattle.whitebox.specs.Bundles.{made_set}
use Rattle.whitebox.specs.Demand3.{Given, Presented}
use Rattle.sensitivity.specs.Reads.{bits_read}
use Rattle.sensitivity.specs.Theorems.{Lendable}
use Rattle.next_bit.specs.NextBit.{next_bit_of}
use Rattle.next_bit.specs.Search.{Smallest, AllBefore}
use Rattle.told.specs.Told.{none, told_left}
use Rattle.one_call.specs.Walks.{walk_leaves_for}
use Rattle.answers.specs.Answer.{Accepted}
use Rattle.next_bit.specs.NextBit.{NextBit}

-- What is left behind the pointer, which held `old`: the bit, `none` where none is left, and `old` in a refused call.
abbrev pub bit_left : NextBit → ℕ → ℕ
bit_left r old = told_left r old

-- In an accepted call (lengths alone decide, and what C lends is of bytes) `none` tells exactly that no bit at or after `from` is read, and any other number is the
-- smallest such bit.
pub record BitTold (c nr : ℕ) (set block : List ℕ) (from old : ℕ) : Type 0 where
  pub none_only : bit_left (next_bit_of c nr set block from) old ≡ none → AllBefore (bits_read (reads_of c) nr set block) from
  pub none_if : AllBefore (bits_read (reads_of c) nr set block) from → bit_left (next_bit_of c nr set block from) old ≡ none
  pub bit_only : (bit_left (next_bit_of c nr set block from) old ≡ none → ⊥)
      → Smallest (bits_read (reads_of c) nr set block) from (bit_left (next_bit_of c nr set block from) old)
  pub bit_if : (v : ℕ) → Smallest (bits_read (reads_of c) nr set block) from v → bit_left (next_bit_of c nr set block from) old ≡ v

abbrev pub BitsTold : Type 0
BitsTold = (c nr : ℕ) (set block : List ℕ) (from old : ℕ) → Rounds nr → Lendable nr set block → BitTold c nr set block from old

-- A refused call leaves what it was lent, and so the number behind the pointer: document 01's table "Turned down" has "all" for causes 9 and 10.
abbrev pub RefusedKeepsBit : Type 0
RefusedKeepsBit =
    (c nr : ℕ) (set block : List ℕ) (from old : ℕ) → (judge_whole nr (length set) (length block) ≡ Accepted → ⊥)
    → bit_left (next_bit_of c nr set block from) old ≡ old

-- ---- both calls for C, over the set of a key of nk words and an accepted bundle: "turning over one bit changes the answer for that block exactly when the bit is in
-- the list"
-- The bit i is what the call from i on leaves behind the pointer, exactly if the walk over the set with bit i turned over leaves another answer, in a lent answer of
-- 16 bytes, than the walk over the set. Here i is any number of 64 bits but the greatest, which stands for none.
pub record BitCounts (c nr : ℕ) (set block : List ℕ) (i old : ℕ) (lent lent' : List ℕ) : Type 0 where
  pub changes : bit_left (next_bit_of c nr set block i) old ≡ i → walk_leaves_for nr c (flipped set i) block lent' ≡ walk_leaves_for nr c set block lent → ⊥
  pub only : (walk_leaves_for nr c (flipped set i) block lent' ≡ walk_leaves_for nr c set block lent → ⊥) → bit_left (next_bit_of c nr set block i) old ≡ i

abbrev pub BitsCount : Type 0
BitsCount =
    (c nk : ℕ) (key l block : List ℕ) → Rounds (rounds_of nk) → Given nk key l → Presented block → (i old : ℕ) → i < none
    → (lent lent' : List ℕ) → length lent ≡ 16 → length lent' ≡ 16
    → BitCounts c (rounds_of nk) (made_set c nk key l) block i old lent lent'
