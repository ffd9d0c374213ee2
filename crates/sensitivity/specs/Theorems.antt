-- WHICH BITS THE DOOR DEPENDS ON, document 02, Ticket 7, for a reader; proved in proofs/laws/. Of any number nr of rounds and either cipher. Crate next_bit says
-- of calls in code what concerns calls.
use Rattle.std.specs.Prelude.{List, ◌↔◌, ◌≡◌, ℕ, suc, ◌+◌, ◌-◌, ◌*◌, ◌≤◌, ◌<◌, length}
use Rattle.bits.specs.Bytes.{Bytes, Block}
use Rattle.bits.specs.Flips.{flipped, FlipsOneBit, TopBitFirst}
use Rattle.bits.specs.Lists.{Listed, Rising}
use Rattle.round.specs.Key.{rounds_of}
use Rattle.layout.specs.Ciphers.{reads_of}
use Rattle.layout.specs.Stages.{lookups, tables_bytes, set_bytes}
use Rattle.calls.specs.Calls.{Call, table_part, state_from, started, serve, walked_over}
use Rattle.calls.specs.PlainCount.{Alike}
use Rattle.calls.specs.PlainCount as plain
use Rattle.whitebox.specs.Bundles.{made_set}
use Rattle.whitebox.specs.Demand3.{Given, Presented}
use Rattle.sensitivity.specs.Reads.{bits_read}

-- ---- over any memory of the right length, made or not
-- Bytes are asked for: a "byte" of 300 would read past its table. What code is lent is of bytes.
pub record Lendable (nr : ℕ) (set x : List ℕ) : Type 0 where
  pub long : length set ≡ set_bytes nr
  pub bytes : Bytes set
  pub block : Block x

-- "List in rising order the bits of the set that the walk reads: 24,064 of them." No bit is there twice, and all are bits of the tables. Each lookup reads one entry
-- of the 256 that its table has: 7,936 bits in entry and exit together, and 1,792 in a round.
pub record InOrder (reads : ℕ → ℕ) (nr : ℕ) (set x : List ℕ) : Type 0 where
  pub many : length (bits_read reads nr set x) ≡ 7936 + 1792 * (nr - 1)
  pub rising : Rising (bits_read reads nr set x)
  pub within : (i : ℕ) → Listed (bits_read reads nr set x) i → i < 8 * tables_bytes nr

abbrev pub ReadInOrder : Type 0
ReadInOrder = (reads : ℕ → ℕ) (nr : ℕ) (set x : List ℕ) → Lendable nr set x → InOrder reads nr set x

-- Each bit of the list is read: turned over, it changes what the lookup that reads it leaves, and nothing before.
pub record ReadBy (reads : ℕ → ℕ) (nr : ℕ) (set x : List ℕ) (i : ℕ) : Type 0 where
  pub lookup : ℕ
  pub below : lookup < lookups nr
  pub before : state_from reads nr (flipped set i) x lookup ≡ state_from reads nr set x lookup
  pub after : state_from reads nr (flipped set i) x (suc lookup) ≡ state_from reads nr set x (suc lookup) → ⊥

abbrev pub ListedRead : Type 0
ListedRead = (reads : ℕ → ℕ) (nr : ℕ) (set x : List ℕ) → Lendable nr set x → (i : ℕ) → Listed (bits_read reads nr set x) i → ReadBy reads nr set x i

-- And no other: a bit that is not in the list, turned over, leaves the whole walk as it was, at every count.
abbrev pub OthersAlone : Type 0
OthersAlone =
    (reads : ℕ → ℕ) (nr : ℕ) (set x : List ℕ) → Lendable nr set x → (i : ℕ) → (Listed (bits_read reads nr set x) i → ⊥)
    → (k : ℕ) → k ≤ lookups nr → state_from reads nr (flipped set i) x k ≡ state_from reads nr set x k

-- The same of calls. What a list of calls may be lent over one memory: to a move to a stop the memory, to a move of one lookup the part of it that is the count's
-- table (behind the last lookup any memory), and to either, to be refused, any memory of another length. A fetch is lent a block of any length. The count is the plain one, from 0.
abbrev pub LentOver : ℕ → List ℕ → List Call → Type 0
LentOver nr set cs = plain.Lent nr (table_part nr set) set 0 cs

-- Any list of calls from the start, of moves to stops, moves of one lookup and fetches, the refused ones too. `cs` is lent the memory, and `cs'` the memory with bit
-- i turned over; stops, lengths and blocks are the same. Then so are the answers, call by call: the reply, the walk handed back or left, the offset passed on, and
-- the lent block afterwards.
abbrev pub OthersAloneInCalls : Type 0
OthersAloneInCalls =
    (c nr : ℕ) (set x : List ℕ) → Lendable nr set x → (i : ℕ) → (Listed (bits_read (reads_of c) nr set x) i → ⊥)
    → (cs cs' : List Call) → Alike cs cs' → LentOver nr set cs → LentOver nr (flipped set i) cs'
    → serve nr (started c x) cs' ≡ serve nr (started c x) cs

-- ---- of a made set, "not altered since", and any presented block
-- "Turning over one bit changes the answer for that block exactly when the bit is in the list." The answer is what a fetch at the end leaves in a lent block of 16
-- bytes: `lent` for the walk over the set, `lent'` for the one over the set with bit i turned over. The two answers differ exactly if the bit is listed; where it is not, they
-- are the same.
pub record DependsOn (c nr : ℕ) (set x : List ℕ) (i : ℕ) (lent lent' : List ℕ) : Type 0 where
  pub differ_exactly : (walked_over c nr (flipped set i) x lent' ≡ walked_over c nr set x lent → ⊥) ↔ Listed (bits_read (reads_of c) nr set x) i
  pub keeps : (Listed (bits_read (reads_of c) nr set x) i → ⊥) → walked_over c nr (flipped set i) x lent' ≡ walked_over c nr set x lent

-- For every cipher, key of nk words, accepted bundle and presented block. What holds of any memory of the right length holds of the made set too.
pub record Sensitive (c nk : ℕ) (key l x : List ℕ) : Type 0 where
  pub right : Lendable (rounds_of nk) (made_set c nk key l) x
  pub exactly : (i : ℕ) (lent lent' : List ℕ) → length lent ≡ 16 → length lent' ≡ 16 → DependsOn c (rounds_of nk) (made_set c nk key l) x i lent lent'

abbrev pub SensitivityFor : ℕ → Type 0
SensitivityFor nk = (c : ℕ) (key l x : List ℕ) → Given nk key l → Presented x → Sensitive c nk key l x

-- ---- All of them. AES-128 has a key of 4 words, and ten rounds. What turning a bit over is, is said in bits/specs/Flips.antt.
pub record Sensitivity : Type 0 where
  pub in_order : ReadInOrder
  pub read : ListedRead
  pub others : OthersAlone
  pub calls : OthersAloneInCalls
  pub made : (nk : ℕ) → SensitivityFor nk
  pub ten_rounds : (reads : ℕ → ℕ) (set x : List ℕ) → Lendable 10 set x → length (bits_read reads 10 set x) ≡ 24064
  pub flips : FlipsOneBit
  pub top_first : TopBitFirst
