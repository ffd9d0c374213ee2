-- The maker and the demands joined, for a reader: the statements. They are proved in proofs/laws/Made.antt. Demands 2 and 3 (crate whitebox) speak of
-- `Given` keys and bundles and of the bytes `made_set`, `made_table`; here they are what the calls answer and leave, `set_left` and `table_left`, which
-- their contracts cite. Over ciphers c and keys of nk words; the calls are those for 4 words.
use Rattle.std.specs.Prelude.{List, ◌≢◌, ◌≡◌, ℕ, ◌<◌, length}
use Rattle.bits.specs.Bytes.{Bytes, Block}
use Rattle.round.specs.Key.{rounds_of}
use Rattle.layout.specs.Stages.{lookups, set_bytes, table_size}
use Rattle.calls.specs.Calls.{table_part}
use Rattle.whitebox.specs.Demand2.{WalkIsCipher}
use Rattle.whitebox.specs.Demand3.{Given, Presented}
use Rattle.external.specs.Coding.{Crossed}
use Rattle.whitebox.specs.RoundTrip.{GivesBack}
use Rattle.tables.specs.Calls.{set_answer_for, table_answer_for, set_left, table_left}
use Rattle.answers.specs.Answer.{Accepted}

module _ (nk : ℕ) where
  -- ---- a key and an accepted bundle: what the demands assume is what the calls answer
  abbrev pub GivenBySet : Type 0
  GivenBySet = (key l : List ℕ) (memory : ℕ) → Bytes key → Bytes l → set_answer_for nk (length key) l memory ≡ Accepted → Given nk key l

  abbrev pub GivenByTable : Type 0
  GivenByTable = (key l : List ℕ) (n memory : ℕ) → Bytes key → Bytes l → table_answer_for nk (length key) l n memory ≡ Accepted → Given nk key l

  -- And no given key and bundle is turned down: into memory of the right length the set is made, and each of its tables.
  abbrev pub SetOfGiven : Type 0
  SetOfGiven = (key l : List ℕ) → Given nk key l → set_answer_for nk (length key) l (set_bytes (rounds_of nk)) ≡ Accepted

  abbrev pub TableOfGiven : Type 0
  TableOfGiven =
      (key l : List ℕ) (n : ℕ) → Given nk key l → n < lookups (rounds_of nk)
      → table_answer_for nk (length key) l n (table_size (rounds_of nk) n) ≡ Accepted

  -- ---- demand 2 of the bytes that an accepted `make_set` leaves in a memory that held `held`: a walk over them for the cipher that the call named gives FIPS 197's
  -- block under the output coding
  abbrev pub MadeWalkIsCipher : Type 0
  MadeWalkIsCipher =
      (c : ℕ) (key l held b lent : List ℕ) → Bytes key → Bytes l → set_answer_for nk (length key) l (length held) ≡ Accepted → Block b → length lent ≡ 16
      → WalkIsCipher c nk key l (set_left c nk key l held) b lent

  -- ---- the round trip of the bytes that accepted calls leave, for the forward cipher and for the inverse one, which any numbers but 0 name
  abbrev pub MadeSetsGiveBack : Type 0
  MadeSetsGiveBack =
      (i i' : ℕ) (key l l' held held' x lent lent' : List ℕ) → i ≢ 0 → i' ≢ 0 → Bytes key → Bytes l → Bytes l'
      → set_answer_for nk (length key) l (length held) ≡ Accepted → set_answer_for nk (length key) l' (length held') ≡ Accepted
      → Crossed (rounds_of nk) l l' → Presented x → length lent ≡ 16 → length lent' ≡ 16
      → GivesBack (rounds_of nk) i (set_left 0 nk key l held) (set_left i' nk key l' held') x lent lent'

  -- ---- one table: an accepted `make_table` leaves the part that is table n of what an accepted `make_set` leaves
  abbrev pub TableOfSet : Type 0
  TableOfSet =
      (c : ℕ) (key l : List ℕ) (n : ℕ) (held one : List ℕ)
      → set_answer_for nk (length key) l (length held) ≡ Accepted → table_answer_for nk (length key) l n (length one) ≡ Accepted
      → table_left c nk key l n one ≡ table_part (rounds_of nk) (set_left c nk key l held) n

pub record MadeFor (nk : ℕ) : Type 0 where
  pub given_by_set : GivenBySet nk
  pub given_by_table : GivenByTable nk
  pub set_of_given : SetOfGiven nk
  pub table_of_given : TableOfGiven nk
  pub walk_is_cipher : MadeWalkIsCipher nk
  pub sets_give_back : MadeSetsGiveBack nk
  pub table_of_set : TableOfSet nk

-- AES-128: a key of 16 bytes, ten rounds.
abbrev pub Made : Type 0
Made = MadeFor 4
