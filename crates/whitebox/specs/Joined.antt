-- The set, its tables and the walk joined, for a reader: the statements. They are proved in proofs/laws/Joined.antt. Of the set and its tables they are over any
-- parts of a cipher, codings and number of rounds first, and then of what is made for a cipher from a key and a bundle. That a move of one lookup is the move to
-- the count plus one is said in calls/specs/Next.antt over any memory, and here of what is made.
use Rattle.std.specs.Prelude.{List, ◌≡◌, ℕ, ◌<◌, length}
use Rattle.round.specs.Key.{rounds_of}
use Rattle.network.specs.Rule.{first_result, labels, rule_in}
use Rattle.layout.specs.Stages.{widths, lookups, set_bytes, table_size, stage_of, index_of}
use Rattle.calls.specs.Calls.{Held, table_part}
use Rattle.calls.specs.Next.{NextMove}
use Rattle.whitebox.specs.Bundles.{codings_of, parts_of, made_set, made_table}
use Rattle.whitebox.specs.Codings.{Codings}
use Rattle.whitebox.specs.Parts.{Parts}
use Rattle.whitebox.specs.Tables.{layer_of, table_of, set_of}

-- ---- "the set's table whose number is the count"
-- Each table has its size and is the set's part at its offset, and the set has the length that is asked for.
pub record InSet (nr : ℕ) (set : List ℕ) (table : ℕ → List ℕ) : Type 0 where
  pub long : length set ≡ set_bytes nr
  pub sized : (k : ℕ) → k < lookups nr → length (table k) ≡ table_size nr k
  pub part : (k : ℕ) → k < lookups nr → table_part nr set k ≡ table k

abbrev pub TableInSet : Type 0
TableInSet = (P : Parts) (C : Codings) (nr : ℕ) → InSet nr (set_of P C nr) (table_of P C nr)

abbrev pub MadeTableInSet : ℕ → Type 0
MadeTableInSet nk = (c : ℕ) (key l : List ℕ) → InSet (rounds_of nk) (made_set c nk key l) (made_table c nk key l)

-- ---- the tables by document 01's own rule of the lists' numbers
-- Table k is that of its lookup in its stage or half. Its result has the next lists "in order of use" from list 32 on (`first_result`), and each place
-- that it reads has the list "of the last look-up numbered below the count whose result these rules put there" (`labels`).
unfoldable pub table_by_rule : Parts → Codings → ℕ → ℕ → List ℕ
table_by_rule P C nr k = rule_in C.encoding (layer_of P C nr (stage_of nr k)) (index_of nr k) (first_result (widths nr) k) (labels (widths nr) k)

abbrev pub TableByRule : Type 0
TableByRule =
    (P : Parts) → ((p : ℕ) → p < 16 → P.reads p < 16) → (C : Codings) (nr k : ℕ) → k < lookups nr → table_of P C nr k ≡ table_by_rule P C nr k

abbrev pub MadeTableByRule : ℕ → Type 0
MadeTableByRule nk =
    (c : ℕ) (key l : List ℕ) (k : ℕ) → k < lookups (rounds_of nk)
    → made_table c nk key l k ≡ table_by_rule (parts_of c nk key) (codings_of (rounds_of nk) l) (rounds_of nk) k

-- ---- the move of one lookup over a made table is the move to the count plus one over the made set
abbrev pub MadeOneIsNext : ℕ → Type 0
MadeOneIsNext nk =
    (c : ℕ) (key l : List ℕ) (w : Held) → w.state.count < lookups (rounds_of nk)
    → NextMove (rounds_of nk) (made_set c nk key l) (made_table c nk key l w.state.count) w

-- ---- All of them; and of what is made for a cipher from a key of nk words and a bundle.
pub record JoinedFor (nk : ℕ) : Type 0 where
  pub in_set : MadeTableInSet nk
  pub by_rule : MadeTableByRule nk
  pub one_is_next : MadeOneIsNext nk

pub record Joined : Type 0 where
  pub table_in_set : TableInSet
  pub table_by_rule_lem : TableByRule
  -- AES-128: a key of 16 bytes, ten rounds.
  pub made : JoinedFor 4
