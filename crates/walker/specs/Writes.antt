-- What the walker writes to standard output: document 01, "Programs". Definitions, and the statement that no more of the input decides it than the program
-- reads; it is proved in proofs/laws/Runs.antt.
use Rattle.std.specs.Prelude.{List, ◌≡◌, ℕ, suc, ◌-◌, ◌≤◌, length, take, replicate}
use Rattle.answers.specs.Answers.{wants_length, and_then}
use Rattle.answers.specs.declared.Refusal.TheVariants.{SetLength}
use Rattle.layout.specs.Stages.{tables_bytes, set_bytes}
use Rattle.calls.specs.Calls.{Held, judge_start, fetch, answer, block_left, walked_over}
use Rattle.streams.specs.Lines.{or_line, cause_line, answer_line}
use Rattle.streams.specs.Written.{Written}
use Rattle.streams.specs.Received.{Received, AllReceived, joined}

-- The block that a fetch is lent.
abbrev pub blank : List ℕ
blank = replicate 16 0

-- "It prints 32 lowercase hex digits and a newline, or `refused 10` (short block, where the set is not judged) or `refused 9` (set too short or
-- long) and a newline": for the bytes read as the block and as the set, over nr rounds. "The programs stay with the forward [cipher]" (document 02, Ticket 1).
unfoldable pub walker_writes : ℕ → List ℕ → List ℕ → List ℕ
walker_writes nr block set =
    or_line (and_then (judge_start (length block)) (wants_length (set_bytes nr) (length set) SetLength)) cause_line
    (answer_line (walked_over 0 nr set block blank))

-- The bytes that a set has behind its tables.
abbrev pub behind_tables : ℕ → ℕ
behind_tables nr = set_bytes nr - tables_bytes nr

-- What it writes for a walk behind its last table, where `rest` bytes more were read: a set of another length, a fetch that is refused, or the answer.
unfoldable pub line_of : ℕ → Held → ℕ → List ℕ
line_of nr w rest =
    or_line (and_then (wants_length (behind_tables nr) rest SetLength) (answer nr (fetch blank) w)) cause_line
    (answer_line (block_left nr (fetch blank) w))

-- A run leaves in the lent line the bytes that it writes for some block, of at most 16 bytes, and for some parts, of at most one byte more than a set: a table at
-- a time, and what stands behind the last. Which bytes they are, and whether the input had more, no contract can say; the mark `Received` shows in the proof
-- that they come from reads (crate streams, specs/Received.antt).
pub record Runs (nr : ℕ) (line : List ℕ) (end : ℕ) (left : List ℕ) : Type 0 where
  pub block : List ℕ
  pub block_read : Received block
  pub block_most : length block ≤ 16
  pub parts : List (List ℕ)
  pub parts_read : AllReceived parts
  pub parts_most : length (joined parts) ≤ suc (set_bytes nr)
  pub written : Written (walker_writes nr block (joined parts)) line end left

-- One byte more than a set's tells a set that is too long: what stands behind it is not read, and changes nothing.
abbrev pub ReadsEnough : Type 0
ReadsEnough = (nr : ℕ) (block set : List ℕ) → walker_writes nr block (take (suc (set_bytes nr)) set) ≡ walker_writes nr block set
