-- What the maker writes to standard output: document 01, "Programs". Definitions, and the statement that no more of the input decides it than the program
-- reads; it is proved in proofs/laws/Writes.antt.
use Rattle.std.specs.Prelude.{List, ◌≡◌, ℕ, suc, ◌*◌, ◌≤◌, length, take, drop}
use Rattle.round.specs.Key.{rounds_of}
use Rattle.bundle.specs.Format.{longest}
use Rattle.whitebox.specs.Bundles.{made_set}
use Rattle.tables.specs.Calls.{judged_for}
use Rattle.streams.specs.Lines.{or_line, refusal_line}
use Rattle.streams.specs.Written.{Written}
use Rattle.streams.specs.Received.{Received}

-- "The maker .. writes the tables in order, or `refused N I` and a newline (cause, then its second number)": for the bytes read as the key, of nk
-- words, and as the bundle. "The programs stay with the forward [cipher]" (document 02, Ticket 1).
unfoldable pub maker_writes : ℕ → List ℕ → List ℕ → List ℕ
maker_writes nk key bundle = or_line (judged_for nk (length key) bundle) refusal_line (made_set 0 nk key bundle)

-- "The maker reads the key and then the bundle from standard input."
unfoldable pub maker_writes_on : ℕ → List ℕ → List ℕ
maker_writes_on nk input = maker_writes nk (take (4 * nk) input) (drop (4 * nk) input)

-- A run leaves in the lent memory the bytes that it writes for some key and some bundle, up to `end`, neither longer than what the program reads for it. Which
-- bytes they are, and whether the input had more, no contract can say; the mark `Received` shows in the proof that they come from reads (crate streams, specs/Received.antt).
pub record Runs (nk : ℕ) (memory : List ℕ) (end : ℕ) (left : List ℕ) : Type 0 where
  pub key : List ℕ
  pub key_read : Received key
  pub key_most : length key ≤ 4 * nk
  pub bundle : List ℕ
  pub bundle_read : Received bundle
  pub bundle_most : length bundle ≤ suc (longest (rounds_of nk))
  pub written : Written (maker_writes nk key bundle) memory end left

-- One byte more than the longest bundle tells a longer one: what stands behind it is not read, and changes nothing.
abbrev pub ReadsEnoughFor : ℕ → Type 0
ReadsEnoughFor nk =
    (input : List ℕ) → maker_writes nk (take (4 * nk) input) (take (suc (longest (rounds_of nk))) (drop (4 * nk) input)) ≡ maker_writes_on nk input

-- AES-128: a key of 16 bytes, ten rounds.
abbrev pub ReadsEnough : Type 0
ReadsEnough = ReadsEnoughFor 4
