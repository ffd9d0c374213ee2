-- A move of one lookup, and the move to the count plus one: the statement. It is proved in proofs/laws/Next.antt.
use Rattle.std.specs.Prelude.{List, ◌≡◌, ℕ, suc, ◌<◌, length}
use Rattle.answers.specs.Answers.{accepted}
use Rattle.layout.specs.Stages.{lookups, set_bytes}
use Rattle.calls.specs.Calls.{Held, table_part, to_stop, one_lookup, reply, handed}

-- ---- "a walk can also be moved one look-up with only that table lent; its stop is the count plus one"
-- From the walk w a move of one lookup over `table` is accepted, as the move over `mem` to the count plus one is, and both hand back the same
-- walk, at that count.
pub record NextMove (nr : ℕ) (mem table : List ℕ) (w : Held) : Type 0 where
  pub one : reply nr (one_lookup table) w ≡ accepted
  pub to_stop_lem : reply nr (to_stop mem (suc w.state.count)) w ≡ accepted
  pub same : handed nr (one_lookup table) w ≡ handed nr (to_stop mem (suc w.state.count)) w
  pub next : (handed nr (one_lookup table) w).state.count ≡ suc w.state.count

-- Over the part at the count's table of any memory of a set's length, from any walk with lookups left.
abbrev pub OneIsNext : Type 0
OneIsNext =
    (nr : ℕ) (mem : List ℕ) → length mem ≡ set_bytes nr → (w : Held) → w.state.count < lookups nr
    → NextMove nr mem (table_part nr mem w.state.count) w
