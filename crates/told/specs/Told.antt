-- The replay for C, which tells the first lookup that differs through a pointer: what it leaves there, and what a host reads off it. Of nr rounds; the call is for
-- ten. Definitions, and two statements, which are proved in proofs/laws/Told.antt.
use Rattle.std.specs.Prelude.{List, ◌≡◌, ℕ, ◌-◌, ◌^◌, length, Option, Some, None, Result, Ok, Err}
use Rattle.answers.specs.Search.{FirstBad}
use Rattle.answers.specs.declared.Refusal.{Refusal}
use Rattle.rounds.specs.Rounds.{Rounds}
use Rattle.layout.specs.Stages.{lookups}
use Rattle.records.specs.Record.{record_of}
use Rattle.records.specs.Replay.{judge_record, replayed}
use Rattle.records.specs.Theorems.{Agrees}
use Rattle.answers.specs.Answer.{Accepted}
use Rattle.records.specs.Replay.{Verdict}

-- TAZHIKKO_NONE of C, SIZE_MAX: the largest number of 64 bits, which is no lookup's and no bit's.
abbrev pub none : ℕ
none = 2 ^ 64 - 1

-- What is left behind a pointer, which held `old`: what a call found, `none` where it found nothing, and `old` in a refused call.
abbrev pub told_left : Result (Option ℕ) Refusal → ℕ → ℕ
told_left (Ok (Some k)) old = k
told_left (Ok None) old = none
told_left (Err r) old = old

-- Of a replay: `none` where the record is the walk's own, the first lookup that differs, and `old` in a refused call.
abbrev pub differs_left : Verdict → ℕ → ℕ
differs_left v old = told_left v old

-- In an accepted call `none` tells exactly that the record is the walk's own, and any other number is the first lookup that differs.
pub record Told (c nr : ℕ) (set block rec : List ℕ) (old : ℕ) : Type 0 where
  pub own_only : differs_left (replayed c nr set block rec) old ≡ none → rec ≡ record_of c nr set block
  pub own_if : rec ≡ record_of c nr set block → differs_left (replayed c nr set block rec) old ≡ none
  pub first_only : (differs_left (replayed c nr set block rec) old ≡ none → ⊥)
      → FirstBad (lookups nr) (Agrees c nr set block rec) (differs_left (replayed c nr set block rec) old)
  pub first_if : (k : ℕ) → FirstBad (lookups nr) (Agrees c nr set block rec) k → differs_left (replayed c nr set block rec) old ≡ k

abbrev pub TellsExactly : Type 0
TellsExactly =
    (c nr : ℕ) (set block rec : List ℕ) (old : ℕ) → Rounds nr → judge_record nr (length set) (length block) (length rec) ≡ Accepted
    → Told c nr set block rec old

-- "All lent memory [is] left as [it was]": a refused call leaves the number behind the pointer too.
abbrev pub RefusedKeeps : Type 0
RefusedKeeps =
    (c nr : ℕ) (set block rec : List ℕ) (old : ℕ) → (judge_record nr (length set) (length block) (length rec) ≡ Accepted → ⊥)
    → differs_left (replayed c nr set block rec) old ≡ old
