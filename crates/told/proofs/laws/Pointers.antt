-- Laws, not definitions: a call for C that tells through a pointer.
-- Assumes nothing.
use mathlib.Core.Path.{◌≡◌, refl}
use Prim.Native.Nat.{ℕ}
use Rattle.std.specs.Prelude.{Option, Some, None, Result, Ok, Err}
use Rattle.answers.specs.Answer.{Accepted, answer_in}
use Rattle.answers.specs.declared.Refusal.{Refusal}
use Rattle.told.specs.Told.{told_left}

-- A refused call leaves what was there.
pub kept : (v : Result (Option ℕ) Refusal) (old : ℕ) → (answer_in v ≡ Accepted → ⊥) → told_left v old ≡ old
kept (Ok (Some k)) old f = absurd (f refl)
kept (Ok None) old f = absurd (f refl)
kept (Err r) old f = refl
