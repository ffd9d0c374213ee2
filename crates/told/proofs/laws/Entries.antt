-- Laws, not definitions: the statement of specs/Entries.antt, on what the catalogue for C returns and leaves behind the pointer.
-- Assumes nothing.
use mathlib.Core.Path.{ap}
use Prim.Native.Nat.{ℕ}
use native.Mathlib.Decide.{dec_lt}
use native.Mathlib.Omega.{arith}
use Rattle.answers.specs.Numbers.{number_of}
use Rattle.answers.proofs.laws.Numbers.{Small}
use Rattle.catalogue.specs.Catalogue.{catalogue_length, catalogue_entry, entry_answer}
use Rattle.catalogue.proofs.laws.Proved.{entry_given, entry_refused}
use Rattle.told.specs.Entries.{matrix_left, EntriesTold}
use Rattle.catalogue.specs.Catalogue.{Entry}

pub entries_told : EntriesTold
entries_told p old = record {
  returned = λ h. ap (λ (x : Entry). number_of (entry_answer x)) (entry_given p h);
  left = λ h. ap (λ (x : Entry). matrix_left x old) (entry_given p h);
  refused = λ h. ap (λ (x : Entry). number_of (entry_answer x)) (entry_refused p h);
  kept = λ h. ap (λ (x : Entry). matrix_left x old) (entry_refused p h);
}

pub entry_small : (p : ℕ) → Small (entry_answer (catalogue_entry p))
entry_small p = elim (dec_lt p catalogue_length) [
  | yes h ↦ rw (entry_given p h) (record { below = omega arith })
  | no h ↦ rw (entry_refused p (omega arith)) (record { below = omega arith })
]
