-- Laws, not definitions: the sizes of a set as the numbers that the code has, for 10, 12 and 14 rounds.
-- Assumes nothing.
use mathlib.Core.Path.{◌≡◌, sym, ◌∙◌}
use Prim.Native.Nat.{ℕ, ◌+◌, ◌-◌, ◌*◌, ◌≤◌}
use native.Mathlib.Omega.{arith}
use Rattle.rounds.specs.Rounds.{Rounds}
use Rattle.layout.specs.Stages.{lookups, tables_bytes, set_bytes, most_bytes_of}
use Rattle.layout.proofs.laws.Lookup.{Sizes}
use Rattle.layout.proofs.laws.Ranges.{by_stage}

-- A number that the code has.
pub all_lookups : (nr : ℕ) {n : ℕ} → n ≡ 992 + 224 * (nr - 1) → n ≡ lookups nr
all_lookups nr e = e ∙ sym (by_stage nr).all_lookups

pub table_bytes : (nr : ℕ) {n : ℕ} → n ≡ 253952 + 57344 * (nr - 1) → n ≡ tables_bytes nr
table_bytes nr e = e ∙ sym (by_stage nr).table_bytes

pub all_bytes : (nr : ℕ) {n : ℕ} → n ≡ tables_bytes nr → n ≡ set_bytes nr
unfolding set_bytes
all_bytes nr e = e

-- No number of rounds has more lookups, or more bytes, than 14.
pub most_lookups : (nr : ℕ) → Rounds nr → lookups nr ≤ 3904
most_lookups nr R = omega (arith, R, (by_stage nr).all_lookups)

pub most_bytes : (nr : ℕ) → Rounds nr → set_bytes nr ≤ most_bytes_of
most_bytes nr R = omega (arith, R, (by_stage nr).all_bytes)

-- The sizes that the code works out.
pub sizes_of : {nr count bytes : ℕ} → count ≡ lookups nr → bytes ≡ set_bytes nr → Sizes nr count bytes
sizes_of c b = record { all_lookups = sym c; all_bytes = sym b }
