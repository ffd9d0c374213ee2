-- Laws, not definitions: the sizes of a set of ten rounds, which the programs and the public calls have as numbers, and that a lookup below that number is one of
-- the set's.
-- Assumes nothing.
use mathlib.Core.Path.{sym, subst}
use Prim.Native.Nat.{ℕ, ◌<◌}
use Rattle.layout.specs.Stages.{lookups, ten_lookups, ten_set_bytes}
use Rattle.layout.proofs.laws.Cases.{starred}
use Rattle.layout.proofs.laws.Lookup.{Sizes}

pub ten : Sizes 10 ten_lookups ten_set_bytes
ten = record { all_lookups = starred.all_lookups; all_bytes = starred.all_bytes }

pub in_set : (n : ℕ) → n < ten_lookups → n < lookups 10
in_set n h = subst (λ (x : ℕ). n < x) (sym starred.all_lookups) h
