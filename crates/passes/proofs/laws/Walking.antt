-- Laws, not definitions: the walk from a block, lookup by lookup, as a loop over a set makes it, for any number nr of rounds, where position p of a first half or of the
-- exit reads byte `reads p`.
-- Assumes nothing.
use mathlib.Core.List.{List}
use mathlib.Core.Path.{◌≡◌, sym, ap, ◌∙◌}
use Prim.Native.Nat.{ℕ, suc, ◌+◌, ◌<◌}
use native.Mathlib.Numerals.{add-one}
use native.Mathlib.Omega.{arith}
use Rattle.network.specs.Lookups.{state_at, zero_area}
use Rattle.layout.specs.Stages.{set_bytes}
use Rattle.layout.proofs.laws.Lookup.{tables_in_set}
use Rattle.calls.specs.Calls.{advance, state_from}
use Rattle.calls.proofs.laws.Calls.{advance_split}
use Rattle.passes.specs.InPlace.{LookupMade}
use Rattle.passes.specs.declared.Lookup.{Lookup}

-- ---- a lookup
-- The place that it read is one of the set.
pub read_in_set : {reads : ℕ → ℕ} {nr : ℕ} {set : List ℕ} {n : ℕ} {s a s' a' : List ℕ} {r : Lookup}
    → LookupMade reads nr set n s a r s' a' → r.offset < set_bytes nr
read_in_set {nr = nr} made = omega (arith, made.inside.somewhere, tables_in_set nr)

-- ---- the loops: the first n lookups of the walk from a block have left standing bytes s and area a
pub record Walking (reads : ℕ → ℕ) (nr : ℕ) (set block s a : List ℕ) (n : ℕ) : Type 0 where
  pub walk : state_from reads nr set block n ≡ state_at n s a

pub walking_none : {reads : ℕ → ℕ} {nr : ℕ} {set block s : List ℕ} → s ≡ block → Walking reads nr set block s zero_area 0
unfolding advance
walking_none e = record { walk = ap (λ (s : List ℕ). state_at 0 s zero_area) (sym e) }

-- One lookup more, of which the code has what it leaves.
pub walking_more : {reads : ℕ → ℕ} {nr : ℕ} {set block s a : List ℕ} {n : ℕ} → Walking reads nr set block s a n
    → {s' a' : List ℕ} → advance reads nr set 1 (state_at n s a) ≡ state_at (suc n) s' a'
    → Walking reads nr set block s' a' (n + 1)
walking_more {reads} {nr} {set} {block} {n = n} W {s'} {a'} walk = record {
  walk =
      advance_split reads nr set n 1 (state_at 0 block zero_area)
      ∙ ap (advance reads nr set 1) W.walk
      ∙ walk
      ∙ ap (λ (k : ℕ). state_at k s' a') (sym (add-one n));
}
