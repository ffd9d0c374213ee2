-- Laws, not definitions: the lookups that the search skips, for any number nr of rounds. The tables of the halves of the rounds, one behind the other, and those of the
-- exit behind them begin in steps of a half's bytes; a lookup reads in its own table, so those before a table that begins at or before `from` read no bit at or behind it; and a
-- walk that is moved to a lookup has made those before it.
-- Assumes nothing.
use mathlib.Core.List.{List}
use mathlib.Core.Path.{◌≡◌, refl, sym, ap, ◌∙◌}
use Prim.Native.Nat.{ℕ, zero, suc, ◌+◌, ◌-◌, ◌*◌, ◌≤◌, ◌<◌}
use native.Mathlib.Omega.{arith}
use Rattle.bits.specs.Lists.{concat}
use Rattle.network.specs.Lookups.{State, state_at}
use Rattle.layout.specs.Ciphers.{reads_of}
use Rattle.layout.specs.Stages.{lookups, table_offset, entry_lookups, half_lookups, half_bytes, stage_of, first_lookup, first_byte_of, index_of}
use Rattle.layout.specs.declared.stage.Stage.{Stage}
use Rattle.layout.specs.declared.stage.Stage.TheVariants.{First, Exit}
use Rattle.layout.proofs.laws.Instance.{next_offset}
use Rattle.layout.proofs.laws.Lookup.{first_byte}
use Rattle.layout.proofs.laws.Ranges.{lookups_are, by_range}
use Rattle.calls.specs.Calls.{Held, state_from, to_stop, handed}
use Rattle.evaluate.specs.Promises.{Opens, Moves}
use Rattle.evaluate.specs.declared.walk.Move.{Move}
use Rattle.evaluate.specs.declared.walk.Opening.{Opening}
use Rattle.sensitivity.specs.Reads.{bits_at, first_read, run_at}
use Rattle.sensitivity.specs.Theorems.{Lendable}
use Rattle.sensitivity.proofs.laws.Calls.{started_is, moved}
use Rattle.sensitivity.proofs.laws.Unread.{state_count, most}
use Rattle.passes.proofs.laws.Walking.{Walking}
use Rattle.next_bit.specs.NextBit.{next_in}
use Rattle.next_bit.proofs.laws.Runs.{next_passed}
use Rattle.std.specs.Prelude.{None}

-- ---- where the tables of half h of the rounds begin, of the exit for the h behind the last
module _ (nr h : ℕ) (some : h ≤ 2 * (nr - 1)) where
  abbrev k : ℕ
  k = entry_lookups + half_lookups * h

  abbrev Begins : Stage → Type 0
  Begins s = (first_lookup nr s ≡ k) × (first_byte_of nr s ≡ first_byte_of nr (First 1) + half_bytes * h)

  inside : k < lookups nr
  inside = omega (arith, lookups_are nr)

  begins : Begins (stage_of nr k)
  begins =
      by_range nr k inside Begins
      (λ a. absurd (omega arith))
      (λ r lo hi a b. (omega arith, omega arith))
      (λ r lo hi a b. (omega arith, omega arith))
      (λ a b. (omega arith, omega arith))

  pub half_offset : table_offset nr k ≡ first_byte_of nr (First 1) + half_bytes * h
  unfolding index_of
  half_offset = first_byte nr k inside (omega (arith, begins.0)) ∙ begins.1

-- The exit's first lookup r, at or before a byte that is not before its tables.
pub exit_offset : (nr r byte : ℕ) → r ≡ first_lookup nr Exit → first_byte_of nr Exit ≤ byte → table_offset nr r ≤ byte
exit_offset nr r byte e h =
    let f : r ≡ entry_lookups + half_lookups * (2 * (nr - 1)) = omega arith in
    omega (arith, ap (table_offset nr) f, half_offset nr (2 * (nr - 1)) (omega arith))

-- ---- a walk over a memory of the right length, moved to a stop
module _ (c : ℕ) {nr : ℕ} {set block : List ℕ} (lent : Lendable nr set block) where
  -- The lookups before a table that begins at or before `from` read no bit at or behind it.
  pub none_before : (from n : ℕ) → n ≤ lookups nr → 8 * table_offset nr n ≤ from → next_in (concat n (run_at (reads_of c) nr set block)) from ≡ None
  unfolding next_in concat
  none_before from zero h l = refl
  none_before from (suc n) h l =
      next_passed (first_read (reads_of c) nr set block) (bits_at nr) from n (none_before from n (omega arith) (omega (arith, next_offset nr n h)))
      (omega (arith, most (reads_of c) nr set block lent n h))

  pub walking_moved : {stop : ℕ} → stop ≤ lookups nr → {o : Opening} → Opens c block o → {m : Move} → Moves nr (to_stop set stop) o.walk m
      → Walking (reads_of c) nr set block m.walk.standing m.walk.area stop
  walking_moved {stop} h {o} opens {m} moves =
      record { walk = sym there ∙ ap (λ (n : ℕ). state_at n m.walk.standing m.walk.area) count }
    where
      there : state_at m.walk.count m.walk.standing m.walk.area ≡ state_from (reads_of c) nr set block stop
      there =
          ap (λ (w : Held). w.state)
          (moves.walk ∙ ap (handed nr (to_stop set stop)) (opens.walk ∙ started_is c block lent.block) ∙ moved c nr set block lent stop h)

      count : m.walk.count ≡ stop
      count = ap (λ (s : State). s.count) there ∙ state_count (reads_of c) nr set block lent stop h
