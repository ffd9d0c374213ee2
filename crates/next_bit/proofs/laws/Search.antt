-- Laws, not definitions: the search for the next bit, lookup after lookup from a stop on, for any number nr of rounds. What the code has as a number, the lookups of a
-- walk, is `count`.
-- Assumes nothing.
use mathlib.Core.Bool.{Bool, true, false, cond}
use mathlib.Core.List.{List}
use mathlib.Core.Logic.{⊎_elim}
use mathlib.Core.Path.{◌≡◌, sym, ap, ap₂, ◌∙◌}
use Prim.Native.Nat.{ℕ, ◌+◌, ◌*◌, ◌/◌, ◌≤◌, ◌<◌, max}
use native.Mathlib.Numerals.{add-one}
use native.Mathlib.Omega.{arith}
use lib.Dec.{ltb}
use Rattle.bits.specs.Lists.{concat}
use Rattle.layout.specs.Ciphers.{reads_of}
use Rattle.layout.specs.Stages.{lookups, table_offset, index_of}
use Rattle.layout.proofs.laws.Lookup.{Sizes}
use Rattle.layout.proofs.laws.Ranges.{in_stage}
use Rattle.calls.specs.Calls.{to_stop, read_next}
use Rattle.evaluate.specs.Promises.{Opens, Moves}
use Rattle.evaluate.specs.declared.walk.Move.{Move}
use Rattle.evaluate.specs.declared.walk.Opening.{Opening}
use Rattle.sensitivity.specs.Reads.{first_bit, entry_bits, bits_at, first_read, run_at, bits_read}
use Rattle.sensitivity.specs.Theorems.{Lendable}
use Rattle.passes.specs.InPlace.{place_told, LookupMade}
use Rattle.passes.specs.declared.Lookup.{Lookup}
use Rattle.passes.proofs.laws.Walking.{Walking, walking_more}
use Rattle.next_bit.specs.NextBit.{next_in}
use Rattle.next_bit.proofs.laws.Runs.{next_passed, next_found}
use Rattle.next_bit.proofs.laws.Skipped.{none_before, walking_moved}
use Rattle.std.specs.Prelude.{Some, None}

-- Every lookup of a set reads some.
some_bits : (nr n : ℕ) → n < lookups nr → 0 < bits_at nr n
some_bits nr n h = ⊎_elim (λ e. rw e (by (ltb (index_of nr n) 16) 4 (omega arith))) (λ e. rw e (by (ltb (index_of nr n) 16) 16 (omega arith))) (in_stage nr n h).width
  where
    by : (b : Bool) (m : ℕ) → 0 < m → 0 < cond b (8 * m) 4
    by true m k = omega arith
    by false m k = omega arith

-- ---- the loop: the first n lookups of the walk have left standing bytes s and area a, and all bits that they read lie before `from`
pub record Seeking (c nr count : ℕ) (set block : List ℕ) (from : ℕ) (s a : List ℕ) (n : ℕ) : Type 0 where
  pub within : n ≤ count
  pub walk : Walking (reads_of c) nr set block s a n
  pub passed : next_in (concat n (run_at (reads_of c) nr set block)) from ≡ None

module _ {c nr count : ℕ} {set block : List ℕ} {from : ℕ} where
  -- A walk was moved to a stop whose table begins at or before `from`.
  pub seeking_moved : {bytes : ℕ} → Sizes nr count bytes → Lendable nr set block → {stop : ℕ} → stop ≤ count → table_offset nr stop ≤ from / 8
      → {o : Opening} → Opens c block o → {m : Move} → Moves nr (to_stop set stop) o.walk m
      → Seeking c nr count set block from m.walk.standing m.walk.area stop
  seeking_moved N lent {stop} h l opens moves =
      let inside : stop ≤ lookups nr = omega (arith, N.all_lookups) in
      record { within = h; walk = walking_moved c lent inside opens moves; passed = none_before c lent from stop inside (omega arith) }

  module _ {s a : List ℕ} {n : ℕ} (S : Seeking c nr count set block from s a n) where
    -- Lookup n is made, and m is how many bits it reads.
    module _ {bytes : ℕ} (N : Sizes nr count bytes) (h : n < count) {r : Lookup} {s' a' : List ℕ} (made : LookupMade (reads_of c) nr set n s a r s' a') where
      inside : n < lookups nr
      inside = omega (arith, N.all_lookups)

      -- The first is the walk's.
      first_is : first_bit (place_told r) ≡ first_read (reads_of c) nr set block n
      first_is = ap first_bit (made.place ∙ ap (read_next (reads_of c) nr) (sym S.walk.walk))

      found : from < first_bit (place_told r) + bits_at nr n → Some (max from (first_bit (place_told r))) ≡ next_in (bits_read (reads_of c) nr set block) from
      unfolding bits_read
      found l =
          ap (λ (i : ℕ). Some (max from i)) first_is
          ∙ sym (next_found (first_read (reads_of c) nr set block) (bits_at nr) from (lookups nr) n inside S.passed (some_bits nr n inside) (omega (arith, first_is)))

      -- It lies behind `from`.
      pub seeking_first : from < first_bit (place_told r) → Some (first_bit (place_told r)) ≡ next_in (bits_read (reads_of c) nr set block) from
      seeking_first l = ap Some (let e : first_bit (place_told r) ≡ max from (first_bit (place_told r)) = omega arith in e) ∙ found (omega arith)

      module _ {m : ℕ} (told : m ≡ entry_bits r.width r.index) where
        bits : m ≡ bits_at nr n
        bits = told ∙ ap₂ entry_bits made.width made.index

        -- `from` is one of them.
        pub seeking_here : first_bit (place_told r) ≤ from → from < first_bit (place_told r) + m → Some from ≡ next_in (bits_read (reads_of c) nr set block) from
        seeking_here k l = ap Some (let e : from ≡ max from (first_bit (place_told r)) = omega arith in e) ∙ found (omega (arith, bits))

        -- They lie before `from`.
        pub seeking_next : first_bit (place_told r) + m ≤ from → Seeking c nr count set block from s' a' (n + 1)
        seeking_next l = record {
          within = omega arith;
          walk = walking_more S.walk made.walk;
          passed =
              ap (λ (k : ℕ). next_in (concat k (run_at (reads_of c) nr set block)) from) (add-one n)
              ∙ next_passed (first_read (reads_of c) nr set block) (bits_at nr) from n S.passed (omega (arith, first_is, bits));
        }

    pub seeking_all : {bytes : ℕ} → Sizes nr count bytes → count ≤ n → None ≡ next_in (bits_read (reads_of c) nr set block) from
    unfolding bits_read
    seeking_all N h =
        let e : n ≡ lookups nr = omega (arith, S.within, N.all_lookups) in
        sym S.passed ∙ ap (λ (k : ℕ). next_in (concat k (run_at (reads_of c) nr set block)) from) e
