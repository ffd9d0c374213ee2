-- Laws, not definitions: the place of a lookup, by the range that its number is in, one law for each arm of the code's match; and where a
-- spread lookup reads.
-- Assumes nothing.
use mathlib.Core.Path.{◌≡◌, sym, ap, ap₂, ◌∙◌}
use Prim.Native.Nat.{ℕ, ◌+◌, ◌-◌, ◌*◌, ◌≤◌, ◌<◌, min}
use native.Mathlib.Decide.{dec_lt}
use native.Mathlib.Omega.{arith}
use borrow.Author.Tests.{lt-ltb, le-ltb}
use Rattle.layout.specs.Stages.{width_of, shifted, source_of, lookups, entry_lookups, half_lookups, stage_of, round_at, in_round}
use Rattle.layout.specs.Stages.{first_lookup, first_byte_of, index_of, place_of, place_from, place_in_round, place_beyond}
use Rattle.layout.specs.declared.stage.Place.{Place}
use Rattle.layout.specs.declared.stage.Stage.{Stage}
use Rattle.layout.specs.declared.stage.Stage.TheVariants.{Entry, First, Second, Exit, Beyond}
use Rattle.layout.proofs.laws.Ranges.{stage_entry, stage_first, stage_second, stage_exit, stage_beyond, lookups_are, by_stage}

-- ---- inside a layer: a spread table, and an XOR table
pub spread_place : (s : Stage) (m start j : ℕ) → j < 16 → record { stage = s; index = j; size = 256 * m; offset = start + j * (256 * m) } ≡ place_from s m start j
unfolding place_from
spread_place s m start j h =
    let e : min j 16 ≡ j = omega arith in
    let f : start + j * (256 * m) ≡ start + (j * (256 * m) + (j - 16) * 128) = omega arith in
    rw (lt-ltb j 16 h, e, f)

pub xor_place : (s : Stage) (m start j : ℕ) → 16 ≤ j
    → record { stage = s; index = j; size = 128; offset = start + 16 * (256 * m) + (j - 16) * 128 } ≡ place_from s m start j
unfolding place_from
xor_place s m start j h =
    let e : min j 16 ≡ 16 = omega arith in
    let f : start + 16 * (256 * m) + (j - 16) * 128 ≡ start + (16 * (256 * m) + (j - 16) * 128) = omega arith in
    rw (le-ltb j 16 h, e, f)

-- ---- by the stage
place_at : (nr k : ℕ) (s : Stage) → k < lookups nr → stage_of nr k ≡ s → place_from s (width_of s) (first_byte_of nr s) (k - first_lookup nr s) ≡ place_of nr k
unfolding place_from index_of
place_at nr k s h e =
    rw (sym e)
    (ap₂ (λ (x y : ℕ). record { stage = stage_of nr k; index = k - first_lookup nr (stage_of nr k); size = x; offset = y })
    (sym ((by_stage nr).size_is k h)) (sym ((by_stage nr).offset_is k h)))

-- ---- by the range, of nr rounds
module _ (nr k : ℕ) {p : Place} where
  pub in_entry : k < entry_lookups → p ≡ place_from Entry 16 0 k → p ≡ place_of nr k
  in_entry h q =
      q ∙ ap (place_from Entry 16 0) (let e : k ≡ k - 0 = omega arith in e) ∙ place_at nr k Entry (omega (arith, lookups_are nr)) (stage_entry nr k h)

  -- The exit begins at lookup `first` and byte `start`.
  pub in_exit : (first start : ℕ) → first ≡ first_lookup nr Exit → start ≡ first_byte_of nr Exit → first ≤ k → k < first_lookup nr Beyond
      → p ≡ place_from Exit 16 start (k - first) → p ≡ place_of nr k
  in_exit first start f b lo hi q =
      q
      ∙ ap₂ (λ (x y : ℕ). place_from Exit 16 y (k - x)) f b
      ∙ place_at nr k Exit (omega (arith, lookups_are nr)) (stage_exit nr k (omega arith) hi)

  -- There are `all` lookups and `bytes` of tables.
  pub beyond : (all bytes : ℕ) → all ≡ first_lookup nr Beyond → bytes ≡ first_byte_of nr Beyond → all ≤ k → p ≡ place_beyond (k - all) bytes → p ≡ place_of nr k
  unfolding index_of
  beyond all bytes f b lo q =
      q
      ∙ ap₂ (λ (x y : ℕ). place_beyond (k - x) y) f b
      ∙ rw (stage_beyond nr k (omega arith))
      (ap₂ (λ (x y : ℕ). record { stage = Beyond; index = k - first_lookup nr Beyond; size = x; offset = y })
      (sym ((by_stage nr).size_none k (omega (arith, lookups_are nr))))
      (sym ((by_stage nr).offset_none k (omega (arith, lookups_are nr)) ∙ (by_stage nr).table_bytes)))

  pub in_rounds : entry_lookups ≤ k → k < first_lookup nr Exit → p ≡ place_in_round (round_at k) (in_round k) → p ≡ place_of nr k
  unfolding place_in_round
  in_rounds lo hi q = q ∙ go (dec_lt (in_round k) half_lookups)
    where
      r : ℕ
      r = round_at k

      less : k < lookups nr
      less = omega (arith, lookups_are nr)

      go : Dec (in_round k < half_lookups) → place_in_round r (in_round k) ≡ place_of nr k
      go (yes h) =
          rw (lt-ltb (in_round k) half_lookups h)
          (ap (place_from (First r) 4 (first_byte_of nr (First r))) (let e : in_round k ≡ k - first_lookup nr (First r) = omega arith in e)
          ∙ place_at nr k (First r) less (stage_first nr k lo hi h))
      go (no h) =
          rw (le-ltb (in_round k) half_lookups (omega arith))
          (ap (place_from (Second r) 4 (first_byte_of nr (Second r))) (let e : in_round k - half_lookups ≡ k - first_lookup nr (Second r) = omega arith in e)
          ∙ place_at nr k (Second r) less (stage_second nr k lo hi (omega arith)))

-- ---- the two arms inside a round
module _ (r j : ℕ) {p : Place} where
  pub first_half : j < half_lookups → p ≡ place_from (First r) 4 (first_byte_of r (First r)) j → p ≡ place_in_round r j
  unfolding place_in_round
  first_half h q = rw (lt-ltb j half_lookups h) q

  pub second_half : half_lookups ≤ j → p ≡ place_from (Second r) 4 (first_byte_of r (Second r)) (j - half_lookups) → p ≡ place_in_round r j
  unfolding place_in_round
  second_half h q = rw (le-ltb j half_lookups h) q

-- ---- where a spread lookup reads: one of the 16 standing bytes
pub shifted_lt : (p : ℕ) → p < 16 → shifted p < 16
unfolding shifted
shifted_lt p h = omega arith

module _ (reads : ℕ → ℕ) where
  pub source_lt : ((p : ℕ) → p < 16 → reads p < 16) → (s : Stage) (p : ℕ) → p < 16 → source_of reads s p < 16
  source_lt small Entry p h = h
  source_lt small (First r) p h = small p h
  source_lt small (Second r) p h = h
  source_lt small Exit p h = small p h
  source_lt small Beyond p h = h
