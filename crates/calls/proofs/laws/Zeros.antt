-- Laws, not definitions: lookups over tables of zeros leave a state of zeros as it was, but for the count; so the walk from zeros over zeros gives
-- zeros. A spread lookup copies zeros over zeros, an XOR lookup replaces a nibble 0 by a nibble 0, and sums of zeros are zeros.
-- Assumes nothing.
use mathlib.Core.Bool.{Bool, true, false, cond}
use mathlib.Core.List.{List, ◌∷◌, ◌++◌}
use mathlib.Core.Path.{◌≡◌, refl, sym, ap, ◌∙◌}
use Prim.Native.Nat.{ℕ, zero, suc, ◌+◌, ◌-◌, ◌*◌, ◌/◌, ◌%◌, ◌≤◌, ◌<◌}
use native.Mathlib.Nat.{zero-mul}
use native.Mathlib.Omega.{arith}
use borrow.Author.Tests.{ltb-true, lt-ltb}
use lib.Dec.{eqb, ltb}
use lib.ListN.{length, take, drop, set, replicate, length-replicate, replicate-append-replicate}
use lib.Seq.{paste, set-get_or}
use Rattle.answers.proofs.laws.Tests.{left_new}
use Rattle.bits.specs.Lists.{at}
use Rattle.bits.specs.Nibbles.{pack, set_nibble}
use Rattle.bits.proofs.laws.Lists.{tabulate_ext, zeros, zero_at}
use Rattle.bits.proofs.laws.Multiples.{product_le}
use Rattle.bits.proofs.laws.Nibbles.{nibble_zero}
use Rattle.network.specs.Lookups.{State, state_at, zero_area, Shape, spread_area, xor_area, sums, area_in, leaving, lookup_in, lookup}
use Rattle.network.specs.Order.{sum_place, layer_lookups}
use Rattle.network.specs.Sizes.{size_of}
use Rattle.layout.specs.Ciphers.{reads_of}
use Rattle.layout.specs.Stages.{shape_at, width_of, lookups, tables_bytes, set_bytes, table_size, table_offset, stage_of, index_of}
use Rattle.layout.proofs.laws.Instance.{ends_in_tables}
use Rattle.layout.proofs.laws.Lookup.{widest, tables_in_set}
use Rattle.layout.proofs.laws.Ranges.{by_stage}
use Rattle.calls.specs.Calls.{Mark, marked, kept_mark, holding, changed, started, judge_start, judge_stop, step, advance, to_stop, fetch, handed, block_left}
use Rattle.calls.specs.Zeros.{ZerosFor, Zeros}
use Rattle.calls.proofs.laws.Judged.{stop_right, count_right}
use Rattle.answers.specs.Answer.{Accepted}

-- ---- parts of n zeros
abbrev noughts : ℕ → List ℕ
noughts n = replicate n 0

take_zeros : (j n : ℕ) → j ≤ n → take j (noughts n) ≡ noughts j
take_zeros zero n h = refl
take_zeros (suc j) zero h = absurd (omega arith)
take_zeros (suc j) (suc n) h = ap (λ (l : List ℕ). 0 ∷ l) (take_zeros j n (omega arith))

drop_zeros : (j n : ℕ) → drop j (noughts n) ≡ noughts (n - j)
drop_zeros zero n = ap noughts (let e : n ≡ n - 0 = omega arith in e)
drop_zeros (suc j) zero = ap noughts (let e : 0 ≡ 0 - suc j = omega arith in e)
drop_zeros (suc j) (suc n) = drop_zeros j n ∙ ap noughts (let e : n - j ≡ suc n - suc j = omega arith in e)

join_zeros : (a b n : ℕ) → a + b ≡ n → noughts a ++ noughts b ≡ noughts n
join_zeros a b n e = replicate-append-replicate a b 0 ∙ ap noughts e

paste_zeros : (n i k m : ℕ) → i + m ≤ n → m ≤ k → paste (noughts n) i (noughts k) m ≡ noughts n
paste_zeros n i k m h l =
    ap (λ (t : List ℕ). t ++ take m (noughts k) ++ drop (i + m) (noughts n)) (take_zeros i n (omega arith))
    ∙ ap (λ (t : List ℕ). noughts i ++ t ++ drop (i + m) (noughts n)) (take_zeros m k l)
    ∙ ap (λ (t : List ℕ). noughts i ++ noughts m ++ t) (drop_zeros (i + m) n)
    ∙ ap (λ (t : List ℕ). t ++ noughts (n - (i + m))) (join_zeros i m (i + m) refl)
    ∙ join_zeros (i + m) (n - (i + m)) n (omega arith)

-- ---- nibbles
packed_zero : (b : Bool) (x : ℕ) → x ≡ 0 → cond b (pack 0 (x % 16)) (pack (x / 16) 0) ≡ x
packed_zero true x e = rw e
packed_zero false x e = rw e

set_nibble_zero : (n q v : ℕ) → v ≡ 0 → set_nibble (noughts n) q v ≡ noughts n
unfolding set_nibble
set_nibble_zero n q v e =
    ap (λ (y : ℕ). set (noughts n) (q / 2) (cond (eqb (q % 2) 0) (pack y (at (noughts n) (q / 2) % 16)) (pack (at (noughts n) (q / 2) / 16) y))) e
    ∙ ap (set (noughts n) (q / 2)) (packed_zero (eqb (q % 2) 0) (at (noughts n) (q / 2)) (zero_at n (q / 2)))
    ∙ set-get_or (noughts n) (q / 2) 0

-- ---- the kinds of lookup, over a table of k zeros and an area of n
spread_zero : (m s p k l n : ℕ) → p * m + m ≤ n → m ≤ k → spread_area m s p (noughts k) (noughts l) (noughts n) ≡ noughts n
unfolding spread_area
spread_zero m s p k l n h f =
    let front : at (noughts l) s * m ≡ 0 = ap (λ (x : ℕ). x * m) (zero_at l s) ∙ zero-mul m in
    ap (λ (d : ℕ). paste (noughts n) (p * m) (drop d (noughts k)) m) front ∙ paste_zeros n (p * m) k m h f

xor_zero : (m x k n : ℕ) → xor_area m x (noughts k) (noughts n) ≡ noughts n
unfolding xor_area
xor_zero m x k n = set_nibble_zero n (sum_place m x) _ (nibble_zero k _)

sums_zero : (m n : ℕ) → sums m (noughts n) ≡ noughts 16
unfolding sums
sums_zero m n = tabulate_ext 16 _ (λ i. 0) (λ i h. zero_at n _) ∙ zeros 16

-- ---- a state of zeros
abbrev zero_state : ℕ → State
zero_state c = state_at c (noughts 16) zero_area

on_test : {A : Type 0} (b : Bool) {s t u : A} → (b ≡ true → s ≡ u) → (b ≡ false → t ≡ u) → cond b s t ≡ u
on_test true p q = p refl
on_test false p q = q refl

area_zero : (S : Shape) (j k c : ℕ) → S.width ≤ 16 → (j < 16 → S.width ≤ k) → area_in S j (noughts k) (zero_state c) ≡ zero_area
area_zero S j k c w f =
    on_test (ltb j 16)
    (λ e.
    let h : j < 16 = ltb-true j 16 e in
    spread_zero S.width (S.source j) j k 16 256 (omega (arith, product_le j S.width 15 16 (omega arith) w)) (f h))
    (λ e. xor_zero S.width (j - 16) k 256)

leaving_zero : (S : Shape) (j c : ℕ) → leaving S j zero_area (zero_state c) ≡ zero_state (suc c)
leaving_zero S j c =
    on_test (ltb j 16) (λ e. refl)
    (λ e.
    on_test (eqb (suc j) (layer_lookups S.width)) (λ d. ap (λ (l : List ℕ). state_at (suc c) l zero_area) (sums_zero S.width 256)) (λ d. refl))

lookup_zero : (S : Shape) (j k c : ℕ) → S.width ≤ 16 → (j < 16 → S.width ≤ k) → lookup_in S j (noughts k) (zero_state c) ≡ zero_state (suc c)
unfolding lookup_in
lookup_zero S j k c w f = ap (λ (a : List ℕ). leaving S j a (zero_state c)) (area_zero S j k c w f) ∙ leaving_zero S j c

-- ---- the walk, over memory of n zeros that is long enough
module _ (reads : ℕ → ℕ) (nr n : ℕ) (room : tables_bytes nr ≤ n) where
  table_zero : (k : ℕ) → k < lookups nr → take (table_size nr k) (drop (table_offset nr k) (noughts n)) ≡ noughts (table_size nr k)
  table_zero k h =
      ap (take (table_size nr k)) (drop_zeros (table_offset nr k) n)
      ∙ take_zeros (table_size nr k) (n - table_offset nr k) (omega (arith, ends_in_tables nr k h))

  -- A spread table has 256 words.
  word_fits : (k : ℕ) → k < lookups nr → index_of nr k < 16 → width_of (stage_of nr k) ≤ table_size nr k
  word_fits k h j = omega (arith, (by_stage nr).size_is k h ∙ sized (index_of nr k) j)
    where
      sized : (i : ℕ) → i < 16 → size_of (width_of (stage_of nr k)) i ≡ 256 * width_of (stage_of nr k)
      sized i b = rw (lt-ltb i 16 b)

  step_zero : (k : ℕ) → k < lookups nr → step reads nr (noughts (table_size nr k)) (zero_state k) ≡ zero_state (suc k)
  unfolding lookup
  step_zero k h =
      (by_stage nr).lookup_is reads k h (noughts (table_size nr k)) (zero_state k)
      ∙ lookup_zero (shape_at reads (stage_of nr k)) (index_of nr k) (table_size nr k) k (widest (stage_of nr k)) (word_fits k h)

  advance_zero : (m k : ℕ) → k + m ≤ lookups nr → advance reads nr (noughts n) m (zero_state k) ≡ zero_state (k + m)
  unfolding advance
  advance_zero zero k h = ap zero_state (let e : k ≡ k + 0 = omega arith in e)
  advance_zero (suc m) k h =
      ap (λ (t : List ℕ). advance reads nr (noughts n) m (step reads nr t (zero_state k))) (table_zero k (omega arith))
      ∙ ap (advance reads nr (noughts n) m) (step_zero k (omega arith))
      ∙ advance_zero m (suc k) (omega arith)
      ∙ ap zero_state (let e : suc k + m ≡ k + suc m = omega arith in e)

module _ (c nr : ℕ) where
  abbrev memory : List ℕ
  memory = noughts (set_bytes nr)

  -- The mark of the start's walk, and the byte that its lookups read.
  abbrev k : Mark
  k = marked c

  abbrev reads : ℕ → ℕ
  reads = reads_of k.cipher

  moved_zero : handed nr (to_stop memory (lookups nr)) (started c (noughts 16)) ≡ holding (kept_mark k) (zero_state (lookups nr))
  unfolding handed started judge_start
  moved_zero =
      let accepted : judge_stop nr (length memory) (lookups nr) 0 ≡ Accepted =
      sym (stop_right nr (length memory) (lookups nr) 0 (length-replicate (set_bytes nr) 0) (omega arith) (omega arith))
      in
      sym (left_new _ (changed (advance reads nr memory (lookups nr - 0)) (holding k (zero_state 0))) (holding k (zero_state 0)) accepted)
      ∙ ap (holding (kept_mark k)) (advance_zero reads nr (set_bytes nr) (tables_in_set nr) (lookups nr - 0) 0 (omega arith))
      ∙ ap (λ (n : ℕ). holding (kept_mark k) (zero_state n)) (let e : 0 + (lookups nr - 0) ≡ lookups nr = omega arith in e)

  pub zeros_for : ZerosFor c nr
  unfolding block_left
  zeros_for lent l =
      ap (block_left nr (fetch lent)) moved_zero
      ∙ sym (left_new _ (noughts 16) lent (sym (count_right nr (length lent) (lookups nr) l refl)))

pub zeros_walked : Zeros
zeros_walked c = zeros_for c 10
