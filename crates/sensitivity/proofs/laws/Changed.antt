-- Laws, not definitions: a layer in which one nibble of one word is changed. Where its word is due, alone or in a sum, the value due is changed by the same; all
-- else that is due stays, and so do the tables of all later lookups.
-- Assumes nothing.
use mathlib.Core.Bool.{cond}
use mathlib.Core.List.{List}
use mathlib.Core.Logic.{⊎_elim, ◌⊎◌, inl, inr}
use mathlib.Core.Path.{◌≡◌, refl, sym, ap, ap₂, ◌∙◌}
use Prim.Native.Nat.{ℕ, suc, ◌+◌, ◌-◌, ◌*◌, ◌/◌, ◌%◌, ◌≤◌, ◌<◌, min}
use native.Mathlib.Decide.{ℕ_discrete, dec_lt}
use native.Mathlib.Nat.{mul-le-mul_right, div-add-mod', mod-lt}
use native.Mathlib.Omega.{arith}
use borrow.Author.Tests.{lt-ltb, eq-eqb, ne_eqb}
use lib.Bits.{bit_xor, xor_zero_r, xor_lt}
use lib.Dec.{eqb, ltb, lit<}
use Rattle.bits.specs.Bytes.{Bytes}
use Rattle.bits.specs.Groups.{xor_all}
use Rattle.bits.specs.Lists.{at}
use Rattle.bits.specs.Nibbles.{nibble, packed}
use Rattle.bits.proofs.laws.Nibbles.{nibble_packed, packed_bytes, nibble_lt}
use Rattle.bits.proofs.laws.Xor.{cond_lt, xor_none}
use Rattle.bits.proofs.laws.XorAll.{xor_all_same, xor_all_xor, xor_all_zero, xor_all_one}
use Rattle.network.specs.Due.{sum, summed, values_in, held, blank, due_in}
use Rattle.network.specs.Numbers.{Numbers, encoding_number}
use Rattle.network.specs.Order.{added}
use Rattle.network.specs.Tables.{Layer, Good, spread_entry, spread_table, table_in}
use Rattle.network.proofs.laws.Order.{at_div, at_mod, added_start, word_group, before_group}
use Rattle.network.proofs.laws.Values.{nibble_summed}

-- m bytes whose nibble h is that of l, with d added.
unfoldable pub with_added : ℕ → ℕ → ℕ → List ℕ → List ℕ
with_added m h d l = packed m (λ q. bit_xor (nibble l q) (cond (eqb q h) d 0))

-- The layer whose word w has d added at nibble h.
abbrev pub changed : Layer → ℕ → ℕ → ℕ → Layer
changed L w h d =
    record { width = L.width; source = L.source; word = λ p x. cond (eqb p w) (with_added L.width h d (L.word p x)) (L.word p x) }

module _ (L : Layer) (good : Good L) (w₀ h₀ d : ℕ) (dl : d < 16) (hl : h₀ < 2 * L.width) where
  -- what is added to nibble h of word p
  extra : ℕ → ℕ → ℕ
  extra p h = cond (eqb p w₀) (cond (eqb h h₀) d 0) 0

  word_bytes : (p x : ℕ) → Bytes (L.word p x)
  word_bytes p x b = good.bytes p x b

  added_lt : (l : List ℕ) → Bytes l → (q : ℕ) → bit_xor (nibble l q) (cond (eqb q h₀) d 0) < 16
  added_lt l b q = xor_lt 4 (nibble l q) (cond (eqb q h₀) d 0) (nibble_lt l b q) (cond_lt (eqb q h₀) d 16 (lit< tt) dl)

  nibble_added : (l : List ℕ) → Bytes l → (q : ℕ) → q < 2 * L.width → nibble (with_added L.width h₀ d l) q ≡ bit_xor (nibble l q) (cond (eqb q h₀) d 0)
  unfolding with_added
  nibble_added l b q h = nibble_packed L.width _ (added_lt l b) q h

  word_nibble : (p x h : ℕ) → h < 2 * L.width → nibble ((changed L w₀ h₀ d).word p x) h ≡ bit_xor (nibble (L.word p x) h) (extra p h)
  unfolding extra
  word_nibble p x h b = go (ℕ_discrete p w₀)
    where
      go : Dec (p ≡ w₀) → nibble ((changed L w₀ h₀ d).word p x) h ≡ bit_xor (nibble (L.word p x) h) (extra p h)
      go (yes e) = rw (eq-eqb p w₀ e) (nibble_added (L.word p x) (word_bytes p x) h b)
      go (no e) = rw (ne_eqb p w₀ e) (sym (xor_zero_r (nibble (L.word p x) h)))

  pub good_changed : Good (changed L w₀ h₀ d)
  good_changed = record { groups = good.groups; reads = good.reads; bytes = λ p x. go p x (ℕ_discrete p w₀) }
    where
      go : (p x : ℕ) → Dec (p ≡ w₀) → Bytes ((changed L w₀ h₀ d).word p x)
      go p x (yes e) = rw (eq-eqb p w₀ e) (unfold with_added in packed_bytes L.width _ (λ q h. added_lt (L.word p x) (word_bytes p x) q))
      go p x (no e) = rw (ne_eqb p w₀ e) (word_bytes p x)

  -- ---- tables of later lookups are the same
  pub table_later : (E : ℕ → List ℕ) (N : Numbers) (j : ℕ) → w₀ < j → table_in E (changed L w₀ h₀ d) N j ≡ table_in E L N j
  unfolding table_in spread_table spread_entry
  table_later E N j h = rw (ne_eqb j w₀ (λ e. omega arith))

  module _ (l : List ℕ) where
    abbrev word : ℕ → List ℕ
    word p = L.word p (at l (L.source p))

    abbrev word' : ℕ → List ℕ
    word' p = (changed L w₀ h₀ d).word p (at l (L.source p))

    sum_extra : (w n h : ℕ) → h < 2 * L.width → sum word' w n h ≡ bit_xor (sum word w n h) (xor_all (suc n) (λ i. extra (w + i) h))
    unfolding sum
    sum_extra w n h b =
        xor_all_same (suc n) _ _ (λ i c. word_nibble (w + i) (at l (L.source (w + i))) h b)
        ∙ xor_all_xor (suc n) (λ i. nibble (L.word (w + i) (at l (L.source (w + i)))) h) (λ i. extra (w + i) h)

    sum_in : (w n : ℕ) → w ≤ w₀ → w₀ ≤ w + n → sum word' w n h₀ ≡ bit_xor (sum word w n h₀) d
    sum_in w n a b =
        sum_extra w n h₀ hl
        ∙ ap (bit_xor (sum word w n h₀))
        (xor_all_same (suc n) _ (λ i. cond (eqb (w₀ - w) i) d 0) (λ i c. go i (ℕ_discrete (w₀ - w) i)) ∙ xor_all_one (suc n) (w₀ - w) (λ i. d) (omega arith))
      where
        go : (i : ℕ) → Dec (w₀ - w ≡ i) → extra (w + i) h₀ ≡ cond (eqb (w₀ - w) i) d 0
        go i (yes e) = unfold extra in rw (eq-eqb (w₀ - w) i e, eq-eqb (w + i) w₀ (omega arith), eq-eqb h₀ h₀ refl)
        go i (no e) = unfold extra in rw (ne_eqb (w₀ - w) i e, ne_eqb (w + i) w₀ (λ z. e (omega arith)))

    sum_out : (w n h : ℕ) → h < 2 * L.width → (h ≡ h₀ → ⊥) ⊎ ((w₀ < w) ⊎ (w + n < w₀)) → sum word' w n h ≡ sum word w n h
    sum_out w n h b out =
        sum_extra w n h b
        ∙ ap (bit_xor (sum word w n h)) (xor_all_same (suc n) _ (λ i. 0) (λ i c. none i c out (ℕ_discrete (w + i) w₀)) ∙ xor_all_zero (suc n))
        ∙ xor_zero_r (sum word w n h)
      where
        none : (i : ℕ) → i < suc n → (h ≡ h₀ → ⊥) ⊎ ((w₀ < w) ⊎ (w + n < w₀)) → Dec (w + i ≡ w₀) → extra (w + i) h ≡ 0
        none i c o (no z) = unfold extra in rw (ne_eqb (w + i) w₀ z)
        none i c (inl ne) (yes z) = unfold extra in rw (eq-eqb (w + i) w₀ z, ne_eqb h h₀ ne)
        none i c (inr (inl a)) (yes z) = absurd (omega arith)
        none i c (inr (inr a)) (yes z) = absurd (omega arith)

    -- ---- what is due
    pub due_other : (first j w h : ℕ) → h < 2 * L.width → (w ≡ w₀ → h ≡ h₀ → ⊥) → (j ≤ 16) ⊎ (w₀ % L.width ≡ 0)
        → due_in (values_in (changed L w₀ h₀ d) l) first j w h ≡ due_in (values_in L l) first j w h
    unfolding due_in
    due_other first j w h b ne safe =
        ap (λ (s : ℕ). cond (ltb w (min j 16)) (held (encoding_number L.width first w n h) s) blank)
        (sum_out w n h b (where_out (ℕ_discrete h h₀) (ℕ_discrete w w₀) (dec_lt w w₀)))
      where
        n : ℕ
        n = added L.width (j - 16) w h

        ends : w < w₀ → w + n < w₀
        ends c = ⊎_elim (λ s. omega (arith, added_start L.width good.groups j w h s)) (λ s. before_group L.width (j - 16) w h w₀ good.groups s c) safe

        where_out : Dec (h ≡ h₀) → Dec (w ≡ w₀) → Dec (w < w₀) → (h ≡ h₀ → ⊥) ⊎ ((w₀ < w) ⊎ (w + n < w₀))
        where_out (no a) p q = inl a
        where_out (yes a) (yes c) q = absurd (ne c a)
        where_out (yes a) (no c) (yes q) = inr (inr (ends q))
        where_out (yes a) (no c) (no q) = inr (inl (omega arith))

    -- Of the changed word itself: what is due there before the change, and what is due there then.
    pub due_here : (first j : ℕ) → w₀ < j → w₀ < 16
        → let n : ℕ = added L.width (j - 16) w₀ h₀ in
        (due_in (values_in L l) first j w₀ h₀ ≡ held (encoding_number L.width first w₀ n h₀) (sum (values_in L l).word w₀ n h₀))
        × (due_in (values_in (changed L w₀ h₀ d) l) first j w₀ h₀ ≡ held (encoding_number L.width first w₀ n h₀) (bit_xor (sum (values_in L l).word w₀ n h₀) d))
    unfolding due_in
    due_here first j a b =
        let n : ℕ = added L.width (j - 16) w₀ h₀ in
        let t = lt-ltb w₀ (min j 16) (omega arith) in (
          rw t,
          rw t (ap (held (encoding_number L.width first w₀ n h₀)) (sum_in w₀ n (omega arith) (omega arith))),
        )

    -- ---- what the layer leaves
    m_pos : 0 < L.width
    m_pos = omega (arith, good.groups)

    in_group : (w₀ / L.width * L.width ≤ w₀) × (w₀ ≤ w₀ / L.width * L.width + (L.width - 1))
    in_group =
        let r : w₀ % L.width < L.width = mod-lt w₀ m_pos in
        (omega (arith, div-add-mod' w₀ L.width), omega (arith, div-add-mod' w₀ L.width))

    summed_here : w₀ < 16 → let q : ℕ = w₀ / L.width * (2 * L.width) + h₀ in
        nibble (summed (values_in (changed L w₀ h₀ d) l)) q ≡ bit_xor (nibble (summed (values_in L l)) q) d
    summed_here b =
        let q : ℕ = w₀ / L.width * (2 * L.width) + h₀ in
        let c : q < 32 = omega (arith, good.groups, mul-le-mul_right L.width (word_group L.width good.groups w₀ b)) in
        let e : q / (2 * L.width) ≡ w₀ / L.width = at_div (2 * L.width) (w₀ / L.width) h₀ hl in
        let f : q % (2 * L.width) ≡ h₀ = at_mod (2 * L.width) (w₀ / L.width) h₀ hl in
        nibble_summed (values_in (changed L w₀ h₀ d) l) good.groups q c
        ∙ ap₂ (λ (x y : ℕ). sum (values_in (changed L w₀ h₀ d) l).word (x * L.width) (L.width - 1) y) e f
        ∙ (sum_in (w₀ / L.width * L.width) (L.width - 1) in_group.0 in_group.1)
        ∙ ap (λ (x : ℕ). bit_xor x d)
        (sym (nibble_summed (values_in L l) good.groups q c
        ∙ ap₂ (λ (x y : ℕ). sum (values_in L l).word (x * L.width) (L.width - 1) y) e f))

    -- A change is seen in what the layer leaves.
    pub summed_differs : w₀ < 16 → (d ≡ 0 → ⊥) → summed (values_in (changed L w₀ h₀ d) l) ≡ summed (values_in L l) → ⊥
    summed_differs b ne e =
        let q : ℕ = w₀ / L.width * (2 * L.width) + h₀ in
        ne (xor_none (nibble (summed (values_in L l)) q) d (sym (summed_here b) ∙ ap (λ (s : List ℕ). nibble s q) e))
