-- Laws, not definitions: encodings. Every nibble is an image (pigeonhole), so decoding is the inverse on both sides; a computed test
-- tells of a written list that it is a permutation.
-- Assumes nothing.
use mathlib.Core.Bool.{Bool, cond}
use mathlib.Core.List.{List, [], ◌∷◌}
use mathlib.Core.Logic.{⊎_elim, ◌⊎◌, inl, inr}
use mathlib.Core.Path.{◌≡◌, refl, sym, ap, ◌∙◌}
use Prim.Native.Nat.{ℕ, zero, suc, ◌≤◌, ◌<◌, suc-le-suc}
use native.Mathlib.Decide.{ℕ_discrete, dec_lt}
use native.Mathlib.Nat.{le_of_suc-le-suc, not-suc-le-zero, suc_inj, zero-lt-suc}
use native.Mathlib.Omega.{arith}
use borrow.Author.Tests.{eq-eqb, ne_eqb}
use lib.Dec.{T, eqb, ltb, ltb→lt, eqb→eq}
use lib.ListN.{length, get_or-eq_default}
use Rattle.bits.specs.Encodings.{encode, decode, Permutation, plain_encoding}
use Rattle.bits.specs.Lists.{at, tabulate}
use Rattle.bits.proofs.laws.Checked.{both, both_left, both_right, all, all_at}

-- ---- decoding undoes encoding
decode_at : (l : List ℕ) → ((u v : ℕ) → u < length l → v < length l → at l u ≡ at l v → u ≡ v)
    → (v : ℕ) → v < length l → decode l (at l v) ≡ v
unfolding decode
decode_at [] h v b = absurd (not-suc-le-zero b)
decode_at (x ∷ xs) h zero b = rw (eq-eqb x x refl)
decode_at (x ∷ xs) h (suc v) b =
    rw (ne_eqb x (at xs v) (λ e. let z : zero ≡ suc v = h zero (suc v) (zero-lt-suc (length xs)) b e in omega arith))
    (ap suc (decode_at xs (λ u w p q e. suc_inj (h (suc u) (suc w) (suc-le-suc p) (suc-le-suc q) e)) v (le_of_suc-le-suc b)))

pub decode_encode : {l : List ℕ} → Permutation l → (v : ℕ) → v < 16 → decode l (encode l v) ≡ v
decode_encode {l} p v h =
    decode_at l (λ u w a b e. p.apart u w (omega (arith, p.long)) (omega (arith, p.long)) e) v (omega (arith, p.long))

-- an image is a nibble, also where the place is none
pub encode_lt : {l : List ℕ} → Permutation l → (v : ℕ) → encode l v < 16
encode_lt {l} p v = go (dec_lt v 16)
  where
    go : Dec (v < 16) → encode l v < 16
    go (yes h) = p.below v h
    go (no h) = omega (arith, get_or-eq_default l 0 {n = v} (omega (arith, p.long)))

-- ---- no injection of n + 1 numbers into n
choose : ℕ → ℕ → ℕ → ℕ → ℕ
choose k a z v = cond (eqb z k) a v

choose_at : (k a z v : ℕ) → z ≡ k → choose k a z v ≡ a
unfolding choose
choose_at k a z v e = rw (eq-eqb z k e)

choose_not : (k a z v : ℕ) → (z ≡ k → ⊥) → choose k a z v ≡ v
unfolding choose
choose_not k a z v e = rw (ne_eqb z k e)

pub pigeon : (n : ℕ) (f : ℕ → ℕ) → ((i : ℕ) → i ≤ n → f i < n) → ((i j : ℕ) → i ≤ n → j ≤ n → f i ≡ f j → i ≡ j) → ⊥
pigeon zero f b inj = not-suc-le-zero (b zero (omega arith))
pigeon (suc k) f b inj = pigeon k g gb ginj
  where
    -- the value k gives way to the last one's
    g : ℕ → ℕ
    g i = choose k (f (suc k)) (f i) (f i)

    gb : (i : ℕ) → i ≤ k → g i < k
    gb i h = go (ℕ_discrete (f i) k)
      where
        go : Dec (f i ≡ k) → g i < k
        go (yes e) =
            let p : f (suc k) ≡ k → ⊥ = λ e'. let z : i ≡ suc k = inj i (suc k) (omega arith) (omega arith) (e ∙ sym e') in omega arith in
            omega (arith, choose_at k (f (suc k)) (f i) (f i) e, b (suc k) (omega arith), p)
        go (no e) = omega (arith, choose_not k (f (suc k)) (f i) (f i) e, b i (omega arith))

    ginj : (i j : ℕ) → i ≤ k → j ≤ k → g i ≡ g j → i ≡ j
    ginj i j hi hj q = go (ℕ_discrete (f i) k) (ℕ_discrete (f j) k)
      where
        at : (x : ℕ) → f x ≡ k → g x ≡ f (suc k)
        at x e = choose_at k (f (suc k)) (f x) (f x) e

        off : (x : ℕ) → (f x ≡ k → ⊥) → g x ≡ f x
        off x e = choose_not k (f (suc k)) (f x) (f x) e

        go : Dec (f i ≡ k) → Dec (f j ≡ k) → i ≡ j
        go (yes e) (yes e') = inj i j (omega arith) (omega arith) (e ∙ sym e')
        go (yes e) (no e') =
            let z : suc k ≡ j = inj (suc k) j (omega arith) (omega arith) (sym (at i e) ∙ q ∙ off j e') in omega arith
        go (no e) (yes e') =
            let z : i ≡ suc k = inj i (suc k) (omega arith) (omega arith) (sym (off i e) ∙ q ∙ at j e') in omega arith
        go (no e) (no e') = inj i j (omega arith) (omega arith) (sym (off i e) ∙ q ∙ off j e')

-- ---- the search finds, or there is nothing to decode
decode_cases : (l : List ℕ) (y : ℕ) → ((decode l y < length l) × (at l (decode l y) ≡ y)) ⊎ ((i : ℕ) → i < length l → at l i ≡ y → ⊥)
unfolding decode
decode_cases [] y = inr (λ i h e. not-suc-le-zero h)
decode_cases (x ∷ xs) y = go (ℕ_discrete x y) (decode_cases xs y)
  where
    go : Dec (x ≡ y) → ((decode xs y < length xs) × (at xs (decode xs y) ≡ y)) ⊎ ((i : ℕ) → i < length xs → at xs i ≡ y → ⊥)
        → ((decode (x ∷ xs) y < suc (length xs)) × (at (x ∷ xs) (decode (x ∷ xs) y) ≡ y)) ⊎ ((i : ℕ) → i < suc (length xs) → at (x ∷ xs) i ≡ y → ⊥)
    go (yes e) r = rw (eq-eqb x y e) (inl (zero-lt-suc (length xs), e))
    go (no e) (inl p) = rw (ne_eqb x y e) (inl (suc-le-suc p.0, p.1))
    go (no e) (inr n) = inr none
      where
        none : (i : ℕ) → i < suc (length xs) → at (x ∷ xs) i ≡ y → ⊥
        none zero h = e
        none (suc i) h = n i (le_of_suc-le-suc h)

module _ (l : List ℕ) (p : Permutation l) where
  none_missing : (y : ℕ) → y < 16 → ((i : ℕ) → i < 16 → at l i ≡ y → ⊥) → ⊥
  none_missing y h no_one = pigeon 16 f b inj
    where
      f : ℕ → ℕ
      f i = choose 16 y i (at l i)

      b : (i : ℕ) → i ≤ 16 → f i < 16
      b i c = go (ℕ_discrete i 16)
        where
          go : Dec (i ≡ 16) → f i < 16
          go (yes e) = omega (arith, choose_at 16 y i (at l i) e)
          go (no e) = omega (arith, choose_not 16 y i (at l i) e, p.below i (omega arith))

      inj : (i j : ℕ) → i ≤ 16 → j ≤ 16 → f i ≡ f j → i ≡ j
      inj i j c c' q = go (ℕ_discrete i 16) (ℕ_discrete j 16)
        where
          on : (x : ℕ) → x ≡ 16 → f x ≡ y
          on x e = choose_at 16 y x (at l x) e

          off : (x : ℕ) → (x ≡ 16 → ⊥) → f x ≡ at l x
          off x e = choose_not 16 y x (at l x) e

          go : Dec (i ≡ 16) → Dec (j ≡ 16) → i ≡ j
          go (yes e) (yes e') = e ∙ sym e'
          go (yes e) (no e') = absurd (no_one j (omega arith) (sym (sym (on i e) ∙ q ∙ off j e')))
          go (no e) (yes e') = absurd (no_one i (omega arith) (sym (off i e) ∙ q ∙ on j e'))
          go (no e) (no e') = p.apart i j (omega arith) (omega arith) (sym (off i e) ∙ q ∙ off j e')

  found : (y : ℕ) → y < 16 → (decode l y < 16) × (at l (decode l y) ≡ y)
  found y h =
      ⊎_elim (λ r. (omega (arith, p.long), r.1)) (λ n. absurd (none_missing y h (λ i c. n i (omega (arith, p.long))))) (decode_cases l y)

  pub decode_lt : (y : ℕ) → y < 16 → decode l y < 16
  decode_lt y h = (found y h).0

  pub encode_decode : (y : ℕ) → y < 16 → encode l (decode l y) ≡ y
  encode_decode y h = (found y h).1

-- ---- a test for a list that is written out
abbrev pub fine : List ℕ → ℕ → Bool
fine l v = both (ltb (at l v) 16) (eqb (decode l (at l v)) v)

abbrev pub is_permutation : List ℕ → Bool
is_permutation l = both (eqb (length l) 16) (all 16 (fine l))

pub permutation_by_test : (l : List ℕ) → T (is_permutation l) → Permutation l
permutation_by_test l t =
    record {
      long = eqb→eq (length l) 16 (both_left (eqb (length l) 16) (all 16 (fine l)) t);
      below = λ v h. ltb→lt (at l v) 16 (both_left (ltb (at l v) 16) (eqb (decode l (at l v)) v) (tested v h));
      apart = λ u v hu hv e. sym (back u hu) ∙ ap (decode l) e ∙ back v hv;
    }
  where
    tested : (v : ℕ) → v < 16 → T (fine l v)
    tested v h = all_at 16 (fine l) (both_right (eqb (length l) 16) (all 16 (fine l)) t) v h

    back : (v : ℕ) → v < 16 → decode l (at l v) ≡ v
    back v h = eqb→eq _ v (both_right (ltb (at l v) 16) (eqb (decode l (at l v)) v) (tested v h))

pub plain_permutation : Permutation plain_encoding
unfolding plain_encoding tabulate decode
plain_permutation = permutation_by_test plain_encoding tt
