-- Laws, not definitions: nibbles of byte lists that are packed from a function. Three carry all list work: read a nibble, replace a
-- nibble, copy m bytes.
-- Assumes nothing.
use mathlib.Core.Bool.{Bool, true, false, cond}
use mathlib.Core.List.{List}
use mathlib.Core.Logic.{⊎_elim, ◌⊎◌, inl, inr}
use mathlib.Core.Path.{◌≡◌, refl, sym, ap, ap₂, ◌∙◌, subst}
use Prim.Native.Nat.{ℕ, zero, suc, ◌+◌, ◌-◌, ◌*◌, ◌/◌, ◌%◌, ◌≤◌, ◌<◌}
use native.Mathlib.Decide.{ℕ_discrete, dec_lt}
use native.Mathlib.Omega.{arith}
use lib.Dec.{eqb}
use lib.ListN.{length, get_or, set, drop, replicate, length-set, length-drop}
use lib.Seq.{ext_get_or, get_or-set_same, get_or-set_other, get_or-drop, paste, length-paste}
use Rattle.bits.specs.Bytes.{Bytes, number}
use Rattle.bits.specs.Groups.{joined}
use Rattle.bits.specs.Lists.{at}
use Rattle.bits.specs.Nibbles.{pack, half, nibble, set_nibble, packed}
use Rattle.bits.proofs.laws.Lists.{length_tabulate, at_tabulate, tabulate_below, set_below, zero_at}
use Rattle.bits.proofs.laws.Pasted.{paste_lo, paste_mid, paste_hi}

pub length_packed : (n : ℕ) (f : ℕ → ℕ) → length (packed n f) ≡ n
unfolding packed
length_packed n f = length_tabulate n _

pub at_packed : (n : ℕ) (f : ℕ → ℕ) (i : ℕ) → i < n → get_or (packed n f) i 0 ≡ pack (f (2 * i)) (f (2 * i + 1))
unfolding packed
at_packed n f i h = at_tabulate n _ i h

-- the two cases of a nibble's place
pub parity : (q : ℕ) → ((q % 2 ≡ 0) × (q ≡ 2 * (q / 2))) ⊎ ((q % 2 ≡ 1) × (q ≡ 2 * (q / 2) + 1))
parity q = ⊎_elim (λ e. inl (e, omega arith)) (λ e. inr (e, omega arith)) (two (q % 2) (omega arith))
  where
    two : (r : ℕ) → r < 2 → (r ≡ 0) ⊎ (r ≡ 1)
    two zero h = inl refl
    two (suc zero) h = inr refl
    two (suc (suc r)) h = absurd (omega arith)

pub nibble_packed : (n : ℕ) (f : ℕ → ℕ) → ((j : ℕ) → f j < 16) → (q : ℕ) → q < 2 * n → nibble (packed n f) q ≡ f q
unfolding nibble
nibble_packed n f b q h =
    rw (at_packed n f (q / 2) (omega arith))
    (⊎_elim
    (λ p. rw p.0 (omega (arith, b (2 * (q / 2) + 1)) ∙ ap f (sym p.1)))
    (λ p. rw p.0 (omega (arith, b (2 * (q / 2) + 1)) ∙ ap f (sym p.1)))
    (parity q))

-- two byte lists with the same nibbles
pub packed_ext : (n : ℕ) (f g : ℕ → ℕ) → ((q : ℕ) → q < 2 * n → f q ≡ g q) → packed n f ≡ packed n g
packed_ext n f g h =
    ext_get_or 0 (packed n f) (packed n g) (simp length_packed)
    (λ i b.
    let c : i < n = omega (arith, length_packed n f) in
    at_packed n f i c ∙ ap₂ pack (h (2 * i) (omega arith)) (h (2 * i + 1) (omega arith)) ∙ sym (at_packed n g i c))

-- a nibble replaced
pub set_nibble_packed : (n : ℕ) (f g : ℕ → ℕ) → ((j : ℕ) → f j < 16) → (q v : ℕ) → q < 2 * n → g q ≡ v
    → ((j : ℕ) → j < 2 * n → (j ≡ q → ⊥) → g j ≡ f j) → set_nibble (packed n f) q v ≡ packed n g
unfolding set_nibble
set_nibble_packed n f g b q v h e o =
    ext_get_or 0 (set (packed n f) (q / 2) new) (packed n g) (simp (length-set, length_packed))
    (λ i c.
    let c' : i < n = omega (arith, length-set (packed n f) (q / 2) new, length_packed n f) in
    at i c' (ℕ_discrete i (q / 2)))
  where
    new : ℕ
    new = cond (eqb (q % 2) 0) (pack v (get_or (packed n f) (q / 2) 0 % 16)) (pack (get_or (packed n f) (q / 2) 0 / 16) v)

    old : get_or (packed n f) (q / 2) 0 ≡ pack (f (2 * (q / 2))) (f (2 * (q / 2) + 1))
    old = at_packed n f (q / 2) (omega arith)

    new_is : new ≡ pack (g (2 * (q / 2))) (g (2 * (q / 2) + 1))
    new_is =
        rw old
        (⊎_elim
        (λ p. rw p.0 (ap₂ pack (sym e ∙ ap g p.1) (omega (arith, b (2 * (q / 2) + 1)) ∙ sym (o (2 * (q / 2) + 1) (omega arith) (λ z. omega arith)))))
        (λ p. rw p.0 (ap₂ pack (omega (arith, b (2 * (q / 2) + 1)) ∙ sym (o (2 * (q / 2)) (omega arith) (λ z. omega arith))) (sym e ∙ ap g p.1)))
        (parity q))

    at : (i : ℕ) → i < n → Dec (i ≡ q / 2) → get_or (set (packed n f) (q / 2) new) i 0 ≡ get_or (packed n g) i 0
    at i c (yes z) =
        rw z (get_or-set_same (packed n f) (q / 2) new 0 (omega (arith, length_packed n f)) ∙ new_is ∙ sym (at_packed n g (q / 2) (omega arith)))
    at i c (no z) =
        get_or-set_other (packed n f) (q / 2) i new 0 z ∙ at_packed n f i c
        ∙ ap₂ pack (sym (o (2 * i) (omega arith) (λ y. z (omega arith)))) (sym (o (2 * i + 1) (omega arith) (λ y. z (omega arith))))
        ∙ sym (at_packed n g i c)

-- m bytes of one list, from `s` on, copied to place `a` of another
pub paste_packed : (n k : ℕ) (f t g : ℕ → ℕ) (a s m : ℕ) → a + m ≤ n → s + m ≤ k
    → ((j : ℕ) → j < 2 * a → g j ≡ f j) → ((j : ℕ) → j < 2 * n → 2 * (a + m) ≤ j → g j ≡ f j)
    → ((h : ℕ) → h < 2 * m → g (2 * a + h) ≡ t (2 * s + h))
    → paste (packed n f) a (drop s (packed k t)) m ≡ packed n g
paste_packed n k f t g a s m fa fs lo hi mid =
    ext_get_or 0 (paste d a e m) (packed n g) (length-paste d a e m fa' fs' ∙ simp length_packed)
    (λ i b.
    let c : i < n = omega (arith, length-paste d a e m fa' fs', length_packed n f) in
    at i c (dec_lt i a) (dec_lt i (a + m)))
  where
    d : List ℕ
    d = packed n f

    e : List ℕ
    e = drop s (packed k t)

    fa' : a + m ≤ length d
    fa' = omega (arith, length_packed n f)

    fs' : m ≤ length e
    fs' = omega (arith, length_packed k t, length-drop s (packed k t))

    in_lo : (i : ℕ) → i < a → i < n → get_or (paste d a e m) i 0 ≡ get_or (packed n g) i 0
    in_lo i h c =
        paste_lo d a e m (omega (arith, fa')) fs' i h ∙ at_packed n f i c
        ∙ ap₂ pack (sym (lo (2 * i) (omega arith))) (sym (lo (2 * i + 1) (omega arith))) ∙ sym (at_packed n g i c)

    in_mid : (j : ℕ) → j < m → get_or (paste d a e m) (a + j) 0 ≡ get_or (packed n g) (a + j) 0
    in_mid j h =
        paste_mid d a e m (omega (arith, fa')) fs' j h ∙ get_or-drop s (packed k t) j 0 ∙ at_packed k t (s + j) (omega arith)
        ∙ ap₂ pack
        (ap t (omega arith) ∙ sym (mid (2 * j) (omega arith)) ∙ ap g (omega arith))
        (ap t (omega arith) ∙ sym (mid (2 * j + 1) (omega arith)) ∙ ap g (omega arith))
        ∙ sym (at_packed n g (a + j) (omega arith))

    in_hi : (j : ℕ) → a + m + j < n → get_or (paste d a e m) (a + m + j) 0 ≡ get_or (packed n g) (a + m + j) 0
    in_hi j c =
        paste_hi d a e m (omega (arith, fa')) fs' j ∙ at_packed n f (a + m + j) c
        ∙ ap₂ pack (sym (hi (2 * (a + m + j)) (omega arith) (omega arith))) (sym (hi (2 * (a + m + j) + 1) (omega arith) (omega arith)))
        ∙ sym (at_packed n g (a + m + j) c)

    at : (i : ℕ) → i < n → Dec (i < a) → Dec (i < a + m) → get_or (paste d a e m) i 0 ≡ get_or (packed n g) i 0
    at i c (yes h) y = in_lo i h c
    at i c (no h) (yes h') =
        subst (λ (x : ℕ). get_or (paste d a e m) x 0 ≡ get_or (packed n g) x 0) (omega arith) (in_mid (i - a) (omega arith))
    at i c (no h) (no h') =
        subst (λ (x : ℕ). get_or (paste d a e m) x 0 ≡ get_or (packed n g) x 0) (omega arith) (in_hi (i - (a + m)) (omega arith))

-- ---- the nibbles of any byte list
pub half_lt : (r x : ℕ) → x < 256 → half r x < 16
half_lt zero x h = omega arith
half_lt (suc r) x h = omega arith

pub nibble_lt : (l : List ℕ) → Bytes l → (q : ℕ) → nibble l q < 16
unfolding nibble
nibble_lt l h q = half_lt (q % 2) (at l (q / 2)) (h (q / 2))

-- A nibble replaced by a nibble leaves bytes.
pub set_nibble_bytes : (l : List ℕ) (q v : ℕ) → Bytes l → v < 16 → Bytes (set_nibble l q v)
unfolding set_nibble
set_nibble_bytes l q v b h = set_below 256 l (q / 2) _ b (new (eqb (q % 2) 0))
  where
    new : (t : Bool) → cond t (pack v (at l (q / 2) % 16)) (pack (at l (q / 2) / 16) v) < 256
    new true = omega arith
    new false = omega (arith, b (q / 2))

-- The nibble that was put stands at its place.
pub nibble_set : (l : List ℕ) (q v : ℕ) → q / 2 < length l → v < 16 → nibble (set_nibble l q v) q ≡ v
unfolding nibble set_nibble
nibble_set l q v inside small =
    ap (half (q % 2)) (get_or-set_same l (q / 2) (new (eqb (q % 2) 0)) 0 inside)
    ∙ ⊎_elim (λ p. rw p.0 (omega arith)) (λ p. rw p.0 (omega arith)) (parity q)
  where
    new : Bool → ℕ
    new t = cond t (pack v (at l (q / 2) % 16)) (pack (at l (q / 2) / 16) v)

-- The halves of byte i.
pub nibble_half : (l : List ℕ) (i r : ℕ) → r < 2 → nibble l (2 * i + r) ≡ half r (at l i)
unfolding nibble
nibble_half l i r h =
    let e : (2 * i + r) % 2 ≡ r = omega arith in
    let f : (2 * i + r) / 2 ≡ i = omega arith in
    rw (e, f)

pub nibble_even : (l : List ℕ) (i : ℕ) → nibble l (2 * i) ≡ at l i / 16
nibble_even l i = ap (nibble l) (let e : 2 * i ≡ 2 * i + 0 = omega arith in e) ∙ nibble_half l i 0 (omega arith)

pub nibble_odd : (l : List ℕ) (i : ℕ) → nibble l (2 * i + 1) ≡ at l i % 16
nibble_odd l i = nibble_half l i 1 (omega arith)

-- A number of n bytes is that of their nibbles.
pub number_nibbles : (s : List ℕ) (a n : ℕ) → number n (λ i. at s (a + i)) ≡ joined 4 (2 * n) (λ q. nibble s (2 * a + q))
unfolding joined
number_nibbles s a zero = refl
number_nibbles s a (suc n) =
    let nibbles : ℕ → ℕ = λ q. nibble s (2 * a + q) in
    let two : 2 * suc n ≡ suc (suc (2 * n)) = omega arith in
    let even : 2 * a + 2 * n ≡ 2 * (a + n) = omega arith in
    let odd : 2 * a + suc (2 * n) ≡ 2 * (a + n) + 1 = omega arith in
    let high : nibble s (2 * a + 2 * n) ≡ at s (a + n) / 16 = ap (nibble s) even ∙ nibble_even s (a + n) in
    let low : nibble s (2 * a + suc (2 * n)) ≡ at s (a + n) % 16 = ap (nibble s) odd ∙ nibble_odd s (a + n) in
    let before = number_nibbles s a n in
    omega arith ∙ sym (ap (λ (k : ℕ). joined 4 k nibbles) two)

-- A byte list is its nibbles, packed.
pub packed_nibbles : (n : ℕ) (s : List ℕ) → length s ≡ n → packed n (nibble s) ≡ s
packed_nibbles n s len =
    ext_get_or 0 (packed n (nibble s)) s (length_packed n (nibble s) ∙ sym len) (λ i b.
    at_packed n (nibble s) i (omega (arith, length_packed n (nibble s))) ∙ ap₂ pack (nibble_even s i) (nibble_odd s i) ∙ omega arith)

pub packed_bytes : (n : ℕ) (f : ℕ → ℕ) → ((j : ℕ) → j < 2 * n → f j < 16) → Bytes (packed n f)
unfolding packed
packed_bytes n f b = tabulate_below 256 n _ (omega arith) (λ i h. omega (arith, b (2 * i) (omega arith), b (2 * i + 1) (omega arith)))

-- ---- the nibbles of zeros
half_zero : (r : ℕ) → half r 0 ≡ 0
half_zero zero = refl
half_zero (suc r) = refl

pub nibble_zero : (n q : ℕ) → nibble (replicate n 0) q ≡ 0
unfolding nibble
nibble_zero n q = ap (half (q % 2)) (zero_at n (q / 2)) ∙ half_zero (q % 2)
