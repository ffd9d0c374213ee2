-- Laws, not definitions: the values of a layer. Sums are nibbles, what a layer leaves has them as its nibbles, and the values due depend
-- on the words of the 16 positions only.
-- Assumes nothing.
use mathlib.Core.Bool.{cond}
use mathlib.Core.List.{List, [], ◌∷◌}
use mathlib.Core.Path.{◌≡◌, refl, sym, ap, ap₂, ◌∙◌}
use Prim.Native.Nat.{ℕ, zero, suc, ◌+◌, ◌-◌, ◌*◌, ◌/◌, ◌%◌, ◌<◌, min}
use native.Mathlib.Decide.{dec_lt}
use native.Mathlib.Nat.{add-zero, div-add-mod', mod-lt, mul-le-mul_right}
use native.Mathlib.Omega.{arith}
use borrow.Author.Tests.{lt-ltb, le-ltb}
use lib.Bits.{bit_xor, xor_zero_l, xor_shr, xor_mod}
use lib.Dec.{ltb}
use Rattle.bits.proofs.laws.XorAll.{xor_all_same, xor_all_linear, xor_all_lt}
use Rattle.bits.proofs.laws.Lists.{at_tabulate, tabulate_below, tabulate_ext}
use Rattle.bits.proofs.laws.Nibbles.{nibble_lt, nibble_half}
use Rattle.bits.specs.Bytes.{Bytes}
use Rattle.bits.specs.Groups.{xor_all}
use Rattle.bits.specs.Lists.{at, tabulate}
use Rattle.bits.specs.Nibbles.{half, nibble}
use Rattle.network.specs.Due.{Values, sum, summed, values_in, values_of, left_by, Due, held, blank, due_in, standing_due, area_due, due_state, closed}
use Rattle.network.specs.Numbers.{Numbers, encoding_number, next_numbers}
use Rattle.network.specs.Order.{GoodWidth, layer_lookups, added}
use Rattle.network.specs.Tables.{Layer, AllGood}
use Rattle.network.proofs.laws.Order.{at_div, at_mod, added_within, word_group}

-- ---- sums
pub sum_first : (word : ℕ → List ℕ) (w h : ℕ) → sum word w 0 h ≡ nibble (word w) h
unfolding sum xor_all
sum_first word w h = xor_zero_l (nibble (word (w + 0)) h) ∙ ap (λ (p : ℕ). nibble (word p) h) (add-zero w)

pub sum_next : (word : ℕ → List ℕ) (w d h : ℕ) → sum word w (suc d) h ≡ bit_xor (sum word w d h) (nibble (word (w + suc d)) h)
unfolding sum xor_all
sum_next word w d h = refl

pub sum_lt : (word : ℕ → List ℕ) → ((p : ℕ) → Bytes (word p)) → (w d h : ℕ) → sum word w d h < 16
unfolding sum
sum_lt word b w d h = xor_all_lt 4 (suc d) _ (λ i c. nibble_lt (word (w + i)) (b (w + i)) h)

sum_same : (f g : ℕ → List ℕ) → ((p : ℕ) → p < 16 → f p ≡ g p) → (w d h : ℕ) → w + d < 16 → sum f w d h ≡ sum g w d h
unfolding sum
sum_same f g e w d h b = xor_all_same (suc d) _ _ (λ i c. ap (λ (l : List ℕ). nibble l h) (e (w + i) (omega arith)))

-- ---- what a layer leaves
pub summed_bytes : (D : Values) → ((p : ℕ) → Bytes (D.word p)) → Bytes (summed D)
unfolding summed
summed_bytes D b = tabulate_below 256 16 _ (omega arith) (λ q h. xor_all_lt 8 D.width _ (λ i c. b _ _))

half_xor : (r a b : ℕ) → half r (bit_xor a b) ≡ bit_xor (half r a) (half r b)
half_xor zero a b = xor_shr a b 4
half_xor (suc r) a b = xor_mod a b 4

pub nibble_summed : (D : Values) → GoodWidth D.width → (q : ℕ) → q < 32
    → nibble (summed D) q ≡ sum D.word (q / (2 * D.width) * D.width) (D.width - 1) (q % (2 * D.width))
unfolding sum summed
nibble_summed D good q b =
    ap (nibble (summed D)) parts ∙ nibble_half (summed D) i r (mod-lt q (omega arith))
    ∙ ap (half r) (at_tabulate 16 _ i (omega arith))
    ∙ xor_all_linear (half r) (half_xor r) m _
    ∙ xor_all_same m _ _ (λ j c. sym (nibble_half (D.word (i / m * m + j)) (i % m) r (mod-lt q (omega arith))))
    ∙ ap₂ (λ (c h : ℕ). xor_all m (λ j. nibble (D.word (c * m + j)) h))
    (sym (ap (λ (y : ℕ). y / (2 * m)) whole ∙ at_div (2 * m) (i / m) (2 * (i % m) + r) small))
    (sym (ap (λ (y : ℕ). y % (2 * m)) whole ∙ at_mod (2 * m) (i / m) (2 * (i % m) + r) small))
    ∙ ap (λ (n : ℕ). xor_all n (λ j. nibble (D.word (q / (2 * m) * m + j)) (q % (2 * m)))) (let z : m ≡ suc (m - 1) = omega (arith, good) in z)
  where
    m : ℕ
    m = D.width

    i : ℕ
    i = q / 2

    r : ℕ
    r = q % 2

    parts : q ≡ 2 * i + r
    parts = omega arith

    small : 2 * (i % m) + r < 2 * m
    small = omega (arith, mod-lt i (let z : 0 < m = omega (arith, good) in z), mod-lt q (let z : 0 < 2 = omega arith in z))

    whole : q ≡ i / m * (2 * m) + (2 * (i % m) + r)
    whole = omega (arith, parts, div-add-mod' i m)

-- ---- values that are the same, position by position, make the same due. A layer fits values if it has their width and, from the bytes l,
-- makes their words.
pub record Fits (L : Layer) (D : Values) (l : List ℕ) : Type 0 where
  pub width : L.width ≡ D.width
  pub standing : l ≡ D.standing
  pub words : (p : ℕ) → p < 16 → L.word p (at l (L.source p)) ≡ D.word p

-- Layers follow values, from the bytes l to the bytes `left`.
abbrev pub Follows : List Layer → List Values → List ℕ → List ℕ → Type 0
Follows [] [] l left = l ≡ left
Follows [] (D ∷ Ds) l left = ⊥
Follows (L ∷ Ls) [] l left = ⊥
Follows (L ∷ Ls) (D ∷ Ds) l left = Fits L D l × Follows Ls Ds (summed D) left

due_fits : (D D' : Values) → GoodWidth D.width → D.width ≡ D'.width → ((p : ℕ) → p < 16 → D.word p ≡ D'.word p)
    → (first j w h : ℕ) → due_in D first j w h ≡ due_in D' first j w h
unfolding due_in
due_fits D D' good e f first j w h =
    go (dec_lt w (min j 16))
    ∙ ap (λ (m : ℕ). cond (ltb w (min j 16)) (held (encoding_number m first w (added m (j - 16) w h) h) (sum D'.word w (added m (j - 16) w h) h)) blank) e
  where
    d : ℕ
    d = added D.width (j - 16) w h

    n : ℕ
    n = encoding_number D.width first w d h

    go : Dec (w < min j 16)
        → cond (ltb w (min j 16)) (held n (sum D.word w d h)) blank ≡ cond (ltb w (min j 16)) (held n (sum D'.word w d h)) blank
    go (yes b) = rw (lt-ltb w (min j 16) b) (ap (held n) (sum_same D.word D'.word f w d h (added_within D.width good (j - 16) w h (omega arith))))
    go (no b) = rw (le-ltb w (min j 16) (omega arith))

pub summed_fits : (D D' : Values) → GoodWidth D.width → D.width ≡ D'.width → ((p : ℕ) → p < 16 → D.word p ≡ D'.word p) → summed D ≡ summed D'
unfolding summed
summed_fits D D' good e f =
    tabulate_ext 16 _ _ (λ q b.
    xor_all_same D.width _ _ (λ i c. ap (λ (l : List ℕ). at l (q % D.width)) (f (q / D.width * D.width + i) (within q b i c))))
    ∙ ap (λ (m : ℕ). tabulate 16 (λ q. xor_all m (λ i. at (D'.word (q / m * m + i)) (q % m)))) e
  where
    within : (q : ℕ) → q < 16 → (i : ℕ) → i < D.width → q / D.width * D.width + i < 16
    within q b i c = omega (arith, good, mul-le-mul_right D.width (word_group D.width good q b))

pub follows_standing : (Ls : List Layer) (Ds : List Values) (l left : List ℕ) → Follows Ls Ds l left → AllGood Ls → (N : Numbers) (k q : ℕ)
    → standing_due (values_of Ls l) (left_by Ls l) N k q ≡ standing_due Ds left N k q
unfolding standing_due values_of left_by
follows_standing [] [] l left f g N k q = ap (λ (s : List ℕ). held (N.standing q) (nibble s q)) f
follows_standing [] (D ∷ Ds) l left f g N k q = absurd f
follows_standing (L ∷ Ls) [] l left f g N k q = absurd f
follows_standing (L ∷ Ls) (D ∷ Ds) l left f g N k q =
    ap₂ (λ (s : List ℕ) (r : Due). cond (ltb k (layer_lookups L.width)) (held (N.standing q) (nibble s q)) r) f.0.standing
    (ap (λ (s : List ℕ). standing_due (values_of Ls s) (left_by Ls s) (next_numbers L.width N) (k - layer_lookups L.width) q)
    (summed_fits (values_in L l) D g.0.groups f.0.width f.0.words)
    ∙ follows_standing Ls Ds (summed D) left f.1 g.1 (next_numbers L.width N) (k - layer_lookups L.width) q)
    ∙ ap (λ (m : ℕ).
    cond (ltb k (layer_lookups m)) (held (N.standing q) (nibble D.standing q)) (standing_due Ds left (next_numbers m N) (k - layer_lookups m) q)) f.0.width

pub follows_area : (Ls : List Layer) (Ds : List Values) (l left : List ℕ) → Follows Ls Ds l left → AllGood Ls → (N : Numbers) (k q : ℕ)
    → area_due (values_of Ls l) N k q ≡ area_due Ds N k q
unfolding area_due values_of
follows_area [] [] l left f g N k q = refl
follows_area [] (D ∷ Ds) l left f g N k q = absurd f
follows_area (L ∷ Ls) [] l left f g N k q = absurd f
follows_area (L ∷ Ls) (D ∷ Ds) l left f g N k q =
    ap₂ (λ (a r : Due). cond (ltb k (layer_lookups L.width)) a r)
    (due_fits (values_in L l) D g.0.groups f.0.width f.0.words N.first k (q / (2 * L.width)) (q % (2 * L.width)))
    (ap (λ (s : List ℕ). area_due (values_of Ls s) (next_numbers L.width N) (k - layer_lookups L.width) q)
    (summed_fits (values_in L l) D g.0.groups f.0.width f.0.words)
    ∙ follows_area Ls Ds (summed D) left f.1 g.1 (next_numbers L.width N) (k - layer_lookups L.width) q)
    ∙ ap (λ (m : ℕ).
    cond (ltb k (layer_lookups m)) (due_in D N.first k (q / (2 * m)) (q % (2 * m))) (area_due Ds (next_numbers m N) (k - layer_lookups m) q)) f.0.width

-- What layers leave, where they follow values.
pub follows_left : (Ls : List Layer) (Ds : List Values) (l left : List ℕ) → Follows Ls Ds l left → AllGood Ls → left_by Ls l ≡ left
unfolding left_by
follows_left [] [] l left f g = f
follows_left [] (D ∷ Ds) l left f g = absurd f
follows_left (L ∷ Ls) [] l left f g = absurd f
follows_left (L ∷ Ls) (D ∷ Ds) l left f g =
    ap (left_by Ls) (summed_fits (values_in L l) D g.0.groups f.0.width f.0.words) ∙ follows_left Ls Ds (summed D) left f.1 g.1

-- The closed form of layers that follow values is the state in which each place holds what these make due.
pub closed_follows : (E : ℕ → List ℕ) (Ls : List Layer) (Ds : List Values) (l left : List ℕ) → Follows Ls Ds l left → AllGood Ls
    → (N : Numbers) (from k : ℕ) → closed E Ls N l from k ≡ due_state E Ds left N from k
unfolding due_state
closed_follows E Ls Ds l left f g N from k = simp (follows_standing Ls Ds l left f g N k, follows_area Ls Ds l left f g N k)
