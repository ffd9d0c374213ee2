-- Laws, not definitions: a lookup of a stage or half, made in place, and the place that it reads.
-- Assumes nothing.
use mathlib.Core.List.{List}
use mathlib.Core.Logic.{⊎_elim, inl, inr}
use mathlib.Core.Path.{◌≡◌, refl, sym, ap, ap₂, ◌∙◌}
use Prim.Native.Nat.{ℕ, suc, ◌+◌, ◌-◌, ◌*◌, ◌/◌, ◌%◌, ◌≤◌, ◌<◌}
use native.Mathlib.Numerals.{add-one}
use native.Mathlib.Omega.{arith}
use borrow.Author.Tests.{eq-eqb, ne_eqb, lt-ltb, le-ltb}
use lib.ListN.{length, drop, length-set}
use lib.Seq.{paste}
use Rattle.bits.specs.Lists.{at}
use Rattle.bits.specs.Nibbles.{nibble, set_nibble, pack}
use Rattle.network.specs.Lookups.{State, state_at, Shape, spread_area, xor_index, xor_area, sums, zero_area, lookup_in}
use Rattle.network.specs.Order.{xors, layer_lookups, sum_place, added_place}
use Rattle.network.specs.Read.{word_place, nibble_place, read_in}
use Rattle.network.specs.declared.EntryPlace.{EntryPlace}
use Rattle.network.proofs.laws.Read.{read_spread, read_xor, word_within, nibble_within}
use Rattle.network.proofs.laws.Sizes.{xor_size}
use Rattle.layout.specs.Stages.{width_of, entry_lookups}
use Rattle.layout.specs.declared.stage.Stage.{Stage}
use Rattle.layout.specs.declared.stage.Stage.TheVariants.{Entry, First, Second, Exit, Beyond}
use Rattle.layout.proofs.laws.Stages.{lookups_16, lookups_4}
use Rattle.lookups.specs.InPlace.{Width, XorIn, Fits, SpreadRead, XorRead, XorMade, LookedUp}

-- ---- an XOR lookup at its two places
pub xor_at : (m x p q : ℕ) (t a : List ℕ) → p ≡ sum_place m x → q ≡ added_place m x
    → set_nibble a p (nibble t (pack (nibble a p) (nibble a q))) ≡ xor_area m x t a
unfolding xor_area
xor_at m x p q t a e f = ap₂ (λ (p q : ℕ). set_nibble a p (nibble t (pack (nibble a p) (nibble a q)))) e f

-- The entry that it reads, and the area that it leaves.
xor_made : (m x p q : ℕ) (t a : List ℕ) (e : ℕ) (a' : List ℕ) → p ≡ sum_place m x → q ≡ added_place m x → XorRead t p q a e a' → XorMade m x t a e a'
xor_made m x p q t a e a' f g r =
    record {
      entry = r.entry ∙ ap₂ (λ (p q : ℕ). pack (nibble a p) (nibble a q)) f g;
      below = r.below;
      area = r.area ∙ ap (λ (i : ℕ). set_nibble a p (nibble t i)) r.entry ∙ xor_at m x p q t a f g;
    }

-- Entry and exit: one group of 16 words.
pub below_480 : {m x : ℕ} → XorIn m x → m ≡ 16 → x < 480
below_480 k e = ⊎_elim (λ p. p.1) (λ p. absurd (omega arith)) k

pub xor_16 : {m x : ℕ} {t a a' : List ℕ} {i : ℕ} → XorIn m x → m ≡ 16 → XorRead t (x % 32) (x + 32) a i a' → XorMade m x t a i a'
xor_16 {x = x} {t} {a} {a'} {i} k e r =
    let h = below_480 k e in
    rw e (xor_made 16 x (x % 32) (x + 32) t a i a' (omega arith) (omega arith) r)

-- A half: four groups of 4 words.
pub is_4 : {m x : ℕ} → XorIn m x → (m ≡ 16 → ⊥) → (m ≡ 4) × (x < 96)
is_4 k n = ⊎_elim (λ p. absurd (n p.0)) (λ p. p) k

pub xor_4 : {m x : ℕ} {t a a' : List ℕ} {i : ℕ} → XorIn m x → (m ≡ 16 → ⊥)
    → XorRead t (x / 24 * 32 + x % 8) (x / 24 * 32 + 8 + x % 24) a i a' → XorMade m x t a i a'
xor_4 {x = x} {t} {a} {a'} {i} k n r =
    let h = is_4 k n in
    rw h.0 (xor_made 4 x (x / 24 * 32 + x % 8) (x / 24 * 32 + 8 + x % 24) t a i a' (omega arith) (omega arith) r)

pub length_xor : (m x : ℕ) (t a : List ℕ) → length (xor_area m x t a) ≡ length a
unfolding xor_area set_nibble
length_xor m x t a = simp length-set

-- ---- what a lookup that fits has
lookups_0 : layer_lookups 0 ≡ 16
unfolding layer_lookups xors
lookups_0 = refl

-- Lookup j of a stage or half of width m, over a table of the given length: a spread lookup below 16, else an XOR lookup.
module _ {s : Stage} {j from long : ℕ} (f : Fits s j from long) where
  kind : (s : Stage) → 16 ≤ j → j < layer_lookups (width_of s) → XorIn (width_of s) (j - 16)
  kind Entry h w = inl (refl, omega (arith, lookups_16))
  kind (First r) h w = inr (refl, omega (arith, lookups_4))
  kind (Second r) h w = inr (refl, omega (arith, lookups_4))
  kind Exit h w = inl (refl, omega (arith, lookups_16))
  kind Beyond h w = absurd (omega (arith, lookups_0))

  pub xor_sized : 16 ≤ j → long ≡ 128
  xor_sized h = f.sized ∙ xor_size (width_of s) j h

  pub xor_within : {m : ℕ} → m ≡ width_of s → 16 ≤ j → XorIn m (j - 16)
  xor_within e h = rw e (kind s h f.within)

  pub xor_width : {m : ℕ} → m ≡ width_of s → 16 ≤ j → Width m
  xor_width e h = ⊎_elim (λ p. inr p.0) (λ p. inl p.0) (xor_within e h)

  pub xor_below : 16 ≤ j → j < entry_lookups
  xor_below h = ⊎_elim (λ p. omega arith) (λ p. omega arith) (kind s h f.within)

-- ---- lookup j: a spread lookup, an XOR lookup, the last XOR lookup
module _ (S : Shape) (j : ℕ) (t : List ℕ) (w : State) where
  pub at_spread : j < 16
      → lookup_in S j t w ≡ state_at (suc w.count) w.standing (spread_area S.width (S.source j) j t w.standing w.area)
  unfolding lookup_in
  at_spread h = rw (lt-ltb j 16 h)

  pub at_xor : (x : ℕ) → j - 16 ≡ x → 16 ≤ j → (suc j ≡ layer_lookups S.width → ⊥)
      → lookup_in S j t w ≡ state_at (suc w.count) w.standing (xor_area S.width x t w.area)
  unfolding lookup_in
  at_xor x e h l = rw (e, le-ltb j 16 h, ne_eqb (suc j) (layer_lookups S.width) l)

  pub at_last : (x : ℕ) → j - 16 ≡ x → 16 ≤ j → suc j ≡ layer_lookups S.width
      → lookup_in S j t w ≡ state_at (suc w.count) (sums S.width (xor_area S.width x t w.area)) zero_area
  unfolding lookup_in
  at_last x e h l = rw (e, le-ltb j 16 h, eq-eqb (suc j) (layer_lookups S.width) l)

-- ---- the place that it reads
-- The entry that an XOR lookup of width m read is there.
xor_place : (S : Shape) (j from m : ℕ) {t : List ℕ} (s : List ℕ) {a : List ℕ} {i : ℕ} {a' : List ℕ} → m ≡ S.width → 16 ≤ j → XorMade m (j - 16) t a i a'
    → nibble_place from i ≡ read_in S j from s a
xor_place S j from m s {a} e h g =
    ap (nibble_place from) g.entry ∙ ap (λ (m : ℕ). nibble_place from (xor_index m (j - 16) a)) e ∙ sym (read_xor S j from s a h)

-- ---- the same, from what the parts of the code left
module _ {S : Shape} {j from m : ℕ} {t s a : List ℕ} (e : m ≡ S.width) where
  pub by_spread : {i r : ℕ} {a' : List ℕ} → j < 16 → i ≡ S.source j → SpreadRead t m j (at s i) a r a'
      → LookedUp S j t from s a (record { offset = from + r; half = 0 }) s a'
  unfolding spread_area
  by_spread {i} h f g =
      let place = ap {B = EntryPlace} (λ (r : ℕ). record { offset = from + r; half = 0 }) g.word in
      record {
        read = place ∙ ap₂ (λ (m i : ℕ). word_place from m (at s i)) e f ∙ sym (read_spread S j from s a h);
        table = rw (place, sym e) (word_within m j from (at s i) h (omega (arith, g.word, g.ends)));
        walk =
            λ n.
            at_spread S j t (state_at n s a) h
            ∙ ap (state_at (suc n) s) (ap₂ (λ (m i : ℕ). paste a (j * m) (drop (at s i * m) t) m) (sym e) (sym f) ∙ sym g.area);
      }

  pub by_xor : {n i : ℕ} {r : EntryPlace} {a' : List ℕ} → 16 ≤ j → XorMade m (j - 16) t a i a' → r ≡ nibble_place from i → n ≡ layer_lookups m
      → (j + 1 ≡ n → ⊥) → LookedUp S j t from s a r s a'
  by_xor h g o f l =
      record {
        read = o ∙ xor_place S j from m s e h g;
        table = rw (o, sym e) (nibble_within m j from _ h g.below);
        walk =
            λ n.
            at_xor S j t (state_at n s a) (j - 16) refl h (λ z. l (add-one j ∙ z ∙ ap layer_lookups (sym e) ∙ sym f))
            ∙ ap (state_at (suc n) s) (ap (λ (m : ℕ). xor_area m (j - 16) t a) (sym e) ∙ sym g.area);
      }

  pub by_last : {n i : ℕ} {r : EntryPlace} {x s' a' : List ℕ} → 16 ≤ j → XorMade m (j - 16) t a i x → r ≡ nibble_place from i → n ≡ layer_lookups m
      → j + 1 ≡ n → s' ≡ sums m x → a' ≡ zero_area → LookedUp S j t from s a r s' a'
  by_last h g o f l p q =
      record {
        read = o ∙ xor_place S j from m s e h g;
        table = rw (o, sym e) (nibble_within m j from _ h g.below);
        walk =
            λ n.
            at_last S j t (state_at n s a) (j - 16) refl h (sym (add-one j) ∙ l ∙ f ∙ ap layer_lookups e)
            ∙ ap₂ (state_at (suc n)) (ap (λ (m : ℕ). sums m (xor_area m (j - 16) t a)) (sym e) ∙ ap (sums m) (sym g.area) ∙ sym p) (sym q);
      }
