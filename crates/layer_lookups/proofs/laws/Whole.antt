-- Laws, not definitions: all lookups of a stage or half, made in place, and the place that the last one reads.
-- Assumes nothing.
use mathlib.Core.List.{List}
use mathlib.Core.Logic.{⊎_elim}
use mathlib.Core.Path.{◌≡◌, refl, sym, ap, ap₂, ◌∙◌}
use Prim.Native.Nat.{ℕ, ◌+◌, ◌-◌, ◌*◌, ◌≤◌, ◌<◌, min}
use native.Mathlib.Numerals.{add-one}
use native.Mathlib.Omega.{arith}
use Rattle.network.specs.Lookups.{Shape, xor_index, sums, zero_area}
use Rattle.network.specs.Order.{xors, layer_lookups}
use Rattle.network.specs.Read.{nibble_place, read_in}
use Rattle.network.specs.Sizes.{offset_of, layer_bytes}
use Rattle.network.specs.declared.EntryPlace.{EntryPlace}
use Rattle.network.proofs.laws.Order.{layer_lookups_lem}
use Rattle.network.proofs.laws.Read.{read_xor, nibble_within}
use Rattle.lookups.specs.InPlace.{Width}
use Rattle.lookups.specs.Layer.{SpreadMade, word_xors, group_xors, word_first, spreads_in, xors_in, sums_in}
use Rattle.layer_lookups.proofs.laws.Turns.{Turns, turns_none, turns_more}
use Rattle.layer_lookups.specs.Whole.{XorsMade, LayerMade, place_of_last}

-- ---- the loop over the spread lookups: p of them are made, and the area a₀ has become a
pub record Spreads (S : Shape) (set : List ℕ) (from : ℕ) (s a₀ a : List ℕ) (p : ℕ) : Type 0 where
  pub within : p ≤ 16
  pub made : a ≡ spreads_in S set from s p a₀

pub spreads_none : {S : Shape} {set : List ℕ} {from : ℕ} {s a : List ℕ} → Spreads S set from s a a 0
unfolding spreads_in
spreads_none = record { within = omega arith; made = refl }

module _ {S : Shape} {set : List ℕ} {from : ℕ} {s a₀ a : List ℕ} {p : ℕ} (I : Spreads S set from s a₀ a p) where
  pub spreads_more : {r : ℕ} {a' : List ℕ} → p < 16 → SpreadMade S set from p s a r a' → Spreads S set from s a₀ a' (p + 1)
  unfolding spreads_in
  spreads_more h g =
      record {
        within = omega arith;
        made = g.area ∙ rw I.made refl ∙ ap (λ (x : ℕ). spreads_in S set from s x a₀) (sym (add-one p));
      }

-- ---- the words of a group, and the groups of a layer
xors_4 : xors 4 ≡ 96
unfolding xors
xors_4 = refl

xors_16 : xors 16 ≡ 480
unfolding xors
xors_16 = refl

-- The loop over the words of group g: those before word t are added.
pub record Words (m : ℕ) (set : List ℕ) (from g : ℕ) (a₀ : List ℕ) (e : ℕ) (a : List ℕ) (t : ℕ) : Type 0 where
  pub some : 0 < t
  pub turns : Turns m set from (g * group_xors m) (word_xors m) (m - 1) a₀ e a (t - 1)

pub words_none : {m : ℕ} {set : List ℕ} {from g e : ℕ} {a : List ℕ} → e < 256 → Words m set from g a e a 1
words_none h = record { some = omega arith; turns = turns_none h }

module _ {m : ℕ} {set : List ℕ} {from g : ℕ} {a₀ : List ℕ} {e : ℕ} {a : List ℕ} {t : ℕ} (I : Words m set from g a₀ e a t) where
  pub words_more : {f : ℕ} {b : List ℕ} → t < m → XorsMade m set from (word_first m g t) (word_xors m) a f b → Words m set from g a₀ f b (t + 1)
  words_more {f} {b} h L =
      let next : t - 1 + 1 ≡ t + 1 - 1 = omega (arith, I.some) in
      record { some = omega arith; turns = rw (sym next) (turns_more I.turns (omega arith) (omega (arith, I.some)) refl L) }

-- ---- all lookups of a stage or half: 16 spread lookups, and the XOR lookups
pub record Count (m all : ℕ) : Type 0 where
  pub sum : all ≡ 16 + xors m
  pub some : 96 ≤ xors m
  pub most : xors m ≤ 480

pub counted : (m all : ℕ) → Width m → all ≡ layer_lookups m → Count m all
counted m all k e = ⊎_elim (λ f. of (ap xors f ∙ xors_4) (omega arith) (omega arith)) (λ f. of (ap xors f ∙ xors_16) (omega arith) (omega arith)) k
  where
    of : {n : ℕ} → xors m ≡ n → 96 ≤ n → n ≤ 480 → Count m all
    of f lo hi = record { sum = e ∙ layer_lookups_lem m; some = omega arith; most = omega arith }

-- The table of the last, of `all`, begins there, and it ends where the tables of the stage or half do.
abbrev last_at : ℕ → ℕ → ℕ → ℕ
last_at from m all = from + 4096 * m + (all - 1 - 16) * 128

pub last_ends : (from m all bytes : ℕ) → Width m → all ≡ layer_lookups m → from + layer_bytes m ≤ bytes → last_at from m all + 128 ≤ bytes
unfolding layer_bytes
last_ends from m all bytes k e h = omega (arith, counted m all k e)

-- The spread lookups leave the area b, the XOR lookups d, from which the sums s' are taken.
pub layer_made : {S : Shape} {set : List ℕ} {from m all : ℕ} {s a b d s' a' : List ℕ} {i : ℕ} {r : EntryPlace} → m ≡ S.width → Width m → all ≡ layer_lookups m
    → b ≡ spreads_in S set from s 16 a → XorsMade m set from 0 (xors m) b i d → s' ≡ sums m d → a' ≡ zero_area → r ≡ nibble_place (last_at from m all) i
    → LayerMade S set from s a r s' a'
unfolding sums_in place_of_last
layer_made {S} {set} {from} {m} {all} {s} {a} {b} {i = i} e k c f x g h o =
    record { read = o ∙ read; table = rw (o, there, sym e) (nibble_within m (layer_lookups m - 1) _ _ last_xor x.below); standing = g ∙ rw (x.area, f, e) refl; area = h }
  where
    N : Count m all
    N = counted m all k c

    last_xor : 16 ≤ layer_lookups m - 1
    last_xor = omega (arith, N, c)

    there : last_at from m all ≡ from + offset_of m (layer_lookups m - 1)
    there =
        let sixteen : min (layer_lookups m - 1) 16 ≡ 16 = omega (arith, N, c) in
        rw sixteen (omega (arith, N, c))

    read : nibble_place (last_at from m all) i
        ≡ read_in S (layer_lookups S.width - 1) (from + offset_of S.width (layer_lookups S.width - 1)) s
        (xors_in S.width set from 0 (xors S.width - 1) (spreads_in S set from s 16 a))
    read =
        let j = layer_lookups m - 1 in
        let z : xors m - 1 + 0 ≡ j - 16 = omega (arith, N, c) in
        ap₂ nibble_place there
        (x.entry (omega (arith, N)) ∙ ap₂ (λ (n : ℕ) (b : List ℕ). xor_index m n (xors_in m set from 0 (xors m - 1) b)) z f)
        ∙ ap (λ (m : ℕ). nibble_place (from + offset_of m (layer_lookups m - 1))
        (xor_index m (layer_lookups m - 1 - 16) (xors_in m set from 0 (xors m - 1) (spreads_in S set from s 16 a)))) e
        ∙ sym (read_xor S (layer_lookups S.width - 1) _ s _ (rw (sym e) last_xor))
