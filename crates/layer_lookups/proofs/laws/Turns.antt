-- Laws, not definitions: XOR lookups in turns. The bytes of a word, the words of a group and the groups of a layer are three loops, and each makes so many XOR
-- lookups a turn: one invariant serves all three.
-- Assumes nothing.
use mathlib.Core.List.{List}
use mathlib.Core.Path.{◌≡◌, refl, sym, ap, ap₂, ◌∙◌}
use Prim.Native.Nat.{ℕ, ◌+◌, ◌-◌, ◌*◌, ◌≤◌, ◌<◌}
use native.Mathlib.Nat.{zero-mul}
use native.Mathlib.Omega.{arith}
use lib.ListN.{length}
use Rattle.bits.proofs.laws.Lists.{cut, cut_is}
use Rattle.network.specs.Lookups.{xor_index}
use Rattle.network.specs.Sizes.{layer_bytes}
use Rattle.lookups.specs.InPlace.{PairRead}
use Rattle.lookups.specs.Layer.{WordIn, WordAt, xors_in, word_first, table_from}
use Rattle.lookups.specs.declared.layer.Word.{Word}
use Rattle.lookups.proofs.laws.Words.{pair_second, pair_area, high_table, low_table, xors_split, length_xors}
use Rattle.layer_lookups.specs.Whole.{XorsMade}

-- The first k, and then l more, of which the last is the last of all.
made_more : {m : ℕ} {set : List ℕ} {from x k l : ℕ} {a b d : List ℕ} {e f : ℕ} → 0 < l → XorsMade m set from x k a e b → XorsMade m set from (k + x) l b f d
    → XorsMade m set from x (k + l) a f d
made_more {m} {set} {from} {x} {k} {l} {a} h I L =
    let last : k + l - 1 ≡ k + (l - 1) = omega arith in
    let there : l - 1 + (k + x) ≡ k + l - 1 + x = omega arith in
    record {
      entry =
          λ z.
          L.entry h
          ∙ ap₂ (xor_index m) there
          (ap (xors_in m set from (k + x) (l - 1)) I.area ∙ sym (xors_split m set from x k (l - 1) a) ∙ ap (λ (n : ℕ). xors_in m set from x n a) (sym last));
      below = L.below;
      area = L.area ∙ ap (xors_in m set from (k + x) l) I.area ∙ sym (xors_split m set from x k l a);
    }

-- i of n turns are made, w lookups each, from lookup x on: the area a₀ has become a, and the last lookup has read entry e.
pub record Turns (m : ℕ) (set : List ℕ) (from x w n : ℕ) (a₀ : List ℕ) (e : ℕ) (a : List ℕ) (i : ℕ) : Type 0 where
  pub within : i ≤ n
  pub made : XorsMade m set from x (i * w) a₀ e a

pub turns_none : {m : ℕ} {set : List ℕ} {from x w n e : ℕ} {a : List ℕ} → e < 256 → Turns m set from x w n a e a 0
unfolding xors_in
turns_none {w = w} h = record { within = omega arith; made = rw (zero-mul w) (record { entry = λ z. absurd (omega arith); below = h; area = refl }) }

module _ {m : ℕ} {set : List ℕ} {from x w n : ℕ} {a₀ : List ℕ} {e : ℕ} {a : List ℕ} {i : ℕ} (I : Turns m set from x w n a₀ e a i) where
  -- A turn, from lookup y on.
  pub turns_more : {y f : ℕ} {b : List ℕ} → 0 < w → i < n → y ≡ i * w + x → XorsMade m set from y w a f b → Turns m set from x w n a₀ f b (i + 1)
  turns_more h k s L =
      let next : i * w + w ≡ (i + 1) * w = omega arith in
      record { within = omega arith; made = rw (sym next) (made_more h I.made (rw (sym s) L)) }

  -- Lookups keep the area's length.
  pub turns_long : length a₀ ≡ 256 → length a ≡ 256
  turns_long l = ap length I.made.area ∙ length_xors m set from x (i * w) a₀ ∙ l

  -- Behind the last.
  pub turns_all : {k : ℕ} → n ≤ i → k ≡ n * w → XorsMade m set from x k a₀ e a
  turns_all h s =
      let all : i ≡ n = omega (arith, I.within) in
      rw (s, sym all) I.made

-- The turn of byte i of a word: two lookups, over the tables that begin at byte `start` of the set.
pub pair_made : {m g t : ℕ} {r : Word} {set : List ℕ} {from start i : ℕ} {a a' : List ℕ} {e : ℕ} → WordIn m g t → WordAt m g t r → i < m → length a ≡ 256
    → from + layer_bytes m ≤ length set → start ≡ from + r.tables + i * 256
    → PairRead (cut set start (start + 128)) (cut set (start + 128) (start + 128 + 128)) (r.sum + i) (r.added + i) a e a'
    → XorsMade m set from (i * 2 + word_first m g t) 2 a e a'
unfolding xors_in
pair_made {m} {g} {t} {r} {set} {from} {start} {i} {a} {a'} w W h l room s p =
    let high = cut_is set start 128 ∙ high_table w W i h set from start s room in
    let low = cut_is set (start + 128) 128 ∙ low_table w W i h set from start s room in
    let x = i * 2 + word_first m g t in
    let H = table_from m set from (16 + (0 + x)) in
    let L = table_from m set from (16 + (1 + x)) in
    let made : a' ≡ xors_in m set from x 2 a = p.area ∙ rw (high, low) (pair_area w W i h H L a l) in
    record {
      entry = λ z. p.entry ∙ pair_second w W i h H L a l;
      below = p.below;
      area = made;
    }
