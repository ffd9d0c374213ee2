-- Laws, not definitions: one word written to its place in a part, the loop that writes a part word by word, and the bytes of an encoded word.
-- Assumes nothing.
use mathlib.Core.List.{List}
use mathlib.Core.Logic.{◌≢◌, inl, ⊎_elim}
use mathlib.Core.Path.{◌≡◌, sym, ap, ap₂, ◌∙◌, subst}
use Prim.Native.Nat.{ℕ, ◌+◌, ◌-◌, ◌*◌, ◌/◌, ◌%◌, ◌≤◌, ◌<◌}
use native.Mathlib.Decide.{dec_lt}
use native.Mathlib.Nat.{zero-add, zero-mul, one-mul, add-mul}
use native.Mathlib.Omega.{arith}
use lib.ListN.{length, set}
use lib.Seq.{length-paste}
use Rattle.bits.specs.Bytes.{Bytes, byte, bytes_of}
use Rattle.bits.specs.Lists.{at, concat}
use Rattle.bits.specs.Nibbles.{pack}
use Rattle.bits.proofs.laws.Bytes.{at_bytes_of}
use Rattle.bits.proofs.laws.Lists.{length_concat, at_concat, concat_same, ext_at}
use Rattle.bits.proofs.laws.Multiples.{row_inside}
use Rattle.bits.proofs.laws.Nibbles.{nibble_even, nibble_odd, length_packed, at_packed}
use Rattle.bits.proofs.laws.Pasted.{Pasted, pasted_none, pasted_more, pasted_all, paste_lo, paste_mid, paste_hi}
use Rattle.matrices.specs.ByNibbles.{combined, nibble_byte, word_in}
use Rattle.matrices.specs.Rows.{stored}
use Rattle.matrices.proofs.laws.ByNibbles.{word_in_lem}
use Rattle.encodings.specs.Encodings.{Nibbles}
use Rattle.spread_tables.specs.Spread.{encoded_byte, encoded_bytes, encoded_word}
use Rattle.spread_tables.specs.Words.{block_word, round_word, WordWidth, with_word, WordPut, PutsWord}

-- ---- the two widths
pub width_most : (m : ℕ) → WordWidth m → m ≤ block_word
width_most m = ⊎_elim (λ (wide : m ≡ block_word). omega arith) (λ (narrow : m ≡ round_word). omega arith)

pub width_else : (m : ℕ) → WordWidth m → m ≢ block_word → m ≡ round_word
width_else m w other = ⊎_elim (λ (wide : m ≡ block_word). absurd (other wide)) (λ narrow. narrow) w

-- The images of fewer nibbles.
pub fewer : (l : List ℕ) (n m : ℕ) → n ≤ m → Nibbles m l → Nibbles n l
fewer l n m h nibbles = record { long = omega (arith, nibbles.long); small = λ i k. nibbles.small i (omega arith) }

-- ---- one word
pub puts_word : PutsWord
puts_word m x w d long room = record {
  own = paste_mid d (x * m) w m (omega arith) (omega arith);
  others = λ i outside. ⊎_elim
      (λ (before : i < x * m). paste_lo d (x * m) w m (omega arith) (omega arith) i before)
      (λ (behind : x * m + m ≤ i).
      let back : i ≡ x * m + m + (i - (x * m + m)) = omega arith in
      ap (at (with_word m x w d)) back
      ∙ paste_hi d (x * m) w m (omega arith) (omega arith) (i - (x * m + m))
      ∙ ap (at d) (sym back))
      outside;
  long = length-paste d (x * m) w m room (omega arith);
}

-- The loop that writes it, byte b of w in turn b (`Pasted` of bits).
module _ (x : ℕ) {d w : List ℕ} {m : ℕ} where
  pub word_none : x * m + m ≤ length d → length w ≡ m → Pasted d w (x * m) 0 m d 0
  word_none room long = pasted_none room (omega arith)

  module _ {a : List ℕ} {b : ℕ} (I : Pasted d w (x * m) 0 m a b) where
    -- v is put to place p.
    pub word_more : {p v : ℕ} → b < m → p ≡ x * m + b → v ≡ at w b → Pasted d w (x * m) 0 m (set a p v) (b + 1)
    word_more h place e =
        subst (λ (a : List ℕ). Pasted d w (x * m) 0 m a (b + 1)) (ap₂ (set a) (sym place) (ap (at w) (zero-add b) ∙ sym e)) (pasted_more I h)

    pub word_all : m ≤ b → a ≡ with_word m x w d
    word_all = pasted_all I

    pub word_put : m ≤ b → length w ≡ m → WordPut m x w d a
    word_put h long = subst (WordPut m x w d) (sym (word_all h)) (puts_word m x w d long I.room)

-- ---- a part of n words of m bytes, word x being t x, one a turn
-- The loop's invariant: the words before word x are written. What later turns write leaves them alone.
pub record Written (n m : ℕ) (t : ℕ → List ℕ) (d : List ℕ) (x : ℕ) : Type 0 where
  pub within : x ≤ n
  pub long : length d ≡ n * m
  pub done : (i : ℕ) → i < x * m → at d i ≡ at (concat n t) i

pub written_none : {n m : ℕ} {t : ℕ → List ℕ} {d : List ℕ} → length d ≡ n * m → Written n m t d 0
written_none {m = m} long = record { within = omega arith; long = long; done = λ i h. absurd (omega (arith, zero-mul m)) }

-- Each word has its place in the part.
pub word_room : {n m : ℕ} {t : ℕ → List ℕ} {d : List ℕ} {x : ℕ} → Written n m t d x → (i : ℕ) → i < n → i * m + m ≤ length d
word_room {n} {m} I i h = omega (arith, row_inside i m n h, I.long)

module _ {n m : ℕ} {t : ℕ → List ℕ} (sized : (i : ℕ) → i < n → length (t i) ≡ m) {d : List ℕ} {x : ℕ} (I : Written n m t d x) where
  -- Word x is put to place y, which is its own, and every other byte is left alone.
  pub written_more : {y : ℕ} {w e : List ℕ} → x < n → y ≡ x → w ≡ t x → WordPut m y w d e → Written n m t e (x + 1)
  written_more {w = w} {e} h place own put =
      let word : WordPut m x w d e = subst (λ (y : ℕ). WordPut m y w d e) place put in
      let next : (x + 1) * m ≡ x * m + m = add-mul x 1 m ∙ ap (λ (k : ℕ). x * m + k) (one-mul m) in
      record {
        within = omega arith;
        long = word.long ∙ I.long;
        done = λ i l. elim (dec_lt i (x * m)) [
          | yes before ↦ word.others i (inl before) ∙ I.done i before
          | no behind ↦
              let back : i ≡ x * m + (i - x * m) = omega arith in
              let within : i - x * m < m = omega arith in
              ap (at e) back
              ∙ word.own (i - x * m) within
              ∙ ap (λ (l : List ℕ). at l (i - x * m)) own
              ∙ sym (at_concat m t n sized x (i - x * m) h within)
              ∙ ap (at (concat n t)) (sym back)
        ];
      }

  pub written_all : n ≤ x → d ≡ concat n t
  written_all h =
      let done : n ≡ x = omega arith in
      ext_at (n * m) d (concat n t) I.long (length_concat m t n sized) (λ i l. I.done i (subst (λ (k : ℕ). i < k * m) done l))

-- ---- the bytes of an encoded word
pub length_encoded : (images : ℕ → ℕ) (m v : ℕ) → length (encoded_word images m v) ≡ m
unfolding encoded_bytes
length_encoded images m v = length_packed m _

-- Byte k is byte k of the word, encoded.
pub at_encoded : (images : ℕ → ℕ) (m v k : ℕ) → k < m → at (encoded_word images m v) k ≡ encoded_byte images k (byte m k v)
unfolding encoded_bytes
at_encoded images m v k h =
    let here = at_bytes_of m v k h in
    at_packed m _ k h
    ∙ ap₂ pack
    (ap (λ (x : ℕ). images (16 * (2 * k) + x)) (nibble_even (bytes_of m v) k ∙ ap (λ (x : ℕ). x / 16) here))
    (ap (λ (x : ℕ). images (16 * (2 * k + 1) + x)) (nibble_odd (bytes_of m v) k ∙ ap (λ (x : ℕ). x % 16) here))

-- A table's words, from what `write` has at hand: n is the width that it names.
pub table_written : (f : ℕ → ℕ) (images old words values dst : List ℕ) (m n : ℕ)
    → length old ≡ 64
    → words ≡ stored 32 (λ r. combined f (nibble_byte r)) old
    → Bytes values
    → m ≡ n
    → dst ≡ concat 256 (λ x. encoded_word (at images) n (word_in words (at values x)))
    → dst ≡ concat 256 (λ x. encoded_word (at images) m (combined f (at values x)))
table_written f images old words values dst m n long rows small width written =
    written
    ∙ concat_same 256 _ _ (λ x h. ap₂ (encoded_word (at images)) (sym width) (word_in_lem f old words (at values x) long rows (small x)))
