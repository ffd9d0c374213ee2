-- Laws, not definitions: the loops over the XOR lookups of a stage or half, with what is recorded of each.
-- Assumes nothing.
use mathlib.Core.List.{List, ◌++◌}
use mathlib.Core.Path.{◌≡◌, refl, sym, ap, ap₂, ◌∙◌}
use Prim.Native.Nat.{ℕ, ◌+◌, ◌-◌, ◌*◌, ◌≤◌, ◌<◌}
use native.Mathlib.Nat.{zero-mul}
use native.Mathlib.Omega.{arith}
use borrow.Rule.Slice.PartMut.{put_mid, same_len_mid}
use lib.ListN.{length, take}
use Rattle.bits.specs.Lists.{concat}
use Rattle.bits.proofs.laws.Lists.{concat_same, cut, length_cut, take_put, concat_split}
use Rattle.bits.proofs.laws.Multiples.{row_inside}
use Rattle.network.specs.Lookups.{xor_index, xor_area}
use Rattle.network.specs.Read.{nibble_place}
use Rattle.network.specs.Sizes.{offset_of, layer_bytes}
use Rattle.lookups.specs.InPlace.{Width}
use Rattle.lookups.specs.Layer.{WordIn, WordAt, table_from, xors_in, word_xors, word_first, group_xors}
use Rattle.lookups.specs.declared.layer.Word.{Word}
use Rattle.lookups.proofs.laws.Words.{by_width, pair_first_lem, pair_second, pair_area, high_table, low_table, length_xors, xors_split}
use Rattle.layer_record.specs.Entries.{entry_size, written, entry_read}
use Rattle.layer_record.specs.Layer.{xor_entry}
use Rattle.layer_record.specs.Parts.{table_at, ByteRecorded, XorsRecorded}
use Rattle.layer_record.proofs.laws.Entries.{nibble_noted}

-- ---- the two XOR lookups of byte i of word t of group g
pub pair_recorded : {m g t : ℕ} {r : Word} → WordIn m g t → WordAt m g t r → {i : ℕ} → i < m → {set : List ℕ} {from start : ℕ} {a a' left : List ℕ}
    → start ≡ from + r.tables + i * 256 → from + layer_bytes m ≤ length set → length a ≡ 256
    → ByteRecorded set start (r.sum + i) (r.added + i) a a' left → XorsRecorded m set from (i * 2 + word_first m g t) 2 a a' left
unfolding xors_in concat
pair_recorded {m} {g} {t} {r} w W {i} h {set} {from} {start} {a} s room long B =
    record {
      area = B.area ∙ pair_area w W i h high low a long ∙ made;
      bytes =
          B.bytes
          ∙ ap₂ (λ (u v : List ℕ). u ++ v)
          (nibble_noted set m from start (0 + x) _ (omega (arith, s, W.tables)) ∙ ap (noted (0 + x)) (pair_first_lem w W i h high low a long))
          (nibble_noted set m from (start + 128) (1 + x) _ (omega (arith, s, W.tables))
          ∙ ap (noted (1 + x)) (pair_second w W i h high low a long ∙ ap (λ (t : List ℕ). xor_index m (1 + x) (xor_area m (0 + x) t a)) tables));
    }
  where
    x : ℕ
    x = i * 2 + word_first m g t

    high : List ℕ
    high = table_at set start

    low : List ℕ
    low = table_at set (start + 128)

    noted : ℕ → ℕ → List ℕ
    noted y e = written (entry_read (16 + y) set (nibble_place (from + offset_of m (16 + y)) e))

    tables : high ≡ table_from m set from (16 + (0 + x))
    tables = high_table w W i h set from start s room

    made : xor_area m (1 + x) low (xor_area m (0 + x) high a)
        ≡ xor_area m (1 + x) (table_from m set from (16 + (1 + x))) (xor_area m (0 + x) (table_from m set from (16 + (0 + x))) a)
    made = ap₂ (λ (u v : List ℕ). xor_area m (1 + x) u (xor_area m (0 + x) v a)) (low_table w W i h set from start s room) tables

-- ---- k XOR lookups, and then l more
entries_split : (m : ℕ) (set : List ℕ) (from x k l : ℕ) (a : List ℕ)
    → concat (k + l) (xor_entry m set from x a) ≡ concat k (xor_entry m set from x a) ++ concat l (xor_entry m set from (k + x) (xors_in m set from x k a))
entries_split m set from x k l a =
    concat_split k l (xor_entry m set from x a)
    ∙ ap (λ (u : List ℕ). concat k (xor_entry m set from x a) ++ u)
    (concat_same l (λ i. xor_entry m set from x a (k + i)) (xor_entry m set from (k + x) (xors_in m set from x k a)) (λ i h.
    let e : k + i + x ≡ i + (k + x) = omega arith in
    ap₂ (λ (y : ℕ) (b : List ℕ). written (entry_read (16 + y) set (nibble_place (from + offset_of m (16 + y)) (xor_index m y b)))) e (xors_split m set from x k i a)))

-- ---- numbers of the two widths, and the bytes of two entries
abbrev pub pair_size : ℕ
pair_size = 2 * entry_size

module _ {m : ℕ} (k : Width m) where
  -- The bytes of the entries of a group, as the code works them out.
  pub group_size : pair_size * m * (m - 1) ≡ group_xors m * entry_size
  group_size = by_width k (λ m. pair_size * m * (m - 1) ≡ group_xors m * entry_size) refl refl

-- ---- the loops over XOR lookups, those of a word, of a group and of all groups: of n turns of w lookups each, i are made, from lookup x on. The area a₀ has become
-- a, and the first entries of the memory d are theirs
pub record Turns (m : ℕ) (set : List ℕ) (from x n w : ℕ) (a₀ a d : List ℕ) (i : ℕ) : Type 0 where
  pub within : i ≤ n
  pub area : a ≡ xors_in m set from x (i * w) a₀
  pub memory : length d ≡ n * w * entry_size
  pub front : take (i * w * entry_size) d ≡ concat (i * w) (xor_entry m set from x a₀)

pub turns_none : {m : ℕ} {set : List ℕ} {from x n w : ℕ} {a d : List ℕ} → length d ≡ n * w * entry_size → Turns m set from x n w a a d 0
unfolding xors_in concat
turns_none {m} {set} {from} {x} {n} {w} {a} {d} e =
    record {
      within = omega arith;
      area = ap (λ (k : ℕ). xors_in m set from x k a) (sym (zero-mul w));
      memory = e;
      front = ap (λ (k : ℕ). take (k * entry_size) d) (zero-mul w) ∙ ap (λ (k : ℕ). concat k (xor_entry m set from x a)) (sym (zero-mul w));
    }

-- Lookups keep the area's length.
pub turns_long : {m : ℕ} {set : List ℕ} {from x n w : ℕ} {a₀ a d : List ℕ} {i : ℕ} → Turns m set from x n w a₀ a d i → length a₀ ≡ 256 → length a ≡ 256
turns_long {m} {set} {from} {x} {w = w} {a₀} {i = i} T l = ap length T.area ∙ length_xors m set from x (i * w) a₀ ∙ l

module _ {m : ℕ} {set : List ℕ} {from x n w : ℕ} {a₀ a d : List ℕ} {i : ℕ} (T : Turns m set from x n w a₀ a d i) {size : ℕ} (s : size ≡ w * entry_size) where
  -- The part of the memory that a turn lends lies within it, and is `size` bytes long.
  pub part_inside : i < n → i * size + size ≤ length d
  part_inside h =
      let all : n * size ≡ length d = ap (λ (k : ℕ). n * k) s ∙ (let e : n * (w * entry_size) ≡ n * w * entry_size = omega arith in e) ∙ sym T.memory in
      omega (arith, row_inside i size n h, all)

  pub part_long : i < n → length (cut d (i * size) (i * size + size)) ≡ size
  part_long h = length_cut d (i * size) size (part_inside h)

  -- It comes back with what is recorded of the turn's lookups.
  pub turns_more : {y j : ℕ} {a' ys : List ℕ} → i < n → y ≡ i * w + x → j ≡ i + 1 → XorsRecorded m set from y w a a' ys
      → length ys ≡ length (cut d (i * size) (i * size + size)) → Turns m set from x n w a₀ a' (put_mid (i * size) (i * size + size - i * size) d ys) j
  turns_more {y} {j} {a'} {ys} h e f X l =
      let start : i * size ≡ i * w * entry_size = ap (λ (k : ℕ). i * k) s ∙ (let q : i * (w * entry_size) ≡ i * w * entry_size = omega arith in q) in
      let next : i * w + w ≡ j * w = rw f (omega arith) in
      let end : i * size + size ≡ j * w * entry_size = omega (arith, start, s, next) in
      record {
        within = omega arith;
        area =
            X.area
            ∙ ap₂ (λ (y : ℕ) (b : List ℕ). xors_in m set from y w b) e T.area
            ∙ sym (xors_split m set from x (i * w) w a₀)
            ∙ ap (λ (k : ℕ). xors_in m set from x k a₀) next;
        memory = same_len_mid (i * size) (i * size + size - i * size) d ys l ∙ T.memory;
        front =
            take_put (i * size) (i * size + size - i * size) (j * w * entry_size) d ys (omega (arith, part_inside h)) (omega (arith, l, part_long h, end))
            ∙ ap₂ (λ (u v : List ℕ). u ++ v) (ap (λ (k : ℕ). take k d) start ∙ T.front)
            (X.bytes ∙ ap₂ (λ (y : ℕ) (b : List ℕ). concat w (xor_entry m set from y b)) e T.area)
            ∙ sym (entries_split m set from x (i * w) w a₀)
            ∙ ap (λ (k : ℕ). concat k (xor_entry m set from x a₀)) next;
      }

-- ---- the words of a group, word 1 first: those before word t are added to the group's sum
pub record Words (m : ℕ) (set : List ℕ) (from g : ℕ) (a₀ a d : List ℕ) (t : ℕ) : Type 0 where
  pub some : 0 < t
  pub turns : Turns m set from (g * group_xors m) (m - 1) (word_xors m) a₀ a d (t - 1)

pub words_none : {m : ℕ} {set : List ℕ} {from g : ℕ} {a d : List ℕ} → length d ≡ group_xors m * entry_size → Words m set from g a a d 1
words_none h = record { some = omega arith; turns = turns_none h }

-- The bytes of the entries of a word, as the code works them out.
pub word_size : (m : ℕ) → pair_size * m ≡ word_xors m * entry_size
word_size m = omega arith

module _ {m : ℕ} {set : List ℕ} {from g : ℕ} {a₀ a d : List ℕ} {t : ℕ} (I : Words m set from g a₀ a d t) where
  turn_inside : t < m → t - 1 < m - 1
  turn_inside h = omega (arith, I.some)

  pub words_more : {b ys : List ℕ} → t < m → XorsRecorded m set from (word_first m g t) (word_xors m) a b ys
      → length ys ≡ length (cut d ((t - 1) * (pair_size * m)) ((t - 1) * (pair_size * m) + pair_size * m))
      → Words m set from g a₀ b (put_mid ((t - 1) * (pair_size * m)) ((t - 1) * (pair_size * m) + pair_size * m - (t - 1) * (pair_size * m)) d ys) (t + 1)
  words_more h X l =
      record { some = omega arith; turns = turns_more I.turns (word_size m) (turn_inside h) refl (omega (arith, I.some)) X l }
