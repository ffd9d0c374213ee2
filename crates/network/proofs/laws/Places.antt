-- Laws, not definitions: in the closed form each place, its encoding taken off, holds the value due.
-- Assumes nothing.
use mathlib.Core.Bool.{Bool, true, false, cond}
use mathlib.Core.List.{List, [], ◌∷◌}
use mathlib.Core.Path.{refl, sym, subst}
use Prim.Native.Nat.{ℕ, ◌-◌, ◌*◌, ◌/◌, ◌%◌, ◌<◌, min}
use native.Mathlib.Omega.{arith}
use lib.Dec.{ltb}
use Rattle.bits.proofs.laws.Encodings.{decode_encode, encode_lt}
use Rattle.bits.proofs.laws.Nibbles.{nibble_packed, nibble_lt}
use Rattle.bits.specs.Bytes.{Bytes}
use Rattle.bits.specs.Lists.{at}
use Rattle.bits.specs.Nibbles.{nibble, packed}
use Rattle.network.specs.Due.{Values, summed, values_in, values_of, left_by, Due, held, blank, shown, due_in, standing_due, area_due, due_state}
use Rattle.network.specs.Numbers.{Numbers, next_numbers}
use Rattle.network.specs.Order.{layer_lookups}
use Rattle.network.specs.Tables.{Layer, AllGood}
use Rattle.network.specs.Theorems.{Permutations, Reads, PlaceByPlace}
use Rattle.network.proofs.laws.Values.{sum_lt, summed_bytes}

-- a value that is a nibble
abbrev Small : Due → Type 0
Small (held n v) = v < 16
Small blank = Unit {0}

either : (b : Bool) (x y : Due) → Small x → Small y → Small (cond b x y)
either true x y p q = p
either false x y p q = q

small_standing : (Ls : List Layer) → AllGood Ls → (N : Numbers) (l : List ℕ) → Bytes l → (k q : ℕ) → Small (standing_due (values_of Ls l) (left_by Ls l) N k q)
unfolding standing_due values_of left_by
small_standing [] g N l b k q = nibble_lt l b q
small_standing (L ∷ Ls) g N l b k q =
    either (ltb k (layer_lookups L.width)) (held (N.standing q) (nibble l q)) _ (nibble_lt l b q)
    (small_standing Ls g.1 (next_numbers L.width N) (summed (values_in L l))
    (summed_bytes (values_in L l) (λ p. g.0.bytes p (at l (L.source p)))) (k - layer_lookups L.width) q)

small_in : (D : Values) → ((p : ℕ) → Bytes (D.word p)) → (first j w h : ℕ) → Small (due_in D first j w h)
unfolding due_in
small_in D b first j w h = either (ltb w (min j 16)) (held _ _) blank (sum_lt D.word b w _ h) tt

small_area : (Ls : List Layer) → AllGood Ls → (N : Numbers) (l : List ℕ) (k q : ℕ) → Small (area_due (values_of Ls l) N k q)
unfolding area_due values_of
small_area [] g N l k q = tt
small_area (L ∷ Ls) g N l k q =
    either (ltb k (layer_lookups L.width)) (due_in (values_in L l) N.first k (q / (2 * L.width)) (q % (2 * L.width))) _
    (small_in (values_in L l) (λ p. g.0.bytes p (at l (L.source p))) N.first k _ _)
    (small_area Ls g.1 (next_numbers L.width N) (summed (values_in L l)) (k - layer_lookups L.width) q)

module _ (E : ℕ → List ℕ) (perm : Permutations E) where
  pub shown_lt : (d : Due) → shown E d < 16
  shown_lt (held n v) = encode_lt (perm n) v
  shown_lt blank = omega arith

  reads_shown : (d : Due) → Small d → Reads E (shown E d) d
  reads_shown (held n v) s = decode_encode (perm n) v s
  reads_shown blank s = refl

  reads_packed : (n : ℕ) (f : ℕ → Due) (q : ℕ) → q < 2 * n → Small (f q) → Reads E (nibble (packed n (λ j. shown E (f j))) q) (f q)
  reads_packed n f q b s =
      subst (λ (y : ℕ). Reads E y (f q)) (sym (nibble_packed n (λ j. shown E (f j)) (λ j. shown_lt (f j)) q b)) (reads_shown (f q) s)

pub place_by_place : PlaceByPlace
unfolding due_state
place_by_place E perm Ls g N l b from k = (
  λ q h. reads_packed E perm 16 (λ j. standing_due (values_of Ls l) (left_by Ls l) N k j) q h (small_standing Ls g N l b k q),
  λ q h. reads_packed E perm 256 (λ j. area_due (values_of Ls l) N k j) q h (small_area Ls g N l k q),
)
