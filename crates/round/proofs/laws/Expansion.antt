-- Laws, not definitions: of the loop that lays out the key and of the one that expands it, from what each call ensures.
-- Assumes nothing.
use mathlib.Core.Path.{◌≡◌, refl, sym, ap, ◌∙◌}
use mathlib.Core.List.{List, ◌++◌}
use Prim.Native.Nat.{ℕ, suc, ◌+◌, ◌-◌, ◌*◌, ◌≤◌, ◌<◌}
use native.Mathlib.Omega.{arith}
use lib.ListN.{length, take, drop}
use lib.Seq.{take_all, length-paste, length_paste_head, take-append_seam}
use Rattle.bits.specs.Lists.{at}
use Rattle.bits.proofs.laws.Filled.{Filled, filled_front}
use Rattle.bits.proofs.laws.Lists.{length_tabulate, tabulate_at}
use Rattle.round.specs.Key.{word_at, xor_word, temp, next_word_of, expand, put_word, rounds_of, KeyExpansion}
use Rattle.round.proofs.laws.Key.{word_take}

-- ---- The loop that lays out the key fills the front of the memory.
pub laid : {m : ℕ} {key w : List ℕ} {i : ℕ} → Filled m (at key) w i → length key ≤ i → take (length key) w ≡ key
laid {key = key} F h = filled_front F h ∙ tabulate_at (length key) key refl

-- ---- A word of four bytes, written over word i: what then stands up to its end.
put_four : (w : List ℕ) (i : ℕ) (x : List ℕ) → 4 * i + 4 ≤ length w → length x ≡ 4 → take (4 * i + 4) (put_word w i x) ≡ take (4 * i) w ++ x
put_four w i x h e =
    let head : length (take (4 * i) w ++ take 4 x) ≡ 4 * i + 4 = length_paste_head w (4 * i) x 4 (omega arith) (omega arith) in
    ap (λ (n : ℕ). take n (put_word w i x)) (sym head)
    ∙ take-append_seam (take (4 * i) w ++ take 4 x) (drop (4 * i + 4) w)
    ∙ ap (λ (l : List ℕ). take (4 * i) w ++ l) (take_all 4 x (omega arith))

word_long : (a b x : List ℕ) → x ≡ xor_word a b → length x ≡ 4
unfolding xor_word
word_long a b x e = ap length e ∙ length_tabulate 4 _

-- ---- The loop that expands a key of nk words.
-- Its invariant: the first i words, the key's among them, are those of the expansion.
pub record Expanded (nk : ℕ) (key w : List ℕ) (i : ℕ) : Type 0 where
  pub least : nk ≤ i
  pub within : i ≤ 4 * (rounds_of nk + 1)
  pub long : length w ≡ 16 * (rounds_of nk + 1)
  pub front : take (4 * i) w ≡ expand nk key (i - nk)

pub expanded_none : (nk : ℕ) (key w : List ℕ) → length w ≡ 16 * (rounds_of nk + 1) → length key ≡ 4 * nk → take (length key) w ≡ key
    → Expanded nk key w nk
unfolding expand
expanded_none nk key w l k e =
    let none : nk - nk ≡ 0 = omega arith in
    record { least = omega arith; within = omega arith; long = l; front = ap (λ (n : ℕ). take n w) (sym k) ∙ e ∙ ap (expand nk key) (sym none) }

-- Word i by the rule, q and p being the words i - 1 and i - nk that it is made of.
module _ {nk : ℕ} {key w : List ℕ} {i : ℕ} (some : 1 ≤ nk) (E : Expanded nk key w i) {p q t x : List ℕ}
    (last : q ≡ word_at w (i - 1)) (changed : t ≡ temp nk i q) (back : p ≡ word_at w (i - nk)) (sum : x ≡ xor_word p t) where
  known : (j : ℕ) → j < i → word_at (expand nk key (i - nk)) j ≡ word_at w j
  known j h = ap (λ (z : List ℕ). word_at z j) (sym E.front) ∙ word_take w (4 * i) j (omega arith)

  next_word : next_word_of nk i (expand nk key (i - nk)) ≡ x
  unfolding next_word_of
  next_word =
      let first = known (i - nk) (omega (arith, E.least)) in
      let before-it = known (i - 1) (omega (arith, E.least)) in
      cc

  one_more : expand nk key (i - nk) ++ x ≡ expand nk key (i + 1 - nk)
  unfolding expand
  one_more =
      let n : i + 1 - nk ≡ suc (i - nk) = omega (arith, E.least) in
      let same : nk + (i - nk) ≡ i = omega (arith, E.least) in
      rw (n, same) (ap (λ (z : List ℕ). expand nk key (i - nk) ++ z) (sym next_word))

  pub expanded_more : i < 4 * (rounds_of nk + 1) → {w' : List ℕ} → w' ≡ put_word w i x → Expanded nk key w' (i + 1)
  expanded_more h d =
      let k : 4 * (i + 1) ≡ 4 * i + 4 = omega arith in
      rw d (record {
        least = omega (arith, E.least);
        within = omega arith;
        long = length-paste w (4 * i) x 4 (omega (arith, E.long)) (omega (arith, word_long p t x sum)) ∙ E.long;
        front =
            ap (λ (z : ℕ). take z (put_word w i x)) k
            ∙ put_four w i x (omega (arith, E.long)) (word_long p t x sum)
            ∙ ap (λ (u : List ℕ). u ++ x) E.front
            ∙ one_more;
      })

pub expanded_all : {nk : ℕ} {key w : List ℕ} {i : ℕ} → Expanded nk key w i → 4 * (rounds_of nk + 1) ≤ i → w ≡ KeyExpansion nk key
unfolding KeyExpansion
expanded_all {nk} {key} {w} {i} E h =
    let e : i ≡ 4 * (rounds_of nk + 1) = omega (arith, E.within) in
    sym (take_all (4 * i) w (omega (arith, E.long, E.within))) ∙ E.front ∙ ap (λ (z : ℕ). expand nk key (z - nk)) e
