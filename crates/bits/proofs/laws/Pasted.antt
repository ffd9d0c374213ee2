-- Laws, not definitions: of a loop that copies m elements of a list t, from place `from` on, into a list d, from place `to` on, one a turn; and what stands where
-- in a list into which elements were copied.
-- Assumes nothing.
use mathlib.Core.List.{List, ◌++◌}
use mathlib.Core.Path.{◌≡◌, sym, ap, ◌∙◌}
use Prim.Native.Nat.{ℕ, ◌+◌, ◌≤◌, ◌<◌}
use native.Mathlib.Nat.{add-zero}
use native.Mathlib.Numerals.{add-one}
use native.Mathlib.Omega.{arith}
use lib.ListN.{length, set, take, drop, length-drop, get_or-append}
use lib.Seq.{get_or-take, get_or-drop, get_or-append-add, paste, paste-zero, paste-suc, length-take-le, length_paste_head}
use Rattle.bits.specs.Lists.{at}

-- The loop's invariant: b of them are copied, and d has become a.
pub record Pasted (d t : List ℕ) (to from m : ℕ) (a : List ℕ) (b : ℕ) : Type 0 where
  pub within : b ≤ m
  pub room : to + m ≤ length d
  pub source : from + m ≤ length t
  pub done : a ≡ paste d to (drop from t) b

pub pasted_none : {d t : List ℕ} {to from m : ℕ} → to + m ≤ length d → from + m ≤ length t → Pasted d t to from m d 0
pasted_none {d} {t} {to} {from} h k =
    record { within = omega arith; room = h; source = k; done = paste-zero d to (drop from t) }

module _ {d t : List ℕ} {to from m : ℕ} {a : List ℕ} {b : ℕ} (I : Pasted d t to from m a b) where
  pub pasted_more : b < m → Pasted d t to from m (set a (to + b) (at t (from + b))) (b + 1)
  pasted_more h =
      record {
        within = omega arith;
        room = I.room;
        source = I.source;
        done =
            ap (λ (l : List ℕ). set l (to + b) (at t (from + b))) I.done
            ∙ ap (set (paste d to (drop from t) b) (to + b)) (sym (get_or-drop from t b 0))
            ∙ paste-suc d to (drop from t) b 0 (omega arith) (omega (arith, length-drop from t))
            ∙ ap (paste d to (drop from t)) (sym (add-one b));
      }

  pub pasted_all : m ≤ b → a ≡ paste d to (drop from t) m
  pasted_all h =
      let e : b ≡ m = omega arith in
      I.done ∙ ap (paste d to (drop from t)) e

-- ---- a list into which m elements were copied at place a: what stands before them, they themselves, and what stands behind them
module _ (d : List ℕ) (a : ℕ) (s : List ℕ) (m : ℕ) (fa : a ≤ length d) (fs : m ≤ length s) where
  head_long : length (take a d ++ take m s) ≡ a + m
  head_long = length_paste_head d a s m fa fs

  pub paste_lo : (i : ℕ) → i < a → at (paste d a s m) i ≡ at d i
  paste_lo i h =
      get_or-append (take a d ++ take m s) (drop (a + m) d) 0 i (omega (arith, head_long))
      ∙ get_or-append (take a d) (take m s) 0 i (omega (arith, length-take-le a d fa))
      ∙ get_or-take a d i 0 h

  pub paste_mid : (j : ℕ) → j < m → at (paste d a s m) (a + j) ≡ at s j
  paste_mid j h =
      get_or-append (take a d ++ take m s) (drop (a + m) d) 0 (a + j) (omega (arith, head_long))
      ∙ ap (λ (k : ℕ). at (take a d ++ take m s) (k + j)) (sym (length-take-le a d fa))
      ∙ get_or-append-add (take a d) (take m s) j 0
      ∙ get_or-take m s j 0 h

  pub paste_hi : (j : ℕ) → at (paste d a s m) (a + m + j) ≡ at d (a + m + j)
  paste_hi j =
      ap (λ (k : ℕ). at (paste d a s m) (k + j)) (sym head_long)
      ∙ get_or-append-add (take a d ++ take m s) (drop (a + m) d) j 0
      ∙ get_or-drop (a + m) d j 0

  -- the first of them
  pub paste_first : 0 < m → at (paste d a s m) a ≡ at s 0
  paste_first some = ap (at (paste d a s m)) (sym (add-zero a)) ∙ paste_mid 0 some
