-- Laws, not definitions: the rules of the two tables, each by one test that antt computes over all 256 entries, and from them
-- the laws of the S-box and of the inverse in the field.
-- Assumes nothing.
use mathlib.Core.Path.{◌≡◌, refl, sym, ◌∙◌, ap}
use mathlib.Core.Bool.{Bool, true, false, cond}
use mathlib.Core.List.{List}
use Prim.Native.Nat.{ℕ, zero, suc, ◌+◌, ◌<◌, ◌≤◌, zero-le}
use native.Mathlib.Omega.{arith}
use lib.Arith.{lt_of_le-ne}
use borrow.Author.Tests.{eqb-true, eqb-false}
use lib.Dec.{T, eqb, ltb, eqb→eq, ltb→lt}
use lib.ListN.{length}
use Rattle.bits.specs.Lists.{at}
use Rattle.bits.proofs.laws.Checked.{every, both, both_left, both_right}
use Rattle.bits.proofs.laws.Checked as checked
use Rattle.field.specs.Field.{xtime, times, mul, squares, inverse}
use Rattle.field.specs.Sbox.{turn, affine, sbox_of, seek, inv_sbox_of}
use Rattle.field.specs.Theorems.{InverseRight, InvSboxSbox, SboxInvSbox}
use Rattle.field.proofs.laws.Tables.{sbox_table, inv_sbox_table}

-- It is 0 for 0, else 1.
one_for : ℕ → ℕ
one_for zero = 0
one_for (suc n) = 1

-- Entry s of the S-box at x is the affine map of inverse x, and x times inverse x is 1.
right : ℕ → ℕ → Bool
right x s = let i : ℕ = inverse x in both (eqb s (affine i)) (eqb (mul x i) (one_for x))

tested : (x : ℕ) → x < 256 → T (right x (at sbox_table x))
unfolding sbox_table right one_for xtime times mul squares inverse turn affine
tested x h = checked.at right sbox_table tt x h

pub sbox_at : (x : ℕ) → x < 256 → at sbox_table x ≡ sbox_of x
unfolding right sbox_of
sbox_at x h = eqb→eq _ _ (both_left (eqb (at sbox_table x) (affine (inverse x))) (eqb (mul x (inverse x)) (one_for x)) (tested x h))

pub inverse_right : InverseRight
unfolding right one_for
inverse_right zero p h = absurd (omega arith)
inverse_right (suc n) p h =
    eqb→eq _ _ (both_right (eqb (at sbox_table (suc n)) (affine (inverse (suc n)))) (eqb (mul (suc n) (inverse (suc n))) 1) (tested (suc n) h))

-- ---- One table undoes the other.
-- Entry y of a table at x is a byte, and the other table is x there.
back : List ℕ → ℕ → ℕ → Bool
back other x y = both (ltb y 256) (eqb (at other y) x)

module _ (table other : List ℕ) (long : length table ≡ 256) (t : T (every (back other) 0 table)) where
  backs : (x : ℕ) → x < 256 → T (back other x (at table x))
  backs x h = checked.at (back other) table t x (rw long h)

  entry_lt : (x : ℕ) → x < 256 → at table x < 256
  unfolding back
  entry_lt x h = ltb→lt _ _ (both_left (ltb (at table x) 256) (eqb (at other (at table x)) x) (backs x h))

  entry_back : (x : ℕ) → x < 256 → at other (at table x) ≡ x
  unfolding back
  entry_back x h = eqb→eq _ _ (both_right (ltb (at table x) 256) (eqb (at other (at table x)) x) (backs x h))

table_lt : (x : ℕ) → x < 256 → at sbox_table x < 256
unfolding sbox_table inv_sbox_table back
table_lt = entry_lt sbox_table inv_sbox_table refl tt

table_back : (x : ℕ) → x < 256 → at inv_sbox_table (at sbox_table x) ≡ x
unfolding sbox_table inv_sbox_table back
table_back = entry_back sbox_table inv_sbox_table refl tt

inv_table_lt : (y : ℕ) → y < 256 → at inv_sbox_table y < 256
unfolding sbox_table inv_sbox_table back
inv_table_lt = entry_lt inv_sbox_table sbox_table refl tt

inv_table_back : (y : ℕ) → y < 256 → at sbox_table (at inv_sbox_table y) ≡ y
unfolding sbox_table inv_sbox_table back
inv_table_back = entry_back inv_sbox_table sbox_table refl tt

-- ---- The S-box and its inverse.
pub sbox_lt : (x : ℕ) → x < 256 → sbox_of x < 256
sbox_lt x h = rw (sbox_at x h) at (table_lt x h)

-- S takes no value twice.
sbox_apart : (u v : ℕ) → u < 256 → v < 256 → sbox_of u ≡ sbox_of v → u ≡ v
sbox_apart u v p q e = sym (table_back u p) ∙ ap (at inv_sbox_table) (sbox_at u p ∙ e ∙ sym (sbox_at v q)) ∙ table_back v q

seek_at : (n i x : ℕ) → i + n ≡ 256 → i ≤ x → x < 256 → seek n i sbox_of (sbox_of x) ≡ x
unfolding seek
seek_at zero i x e l h = absurd (omega arith)
seek_at (suc n) i x e l h = go (seek_at n (suc i) x (omega arith)) (eqb (sbox_of i) (sbox_of x)) refl
  where
    go : (suc i ≤ x → x < 256 → seek n (suc i) sbox_of (sbox_of x) ≡ x)
        → (b : Bool) → eqb (sbox_of i) (sbox_of x) ≡ b → cond b i (seek n (suc i) sbox_of (sbox_of x)) ≡ x
    go ih true t = sbox_apart i x (omega arith) h (eqb-true _ _ t)
    go ih false t = ih (lt_of_le-ne l (λ z. eqb-false _ _ t (ap sbox_of z))) h

pub inv_sbox_sbox : InvSboxSbox
unfolding inv_sbox_of
inv_sbox_sbox x h = seek_at 256 0 x refl zero-le h

pub inv_sbox_at : (y : ℕ) → y < 256 → at inv_sbox_table y ≡ inv_sbox_of y
inv_sbox_at y h =
    sym (inv_sbox_sbox (at inv_sbox_table y) (inv_table_lt y h))
    ∙ ap inv_sbox_of (sym (sbox_at (at inv_sbox_table y) (inv_table_lt y h)) ∙ inv_table_back y h)

pub sbox_inv_sbox : SboxInvSbox
sbox_inv_sbox y h =
    ap sbox_of (sym (inv_sbox_at y h)) ∙ sym (sbox_at (at inv_sbox_table y) (inv_table_lt y h)) ∙ inv_table_back y h

pub inv_sbox_lt : (y : ℕ) → y < 256 → inv_sbox_of y < 256
inv_sbox_lt y h = rw (inv_sbox_at y h) at (inv_table_lt y h)
