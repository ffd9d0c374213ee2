-- Laws, not definitions: MixColumns and InvMixColumns undo each other. Both are linear, so the product of the two matrices is
-- tested at the eight powers of x alone. And both matrices are bytes.
-- Assumes nothing.
use mathlib.Core.Path.{◌≡◌, refl, ap, ◌∙◌}
use mathlib.Core.Bool.{Bool, true, false, cond}
use mathlib.Core.List.{List}
use Prim.Native.Nat.{ℕ, ◌+◌, ◌*◌, ◌^◌, ◌<◌}
use native.Mathlib.Decide.{dec_lt}
use native.Mathlib.Omega.{arith}
use lib.Dec.{T, eqb, ltb, eqb→eq, ltb→lt, lit<}
use lib.Bits.{bit_xor}
use lib.ListN.{length}
use Rattle.bits.specs.Groups.{xor_all}
use Rattle.bits.specs.Bytes.{Bytes, Block}
use Rattle.bits.specs.Lists.{at}
use Rattle.bits.proofs.laws.Checked as checked
use Rattle.bits.proofs.laws.Checked.{all, all_at}
use Rattle.bits.proofs.laws.Lists.{at_past}
use Rattle.bits.proofs.laws.Xor.{Linear, agree}
use Rattle.bits.proofs.laws.XorAll.{xor_all_same, xor_all_lt, xor_all_swap, linear_xor_all, xor_all_one, xor_all_linear}
use Rattle.field.specs.Field.{xtime, times, mul}
use Rattle.field.proofs.laws.Field.{mul_xor, mul_lt}
use Rattle.round.specs.State.{cell, entry, mix_by, mix_rows, inv_mix_rows, MixColumns, InvMixColumns}
use Rattle.round.proofs.laws.State.{cell_state, is_block, block}

-- The product of two matrices, row r and column p, at x; and the identity's.
prod : List ℕ → List ℕ → ℕ → ℕ → ℕ → ℕ
prod n m r p x = xor_all 4 (λ q. mul (entry n r q) (mul (entry m q p) x))

delta : ℕ → ℕ → ℕ → ℕ
delta r p x = cond (eqb r p) x 0

prod_linear : (n m : List ℕ) (r p : ℕ) → Linear (prod n m r p)
unfolding prod
prod_linear n m r p =
    linear_xor_all 4 (λ q x. mul (entry n r q) (mul (entry m q p) x))
    (λ q x y.
    ap (mul (entry n r q)) (mul_xor (entry m q p) x y) ∙ mul_xor (entry n r q) (mul (entry m q p) x) (mul (entry m q p) y))

delta_linear : (r p : ℕ) → Linear (delta r p)
unfolding delta
delta_linear r p x y = go (eqb r p)
  where
    go : (b : Bool) → cond b (bit_xor x y) 0 ≡ bit_xor (cond b x 0) (cond b y 0)
    go true = refl
    go false = refl

-- n undoes m, by rows, columns and powers of x.
power : List ℕ → List ℕ → ℕ → ℕ → ℕ → Bool
power n m r p j = eqb (prod n m r p (2 ^ j)) (delta r p (2 ^ j))

undoes : List ℕ → List ℕ → Bool
undoes n m = all 4 (λ r. all 4 (λ p. all 8 (power n m r p)))

module _ (n m : List ℕ) (t : T (undoes n m)) where
  prod_delta : (r p x : ℕ) → r < 4 → p < 4 → x < 256 → prod n m r p x ≡ delta r p x
  unfolding undoes power
  prod_delta r p x hr hp h =
      agree (prod n m r p) (delta r p) (prod_linear n m r p) (delta_linear r p) 8
      (λ j l.
      eqb→eq _ _
      (all_at 8 (power n m r p)
      (all_at 4 (λ p. all 8 (power n m r p)) (all_at 4 (λ r. all 4 (λ p. all 8 (power n m r p))) t r hr) p hp) j l))
      x h

  mix_back : (s : List ℕ) → Block s → mix_by n (mix_by m s) ≡ s
  unfolding mix_by prod delta
  mix_back s b =
      is_block _ s b.long
      (λ r c hr hc.
      xor_all_same 4 _ _
      (λ q hq.
      ap (mul (entry n r q)) (cell_state (λ i j. xor_all 4 (λ p. mul (entry m i p) (cell s p j))) q c hq hc)
      ∙ xor_all_linear (mul (entry n r q)) (mul_xor (entry n r q)) 4 (λ p. mul (entry m q p) (cell s p c)))
      ∙ xor_all_swap 4 4 (λ q p. mul (entry n r q) (mul (entry m q p) (cell s p c)))
      ∙ xor_all_same 4 _ _ (λ p hp. prod_delta r p (cell s p c) hr hp (b.bytes (p + 4 * c)))
      ∙ xor_all_one 4 r (λ p. cell s p c) hr)

-- ---- The entries of both matrices are bytes, tested at each of the 16.
rows_bytes : (m : List ℕ) → length m ≡ 16 → ((i : ℕ) → i < 16 → at m i < 256) → Bytes m
rows_bytes m l e i = elim (dec_lt i 16) [
  | yes h ↦ e i h
  | no h ↦ rw (at_past m i (omega arith)) (lit< tt)
]

pub mix_bytes : Bytes mix_rows
unfolding mix_rows
mix_bytes = rows_bytes mix_rows refl (λ i h. ltb→lt (at mix_rows i) 256 (checked.at (λ (k x : ℕ). ltb x 256) mix_rows tt i h))

pub inv_mix_bytes : Bytes inv_mix_rows
unfolding inv_mix_rows
inv_mix_bytes = rows_bytes inv_mix_rows refl (λ i h. ltb→lt (at inv_mix_rows i) 256 (checked.at (λ (k x : ℕ). ltb x 256) inv_mix_rows tt i h))

mix_by_block : (m : List ℕ) → Bytes m → (s : List ℕ) → Block (mix_by m s)
unfolding mix_by
mix_by_block m bytes s = block _ (λ r c hr hc. xor_all_lt 8 4 _ (λ q hq. mul_lt (entry m r q) (cell s q c) (bytes (4 * r + q))))

pub mix_block : (s : List ℕ) → Block (MixColumns s)
unfolding MixColumns
mix_block = mix_by_block mix_rows mix_bytes

pub inv_mix_block : (s : List ℕ) → Block (InvMixColumns s)
unfolding InvMixColumns
inv_mix_block = mix_by_block inv_mix_rows inv_mix_bytes

pub inv_mix : (s : List ℕ) → Block s → InvMixColumns (MixColumns s) ≡ s
unfolding MixColumns InvMixColumns mix_rows inv_mix_rows undoes power prod delta xor_all xtime times mul
inv_mix = mix_back inv_mix_rows mix_rows tt

pub mix_inv : (s : List ℕ) → Block s → MixColumns (InvMixColumns s) ≡ s
unfolding MixColumns InvMixColumns mix_rows inv_mix_rows undoes power prod delta xor_all xtime times mul
mix_inv = mix_back mix_rows inv_mix_rows tt
