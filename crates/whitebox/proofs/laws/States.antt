-- Laws, not definitions: the states of a cipher whose parts are bytes are bytes.
-- Assumes nothing.
use mathlib.Core.List.{List}
use Prim.Native.Nat.{ℕ, zero, suc, ◌+◌, ◌*◌, ◌/◌, ◌%◌, ◌<◌}
use lib.Bits.{bit_xor, xor_lt}
use lib.Dec.{lit<}
use Rattle.bits.specs.Bytes.{Bytes}
use Rattle.bits.specs.Lists.{at}
use Rattle.bits.proofs.laws.XorAll.{xor_all_lt}
use Rattle.bits.proofs.laws.Lists.{tabulate_below}
use Rattle.field.proofs.laws.Field.{mul_lt}
use Rattle.whitebox.specs.Parts.{Parts, Fine}
use Rattle.whitebox.specs.States.{keyed, mixed, state_after}

module _ (P : Parts) (fine : Fine P) where
  pub substituted_lt : (x r j p : ℕ) → x < 256 → bit_xor (P.substitute (bit_xor x (P.before r j))) (P.behind r p) < 256
  substituted_lt x r j p h =
      xor_lt 8 (P.substitute (bit_xor x (P.before r j))) (P.behind r p)
      (fine.substitute_lt (bit_xor x (P.before r j)) (xor_lt 8 x (P.before r j) h (fine.before_lt r j))) (fine.behind_lt r p)

  pub keyed_bytes : (r : ℕ) (s : List ℕ) → Bytes s → Bytes (keyed P r s)
  unfolding keyed
  keyed_bytes r s h = tabulate_below 256 16 _ (lit< tt) (λ p l. substituted_lt (at s (P.reads p)) r (P.reads p) p (h (P.reads p)))

  pub mixed_bytes : (s : List ℕ) → Bytes (mixed P s)
  unfolding mixed
  mixed_bytes s =
      tabulate_below 256 16 _ (lit< tt) (λ i l.
      xor_all_lt 8 4 _ (λ q h. mul_lt (P.coefficient (i % 4) q) (at s (4 * (i / 4) + q)) (fine.coefficient_lt (i % 4) q)))

  pub state_bytes : (b : List ℕ) → Bytes b → (r : ℕ) → Bytes (state_after P b r)
  unfolding state_after
  state_bytes b h zero = h
  state_bytes b h (suc r) = mixed_bytes (keyed P (suc r) (state_after P b r))
