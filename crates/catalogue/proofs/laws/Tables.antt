-- Laws, not definitions: the constants of the code as lists, tested against the definitions.
-- Assumes nothing.
use mathlib.Core.Bool.{Bool}
use mathlib.Core.List.{List, [], ◌∷◌}
use mathlib.Core.Path.{◌≡◌, ap}
use Prim.Native.Nat.{ℕ, ◌<◌}
use lib.Bits.{bit_and}
use lib.Count.{ones}
use lib.Dec.{eqb, eqb→eq}
use Rattle.bits.specs.Groups.{joined}
use Rattle.bits.specs.Lists.{at}
use Rattle.bits.specs.Vectors.{dot}
use Rattle.bits.proofs.laws.Checked as checked
use Rattle.catalogue.specs.Catalogue.{side}
use Rattle.catalogue.specs.Kernels.{vectors, kernel_of, kernel_with, ways}

unfoldable pub kernel_table : List ℕ
kernel_table =
    0xffff ∷ 0xaaaa ∷ 0xcccc ∷ 0x9999 ∷ 0xf0f0 ∷ 0xa5a5 ∷ 0xc3c3 ∷ 0x9696 ∷ 0xff00 ∷ 0xaa55 ∷ 0xcc33 ∷ 0x9966 ∷ 0xf00f ∷ 0xa55a ∷ 0xc33c ∷ 0x9669 ∷ []

right_kernel : ℕ → ℕ → Bool
right_kernel row k = eqb k (kernel_of row)

pub with_row : (k row : ℕ) → row < vectors → bit_and k (at kernel_table row) ≡ kernel_with k row
unfolding kernel_table right_kernel kernel_with kernel_of joined dot ones
with_row k row h = ap (bit_and k) (eqb→eq _ _ (checked.at right_kernel kernel_table tt row h))

unfoldable pub ways_table : List ℕ
ways_table = 1 ∷ 8 ∷ 96 ∷ 1344 ∷ []

right_ways : ℕ → ℕ → Bool
right_ways left n = eqb n (ways left)

pub ways_at : (left : ℕ) → left < side → at ways_table left ≡ ways left
unfolding ways_table right_ways ways
ways_at left h = eqb→eq _ _ (checked.at right_ways ways_table tt left h)
