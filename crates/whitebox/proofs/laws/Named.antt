-- Laws, not definitions: the statement of specs/Named.antt. What is made and started goes by what is chosen for a number, and that is one of two.
-- Assumes nothing.
use mathlib.Core.Path.{refl}
use Prim.Native.Nat.{ℕ, zero, suc}
use native.Mathlib.Omega.{arith}
use Rattle.calls.specs.Calls.{started}
use Rattle.whitebox.specs.Bundles.{made_set, made_table}
use Rattle.whitebox.specs.Named.{SameCipher}

pub same_cipher : (nk : ℕ) → SameCipher nk
unfolding made_set made_table started
same_cipher nk zero zero e = record { set = λ key l. refl; table = λ key l k. refl; start = λ x. refl }
same_cipher nk (suc c) (suc c') e = record { set = λ key l. refl; table = λ key l k. refl; start = λ x. refl }
same_cipher nk zero (suc c') e = absurd (omega arith)
same_cipher nk (suc c) zero e = absurd (omega arith)
