-- Laws, not definitions: the documents' numbers, joined in one, can be read off again.
-- Assumes nothing.
use mathlib.Core.Bool.{Bool, true, false, not}
use mathlib.Core.Path.{◌≡◌, refl}
use Prim.Native.Nat.{ℕ, ◌<◌}
use lib.Dec.{eqb}
use native.Mathlib.Omega.{arith}
use Rattle.answers.specs.Numbers.{cause_of, second_of, second_in, number_of, Readable}
use Rattle.answers.specs.Answers.{refused_if, wants_length, and_then, reply_of, returned}
use Rattle.answers.specs.declared.Refusal.{Refusal}
use Rattle.answers.specs.declared.Refusal.TheVariants.{KeyLength, BundleLength, Pair, Encoding, ByteMatrix, ColumnMatrix, InputMatrix}
use Rattle.answers.specs.declared.Refusal.TheVariants.{OutputMatrix, TableNumber, SetLength, BlockLength, Stop, Unfinished, RecordLength, CataloguePosition}
use Rattle.answers.specs.Answer.{Answer, Accepted, Refused}

-- No cause has the number 0.
positive : (r : Refusal) → 0 < cause_of r
positive KeyLength = omega arith
positive BundleLength = omega arith
positive (Pair i) = omega arith
positive (Encoding n) = omega arith
positive (ByteMatrix n) = omega arith
positive (ColumnMatrix n) = omega arith
positive InputMatrix = omega arith
positive OutputMatrix = omega arith
positive TableNumber = omega arith
positive SetLength = omega arith
positive BlockLength = omega arith
positive Stop = omega arith
positive Unfinished = omega arith
positive RecordLength = omega arith
positive CataloguePosition = omega arith

pub readable : Readable
readable a h = record { cause_is = omega arith; second_is = omega arith; accepted = only a }
  where
    only : (a : Answer) → number_of a ≡ 0 → a ≡ Accepted
    only Accepted e = refl
    only (Refused r) e = absurd (omega (arith, positive r))

-- A reply as a number is the answer's number.
pub number_is : (a : Answer) → number_of a ≡ returned (reply_of a)
number_is Accepted = refl
number_is (Refused r) = refl

-- ---- What reading off asks for, of an answer made from tests: the second number has 32 bits.
pub record Small (a : Answer) : Type 0 where
  pub below : second_in a < 4294967296

pub small_and_then : (a b : Answer) → Small a → Small b → Small (and_then a b)
small_and_then Accepted b h k = k
small_and_then (Refused r) b h k = h

pub small_test : (t : Bool) (r : Refusal) → second_of r < 4294967296 → Small (refused_if t r)
small_test true r h = record { below = h }
small_test false r h = record { below = omega arith }

pub small_length : (due length : ℕ) (r : Refusal) → second_of r < 4294967296 → Small (wants_length due length r)
small_length due length r = small_test (not (eqb length due)) r
