-- Laws, not definitions: what is asked for an XOR table of a stage or half.
-- Assumes nothing.
use mathlib.Core.Logic.{inl, inr}
use mathlib.Core.Path.{◌≡◌, ◌∙◌}
use Prim.Native.Nat.{ℕ, ◌+◌, ◌-◌, ◌≤◌, ◌<◌}
use native.Mathlib.Omega.{arith}
use Rattle.rounds.specs.Rounds.{Rounds}
use Rattle.bundle.specs.Format.{encodings, most_encodings}
use Rattle.network.specs.Numbers.{layer_results}
use Rattle.network.specs.Order.{GoodWidth, xors, layer_lookups}
use Rattle.network.specs.Sizes.{size_of}
use Rattle.network.proofs.laws.Order.{xor_in}
use Rattle.network.proofs.laws.Sizes.{xor_size}
use Rattle.layout.specs.Stages.{width_of, first_number, InRounds}
use Rattle.layout.specs.declared.stage.Stage.{Stage}
use Rattle.layout.specs.declared.stage.Stage.TheVariants.{Entry, First, Second, Exit, Beyond}
use Rattle.layout.proofs.laws.Stages.{good_16, good_4, results_16, results_4}
use Rattle.spread_tables.specs.Words.{WordWidth}

-- ---- widths and numbers by stage
good_width : (nr : ℕ) (s : Stage) → InRounds nr s → GoodWidth (width_of s)
good_width nr Entry h = good_16
good_width nr (First r) h = good_4
good_width nr (Second r) h = good_4
good_width nr Exit h = good_16
good_width nr Beyond h = absurd h

results_fit : (nr : ℕ) (s : Stage) → InRounds nr s → first_number nr s + layer_results (width_of s) ≤ encodings nr
unfolding encodings
results_fit nr Entry h = omega (arith, results_16)
results_fit nr (First r) h = omega (arith, results_4)
results_fit nr (Second r) h = omega (arith, results_4)
results_fit nr Exit h = omega (arith, results_16)
results_fit nr Beyond h = absurd h

-- The words of a stage have one of the two widths that are written.
pub word_width : (nr : ℕ) (s : Stage) (m : ℕ) → InRounds nr s → m ≡ width_of s → WordWidth m
word_width nr Entry m h e = inl e
word_width nr (First r) m h e = inr e
word_width nr (Second r) m h e = inr e
word_width nr Exit m h e = inl e
word_width nr Beyond m h e = absurd h

-- What an XOR table asks for: the width m and the number `first` are the stage's, the memory has `size` bytes.
pub xor_asked : (nr : ℕ) (s : Stage) (m first j size : ℕ) → m ≡ width_of s → first ≡ first_number nr s → InRounds nr s
    → 16 ≤ j → j < layer_lookups (width_of s) → size ≡ size_of (width_of s) j
    → GoodWidth m × (first + layer_results m ≤ encodings nr) × (j - 16 < xors m) × (size ≡ 128)
xor_asked nr s m first j size width number round from below long =
    rw (width, number) (good_width nr s round, results_fit nr s round, xor_in (width_of s) j from below, long ∙ xor_size (width_of s) j from)

-- No number of rounds has more encodings than 14.
pub most_encodings_lem : (nr : ℕ) → Rounds nr → encodings nr ≤ most_encodings
unfolding encodings
most_encodings_lem nr R = omega (arith, R)
