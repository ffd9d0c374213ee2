-- `matrices::nibbles::word_of` adds the rows of the two nibbles of y: by what `row`, `from` and `add` ensure it is
-- `word_in` written out.
-- Assumes nothing.
use mathlib.Core.Path.{ap, ap₂, ◌∙◌}
use Prim.Native.Nat.{ℕ, ◌+◌}
use native.Mathlib.Nat.{one-mul}
use lib.Bits.{bit_xor}
use Rattle.matrices.specs.Rows.{row_at}
use Rattle.matrices.proofs.nibbles.word_of.Goals as goal

pub returns : goal.returns
returns c =
    let row : ℕ → ℕ = row_at c.args.words.now in
    c.add.ensures
    ∙ ap₂ bit_xor (c.row-low.ensures ∙ ap row c.from.ensures)
    (one-mul _ ∙ c.row-high.ensures ∙ ap (λ (k : ℕ). row (16 + k)) c.from-2.ensures)
