-- Laws, not definitions: a block and a set of zeros are printed as zeros.
-- Assumes nothing.
use mathlib.Core.List.{◌++◌}
use mathlib.Core.Path.{◌≡◌, refl, sym, ap, ◌∙◌}
use lib.ListN.{replicate, length-replicate}
use Rattle.bits.specs.Lists.{tabulate}
use Rattle.bits.specs.Nibbles.{nibble}
use Rattle.layout.specs.Stages.{set_bytes}
use Rattle.calls.proofs.laws.Judged.{presented_right}
use Rattle.calls.proofs.laws.Zeros.{zeros_walked}
use Rattle.streams.specs.Lines.{newline, hex_digits, answer_line}
use Rattle.walker.specs.Writes.{blank}
use Rattle.walker.specs.Zeros.{PrintsZeros}
use Rattle.walker.proofs.laws.Runs.{set_right}

zero_line : answer_line blank ≡ replicate 32 48 ++ newline
unfolding answer_line hex_digits tabulate nibble
zero_line = refl

pub prints_zeros : PrintsZeros
prints_zeros =
    set_right 10 blank (sym (presented_right 16 refl)) (replicate (set_bytes 10) 0) (length-replicate (set_bytes 10) 0)
    ∙ ap answer_line (zeros_walked 0 blank refl)
    ∙ zero_line
