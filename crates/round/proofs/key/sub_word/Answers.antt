-- `round::key::sub_word` meets its contract. Byte q of the array is that of t behind the S-box (`mapped` of bits' `laws.Arrays`), which is `SubWord`.
-- Assumes nothing.
use Rattle.bits.proofs.laws.Arrays.{mapped}
use Rattle.std.proofs.Common.{rules}
use Rattle.field.specs.Sbox.{sbox_of}
use Rattle.round.specs.Key.{SubWord}
use Rattle.round.proofs.key.sub_word.Goals as goal

pub returns : goal.returns
unfolding SubWord
returns c = mapped sbox_of (λ x y q k. search rules) c.map.ensures.items
