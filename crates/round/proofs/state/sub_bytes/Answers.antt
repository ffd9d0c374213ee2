-- `round::state::sub_bytes` meets its contract. Byte i of the array is that of s behind the S-box (`mapped` of bits' `laws.Arrays`), which is the
-- definition, cell by cell (`sub_is` of `laws.State`).
-- Assumes nothing.
use mathlib.Core.Path.{◌∙◌}
use Rattle.bits.proofs.laws.Arrays.{mapped}
use Rattle.std.proofs.Common.{rules}
use Rattle.field.specs.Sbox.{sbox_of}
use Rattle.round.proofs.laws.State.{sub_is}
use Rattle.round.proofs.state.sub_bytes.Goals as goal

pub returns : goal.returns
returns c = mapped sbox_of (λ x y q k. search rules) c.map.ensures.items ∙ sub_is _
