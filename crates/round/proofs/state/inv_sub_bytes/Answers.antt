-- `round::state::inv_sub_bytes` meets its contract. Byte i of the array is that of s behind the inverse S-box (`mapped` of bits' `laws.Arrays`), which is the
-- definition, cell by cell (`inv_sub_is` of `laws.State`).
-- Assumes nothing.
use mathlib.Core.Path.{◌∙◌}
use Rattle.bits.proofs.laws.Arrays.{mapped}
use Rattle.std.proofs.Common.{rules}
use Rattle.field.specs.Sbox.{inv_sbox_of}
use Rattle.round.proofs.laws.State.{inv_sub_is}
use Rattle.round.proofs.state.inv_sub_bytes.Goals as goal

pub returns : goal.returns
returns c = mapped inv_sbox_of (λ x y q k. search rules) c.map.ensures.items ∙ inv_sub_is _
