-- `layers::words::mixed` joins four bytes, one a turn. The loop's invariant, `Joined` of bits with `mixed_by` of `laws.Words`: v is made of the first t of
-- them, byte t being row t of column q of the cipher's column mixing times y. A turn joins one more such product (`mixed_more`), for which a word has
-- room, since fewer than four bytes stand in it (`mixed_lt`, `joined_room`); behind the fourth v is what is asked.
-- Assumes nothing.
use mathlib.Core.Path.{refl}
use Prim.Native.Nat.{◌^◌, ◌<◌}
use Rattle.bits.proofs.laws.Joined.{joined_none, joined_room}
use Rattle.round.specs.State.{mix_rows, inv_mix_rows, entry}
use Rattle.layout.specs.Ciphers.{for_cipher}
use Rattle.layers.proofs.laws.Words.{mixed_lt, mixed_more}
use native.Mathlib.Omega.{arith}
use Rattle.layers.proofs.words.mixed.Goals as goal
use Rattle.layers.proofs.words.mixed.Goals.{In-loop-t}

-- there is room for one byte more
small : (c : In-loop-t) → c.loop-t.v < 2 ^ 24
small c = joined_room c.loop-t.invariant 24 (omega arith) (mixed_lt c.args.cipher c.args.q c.args.y)

pub loop-t-init : goal.loop-t-init
loop-t-init c = joined_none refl

pub overflow_mul-v : goal.overflow_mul-v
overflow_mul-v c =
    omega (arith, small (goal.at.overflow_mul-v c).In-loop-t)

pub overflow_add-v : goal.overflow_add-v
overflow_add-v c =
    omega (arith, small (goal.at.overflow_add-v c).In-loop-t)

pub loop-t-preserved : goal.loop-t-preserved
loop-t-preserved c =
    search (mixed_more (entry (for_cipher c.args.cipher mix_rows inv_mix_rows)))
