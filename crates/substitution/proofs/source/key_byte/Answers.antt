-- `substitution::source::key_byte` meets its contract: round key k is the 16 bytes from byte 16 k on (`key_at` of
-- round's laws). The index is below 176 as k is at most 10 and j below 16.
-- Assumes nothing.
use mathlib.Core.Path.{sym}
use Rattle.round.proofs.laws.Key.{key_at}
use native.Mathlib.Omega.{arith}
use Rattle.substitution.proofs.source.key_byte.Goals as goal

pub returns : goal.returns
returns c = sym (key_at _ _ _ (omega arith))
