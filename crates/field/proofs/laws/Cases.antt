-- Laws, not definitions: the worked cases, computed from the definitions.
-- Assumes nothing.
use mathlib.Core.Path.{refl}
use Rattle.field.specs.Field.{xtime, times, mul, squares, inverse}
use Rattle.field.specs.Sbox.{turn, affine, sbox_of}
use Rattle.field.specs.Cases.{Cases}

pub cases : Cases
unfolding xtime times mul squares inverse turn affine sbox_of
cases = record { s_00 = refl; s_53 = refl; p_02_57 = refl; p_57_83 = refl; p_57_13 = refl }
