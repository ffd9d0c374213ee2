-- Document 01's starred case of a matrix, as a statement about the definitions; proved in proofs/laws/Cases.antt.
use Rattle.std.specs.Prelude.{[], ◌∷◌, ◌≡◌}
use Rattle.matrices.specs.Matrices.{product}

pub record Cases : Type 0 where
  -- "Rows 01, 02, 04 .. 80 hex, times 80 hex: 01."
  pub reversed : product 8 (0x01 ∷ 0x02 ∷ 0x04 ∷ 0x08 ∷ 0x10 ∷ 0x20 ∷ 0x40 ∷ 0x80 ∷ []) 0x80 ≡ 0x01
