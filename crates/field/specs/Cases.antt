-- Worked cases, as statements: document 01's starred ones on the S-box and the field, and FIPS 197's two products of section 4.2.
-- The proof is in proofs/laws/Cases.antt.
use Rattle.std.specs.Prelude.{◌≡◌}
use Rattle.field.specs.Field.{mul}
use Rattle.field.specs.Sbox.{sbox_of}

pub record Cases : Type 0 where
  -- Document 01: S(00) = 63, S(53) = ed; 02 times 57 = ae (hex).
  pub s_00 : sbox_of 0x00 ≡ 0x63
  pub s_53 : sbox_of 0x53 ≡ 0xed
  pub p_02_57 : mul 0x02 0x57 ≡ 0xae
  -- FIPS 197, section 4.2: 57 times 83 = c1, 57 times 13 = fe.
  pub p_57_83 : mul 0x57 0x83 ≡ 0xc1
  pub p_57_13 : mul 0x57 0x13 ≡ 0xfe
