-- Document 01's starred cases, in one table; proved together from the definitions in proofs/laws/Cases.antt.
use Rattle.std.specs.Prelude.{List, [], ◌∷◌, ◌≡◌, ℕ, ◌≤◌, ◌<◌, replicate}
use Rattle.bits.specs.Lists.{at}
use Rattle.matrices.specs.Matrices.{product}
use Rattle.field.specs.Field.{mul}
use Rattle.field.specs.Sbox.{sbox_of}
use Rattle.bundle.specs.Built.{Plain, plain_bundle}
use Rattle.judgement.specs.Cases.{List0, Byte159, Faulty159}
use Rattle.layout.specs.Stages.{shifted, table_offset, lookups, index_of}
use Rattle.whitebox.specs.Bundles.{made_table}

-- "The plain bundle has lists and matrices that change nothing."
abbrev pub PlainBundle : List ℕ → Type 0
PlainBundle l = Plain 10 l

pub record Starred : Type 0 where
  -- "S(00) = 63, S(53) = ed; 02 times 57 = ae (hex)."
  pub s_00 : sbox_of 0x00 ≡ 0x63
  pub s_53 : sbox_of 0x53 ≡ 0xed
  pub two_times_57 : mul 0x02 0x57 ≡ 0xae
  -- "Position 1 reads byte 5, position 13 reads byte 1."
  pub position_1 : shifted 1 ≡ 5
  pub position_13 : shifted 13 ≡ 1
  -- "Table 16 starts at 65,536; table 496 at 126,976; table 3,007 at 769,920."
  pub table_16 : table_offset 10 16 ≡ 65536
  pub table_496 : table_offset 10 496 ≡ 126976
  pub table_3007 : table_offset 10 3007 ≡ 769920
  -- "Rows 01, 02, 04 .. 80 hex, times 80 hex: 01."
  pub reversed : product 8 (0x01 ∷ 0x02 ∷ 0x04 ∷ 0x08 ∷ 0x10 ∷ 0x20 ∷ 0x40 ∷ 0x80 ∷ []) 0x80 ≡ 0x01
  -- A plain bundle is refused (`PlainRefused` of crate judgement), so no call makes its tables: these two "stay as cases of the definitions" (document 02, Ticket 5). There
  -- is such a bundle.
  pub plain : PlainBundle (plain_bundle 10)
  -- "Plain bundle, XOR table: first byte 01, last byte 10 (hex)." Every XOR table, of either cipher: those from the 17th lookup of a
  -- stage or half on.
  pub xor_table_lem : (c : ℕ) (key l : List ℕ) → PlainBundle l → (k : ℕ) → k < lookups 10 → 16 ≤ index_of 10 k
      → (at (made_table c 4 key l k) 0 ≡ 0x01) × (at (made_table c 4 key l k) 127 ≡ 0x10)
  -- "Plain bundle, zero key, table 496, entry 0: c6 63 63 a5 (hex)." Of the forward cipher.
  pub entry_0 : (l : List ℕ) → PlainBundle l
      → let t : List ℕ = made_table 0 4 (replicate 16 0) l 496 in
      (at t 0 ≡ 0xc6) × (at t 1 ≡ 0x63) × (at t 2 ≡ 0x63) × (at t 3 ≡ 0xa5)
  -- "List 0 sends 0 and 1 to 0, no lower cause applies: refused, 4 with 0."
  pub list_0 : List0
  -- "Two equal rows in byte matrix 159, the only fault: refused, 5 with 159." There is such a bundle.
  pub byte_159 : Byte159
  pub faulty_159 : Faulty159
