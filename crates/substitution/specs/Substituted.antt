-- The byte behind the S-box, for each byte that a first half or the exit reads. Definitions only.
use Rattle.std.specs.Prelude.{List, ℕ}
use Rattle.std.specs.Int.Bits.{bit_xor}
use Rattle.bits.specs.Lists.{at, tabulate}
use Rattle.matrices.specs.Matrices.{product}
use Rattle.matrices.specs.Rows.{rows_of}
use Rattle.field.specs.Sbox.{sbox_of, inv_sbox_of}
use Rattle.layout.specs.Ciphers.{for_cipher}
use Rattle.whitebox.specs.Bundles.{codings_of}
use Rattle.whitebox.specs.Parts.{parts_for}
use Rattle.whitebox.specs.Words.{substituted}

-- The byte x times the rows of m, then xor `before`, S-box, xor `behind`; the S-box is any, `box`.
abbrev pub behind_sbox : (ℕ → ℕ) → List ℕ → ℕ → ℕ → ℕ → ℕ
behind_sbox box m before behind x = bit_xor (box (bit_xor (product 8 (rows_of 8 m) x) before)) behind

-- Of byte k of `read`.
abbrev pub behind_at : (ℕ → ℕ) → List ℕ → ℕ → ℕ → List ℕ → ℕ → ℕ
behind_at box m before behind read k = behind_sbox box m before behind (at read k)

-- Of all of them, by the S-box of the cipher c.
abbrev pub behind_bytes : ℕ → List ℕ → ℕ → ℕ → List ℕ → List ℕ
behind_bytes c m before behind read = tabulate 256 (behind_at (for_cipher c sbox_of inv_sbox_of) m before behind read)

-- Of the 256 bytes `read` at position p of round r, for the cipher c, the round keys w and the bundle l.
abbrev pub substituted_bytes : ℕ → ℕ → List ℕ → List ℕ → ℕ → ℕ → List ℕ → List ℕ
substituted_bytes c nr w l r p read = tabulate 256 (λ x. substituted (parts_for c nr w) (codings_of nr l) r p (at read x))
