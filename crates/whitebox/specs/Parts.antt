-- The parts of a cipher that its tables are made from, so that the tables are said once for every cipher of this build. Definitions only.
use Rattle.std.specs.Prelude.{cond, List, ℕ, ◌-◌, ◌<◌, eqb}
use Rattle.bits.specs.Lists.{at}
use Rattle.field.specs.Sbox.{sbox_of, inv_sbox_of}
use Rattle.round.specs.Key.{key_of}
use Rattle.round.specs.State.{entry, mix_rows, inv_mix_rows}
use Rattle.layout.specs.Ciphers.{for_cipher, inv_shifted}
use Rattle.layout.specs.Stages.{shifted}

-- The substitution; the byte that a position reads; the coefficient of the column mixing in a row and a column; the key byte that is
-- xored before the substitution (round, byte read) and the one behind it (round, position).
pub record Parts : Type 0 where
  pub substitute : ℕ → ℕ
  pub reads : ℕ → ℕ
  pub coefficient : ℕ → ℕ → ℕ
  pub before : ℕ → ℕ → ℕ
  pub behind : ℕ → ℕ → ℕ

-- All of them are bytes, and positions are positions.
pub record Fine (P : Parts) : Type 0 where
  pub substitute_lt : (x : ℕ) → x < 256 → P.substitute x < 256
  pub reads_lt : (p : ℕ) → p < 16 → P.reads p < 16
  pub coefficient_lt : (t q : ℕ) → P.coefficient t q < 256
  pub before_lt : (r j : ℕ) → P.before r j < 256
  pub behind_lt : (r p : ℕ) → P.behind r p < 256

-- FIPS 197's cipher of nr rounds over the round keys w: "XOR byte j of round key r−1, S-box, multiply by column q of MixColumns"; and in
-- the last round "up to the S-box, then XOR byte p of round key 10".
unfoldable pub forward : ℕ → List ℕ → Parts
forward nr w =
    record {
      substitute = sbox_of;
      reads = shifted;
      coefficient = entry mix_rows;
      before = λ r j. at (key_of w (r - 1)) j;
      behind = λ r p. cond (eqb r nr) (at (key_of w nr) p) 0;
    }

-- FIPS 197's inverse cipher (document 02, Ticket 1): "the inverse row shift, inverse S-box and inverse MixColumns in the places of the forward ones. Round
-- key 10 is added before the first inverse S-box, each later key behind its inverse S-box; before it the key byte is that of the byte read, behind it
-- that of position p." So behind the substitution of round r it is round key nr − r, and in the exit round key 0.
unfoldable pub inverse : ℕ → List ℕ → Parts
inverse nr w =
    record {
      substitute = inv_sbox_of;
      reads = inv_shifted;
      coefficient = entry inv_mix_rows;
      before = λ r j. cond (eqb r 1) (at (key_of w nr) j) 0;
      behind = λ r p. at (key_of w (nr - r)) p;
    }

-- The parts of the cipher c.
abbrev pub parts_for : ℕ → ℕ → List ℕ → Parts
parts_for c nr w = for_cipher c (forward nr w) (inverse nr w)
