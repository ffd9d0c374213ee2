-- The number that names a cipher, for a reader: "0 forward, any other number inverse" (document 02, Ticket 1): the statement. It is proved in
-- proofs/laws/Named.antt. What a walk keeps of that number, and what its moves hand back, is said in calls/specs/Kept.antt.
use Rattle.std.specs.Prelude.{List, ◌≡◌, ℕ}
use Rattle.layout.specs.Ciphers.{kept}
use Rattle.calls.specs.Calls.{started}
use Rattle.whitebox.specs.Bundles.{made_set, made_table}

-- Numbers that are kept alike name one cipher: the same set, the same tables, the same start. So a statement about the cipher c, such as demand 2, is one
-- about each number that names it: a set may be made for 5 and walked for 7.
pub record Named (nk c c' : ℕ) : Type 0 where
  pub set : (key l : List ℕ) → made_set c nk key l ≡ made_set c' nk key l
  pub table : (key l : List ℕ) (k : ℕ) → made_table c nk key l k ≡ made_table c' nk key l k
  pub start : (x : List ℕ) → started c x ≡ started c' x

abbrev pub SameCipher : ℕ → Type 0
SameCipher nk = (c c' : ℕ) → kept c ≡ kept c' → Named nk c c'
