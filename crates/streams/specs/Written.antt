-- What a function leaves that writes a text into lent memory: every byte of it. Definitions only.
use Rattle.std.specs.Prelude.{List, ◌++◌, ◌≡◌, ℕ, ◌+◌, length, drop}
use Rattle.std.proofs.Math.Seq.{paste}

-- The text stands at the front of the memory, up to `end`, and behind it what the memory held.
pub record Written (text held : List ℕ) (end : ℕ) (left : List ℕ) : Type 0 where
  pub ends : end ≡ length text
  pub bytes : left ≡ text ++ drop end held

-- The same of a text that is put from the place `from` on: what stands before it is kept too.
pub record Put (text held : List ℕ) (from end : ℕ) (left : List ℕ) : Type 0 where
  pub ends : end ≡ from + length text
  pub bytes : left ≡ paste held from text (length text)
