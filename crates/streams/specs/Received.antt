-- Bytes that were read. Definitions only.
use Rattle.std.specs.Prelude.{List, [], ◌∷◌, ◌++◌, ◌≡◌, ℕ, ◌≤◌, length, take}

-- A count that is within a list: the list has so many at its front. The second part follows from the first.
abbrev pub IsPrefixLen : ℕ → List ℕ → Type 0
IsPrefixLen n l = (n ≤ length l) × (n ≡ length (take n l))

-- A mark that any bytes can be given, so as a statement it says nothing: no contract of the kit tells which bytes a read of standard input gives. It shows in a proof
-- where the bytes come from: `given` is named in proofs/laws/Receiving.antt alone, and that file in the proof of `receive` alone, which tests/proofs.py holds.
pub data Received : List ℕ → Type 0 where
  given : (bytes : List ℕ) → Received bytes

abbrev pub AllReceived : List (List ℕ) → Type 0
AllReceived [] = Unit {0}
AllReceived (part ∷ parts) = Received part × AllReceived parts

-- Parts, one behind the other.
unfoldable pub joined : List (List ℕ) → List ℕ
joined [] = []
joined (part ∷ parts) = part ++ joined parts

-- `receive` left this memory: n is within it, and the n bytes at its front bear the mark.
pub record Front (n : ℕ) (memory : List ℕ) : Type 0 where
  pub counts : IsPrefixLen n memory
  pub received : Received (take n memory)
