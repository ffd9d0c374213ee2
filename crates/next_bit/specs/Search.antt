-- The search in a list of numbers, for a reader: the statement, over any list that rises. It is proved in proofs/laws/Listed.antt.
use Rattle.std.specs.Prelude.{List, ◌≡◌, ℕ, ◌≤◌, ◌<◌, Ok, Some, None}
use Rattle.bits.specs.Lists.{Listed, Rising}
use Rattle.next_bit.specs.NextBit.{NextBit, next_in}

module _ (l : List ℕ) (from : ℕ) where
  -- "The smallest such bit at or after a given bit number."
  pub record Smallest (v : ℕ) : Type 0 where
    pub listed : Listed l v
    pub reached : from ≤ v
    pub least : (u : ℕ) → Listed l u → from ≤ u → v ≤ u

  -- "None is left."
  abbrev pub AllBefore : Type 0
  AllBefore = (u : ℕ) → Listed l u → u < from

  -- The answer r tells exactly these.
  pub record Tells (r : NextBit) : Type 0 where
    pub bit_only : (v : ℕ) → r ≡ Ok (Some v) → Smallest v
    pub bit_if : (v : ℕ) → Smallest v → r ≡ Ok (Some v)
    pub none_only : r ≡ Ok None → AllBefore
    pub none_if : AllBefore → r ≡ Ok None

-- The search does.
abbrev pub SearchesExact : Type 0
SearchesExact = (l : List ℕ) → Rising l → (from : ℕ) → Tells l from (Ok (next_in l from))
