-- Free bytes, for a reader: the statement. It is proved in proofs/laws/FreeBytes.antt. "Bytes between sections are free and not read."
use Rattle.std.specs.Prelude.{List, ◌≡◌, ℕ, ◌<◌, length, take, drop}
use Rattle.bundle.specs.Format.{offset, stated, frame, section_of, part_at}
use Rattle.bundle.specs.Frames.{Framed}

-- Two bundles of one length that agree in the first 40 bytes, the five pairs, and in the five sections, each at the offset and of the length
-- that its pair states. All their other bytes may differ. A bundle with cause 2 or 3 has no sections to agree in.
pub record SameButFree (nr : ℕ) (l l' : List ℕ) : Type 0 where
  pub long : length l ≡ length l'
  pub pairs : take 40 l ≡ take 40 l'
  pub sections : Framed nr l → (s : ℕ) → s < 5 → take (stated l s) (drop (offset l s) l) ≡ take (stated l s) (drop (offset l s) l')

-- They have the same causes 2 and 3, the same starts, sections and parts.
pub record SameParts (nr : ℕ) (l l' : List ℕ) : Type 0 where
  pub frames : frame nr l ≡ frame nr l'
  pub starts : (s : ℕ) → s < 5 → offset l s ≡ offset l' s
  pub sections : (s : ℕ) → s < 5 → section_of nr l s ≡ section_of nr l' s
  pub parts : (s n : ℕ) → s < 5 → part_at nr l s n ≡ part_at nr l' s n

abbrev pub FreeBytes : Type 0
FreeBytes = (nr : ℕ) (l l' : List ℕ) → SameButFree nr l l' → SameParts nr l l'
