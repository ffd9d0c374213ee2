-- Nibble encodings. An encoding is a list of document 01: "the images of 0 to 15 in 8 bytes, two to a byte", and "must be a
-- permutation". Here it is the list of its 16 images. Definitions only.
use Rattle.std.specs.Prelude.{cond, List, [], ◌∷◌, ◌≡◌, ℕ, zero, suc, ◌<◌, eqb, length}
use Rattle.bits.specs.Lists.{at, tabulate}
use Rattle.bits.specs.Nibbles.{nibble, packed}

-- The 16 images that 8 bytes give.
unfoldable pub images_of : List ℕ → List ℕ
images_of s = tabulate 16 (nibble s)

-- The image of v.
abbrev pub encode : List ℕ → ℕ → ℕ
encode l v = at l v

-- The 8 bytes that write an encoding, as `images_of` reads them.
unfoldable pub encoding_bytes : List ℕ → List ℕ
encoding_bytes l = packed 8 (encode l)

-- The value whose image is y, by search.
unfoldable pub decode : List ℕ → ℕ → ℕ
decode [] y = zero
decode (x ∷ xs) y = cond (eqb x y) zero (suc (decode xs y))

-- The images are 16 nibbles, each once.
pub record Permutation (l : List ℕ) : Type 0 where
  pub long : length l ≡ 16
  pub below : (v : ℕ) → v < 16 → at l v < 16
  pub apart : (u v : ℕ) → u < 16 → v < 16 → at l u ≡ at l v → u ≡ v

-- The encoding that changes nothing.
unfoldable pub plain_encoding : List ℕ
plain_encoding = tabulate 16 (λ v. v)
