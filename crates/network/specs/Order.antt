-- The order of the lookups in one layer. A layer is the entry, a half of a round, or the exit. It has a width m: 16 spread lookups
-- each make a word of m bytes, and then XOR lookups sum the words of each group of m, nibble by nibble: "entry and exit, word 1 to
-- 15, then half-byte 0 to 31; rounds, column, then word 1 to 3, then half-byte 0 to 7" (document 01, "The 3,008 look-ups"). Entry
-- and exit are one group of width 16, and the columns of a half are four groups of width 4. Definitions only.
use Rattle.std.specs.Prelude.{cond, ◌≡◌, ℕ, suc, ◌+◌, ◌-◌, ◌*◌, ◌/◌, ◌%◌, ◌≤◌, min, eqb}

-- A width that divides the 16 words into groups of two or more.
pub record GoodWidth (m : ℕ) : Type 0 where
  pub wide : 2 ≤ m
  pub most : m ≤ 16
  pub whole : 16 / m * m ≡ 16

module _ (m : ℕ) where
  -- The XOR lookups of a layer: in each group, for each word but the first, one for each of its nibbles.
  unfoldable pub xors : ℕ
  xors = 16 / m * (m - 1) * (2 * m)

  -- All lookups of a layer.
  unfoldable pub layer_lookups : ℕ
  layer_lookups = 16 + xors

  -- XOR lookup x of a layer, from 0, is at a nibble, in a turn through the nibbles of a word, in a group.
  abbrev pub nibble_of : ℕ → ℕ
  nibble_of x = x % (2 * m)

  abbrev pub turn_of : ℕ → ℕ
  turn_of x = x / (2 * m)

  abbrev pub group_of : ℕ → ℕ
  group_of x = turn_of x / (m - 1)

  -- How many words were added to this nibble of the group's sum before.
  abbrev pub added_of : ℕ → ℕ
  added_of x = turn_of x % (m - 1)

  -- The sum stands in the group's first word, word 0 of document 01.
  abbrev pub sum_of : ℕ → ℕ
  sum_of x = group_of x * m

  -- The place of a nibble h of word w among the nibbles of the area, "spread words lie in order from byte 0 of the area".
  abbrev pub place : ℕ → ℕ → ℕ
  place w h = w * (2 * m) + h

  -- The two places that XOR lookup x reads. Its result replaces the first.
  abbrev pub sum_place : ℕ → ℕ
  sum_place x = place (sum_of x) (nibble_of x)

  abbrev pub added_place : ℕ → ℕ
  added_place x = place (sum_of x + suc (added_of x)) (nibble_of x)

  -- How many words have been added to nibble h of word w when x XOR lookups of the layer are made. None, if w is not the first of its
  -- group. Else the turns that reached this nibble (one more than `turn_of x` if it lies before `nibble_of x`), less those of the
  -- groups before, and at most m - 1.
  unfoldable pub added : ℕ → ℕ → ℕ → ℕ
  added x w h = cond (eqb (w % m) 0) (min (m - 1) (turn_of x + min 1 (nibble_of x - h) - w / m * (m - 1))) 0
