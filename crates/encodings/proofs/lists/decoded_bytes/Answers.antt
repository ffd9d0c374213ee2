-- `encodings::lists::decoded_bytes` has the lists made that undo the two encodings, and all bytes with their nibbles
-- replaced by these: `bytes_decoded` of `laws.Entries` says that they are the bytes decoded. The lists have nibbles
-- only, as the encodings are permutations (`places_nibbles`).
-- Assumes nothing.
use Rattle.encodings.proofs.laws.Lists.{places_nibbles, bytes_decoded}
use native.Mathlib.Omega.{arith}
use Rattle.encodings.proofs.lists.decoded_bytes.Goals as goal

pub places-requires : goal.places-requires
places-requires c =
    (rw c.part.ensures c.requires.1, omega arith)

pub places-requires-2 : goal.places-requires-2
places-requires-2 c =
    (rw c.part-2.ensures c.requires.2, omega arith)

pub by_nibbles-requires : goal.by_nibbles-requires
by_nibbles-requires c = (
  places_nibbles _ _ _ _ c.requires.1 c.part.ensures c.places.ensures,
  places_nibbles _ _ _ _ c.requires.2 c.part-2.ensures c.places-2.ensures,
  c.requires.0,
)

pub returns : goal.returns
returns c =
    bytes_decoded _ _ _ _ _ _ _ _ c.part.ensures c.places.ensures c.part-2.ensures c.places-2.ensures c.by_nibbles.ensures
