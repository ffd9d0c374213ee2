-- `xor_tables::write` meets its contract. The lists a and b undo the encodings of the sum so far and of the nibble
-- that is added, c has the images of the result's; `write_entries` makes the table of them, and `xor_made` of
-- `laws.Entries` says that it is the XOR table. Its premises are what the calls ensure. All three are lists of nibbles,
-- as the encodings are permutations (`places_nibbles`, `images_nibbles`), which have 8 bytes (`permutation_long`).
-- Assumes nothing.
use Rattle.encodings.proofs.laws.Lists.{images_nibbles, places_nibbles}
use Rattle.xor_tables.proofs.laws.Xors.{xor_made}
use Rattle.encodings.proofs.laws.Places.{permutation_long}
use native.Mathlib.Omega.{arith}
use Rattle.xor_tables.proofs.write.Goals as goal

pub places-requires : goal.places-requires
places-requires c =
    (rw c.part.ensures c.requires.of_sum, omega arith)

pub places-requires-2 : goal.places-requires-2
places-requires-2 c =
    (rw c.part-2.ensures c.requires.of_added, omega arith)

pub images-requires : goal.images-requires
images-requires c =
    (rw c.part-3.ensures (permutation_long _ c.requires.of_result), omega arith)

pub write_entries-requires : goal.write_entries-requires
write_entries-requires c =
    let p = c.requires in (
      places_nibbles _ _ _ _ p.of_sum c.part.ensures c.places.ensures,
      record {
        undone = places_nibbles _ _ _ _ p.of_added c.part-2.ensures c.places-2.ensures;
        images = images_nibbles _ _ _ _ p.of_result c.part-3.ensures c.images.ensures;
      },
      p.room,
    )

pub returns : goal.returns
returns c =
    xor_made _ _ _ _ _ _ _ _ _ _ _ (search) c.places.ensures (search) c.places-2.ensures (search) c.images.ensures c.write_entries.ensures
