-- `encodings::lists::all_images` writes the images of `count` encodings one behind the other. The loop's invariant, `Parts` of bits: the
-- first h lists stand in the front of dst. A turn lends the part of list h and gets the images back that `images` gives of the encoding's 8
-- bytes (`parts_more`), which the section has (`part_length`). Behind the last the front has all, and the rest of dst
-- is as it was (`parts_whole`).
-- Assumes nothing.
use mathlib.Core.Path.{ap, ◌∙◌}
use lib.ListN.{length}
use Rattle.bits.proofs.laws.Cuts.{part_length}
use Rattle.bits.proofs.laws.Parts.{parts_none, part_lent, parts_more, parts_whole}
use native.Mathlib.Omega.{arith}
use Rattle.encodings.proofs.lists.all_images.Goals as goal

pub loop-h-init : goal.loop-h-init
loop-h-init c = parts_none (omega arith)

pub images-requires : goal.images-requires
images-requires c =
    let whole = ap length c.part.ensures ∙ part_length 8 _ _ (omega arith) in
    (omega arith, (part_lent c.loop-h.invariant c.loop-h-test.true).long)

pub loop-h-preserved : goal.loop-h-preserved
loop-h-preserved c =
    parts_more c.loop-h.invariant c.loop-h-test.true c.images.auto.dst (c.images.ensures ∙ cc)

pub returns : goal.returns
returns c = search parts_whole
