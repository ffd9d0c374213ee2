-- `encodings::lists::places` writes each nibble at its image, the two of byte i in turn i. The loop's invariant, `Undone` of `laws.Places`: the first 2 i
-- nibbles stand at their images. As the encoding is a permutation, a turn writes over none of them (`undone_more`), and behind the last byte dst undoes
-- the encoding (`undone_all`). It is written by at least 8 bytes (`permutation_long`).
-- Assumes nothing.
use lib.ListN.{length-set}
use Rattle.encodings.proofs.laws.Places.{permutation_long, undone_none, undone_more, undone_all}
use native.Mathlib.Omega.{arith}
use Rattle.encodings.proofs.lists.places.Goals as goal

pub loop-i-init : goal.loop-i-init
loop-i-init c = undone_none (omega arith)

pub bounds-p-i : goal.bounds-p-i
bounds-p-i c =
    omega (arith, permutation_long _ c.requires.0)

pub bounds-dst-high : goal.bounds-dst-high
bounds-dst-high c =
    omega (arith, (c.type_inv.p c.loop-i.i).fits)

pub bounds-dst-low : goal.bounds-dst-low
bounds-dst-low c =
    simp length-set (omega (arith, (c.type_inv.p c.loop-i.i).fits))

pub bounds-p-i-in-loop-i : goal.bounds-p-i-in-loop-i
bounds-p-i-in-loop-i c =
    omega (arith, permutation_long _ c.requires.0)

pub loop-i-preserved : goal.loop-i-preserved
loop-i-preserved c =
    undone_more c.requires.0 c.loop-i.invariant c.loop-i-test.true c.from-high.ensures c.from-low.ensures

pub returns : goal.returns
returns c =
    undone_all c.requires.0 c.loop-i.invariant c.loop-i-test.false
