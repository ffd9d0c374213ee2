-- `stages::spread::Spread::basis` goes by the kind of the stage. The call of each branch stores the basis from the matrix that such a stage has, and a
-- law of `laws.Words` says that its words are the stage's, for the cipher's parts: `based_entry`, `based_first`, `based_second`, `based_exit`. The inverse is long enough
-- by `begins_entry` and `begins_second` of layers, a matrix because its part of the bundle is. Behind the last stage there is none, since it is no
-- stage of the rounds. In a half the round is r, so the numbers of its matrices neither wrap nor are out of range.
-- Assumes nothing.
use Rattle.whitebox.specs.Parts.{parts_for}
use Rattle.whitebox.proofs.laws.Ciphers.{parts_mix}
use Rattle.inverse_matrices.proofs.laws.Code.{frame_of, column_part_long, output_part_long}
use Rattle.inverse_matrices.proofs.laws.Inverses.{begins_entry, begins_second}
use Rattle.inverse_matrices.proofs.laws.Inverses.{column_below}
use Rattle.layout.proofs.laws.Numbers.{round_first, round_second}
use Rattle.stages.proofs.laws.Words.{based_entry, based_first, based_second, based_exit}
use native.Mathlib.Omega.{arith}
use Rattle.stages.proofs.spread.Spread.basis.Goals as goal

pub spread_basis-requires : goal.spread_basis-requires
spread_basis-requires c =
    let at = c.args.self.now in
    record {
      width = omega arith;
      place = at.standing;
      matrices = omega (arith, at.source.opened.known);
      rows = (begins_entry _ _ _ _ _ at.standing at.begins c.in-Entry.is).0;
      room = c.requires;
    }

pub returns-in-Entry : goal.returns-in-Entry
returns-in-Entry c =
    let at = c.args.self.now in
    let nr = at.source.opened.rounds in
    λ w. based_entry (parts_for at.source.cipher nr w) nr _ _ _ _ _ _ c.in-Entry.is at.in_rounds at.standing at.begins (search)

pub mixed_basis-requires : goal.mixed_basis-requires
mixed_basis-requires c =
    let at = c.args.self.now in
    let round = round_first _ c.in-First.is at.in_rounds in
    let framed = frame_of _ _ at.source.opened.accepted in
    let most = c.column_number-n.ensures.1 in
    let long = column_part_long _ _ _ framed _ (column_below _ (omega (arith, most, round))) c.part.ensures in
    (omega arith, omega arith, c.requires)

pub returns-in-First : goal.returns-in-First
returns-in-First c =
    let at = c.args.self.now in
    let n = c.column_number-n.ensures in
    let round = round_first _ c.in-First.is at.in_rounds in
    let cipher = at.source.cipher in
    let nr = at.source.opened.rounds in
    λ w. based_first (parts_for cipher nr w) nr _ _ _ _ _ _ _ _ _ (parts_mix nr w cipher) c.in-First.is n.0 (column_below _ (omega (arith, n.1, round)))
    c.part.ensures (search)

pub spread_basis-requires-in-Second : goal.spread_basis-requires-in-Second
spread_basis-requires-in-Second c =
    let at = c.args.self.now in
    let round = round_second _ c.in-Second.is at.in_rounds in
    record {
      width = omega arith;
      place = omega arith;
      matrices = omega (arith, round, at.standing);
      rows = (begins_second _ _ _ _ _ at.standing at.begins _ c.in-Second.is).0;
      room = c.requires;
    }

pub returns-in-Second : goal.returns-in-Second
returns-in-Second c =
    let at = c.args.self.now in
    let nr = at.source.opened.rounds in
    λ w. based_second (parts_for at.source.cipher nr w) nr _ _ _ _ _ _ _ c.in-Second.is at.in_rounds at.standing at.begins (search)

pub placed_basis-requires : goal.placed_basis-requires
placed_basis-requires c =
    let at = c.args.self.now in
    let long = output_part_long _ _ _ (frame_of _ _ at.source.opened.accepted) c.part-in-Exit.ensures in
    (omega arith, at.standing, c.requires)

pub returns-in-Exit : goal.returns-in-Exit
returns-in-Exit c =
    let source = c.args.self.now.source in
    let nr = source.opened.rounds in
    λ w. based_exit (parts_for source.cipher nr w) nr _ _ _ _ _ _ c.in-Exit.is c.part-in-Exit.ensures (search)
