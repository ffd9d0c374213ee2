-- `bundle::frame::judge_frame` meets its contract. Each way out has a law of `laws.Code`, whose premises are the tests on the way and what the
-- search for a bad pair ensures: the number of rounds is none of the three (`frame_unknown`); the bundle is too short (`frame_short`) or too long
-- (`frame_long`); a pair is bad (`frame_pair`); or neither cause applies (`frame_right`). The search may read the pairs: a bundle that is not too
-- short has them.
-- Assumes nothing.
use mathlib.Core.Path.{sym, ◌∙◌}
use Rattle.rounds.specs.Rounds.{Rounds}
use Rattle.rounds.proofs.laws.Known.{known_rounds}
use Rattle.bundle.proofs.laws.Code.{low_forty, frame_unknown, frame_short, frame_long, frame_pair, frame_right}
use native.Mathlib.Omega.{arith}
use Rattle.bundle.proofs.frame.judge_frame.Goals as goal

pub returns-then-not-known : goal.returns-then-not-known
returns-then-not-known c =
    frame_unknown _ _ c.known.ensures c.if-not-known.true

pub returns-then-bundle-shortest_of : goal.returns-then-bundle-shortest_of
returns-then-bundle-shortest_of c =
    frame_short _ _ (sym c.shortest_of.ensures) (search)

pub returns-then-longest_of-bundle : goal.returns-then-longest_of-bundle
returns-then-longest_of-bundle c =
    frame_long _ _ (sym c.shortest_of.ensures) (sym c.longest_of.ensures) (search) (search)

pub returns-in-Some : goal.returns-in-Some
returns-in-Some c =
    frame_pair _ _ (sym c.shortest_of.ensures) (sym c.longest_of.ensures) (search) (search) (search) c.in-Some.is

pub returns-in-None : goal.returns-in-None
returns-in-None c =
    frame_right _ _ (sym c.shortest_of.ensures) (sym c.longest_of.ensures) (search) (search) (search) c.in-None.is

pub shortest_of-requires : goal.shortest_of-requires
shortest_of-requires c =
    let three : Rounds c.args.rounds = known_rounds _ (sym c.known.ensures ∙ c.if-not-known.false) in
    three

pub longest_of-requires : goal.longest_of-requires
longest_of-requires c =
    let three : Rounds c.args.rounds = known_rounds _ (sym c.known.ensures ∙ c.if-not-known.false) in
    three

pub first_bad_pair-requires : goal.first_bad_pair-requires
first_bad_pair-requires c =
    let three : Rounds c.args.rounds = known_rounds _ (sym c.known.ensures ∙ c.if-not-known.false) in
    (omega (arith, low_forty _ c.shortest_of.ensures), three)
