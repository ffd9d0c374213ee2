-- `stages::table::xor_table` works out the numbers of three encodings: of the sum so far, of the nibble that is added, and of the result. `write`
-- makes the table of them; `xor_made` of `laws.Xors` says that these are the numbers of XOR x, and that it is the XOR table. Nothing wraps, as
-- every number is below that of the bundle's encodings: `xor_within`; so each of the three is a permutation (`numbers_below`, `encodings_permute`).
-- Assumes nothing.
use Rattle.stages.proofs.laws.Tables.{most_encodings_lem}
use Rattle.bundle.specs.Format.{encodings, most_encodings}
use Rattle.stages.proofs.laws.Encodings.{encodings_permute}
use Rattle.stages.proofs.laws.Xors.{Within, numbers_below, xor_within, xor_made}
use native.Mathlib.Omega.{arith}
use Rattle.stages.proofs.table.xor_table.Goals as goal
use Rattle.stages.proofs.table.xor_table.Goals.{Start}

-- every number is below that of the bundle's encodings
fits : (c : Start) → Within most_encodings c.args.m c.args.first c.args.x
fits c = xor_within most_encodings _ _ _ c.requires.width (omega (arith, c.requires.results, most_encodings_lem _ c.args.opened.now.known)) c.requires.index

pub returns : goal.returns
returns c =
    let p = c.requires in
    let nr = c.args.opened.now.rounds in
    xor_made _ p.width _ _ nr _ _ _ _ p.results p.index c.encodings-encodings.ensures c.sum_so_far-sum.ensures c.write.ensures

pub write-requires : goal.write-requires
write-requires c =
    let p = c.requires in
    let nr = c.args.opened.now.rounds in
    let below = numbers_below _ p.width _ _ (encodings nr) _ p.results p.index c.sum_so_far-sum.ensures in
    let permutes = encodings_permute _ _ _ c.encodings-encodings.ensures c.args.opened.now.bytes c.args.opened.now.accepted in
    record { of_sum = permutes _ below.0; of_added = permutes _ below.1; of_result = permutes _ below.2; room = p.room }

pub overflow_add-result-2 : goal.overflow_add-result-2
overflow_add-result-2 c =
    omega (arith, fits (goal.at.overflow_add-result-2 c).Start)

pub overflow_mul-word-2 : goal.overflow_mul-word-2
overflow_mul-word-2 c =
    omega (arith, fits (goal.at.overflow_mul-word-2 c).Start)

pub overflow_add-first : goal.overflow_add-first
overflow_add-first c =
    omega (arith, fits (goal.at.overflow_add-first c).Start)

pub overflow_add-first-2 : goal.overflow_add-first-2
overflow_add-first-2 c =
    omega (arith, fits (goal.at.overflow_add-first-2 c).Start)

pub overflow_mul-word-3 : goal.overflow_mul-word-3
overflow_mul-word-3 c =
    omega (arith, fits (goal.at.overflow_mul-word-3 c).Start)

pub overflow_add-first-3 : goal.overflow_add-first-3
overflow_add-first-3 c =
    omega (arith, fits (goal.at.overflow_add-first-3 c).Start)

pub overflow_add-first-4 : goal.overflow_add-first-4
overflow_add-first-4 c =
    omega (arith, fits (goal.at.overflow_add-first-4 c).Start)

pub overflow_add-result : goal.overflow_add-result
overflow_add-result c =
    omega (arith, fits (goal.at.overflow_add-result c).Start)
