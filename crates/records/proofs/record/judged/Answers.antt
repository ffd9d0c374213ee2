-- `records::record::judged`: each way out has a law of `laws.Judged`, whose premises are what passes' `judged` answers and the test on the way: it refuses (`bad_whole`), or it
-- accepts, and the record has another length (`bad_record`) or its own (`good`). They are over the sizes of a set, of which the code works out the lookups.
-- Assumes nothing.
use mathlib.Core.Path.{refl, ◌∙◌}
use Rattle.answers.proofs.laws.Tests.{handed_on}
use Rattle.layout.proofs.laws.Rounds.{most_lookups, sizes_of}
use native.Mathlib.Omega.{arith}
use Rattle.records.proofs.laws.Judged.{bad_whole, bad_record, good}
use Rattle.records.proofs.record.judged.Goals as goal

pub returns-in_err-judged : goal.returns-in_err-judged
returns-in_err-judged c = handed_on c.from_residual.ensures ∙ bad_whole _ _ _ _ c.judged.ensures c.in_err-judged.was

pub returns-then-recorded-bytes : goal.returns-then-recorded-bytes
returns-then-recorded-bytes c =
    bad_record (sizes_of c.lookups_in-bytes.ensures refl) _ _ _ c.judged.ensures c.in_ok-judged.was (search)

pub returns : goal.returns
returns c =
    good (sizes_of c.lookups_in-bytes.ensures refl) _ _ _ c.judged.ensures c.in_ok-judged.was (search)

pub overflow_mul-bytes : goal.overflow_mul-bytes
overflow_mul-bytes c =
    omega (arith, most_lookups _ c.requires)
