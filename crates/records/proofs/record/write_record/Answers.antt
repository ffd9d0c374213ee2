-- `records::record::write_record` meets its contract. Where `judged` finds something against the lengths, the memory is left as it was (`not_recorded` of `laws.Calls`); else
-- the lengths are right (`lengths_were` of `laws.Judged`), and `write_all` leaves the record (`recorded`).
-- Assumes nothing.
use mathlib.Core.Path.{refl, sym, ◌∙◌}
use Rattle.answers.proofs.laws.Tests.{handed_on, handed_back}
use Rattle.layout.proofs.laws.Lookup.{own_sizes}
use Rattle.records.proofs.laws.Calls.{not_recorded, recorded}
use Rattle.records.proofs.laws.Judged.{lengths_were}
use Rattle.records.proofs.record.write_record.Goals as goal

pub returns-in_err-judged : goal.returns-in_err-judged
returns-in_err-judged c =
    let refusal = handed_back c.from_residual.ensures c.in_err-judged.was in
    not_recorded _ _ _ _ _ (refusal ∙ c.judged.ensures) (handed_on c.from_residual.ensures)

pub write_all-requires : goal.write_all-requires
write_all-requires c =
    let lengths = lengths_were own_sizes _ _ _ c.judged.ensures c.in_ok-judged.was in
    record { sized = lengths.0; block_sized = lengths.1; record_sized = lengths.2; rounds = c.requires }

pub returns : goal.returns
returns c = recorded _ _ _ _ _ (sym c.in_ok-judged.was ∙ c.judged.ensures) refl c.write_all.ensures
