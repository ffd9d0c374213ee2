-- `records::replay::replay_record` meets its contract. Where `judged` finds something against the lengths, its refusal is the verdict (`not_replayed` of
-- `laws.Calls`); else the lengths are right (`lengths_were` of `laws.Judged`), and what `compare_all` finds is (`replay_done`).
-- Assumes nothing.
use Rattle.answers.proofs.laws.Tests.{handed_on}
use Rattle.layout.proofs.laws.Lookup.{own_sizes}
use Rattle.records.proofs.laws.Calls.{not_replayed, replay_done}
use Rattle.records.proofs.laws.Judged.{lengths_were}
use Rattle.records.proofs.replay.replay_record.Goals as goal

pub compare_all-requires : goal.compare_all-requires
compare_all-requires c =
    let lengths = lengths_were own_sizes _ _ _ c.judged.ensures c.in_ok-judged.was in
    record { sized = lengths.0; block_sized = lengths.1; record_sized = lengths.2; rounds = c.requires }

pub returns : goal.returns
returns c =
    replay_done _ _ _ _ _ c.judged.ensures own_sizes c.in_ok-judged.was c.compare_all.ensures

pub returns-in_err-judged : goal.returns-in_err-judged
returns-in_err-judged c =
    not_replayed _ _ _ _ _ c.judged.ensures c.in_err-judged.was (handed_on c.from_residual.ensures)
