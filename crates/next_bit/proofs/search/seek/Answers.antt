-- `next_bit::search::seek` meets its contract. Where passes' `judged` finds something against the lengths, its refusal is handed back (`not_sought` of `laws.Calls`); else
-- the lengths are right (`lengths_were` of passes' `laws.Judged`), and what `search` finds is (`sought`).
-- Assumes nothing.
use Rattle.answers.proofs.laws.Tests.{handed_on}
use Rattle.layout.proofs.laws.Lookup.{own_sizes}
use Rattle.passes.proofs.laws.Judged.{lengths_were}
use Rattle.next_bit.proofs.laws.Calls.{not_sought, sought}
use Rattle.next_bit.proofs.search.seek.Goals as goal

pub search-requires : goal.search-requires
search-requires c =
    let lengths = lengths_were own_sizes _ _ c.judged.ensures c.in_ok-judged.was in
    (lengths.0, lengths.1, c.requires)

pub returns : goal.returns
returns c =
    sought _ _ _ _ _ c.judged.ensures c.in_ok-judged.was c.search.ensures

pub returns-in_err-judged : goal.returns-in_err-judged
returns-in_err-judged c =
    not_sought _ _ _ _ _ c.judged.ensures c.in_err-judged.was (handed_on c.from_residual.ensures)
