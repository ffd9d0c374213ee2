-- `tables::make::make_table` has a law of `laws.Calls` for each way out: a refusal by key or bundle stays (`table_refused`), a number above the
-- last table's is refused (`table_number`), and so is a memory of another length than the table's (`table_length`), all with the memory left as
-- it was; else the table is written (`table_done`), which is table n by its place (`table_by_place`). What `Given::new` asks is that there was no refusal,
-- `lent_key` and `lent_bundle`; `fill_table` asks for a stage of the ten rounds (`round_at`), the index and the length (`stands`, both of crate layout).
-- `refused_leaves` and `accepted_leaves` of crate answers say what the memory holds then.
-- Assumes nothing.
use mathlib.Core.Path.{refl, ◌∙◌}
use Rattle.answers.proofs.laws.Tests.{handed_back, refused_leaves, accepted_leaves}
use Rattle.rounds.proofs.laws.Known.{ten_rounds}
use Rattle.layout.proofs.laws.Lookup.{stands}
use Rattle.layout.proofs.laws.Numbers.{round_at}
use Rattle.layout.proofs.laws.Ten.{ten, in_set}
use Rattle.tables.proofs.laws.Calls.{lent_key, lent_bundle, table_refused, table_number, table_length, table_done, table_by_place}
use native.Mathlib.Omega.{arith}
use Rattle.tables.proofs.make.make_table.Goals as goal

pub returns-in_err-judged : goal.returns-in_err-judged
returns-in_err-judged c =
    let refusal = handed_back c.from_residual.ensures c.in_err-judged.was in
    let done = refused_leaves (table_refused _ _ _ c.judged.ensures _ _ c.in_err-judged.was) _ _ c.in_err-judged.was in
    record { answer = refusal ∙ done.0; bytes = done.1 }

pub returns-then-number-ge-LOOKUPS : goal.returns-then-number-ge-LOOKUPS
returns-then-number-ge-LOOKUPS c =
    let done = refused_leaves (search (table_number, ten, c.in_ok-judged.was)) _ _ refl in
    record { answer = done.0; bytes = done.1 }

pub returns-then-memory-size : goal.returns-then-memory-size
returns-then-memory-size c =
    let done = refused_leaves (search (table_length, ten, c.in_ok-judged.was)) _ _ refl in
    record { answer = done.0; bytes = done.1 }

pub new-requires : goal.new-requires
new-requires c = (ten_rounds, search (lent_key 4, c.in_ok-judged.was), search (lent_bundle 4, c.in_ok-judged.was))

pub fill_table-requires : goal.fill_table-requires
fill_table-requires c =
    let inside = in_set c.args.number (search) in
    let at = stands inside c.place_of-place.ensures in
    let round = round_at 10 _ _ c.place_of-place.ensures (omega arith) inside in
    rw c.new.ensures.words (record { stage = round; index = at.index; size = c.if-memory-size.false ∙ at.kind })

pub returns : goal.returns
returns c =
    let e = c.new.ensures in
    let table = rw (e.cipher, e.words, e.key, e.bundle) at c.fill_table.ensures in
    let made = table_by_place _ 4 _ _ _ _ _ c.place_of-place.ensures (in_set _ (search)) table in
    let done = accepted_leaves (search (table_done, ten, c.in_ok-judged.was)) _ _ refl made in
    record { answer = done.0; bytes = done.1 }
