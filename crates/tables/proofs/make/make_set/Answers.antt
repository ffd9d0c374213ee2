-- `tables::make::make_set` has a law of `laws.Calls` for each way out: a refusal by key or bundle stays (`set_refused`), a memory of another
-- length is refused (`set_length`), both with the memory left as it was; else the set is written (`set_done`). What `Given::new` asks is
-- that there was no refusal: `lent_key`, `lent_bundle`. `refused_leaves` and `accepted_leaves` of crate answers say what the memory holds then.
-- Assumes nothing.
use mathlib.Core.Path.{refl, sym, ◌∙◌}
use Rattle.answers.proofs.laws.Tests.{handed_back, refused_leaves, accepted_leaves}
use Rattle.rounds.proofs.laws.Known.{ten_rounds}
use Rattle.layout.proofs.laws.Ten.{ten}
use Rattle.tables.proofs.laws.Calls.{lent_key, lent_bundle, set_refused, set_length, set_done}
use Rattle.tables.proofs.make.make_set.Goals as goal

pub returns-in_err-judged : goal.returns-in_err-judged
returns-in_err-judged c =
    let refusal = handed_back c.from_residual.ensures c.in_err-judged.was in
    let done = refused_leaves (set_refused _ _ _ c.judged.ensures _ c.in_err-judged.was) _ _ c.in_err-judged.was in
    record { answer = refusal ∙ done.0; bytes = done.1 }

pub returns-then-memory-ne-SET_BYTES : goal.returns-then-memory-ne-SET_BYTES
returns-then-memory-ne-SET_BYTES c =
    let done = refused_leaves (search (set_length, ten, c.in_ok-judged.was)) _ _ refl in
    record { answer = done.0; bytes = done.1 }

pub new-requires : goal.new-requires
new-requires c = (ten_rounds, search (lent_key 4, c.in_ok-judged.was), search (lent_bundle 4, c.in_ok-judged.was))

pub fill_set-requires : goal.fill_set-requires
fill_set-requires c =
    rw c.new.ensures.words (c.if-memory-ne-SET_BYTES.false ∙ sym ten.all_bytes)

pub returns : goal.returns
returns c =
    let e = c.new.ensures in
    let made = rw (e.cipher, e.words, e.key, e.bundle) at c.fill_set.ensures in
    let done = accepted_leaves (search (set_done, ten, c.in_ok-judged.was)) _ _ refl made in
    record { answer = done.0; bytes = done.1 }
