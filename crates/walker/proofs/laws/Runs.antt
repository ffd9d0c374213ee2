-- Laws, not definitions: a run writes what document 01 says for the block and the set that it has read, for any number nr of rounds, and no byte
-- that it does not read would change it.
-- Assumes nothing.
use mathlib.Core.List.{List, [], ◌∷◌, ◌++◌, map}
use mathlib.Core.Path.{◌≡◌, refl, sym, ap, ◌∙◌}
use Prim.Native.Nat.{ℕ, suc, ◌+◌, ◌-◌, ◌≤◌, ◌<◌}
use native.Mathlib.Decide.{ℕ_discrete, dec_lt}
use native.Mathlib.Omega.{arith}
use lib.ListN.{length, take, length-append, length-take}
use lib.Seq.{length-take-le, take_all}
use Rattle.answers.specs.declared.Refusal.{Refusal}
use Rattle.answers.specs.declared.Refusal.TheVariants.{SetLength}
use Rattle.answers.proofs.laws.Tests.{length_wrong, length_right, left_new}
use Rattle.layout.specs.Ciphers.{reads_of}
use Rattle.layout.specs.Stages.{lookups, set_bytes, tables_bytes, table_offset}
use Rattle.layout.proofs.laws.Instance.{first_offset, ends_in_tables}
use Rattle.layout.proofs.laws.Lookup.{tables_in_set}
use Rattle.layout.proofs.laws.Ranges.{by_stage}
use Rattle.calls.specs.Calls.{Mark, kept_mark, Held, holding, changed, judge_start, judge_stop, judge_fetch, started, advance}
use Rattle.calls.specs.Calls.{to_stop, one_lookup, fetch, answer, handed, block_left, last_walk, walked_over}
use Rattle.calls.proofs.laws.Calls.{start_keeps, start_count}
use Rattle.calls.proofs.laws.Judged.{stop_right, count_right}
use Rattle.evaluate.specs.Held.{held}
use Rattle.evaluate.specs.Promises.{Opens}
use Rattle.evaluate.specs.declared.walk.Opening.{Opening}
use Rattle.streams.specs.Lines.{cause_line, answer_line}
use Rattle.streams.specs.Written.{Written}
use Rattle.streams.specs.Received.{Received, joined, Front}
use Rattle.walker.specs.Tables.{OverTables, Short, OverInput}
use Rattle.walker.specs.Writes.{blank, walker_writes, behind_tables, line_of, Runs, ReadsEnough}
use Rattle.walker.specs.declared.Walked.{Walked}
use Rattle.walker.proofs.laws.Tables.{received_more}
use Rattle.walker.proofs.laws.Writes.{none_behind}
use Rattle.walker.proofs.laws.Joined.{joined_more, joined_count, joined_bytes, joined_walk}
use Rattle.answers.specs.Answer.{Answer, Accepted, Refused}

module _ (nr : ℕ) (block : List ℕ) where
  -- ---- what is written, by the judgements of block and set
  block_refused : (set : List ℕ) {r : Refusal} → judge_start (length block) ≡ Refused r → walker_writes nr block set ≡ cause_line r
  unfolding walker_writes
  block_refused set e = rw e

  module _ (s : judge_start (length block) ≡ Accepted) where
    set_refused : (set : List ℕ) → (length set ≡ set_bytes nr → ⊥) → walker_writes nr block set ≡ cause_line SetLength
    unfolding walker_writes
    set_refused set h = rw (s, ← length_wrong (set_bytes nr) (length set) SetLength h)

    pub set_right : (set : List ℕ) → length set ≡ set_bytes nr → walker_writes nr block set ≡ answer_line (walked_over 0 nr set block blank)
    unfolding walker_writes
    set_right set h = rw (s, ← length_right (set_bytes nr) (length set) SetLength h)

  -- ---- from the start on
  module _ {v : Held} (o : OverTables nr (started 0 block) v) where
    same_count : v.state.count ≡ (last_walk nr (started 0 block) (map one_lookup o.tables)).state.count
    same_count = ap (λ (w : Held). w.state.count) o.walk

    none_before : table_offset nr (started 0 block).state.count ≡ 0
    none_before = ap (table_offset nr) (start_count 0 block) ∙ first_offset nr

    bytes_read : length (joined o.tables) ≡ table_offset nr v.state.count
    bytes_read = omega (arith, none_before, joined_bytes nr (started 0 block) o.tables o.accepted, ap (table_offset nr) same_count)

    -- A table that is too short.
    short_set : {r : Refusal} (h : Short nr v r) → length (joined o.tables ++ h.table) < set_bytes nr
    short_set h = go (dec_lt v.state.count (lookups nr))
      where
        go : Dec (v.state.count < lookups nr) → length (joined o.tables ++ h.table) < set_bytes nr
        go (yes l) =
            omega (arith, h.less, bytes_read, ends_in_tables nr v.state.count l, tables_in_set nr, length-append (joined o.tables) h.table)
        go (no l) = omega (arith, h.less, (by_stage nr).size_none v.state.count (omega arith))

    -- All tables, and what was read behind them.
    module _ (c : v.state.count ≡ lookups nr) (extra : List ℕ) where
      read_length : length (joined o.tables ++ extra) ≡ tables_bytes nr + length extra
      read_length =
          let all : table_offset nr (lookups nr) ≡ tables_bytes nr = (by_stage nr).offset_none (lookups nr) (omega arith) in
          omega (arith, bytes_read, ap (table_offset nr) c, length-append (joined o.tables) extra)

      set_length : length extra ≡ behind_tables nr → length (joined o.tables ++ extra) ≡ set_bytes nr
      set_length z = omega (arith, read_length, tables_in_set nr)

      whole_walk : length extra ≡ behind_tables nr → handed nr (to_stop (joined o.tables ++ extra) (lookups nr)) (started 0 block) ≡ v
      unfolding handed
      whole_walk z =
          let set : List ℕ = joined o.tables ++ extra in
          let w : Held = started 0 block in
          let all : ℕ = lookups nr - w.state.count in
          let tables : length o.tables ≡ all =
          omega (arith, start_count 0 block, same_count, joined_count nr w o.tables o.accepted)
          in
          let accepted : judge_stop nr (length set) (lookups nr) w.state.count ≡ Accepted =
          sym (stop_right nr (length set) (lookups nr) w.state.count (set_length z) (omega arith) (omega (arith, start_count 0 block)))
          in
          let keeps : kept_mark w.mark ≡ w.mark = start_keeps 0 block in
          let after : Mark → ℕ → Held = λ m n. holding m (advance (reads_of w.mark.cipher) nr set n w.state) in
          let reached : v ≡ after w.mark all =
          o.walk ∙ joined_walk nr w o.tables keeps o.accepted [] extra (sym none_before) ∙ ap (after w.mark) tables
          in
          sym (left_new _ (changed (advance (reads_of w.mark.cipher) nr set all) w) w accepted) ∙ ap (λ (m : Mark). after m all) keeps ∙ sym reached

      module _ (s : judge_start (length block) ≡ Accepted) where
        line_right : length extra ≡ behind_tables nr → line_of nr v (length extra) ≡ walker_writes nr block (joined o.tables ++ extra)
        unfolding line_of answer
        line_right z =
            let accepted : judge_fetch nr (length blank) v.state.count ≡ Accepted = sym (count_right nr (length blank) v.state.count refl c) in
            let line : line_of nr v (length extra) ≡ answer_line (block_left nr (fetch blank) v) = rw (← length_right (behind_tables nr) (length extra) SetLength z, accepted) in
            line ∙ ap (λ (w : Held). answer_line (block_left nr (fetch blank) w)) (sym (whole_walk z))
            ∙ sym (set_right s (joined o.tables ++ extra) (set_length z))

        line_wrong : (length extra ≡ behind_tables nr → ⊥) → line_of nr v (length extra) ≡ walker_writes nr block (joined o.tables ++ extra)
        unfolding line_of
        line_wrong h =
            let line : line_of nr v (length extra) ≡ cause_line SetLength = rw (← length_wrong (behind_tables nr) (length extra) SetLength h) in
            line ∙ sym (set_refused s (joined o.tables ++ extra) (λ e. h (omega (arith, read_length, tables_in_set nr))))

        line_is : line_of nr v (length extra) ≡ walker_writes nr block (joined o.tables ++ extra)
        line_is = go (ℕ_discrete (length extra) (behind_tables nr))
          where
            go : Dec (length extra ≡ behind_tables nr) → line_of nr v (length extra) ≡ walker_writes nr block (joined o.tables ++ extra)
            go (yes h) = line_right h
            go (no h) = line_wrong h

-- ---- the ways out of a run, with what the calls ensure
none_joined : length (joined []) ≡ 0
unfolding joined
none_joined = refl

module _ (nr got : ℕ) (array : List ℕ) (f : Front got array) (l : length array ≡ 16) {o : Opening} (p : Opens 0 (take got array) o) where
  abbrev block : List ℕ
  block = take got array

  block_most : length block ≤ 16
  block_most = omega (arith, f.counts, length-take got array)

  pub runs_refused : {r : Refusal} {line left : List ℕ} {end : ℕ} → o.answer ≡ Refused r → Written (cause_line r) line end left → Runs nr line end left
  runs_refused e w =
      record {
        block = block;
        block_read = f.received;
        block_most = block_most;
        parts = [];
        parts_read = tt;
        parts_most = omega (arith, none_joined);
        written = rw (block_refused nr block (joined []) (sym p.answer ∙ e)) w;
      }

  module _ (s : o.answer ≡ Accepted) {m : Walked} (i : OverInput nr (held o.walk) m.answer (held m.walk)) where
    started_right : judge_start (length block) ≡ Accepted
    started_right = sym p.answer ∙ s

    over : OverInput nr (started 0 block) m.answer (held m.walk)
    over = rw p.walk at i

    -- The tables and one part more.
    with_last : (last : List ℕ) → Received last → length (joined over.over.tables ++ last) ≤ suc (set_bytes nr) → {line left : List ℕ} {end : ℕ}
        → Written (walker_writes nr block (joined over.over.tables ++ last)) line end left → Runs nr line end left
    with_last last c most w =
        let same = joined_more over.over.tables last in
        record {
          block = block;
          block_read = f.received;
          block_most = block_most;
          parts = over.over.tables ++ (last ∷ []);
          parts_read = received_more over.over.tables last over.over.read c;
          parts_most = rw same most;
          written = rw same w;
        }

    pub runs_short : {r : Refusal} {line left : List ℕ} {end : ℕ} → m.answer ≡ Refused r → Written (cause_line r) line end left → Runs nr line end left
    runs_short {r} e w =
        let short = over.short r e in
        let set = joined over.over.tables ++ short.table in
        let less : length set < set_bytes nr = short_set nr block over.over short in
        with_last short.table short.read (omega arith)
        (rw (set_refused nr block started_right set (λ (z : length set ≡ set_bytes nr). omega arith), ← short.cause) w)

    pub runs_whole : (rest : ℕ) (more : List ℕ) {line left : List ℕ} {end : ℕ} → m.answer ≡ Accepted → Front rest more → length more ≡ 1
        → Written (line_of nr (held m.walk) rest) line end left → Runs nr line end left
    runs_whole rest more a c one w =
        let extra : List ℕ = take rest more in
        let all = over.whole a (omega (arith, start_count 0 block)) in
        let most : length (joined over.over.tables ++ extra) ≤ suc (set_bytes nr) =
        omega (arith, read_length nr block over.over all extra, c.counts, none_behind nr, tables_in_set nr) in
        with_last extra c.received most (rw (← line_is nr block over.over all extra started_right, ← c.counts.1) w)

-- ---- a set that is too long is refused for its length, whatever stands in it
module _ (nr : ℕ) (block set : List ℕ) where
  abbrev most : ℕ
  most = set_bytes nr

  long_alike : (a : Answer) → judge_start (length block) ≡ a → most < length set → walker_writes nr block (take (suc most) set) ≡ walker_writes nr block set
  long_alike Accepted e h =
      let cut : length (take (suc most) set) ≡ suc most = length-take-le (suc most) set h in
      set_refused nr block e (take (suc most) set) (λ z. omega arith) ∙ sym (set_refused nr block e set (λ z. omega arith))
  long_alike (Refused r) e h = block_refused nr block (take (suc most) set) e ∙ sym (block_refused nr block set e)

  enough : Dec (most < length set) → walker_writes nr block (take (suc most) set) ≡ walker_writes nr block set
  enough (yes h) = long_alike (judge_start (length block)) refl h
  enough (no h) = ap (walker_writes nr block) (take_all (suc most) set (omega arith))

pub reads_enough : ReadsEnough
reads_enough nr block set = enough nr block set (dec_lt (set_bytes nr) (length set))
