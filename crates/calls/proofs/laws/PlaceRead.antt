-- Laws, not definitions: the statements of specs/PlaceRead.antt. A lookup of a set is one of its layer, and so is the place that it reads, which crate network
-- knows to lie in the lookup's table. A move to a stop makes the lookups of the move to the stop before, and one more, from a state that is still one of bytes.
-- Assumes nothing.
use mathlib.Core.List.{List, []}
use mathlib.Core.Logic.{⊎_elim}
use mathlib.Core.Path.{◌≡◌, refl, sym, ap, ◌∙◌, subst}
use Prim.Native.Nat.{ℕ, suc, ◌-◌, ◌≤◌, ◌<◌}
use native.Mathlib.Decide.{dec_lt}
use native.Mathlib.Omega.{arith}
use lib.Dec.{ltb}
use lib.ListN.{length, take, drop}
use lib.Seq.{take_all}
use Rattle.answers.specs.Answers.{accepted, reply_of, if_accepted}
use Rattle.answers.proofs.laws.Tests.{differ, reply_was, left_new, left_back, left_either}
use Rattle.bits.proofs.laws.Checked.{either_has}
use Rattle.network.specs.Lookups.{State, Shape, lookup_in, lookup}
use Rattle.network.specs.Read.{read_in, lookup_from, entry_bytes}
use Rattle.network.specs.Theorems.{WithinTable}
use Rattle.network.specs.declared.EntryPlace.{EntryPlace}
use Rattle.network.proofs.laws.Read.{read_spread, read_xor, puts_what_it_reads, reads_its_table}
use Rattle.layout.specs.Ciphers.{reads_of}
use Rattle.layout.specs.Stages.{width_of, shape_at, lookups, nowhere, table_size, table_offset, stage_of, index_of}
use Rattle.layout.proofs.laws.Instance.{ends_in_tables}
use Rattle.layout.proofs.laws.Ranges.{in_stage, by_stage}
use Rattle.calls.specs.Calls.{Held, changed, Call, to_stop, one_lookup, fetch, step, advance, read_next, last_offset, place_read}
use Rattle.calls.specs.Calls.{judge_stop, judge_one, answer, reply, handed, passed_on}
use Rattle.calls.specs.PlaceRead.{OfBytes, LookupsRead, InTable, LastRead, MovesPassOn, OnePassesOn, NonePassedOn, PlaceWasRead}
use Rattle.calls.proofs.laws.Calls.{StopOk, stop_view, step_count, advance_count, one_handed}
use Rattle.calls.proofs.laws.Next.{stop_accepted}
use Rattle.calls.proofs.laws.Judged.{accepted_was, stop_right}
use Rattle.calls.proofs.laws.KeepsBytes.{advance_bytes}
use Rattle.calls.proofs.laws.Kept.{reads_kept}
use Rattle.answers.specs.Answer.{Accepted}

-- ---- one lookup
-- Lookup k of the shape S that the layout has for it, over the part of a memory that begins at byte `from`.
module _ (reads : ℕ → ℕ) (nr : ℕ) (s : State) (h : s.count < lookups nr) where
  abbrev k : ℕ
  k = s.count

  abbrev S : Shape
  S = shape_at reads (stage_of nr k)

  abbrev j : ℕ
  j = index_of nr k

  looked_up : (from : ℕ) (mem : List ℕ) → OfBytes s
      → step reads nr (take (table_size nr k) (drop from mem)) s ≡ lookup_from S j mem (read_in S j from s.standing s.area) s
  unfolding lookup
  looked_up from mem b =
      (by_stage nr).lookup_is reads k h (take (table_size nr k) (drop from mem)) s
      ∙ ap (λ (n : ℕ). lookup_in S j (take n (drop from mem)) s) ((by_stage nr).size_is k h)
      ∙ puts_what_it_reads S j from mem s (reads_its_table S j from s.standing s.area b.standing b.area)

  read_here : read_next reads nr s ≡ read_in S j (table_offset nr k) s.standing s.area
  read_here = (by_stage nr).read_is reads k h (table_offset nr k) s.standing s.area

lookups_read : LookupsRead
lookups_read reads nr mem s b h =
    let from = table_offset nr s.count in
    let S = shape_at reads (stage_of nr s.count) in
    let j = index_of nr s.count in
    let place = sym (read_here reads nr s h) in
    record {
      value = looked_up reads nr s h from mem b ∙ ap (λ (r : EntryPlace). lookup_from S j mem r s) place;
      table = subst (WithinTable S.width j from) place (reads_its_table S j from s.standing s.area b.standing b.area);
    }

-- An entry has a byte, so its first byte lies in the table too.
pub in_table : (nr k : ℕ) → k < lookups nr → (r : EntryPlace) → WithinTable (width_of (stage_of nr k)) (index_of nr k) (table_offset nr k) r
    → InTable nr k r.offset
in_table nr k h r T =
    let m = width_of (stage_of nr k) in
    let some : 1 ≤ m = ⊎_elim (λ e. omega arith) (λ e. omega arith) (in_stage nr k h).width in
    let byte : 1 ≤ entry_bytes m (index_of nr k) = either_has (λ (n : ℕ). 1 ≤ n) (ltb (index_of nr k) 16) m 1 some (omega arith) in
    record {
      least = T.least;
      most = omega (arith, (by_stage nr).size_is k h);
      somewhere = omega (arith, (by_stage nr).size_is k h, ends_in_tables nr k h);
    }

next_in_table : (reads : ℕ → ℕ) (nr : ℕ) (s : State) → OfBytes s → s.count < lookups nr → InTable nr s.count (read_next reads nr s).offset
next_in_table reads nr s b h = in_table nr s.count h (read_next reads nr s) (lookups_read reads nr [] s b h).table

-- ---- an accepted move to a stop behind the count: before its last lookup the walk is at stop - 1
module _ (nr : ℕ) (mem : List ℕ) (stop : ℕ) (w : Held) (ok : StopOk nr (length mem) stop w.state.count) (h : w.state.count < stop) where
  abbrev n : ℕ
  n = w.state.count

  abbrev reads : ℕ → ℕ
  reads = reads_of w.mark.cipher

  abbrev before : State
  before = advance reads nr mem (stop - 1 - n) w.state

  before_accepted : judge_stop nr (length mem) (stop - 1) n ≡ Accepted
  before_accepted = sym (stop_right nr (length mem) (stop - 1) n ok.long (omega arith) (omega arith))

  before_handed : handed nr (to_stop mem (stop - 1)) w ≡ changed (advance reads nr mem (stop - 1 - n)) w
  unfolding handed
  before_handed = sym (left_new _ (changed (advance reads nr mem (stop - 1 - n)) w) w before_accepted)

  before_count : before.count ≡ stop - 1
  before_count = omega (arith, advance_count reads nr mem (stop - 1 - n) w.state (omega arith))

  passed : passed_on nr (to_stop mem stop) w ≡ (read_next reads nr before).offset
  unfolding passed_on last_offset
  passed =
      sym (left_new _ (last_offset reads nr mem (stop - n) w.state) (nowhere nr) ok.call)
      ∙ ap (λ (d : ℕ). last_offset reads nr mem d w.state) (let e : stop - n ≡ suc (stop - 1 - n) = omega arith in e)

  after_count : (handed nr (to_stop mem stop) w).state.count ≡ stop
  unfolding handed
  after_count =
      ap (λ (v : Held). v.state.count) (sym (left_new _ (changed (advance reads nr mem (stop - n)) w) w ok.call))
      ∙ omega (arith, advance_count reads nr mem (stop - n) w.state (omega arith))

  last_read : LastRead nr mem stop w
  unfolding answer
  last_read =
      record {
        count = after_count;
        before_reply = ap reply_of before_accepted;
        before_count = ap (λ (v : Held). suc v.state.count) before_handed ∙ omega (arith, before_count);
        last = passed ∙ reads_kept (λ f. (read_next f nr before).offset) w.mark.cipher ∙ ap (λ (v : Held). (place_read nr v).offset) (sym before_handed);
        inside = λ bm b.
            rw passed (subst (λ (k : ℕ). InTable nr k (read_next reads nr before).offset) before_count
            (next_in_table reads nr before (advance_bytes reads nr mem bm (stop - 1 - n) w.state b) (omega (arith, before_count))));
      }

moves_pass_on : MovesPassOn
unfolding answer
moves_pass_on nr mem stop w e h =
    let a : judge_stop nr (length mem) stop w.state.count ≡ Accepted = reply_was _ e in
    last_read nr mem stop w (⊎_elim (λ o. o) (λ t. differ (sym a ∙ t.call)) (stop_view nr (length mem) stop w.state.count)) h

-- ---- an accepted move of one lookup
-- Where the table begins is added to a place in it.
from_table : (S : Shape) (j from : ℕ) (standing area : List ℕ)
    → read_in S j 0 standing area
    ≡ record { offset = (read_in S j from standing area).offset - from; half = (read_in S j from standing area).half }
from_table S j from standing area = elim (dec_lt j 16) [
  | yes l ↦ rw (read_spread S j 0 standing area l, read_spread S j from standing area l) (at_offset _ _ 0 (omega arith))
  | no l ↦
      let k : 16 ≤ j = omega arith in
      rw (read_xor S j 0 standing area k, read_xor S j from standing area k) (at_offset _ _ _ (omega arith))
]
  where
    at_offset : (a b half : ℕ) → a ≡ b → ◌≡◌ {A = EntryPlace} (record { offset = a; half = half }) (record { offset = b; half = half })
    at_offset a b half e = ap (λ (o : ℕ). record { offset = o; half = half }) e

one_passes_on : OnePassesOn
unfolding answer passed_on last_offset advance
one_passes_on nr table w e =
    let n = w.state.count in
    let reads = reads_of w.mark.cipher in
    let a : judge_one nr (length table) n ≡ Accepted = reply_was _ e in
    let right = accepted_was nr (length table) n a in
    let left : n < lookups nr = right.inside in
    let last : passed_on nr (one_lookup table) w ≡ (place_read nr w).offset = sym (left_new _ (place_read nr w).offset (nowhere nr) a) in
    record {
      count = ap (λ (v : Held). v.state.count) (one_handed nr table w a) ∙ step_count reads nr table w.state left;
      last = last;
      inside = λ b. rw last (next_in_table reads nr w.state b left);
      whole = λ mem long.
          last
          ∙ ap (λ (d : ℕ). last_offset reads nr mem d w.state) (let e : 1 ≡ suc n - n = omega arith in e)
          ∙ left_new _ (last_offset reads nr mem (suc n - n) w.state) (nowhere nr) (stop_accepted nr mem long w left);
      value = λ b.
          let S = shape_at reads (stage_of nr n) in
          ap (λ (t : List ℕ). step reads nr t w.state) (sym (take_all (table_size nr n) table (omega (arith, right.long))))
          ∙ looked_up reads nr w.state left 0 table b
          ∙ ap (λ (r : EntryPlace). lookup_from S (index_of nr n) table r w.state)
          (from_table S (index_of nr n) (table_offset nr n) w.state.standing w.state.area
          ∙ ap (λ (r : EntryPlace). record { offset = r.offset - table_offset nr n; half = r.half }) (sym (read_here reads nr w.state left)));
    }

-- ---- calls that make no lookup
none_passed_on : NonePassedOn
unfolding answer passed_on last_offset
none_passed_on nr w = record { refused = refused; still = still }
  where
    n : ℕ
    n = w.state.count

    reads : ℕ → ℕ
    reads = reads_of w.mark.cipher

    refused : (c : Call) → (reply nr c w ≡ accepted → ⊥) → passed_on nr c w ≡ nowhere nr
    refused (to_stop mem stop) r = left_back (judge_stop nr (length mem) stop n) (last_offset reads nr mem (stop - n) w.state) (nowhere nr) r
    refused (one_lookup table) r = left_back (judge_one nr (length table) n) (place_read nr w).offset (nowhere nr) r
    refused (fetch block) r = refl

    still : (mem : List ℕ) → passed_on nr (to_stop mem n) w ≡ nowhere nr
    still mem =
        ap (λ (d : ℕ). if_accepted (judge_stop nr (length mem) n n) (last_offset reads nr mem d w.state) (nowhere nr)) (let e : n - n ≡ 0 = omega arith in e)
        ∙ left_either (judge_stop nr (length mem) n n) (nowhere nr)

-- ---- all of them
pub place_was_read : PlaceWasRead
place_was_read = record { lookups = lookups_read; moves = moves_pass_on; one = one_passes_on; none = none_passed_on }
