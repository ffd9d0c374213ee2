-- Laws, not definitions: the calls, from what their parts left, for any number nr of rounds. The row shift reads as the walk's cipher does (`reads_of`). What the
-- code has as numbers, the lookups and the bytes of a set, is `count` and `bytes`.
-- Assumes nothing.
use mathlib.Core.List.{List}
use mathlib.Core.Path.{◌≡◌, sym, ap, ◌∙◌, subst}
use Prim.Native.Nat.{ℕ, ◌+◌, ◌-◌, ◌≤◌, ◌<◌}
use native.Mathlib.Numerals.{add-one}
use native.Mathlib.Omega.{arith}
use lib.ListN.{length}
use Rattle.answers.specs.Answers.{accepted}
use Rattle.answers.specs.declared.Refusal.{Refusal}
use Rattle.answers.specs.declared.Refusal.TheVariants.{SetLength, BlockLength, Stop, Unfinished}
use Rattle.answers.proofs.laws.Tests.{differ, reply_was, left_new, left_old}
use Rattle.network.specs.Lookups.{state_at, zero_area}
use Rattle.network.specs.declared.EntryPlace.{EntryPlace}
use Rattle.layout.specs.Ciphers.{reads_of}
use Rattle.layout.specs.Stages.{shape_at, lookups, set_bytes, nowhere, place_of}
use Rattle.layout.specs.declared.stage.Place.{Place}
use Rattle.layout.proofs.laws.Lookup.{Sizes, stands}
use Rattle.calls.specs.Calls.{marked, kept_mark, zero_held, Held, holding, Call, to_stop, one_lookup, started, judge_stop, judge_one, judge_fetch}
use Rattle.calls.specs.Calls.{answer, reply, handed, passed_on, block_left}
use Rattle.calls.specs.PlaceRead.{InTable}
use Rattle.calls.proofs.laws.Judged as judged
use Rattle.calls.proofs.laws.Judged.{presented_wrong, presented_right, set_wrong, stop_right, none_left, table_wrong, table_right, block_wrong, count_wrong, count_right}
use Rattle.calls.proofs.laws.Kept.{refused_leaves}
use Rattle.calls.proofs.laws.PlaceRead.{place_was_read}
use Rattle.lookups.specs.InPlace.{LookedUp}
use Rattle.passes.proofs.laws.Places.{looked_up, read_there, inside_there}
use Rattle.moves.specs.Advanced.{Advanced}
use Rattle.evaluate.specs.Held.{held}
use Rattle.evaluate.specs.Promises.{Opens, Refuses, Moves, Fetches}
use Rattle.evaluate.specs.declared.walk.Move.{Move}
use Rattle.evaluate.specs.declared.walk.Walk.{Walk}
use Rattle.answers.specs.Answer.{Accepted, Refused}

-- ---- start
pub start_refused : (c : ℕ) (block : List ℕ) (w : Walk) → (length block ≡ 16 → ⊥) → held w ≡ zero_held
    → Opens c block (record { answer = Refused BlockLength; walk = w })
unfolding started
start_refused c block w n f =
    let j = presented_wrong (length block) n in
    record { answer = j; walk = f ∙ left_old _ BlockLength _ _ (sym j) }

-- The walk w keeps the cipher, and its standing bytes s are the block.
pub start_done : (c : ℕ) (block s : List ℕ) (w : Walk) → length block ≡ 16 → s ≡ block → held w ≡ holding (marked c) (state_at 0 s zero_area)
    → Opens c block (record { answer = Accepted; walk = w })
unfolding started
start_done c block s w l e f =
    let j = presented_right (length block) l in
    record { answer = j; walk = f ∙ ap (λ (x : List ℕ). holding (marked c) (state_at 0 x zero_area)) e ∙ left_new _ _ _ (sym j) }

-- ---- a move: the answer, the walk handed back, and the offset passed on
-- One that is refused, as any call c: the definitions leave the walk and pass on the offset of no lookup, and the walk has not moved.
turned_down : {nr : ℕ} (c : Call) {r : Refusal} {w : Walk} {m : Move} → Refuses nr r w m → Refused r ≡ answer nr c (held w) → Moves nr c w m
turned_down {nr} c {w = w} d e =
    let no : reply nr c (held w) ≡ accepted → ⊥ = λ a. differ (sym (reply_was _ a) ∙ sym e) in
    record {
      answer = d.answer ∙ e;
      walk = ap held d.walk ∙ sym ((refused_leaves nr (held w)).refused c no);
      offset = d.offset ∙ sym ((place_was_read.none nr (held w)).refused c no);
      inside = λ more. absurd (omega (arith, ap (λ (v : Walk). v.count) d.walk));
    }

-- A move to a stop, and a move of one lookup, which hand back m.
module _ {nr count bytes : ℕ} (N : Sizes nr count bytes) (set : List ℕ) (stop : ℕ) (w : Walk) (m : Move) where
  not_moved : (r : Refusal) → Refuses nr r w m → Refused r ≡ judge_stop nr (length set) stop w.count → Moves nr (to_stop set stop) w m
  unfolding answer
  not_moved r d e = turned_down (to_stop set stop) d e

  pub wrong_set : Refuses nr SetLength w m → (length set ≡ bytes → ⊥) → Moves nr (to_stop set stop) w m
  wrong_set d n = not_moved SetLength d (set_wrong nr _ _ _ (λ e. n (e ∙ N.all_bytes)))

  module _ (l : length set ≡ bytes) where
    long : length set ≡ set_bytes nr
    long = l ∙ sym N.all_bytes

    pub stop_above : Refuses nr Stop w m → count < stop → Moves nr (to_stop set stop) w m
    stop_above d h = not_moved Stop d (judged.stop_above nr _ _ _ long (omega (arith, N.all_lookups)))

    pub stop_below : Refuses nr Stop w m → stop ≤ count → stop < w.count → Moves nr (to_stop set stop) w m
    stop_below d h b = not_moved Stop d (judged.stop_below nr _ _ _ long (omega (arith, N.all_lookups)) b)

    pub stop_done : {s' a' : List ℕ} {o : ℕ} → m.answer ≡ Accepted → stop ≤ count → w.count ≤ stop
        → Advanced (reads_of w.cipher) nr set w.count stop o w.standing w.area s' a'
        → held m.walk ≡ holding (kept_mark (held w).mark) (state_at stop s' a') → m.offset ≡ o → Moves nr (to_stop set stop) w m
    unfolding answer handed passed_on
    stop_done {o = o} a h b d f g =
        let j = stop_right nr _ stop w.count long (omega (arith, N.all_lookups)) b in
        let at-stop : stop ≡ m.walk.count = ap (λ (v : Held). v.state.count) (sym f) in
        record {
          answer = a ∙ j;
          walk = f ∙ ap (holding (kept_mark (held w).mark)) (sym d.walk) ∙ left_new _ _ (held w) (sym j);
          offset = g ∙ d.offset ∙ left_new _ _ (nowhere nr) (sym j);
          inside = λ more. rw g (subst (λ (k : ℕ). InTable nr (k - 1) o) at-stop (d.inside (omega arith)));
        }

module _ {nr count bytes : ℕ} (N : Sizes nr count bytes) (table : List ℕ) (w : Walk) (m : Move) where
  not_looked : (r : Refusal) → Refuses nr r w m → Refused r ≡ judge_one nr (length table) w.count → Moves nr (one_lookup table) w m
  unfolding answer
  not_looked r d e = turned_down (one_lookup table) d e

  pub no_lookup : Refuses nr Stop w m → count ≤ w.count → Moves nr (one_lookup table) w m
  no_lookup d h = not_looked Stop d (none_left nr _ _ (omega (arith, N.all_lookups)))

  module _ (p : Place) (h : w.count < count) (e : p ≡ place_of nr w.count) where
    left : w.count < lookups nr
    left = omega (arith, N.all_lookups)

    pub wrong_table : Refuses nr SetLength w m → (length table ≡ p.size → ⊥) → Moves nr (one_lookup table) w m
    wrong_table d n = not_looked SetLength d (table_wrong nr _ _ left (λ l. n (l ∙ sym (stands left e).size)))

    pub one_done : {s' a' : List ℕ} {r : EntryPlace} → m.answer ≡ Accepted → length table ≡ p.size
        → LookedUp (shape_at (reads_of w.cipher) p.stage) p.index table p.offset w.standing w.area r s' a'
        → held m.walk ≡ holding (kept_mark (held w).mark) (state_at (w.count + 1) s' a') → m.offset ≡ r.offset → Moves nr (one_lookup table) w m
    unfolding answer handed passed_on
    one_done {s'} {a'} {r} a l u f g =
        let reads = reads_of w.cipher in
        let j = table_right nr _ _ left (l ∙ (stands left e).size) in
        record {
          answer = a ∙ j;
          walk =
              f
              ∙ ap (λ (k : ℕ). holding (kept_mark (held w).mark) (state_at k s' a')) (add-one w.count)
              ∙ ap (holding (kept_mark (held w).mark)) (sym (looked_up reads nr w.count left e u))
              ∙ left_new _ _ (held w) (sym j);
          offset = g ∙ ap (λ (r : EntryPlace). r.offset) (read_there reads nr w.count left e u) ∙ left_new _ _ (nowhere nr) (sym j);
          inside =
              λ more.
              rw g (subst (λ (k : ℕ). InTable nr k r.offset) (let z : w.count ≡ m.walk.count - 1 = omega (arith, ap (λ (v : Held). v.state.count) f) in z)
              (inside_there reads nr w.count left e u));
        }

-- ---- fetch: the answer, and the block as it is left
module _ {nr count bytes : ℕ} (N : Sizes nr count bytes) (block : List ℕ) (w : Walk) where
  not_fetched : (r : Refusal) → Refused r ≡ judge_fetch nr (length block) w.count → Fetches nr block w (Refused r) block
  unfolding answer block_left
  not_fetched r e = record { answer = e; block = left_old _ r _ block (sym e) }

  pub wrong_block : (length block ≡ 16 → ⊥) → Fetches nr block w (Refused BlockLength) block
  wrong_block n = not_fetched BlockLength (block_wrong nr _ _ n)

  pub unfinished : length block ≡ 16 → (w.count ≡ count → ⊥) → Fetches nr block w (Refused Unfinished) block
  unfinished l n = not_fetched Unfinished (count_wrong nr _ _ l (λ e. n (e ∙ N.all_lookups)))

  -- The block is left as the standing bytes.
  pub fetched : (left : List ℕ) → length block ≡ 16 → w.count ≡ count → left ≡ w.standing → Fetches nr block w Accepted left
  unfolding answer block_left
  fetched _ l n e =
      let j = count_right nr _ _ l (n ∙ sym N.all_lookups) in
      record { answer = j; block = e ∙ left_new _ _ block (sym j) }
