-- Laws, not definitions: the record that `record_walk` wrote is the walk's own, and what it has for each lookup, by the moves of the walk. A move that brings the walk to the
-- count k leaves the state in which lookup k reads, and the offset that the next one passes on is that of the place read.
-- Assumes nothing.
use mathlib.Core.List.{List, [], ◌∷◌}
use mathlib.Core.Path.{◌≡◌, refl, sym, ap, ap₂, ◌∙◌, subst}
use Prim.Native.Nat.{ℕ, suc, ◌-◌, ◌*◌, ◌^◌, ◌≤◌, ◌<◌}
use native.Mathlib.Omega.{arith}
use lib.ListN.{length, take, get_or-append}
use lib.Seq.{take-append_seam}
use Rattle.answers.proofs.laws.Tests.{reply_was, left_back}
use Rattle.bits.specs.Bytes.{Bytes, number_of, bytes_of}
use Rattle.bits.specs.Lists.{at}
use Rattle.bits.proofs.laws.Bytes.{length_bytes_of, number_of_bytes_of}
use Rattle.bits.proofs.laws.Groups.{joined_same}
use Rattle.bits.proofs.laws.Nibbles.{half_lt}
use Rattle.network.specs.declared.EntryPlace.{EntryPlace}
use Rattle.layout.specs.Ciphers.{kept, reads_of}
use Rattle.layout.specs.Stages.{lookups, index_of}
use Rattle.layout.proofs.laws.Lookup.{own_sizes}
use Rattle.calls.specs.Calls.{Held, to_stop, judge_stop, read_next, place_read, answer}
use Rattle.calls.specs.PlaceRead.{InTable}
use Rattle.calls.proofs.laws.Judged.{stop_right}
use Rattle.calls.proofs.laws.Kept.{reads_kept}
use Rattle.evaluate.specs.Held.{held}
use Rattle.evaluate.specs.Promises.{Opens, Moves}
use Rattle.evaluate.specs.declared.walk.Move.{Move}
use Rattle.evaluate.specs.declared.walk.Opening.{Opening}
use Rattle.evaluate.proofs.laws.PlaceRead.{places_made}
use Rattle.passes.proofs.laws.Judged.{good as whole_good}
use Rattle.layer_record.specs.Entries.{Entry, offset_bytes, entry_size, written, entry_read}
use Rattle.records.specs.Promises.{Records}
use Rattle.records.specs.Record.{walk_at, entry_at, record_of, entry_in}
use Rattle.records.specs.Replay.{judge_record, record_left}
use Rattle.records.specs.Theorems.{RefusedLeaves, WrittenIsOwn, WrittenOfMoves}
use Rattle.records.proofs.laws.Accepted.{count_is, left_is, right, opened, moved}
use Rattle.records.proofs.laws.Entry.{value_byte, value_xor}
use Rattle.records.proofs.laws.Exact.{record_long, record_entry, replays_exact}
use Rattle.records.proofs.laws.Judged.{good}
use Rattle.answers.specs.Answer.{Answer, Accepted}

-- ---- the bytes of an entry, read again
module _ (e : Entry) where
  abbrev start : List ℕ
  start = bytes_of offset_bytes e.offset

  start_long : length start ≡ offset_bytes
  start_long = length_bytes_of offset_bytes e.offset

  read_offset : take offset_bytes (written e) ≡ start
  read_offset = ap (λ (n : ℕ). take n (written e)) (sym start_long) ∙ take-append_seam start (e.value ∷ [])

  read_number : e.offset < 2 ^ (8 * offset_bytes) → number_of offset_bytes (written e) ≡ e.offset
  read_number h =
      joined_same 8 offset_bytes (at (written e)) (at start) (λ j k. get_or-append start (e.value ∷ []) 0 j (omega (arith, start_long)))
      ∙ number_of_bytes_of offset_bytes e.offset h

-- The value of an XOR entry of bytes is below 16.
recorded_nibble : (j : ℕ) (mem : List ℕ) (r : EntryPlace) → 16 ≤ j → Bytes mem → (entry_read j mem r).value < 16
recorded_nibble j mem r h b = rw (value_xor j mem r h) (half_lt r.half (at mem r.offset) (b r.offset))

-- ---- what an accepted call left of lookup k, by a move to the count k
module _ {c nr : ℕ} {set block lent left : List ℕ} {a : Answer} (R : Records c nr set block lent a left) (ok : a ≡ Accepted) {o : Opening} (opens : Opens c block o)
    {k : ℕ} (h : k ≤ lookups nr) {b : Move} (moves : Moves nr (to_stop set k) o.walk b) where
  place_is : place_read nr (held b.walk) ≡ read_next (reads_of c) nr (walk_at c nr set block k)
  place_is =
      ap (place_read nr) (moved R ok opens h moves)
      ∙ sym (reads_kept (λ f. read_next f nr (walk_at c nr set block k)) (kept c))
      ∙ sym (reads_kept (λ f. read_next f nr (walk_at c nr set block k)) c)

  entry_is : entry_at c nr set block k ≡ written (entry_read (index_of nr k) set (place_read nr (held b.walk)))
  entry_is = ap₂ (λ (n : ℕ) (r : EntryPlace). written (entry_read (index_of nr n) set r)) (count_is c nr set block k h) (sym place_is)

pub refused_leaves : RefusedLeaves
unfolding record_left
refused_leaves c nr set block lent left a R turned =
    R.bytes ∙ left_back (judge_record nr (length set) (length block) (length lent)) (record_of c nr set block) lent (λ e. turned (R.answer ∙ reply_was _ e))

pub written_is_own : WrittenIsOwn
written_is_own c nr set block lent left a r R ok replays =
    let whole : length left ≡ lookups nr * entry_size = ap length (left_is R ok) ∙ record_long c nr set block in
    let N = own_sizes {nr = nr} in
    let sizes = right R ok in
    let good-again = sym (good N _ _ _ (whole_good N _ _ sizes.0 sizes.1) refl whole) in
    replays.result ∙ (replays_exact c nr set block left good-again).own_if (left_is R ok)

pub written_of_moves : WrittenOfMoves
unfolding answer
written_of_moves c nr set block lent left a R ok o opens k h b r before after =
    let e : Entry = entry_read (index_of nr k) set (place_read nr (held b.walk)) in
    let at-k : k ≤ lookups nr = omega arith in
    let count : o.walk.count ≡ 0 = ap (λ (w : Held). w.state.count) (opened R ok opens) in
    let more : judge_stop nr (length set) (suc k) o.walk.count ≡ Accepted =
    sym (stop_right nr (length set) (suc k) o.walk.count (right R ok).0 (omega arith) (omega arith)) in
    let before' = subst (λ (n : ℕ). Moves nr (to_stop set n) o.walk b) (let n : k ≡ suc k - 1 = omega arith in n) before in
    let last = (places_made nr).moves set (suc k) o.walk r b after (after.answer ∙ more) (omega arith) before' in
    let is : entry_in left k ≡ written e = ap (λ (l : List ℕ). entry_in l k) (left_is R ok) ∙ record_entry c nr set block k h ∙ entry_is R ok opens at-k before in
    let inside : InTable nr k r.offset = subst (λ (n : ℕ). InTable nr n r.offset) (let n : b.walk.count ≡ k = omega (arith, last.count) in n) last.inside in
    record {
      place = is;
      offset = ap (take offset_bytes) is ∙ read_offset e ∙ ap (bytes_of offset_bytes) (sym last.offset);
      inside = inside;
      whole = λ fits. ap (number_of offset_bytes) is ∙ read_number e (omega (arith, last.offset, inside.somewhere)) ∙ sym last.offset;
      nibble = λ xor bytes.
          subst (λ (n : ℕ). n < 16) (value_byte e offset_bytes (omega arith) (omega arith) ∙ sym (ap (λ (l : List ℕ). at l offset_bytes) is))
          (recorded_nibble (index_of nr k) set (place_read nr (held b.walk)) xor bytes);
    }
