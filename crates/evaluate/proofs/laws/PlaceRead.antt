-- Laws, not definitions: the place that was read, of the code, from that of the definitions (crate calls). A move that meets its contract has the answer, the
-- walk and the offset that these have; a lookup that meets its contract reads the place that these give, within its table, so what it puts down stands there.
-- Assumes nothing.
use mathlib.Core.Path.{◌≡◌, sym, ap, ◌∙◌, subst}
use Prim.Native.Nat.{ℕ, suc, ◌-◌}
use native.Mathlib.Omega.{arith}
use lib.ListN.{take, drop}
use Rattle.answers.specs.Answers.{accepted, reply_of}
use Rattle.answers.proofs.laws.Tests.{reply_was}
use Rattle.network.specs.Lookups.{Shape, lookup_in}
use Rattle.network.specs.Read.{lookup_from}
use Rattle.network.specs.Theorems.{WithinTable}
use Rattle.network.specs.declared.EntryPlace.{EntryPlace}
use Rattle.network.proofs.laws.Read.{puts_what_it_reads}
use Rattle.layout.specs.Ciphers.{reads_of}
use Rattle.layout.specs.Stages.{shape_at, table_offset, stage_of, index_of}
use Rattle.layout.proofs.laws.Ranges.{by_stage}
use Rattle.calls.specs.Calls.{Held, Call, place_read, reply}
use Rattle.calls.specs.PlaceRead.{InTable}
use Rattle.calls.proofs.laws.PlaceRead.{in_table, place_was_read}
use Rattle.evaluate.specs.Held.{held}
use Rattle.evaluate.specs.Promises.{Moves}
use Rattle.evaluate.specs.PlaceRead.{LookupsMade, MovesMade, SingleMovesMade, NoLookupMade, PlacesMade}
use Rattle.evaluate.specs.declared.walk.Move.{Move}
use Rattle.evaluate.specs.declared.walk.Walk.{Walk}
use Rattle.answers.specs.Answer.{Accepted}

module _ (nr : ℕ) where
  -- ---- a lookup
  lookups_made : LookupsMade nr
  lookups_made mem w r s a h l =
      let k = w.count in
      let from = table_offset nr k in
      let S : Shape = shape_at (reads_of w.cipher) (stage_of nr k) in
      let j = index_of nr k in
      let table = subst (WithinTable S.width j from) l.read l.table in
      record {
        place = l.read ∙ sym ((by_stage nr).read_is (reads_of w.cipher) k h from w.standing w.area);
        inside = in_table nr k h r l.table;
        value =
            sym (l.walk k)
            ∙ ap (λ (n : ℕ). lookup_in S j (take n (drop from mem)) (held w).state) ((by_stage nr).size_is k h)
            ∙ puts_what_it_reads S j from mem (held w).state table
            ∙ ap (λ (r : EntryPlace). lookup_from S j mem r (held w).state) (sym l.read);
      }

  -- ---- the answer of a move that meets its contract
  module _ {c : Call} {w : Walk} {r : Move} (meets : Moves nr c w r) where
    replied : r.answer ≡ Accepted → reply nr c (held w) ≡ accepted
    replied e = ap reply_of (sym meets.answer ∙ e)

    unreplied : (r.answer ≡ Accepted → ⊥) → reply nr c (held w) ≡ accepted → ⊥
    unreplied n e = n (meets.answer ∙ reply_was _ e)

  -- The table of the lookup before the count, by its number.
  here : (r : Move) {k : ℕ} → r.walk.count - 1 ≡ k → InTable nr (r.walk.count - 1) r.offset → InTable nr k r.offset
  here r e i = subst (λ (k : ℕ). InTable nr k r.offset) e i

  moves_made : MovesMade nr
  moves_made mem stop w r b meets answer more before =
      let L = place_was_read.moves nr mem stop (held w) (replied meets answer) more in
      let count : suc b.walk.count ≡ stop = ap (λ (v : Held). suc v.state.count) before.walk ∙ L.before_count in
      let after : r.walk.count ≡ stop = ap (λ (v : Held). v.state.count) meets.walk ∙ L.count in
      record {
        answer = before.answer ∙ reply_was _ L.before_reply;
        count = count;
        offset = meets.offset ∙ L.last ∙ ap (λ (v : Held). (place_read nr v).offset) (sym before.walk);
        inside = here r (omega arith) (meets.inside (omega arith));
      }

  single_moves_made : SingleMovesMade nr
  single_moves_made table mem w r m meets answer long whole =
      let L = place_was_read.one nr table (held w) (replied meets answer) in
      let after : r.walk.count ≡ suc w.count = ap (λ (v : Held). v.state.count) meets.walk ∙ L.count in
      record {
        offset = meets.offset ∙ L.last;
        inside = here r (omega arith) (meets.inside (omega arith));
        same = meets.offset ∙ L.whole mem long ∙ sym whole.offset;
      }

  no_lookup_made : NoLookupMade nr
  no_lookup_made w r =
      let N = place_was_read.none nr (held w) in
      record {
        refused = λ c meets n. meets.offset ∙ N.refused c (unreplied meets n);
        still = λ mem meets. meets.offset ∙ N.still mem;
      }

  pub places_made : PlacesMade nr
  places_made = record { lookups = lookups_made; moves = moves_made; single = single_moves_made; none = no_lookup_made }
