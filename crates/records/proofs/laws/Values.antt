-- Laws, not definitions: the values of a record are what the lookups put down (`laws.PutDown` of crate calls): what a lookup read is what the record has.
-- Assumes nothing.
use mathlib.Core.List.{List}
use mathlib.Core.Path.{◌≡◌, sym, ap, ◌∙◌, subst}
use Prim.Native.Nat.{ℕ, suc, ◌+◌, ◌-◌, ◌*◌, ◌≤◌, ◌<◌}
use native.Mathlib.Omega.{arith}
use lib.ListN.{length}
use Rattle.bits.specs.Bytes.{Bytes}
use Rattle.bits.specs.Lists.{at}
use Rattle.bits.specs.Nibbles.{nibble}
use Rattle.network.specs.Lookups.{State, state_at, Shape, zero_area}
use Rattle.network.specs.Order.{sum_place}
use Rattle.network.specs.Read.{lookup_from}
use Rattle.network.specs.declared.EntryPlace.{EntryPlace}
use Rattle.layout.specs.Ciphers.{reads_of}
use Rattle.layout.specs.Stages.{width_of, shape_at, lookups, set_bytes, stage_of, index_of}
use Rattle.calls.specs.Calls.{Held, advance, read_next}
use Rattle.calls.proofs.laws.Calls.{advance_split}
use Rattle.calls.proofs.laws.PutDown.{Whole, by_spread, by_xor, by_last, with_nibble, word_put, nibble_put, xor_last, last_sum}
use Rattle.calls.proofs.laws.PutDown.{WholeState, next_is, next_whole, stays_whole, starts_whole}
use Rattle.evaluate.specs.Held.{held}
use Rattle.layer_record.specs.Entries.{offset_bytes, entry_read}
use Rattle.records.specs.Promises.{Records}
use Rattle.records.specs.Record.{entry_next, walk_at, entry_in}
use Rattle.records.specs.Values.{PutDown, ValuesPutDown}
use Rattle.records.proofs.laws.Accepted.{count_is, left_is, right, moved}
use Rattle.records.proofs.laws.Entry.{value_byte, value_spread, value_xor}
use Rattle.records.proofs.laws.Exact.{record_entry}
use Rattle.answers.specs.Answer.{Answer, Accepted}

-- ---- one lookup, said by the place r that it reads in a memory
-- What it put down is what is recorded of it.
put_down : (S : Shape) (j : ℕ) (mem : List ℕ) (r : EntryPlace) (w : State) → Whole S j mem r w → Bytes mem
    → PutDown S.width j (entry_read j mem r).value (lookup_from S j mem r w)
put_down S j mem r w W b =
    let m : ℕ = S.width in
    record {
      spread = λ h. value_spread j mem r h ∙ sym (word_put S j mem r w W h) ∙ ap (λ (v : State). at v.area (j * m)) (sym (by_spread S j mem r w h));
      sum = λ h more.
          value_xor j mem r h
          ∙ sym (nibble_put S j mem r w W b h)
          ∙ ap (λ (v : State). nibble v.area (sum_place m (j - 16))) (sym (by_xor S j mem r w h (λ e. omega arith)));
      last = λ e.
          let h : 16 ≤ j = xor_last S j mem r w W e in
          value_xor j mem r h
          ∙ sym (nibble_put S j mem r w W b h)
          ∙ sym (last_sum m j (with_nibble S j mem r w) W.width e)
          ∙ ap (λ (v : State). nibble v.standing 31) (sym (by_last S j mem r w h e));
    }

-- The next lookup over a set's memory of bytes.
next_puts : (reads : ℕ → ℕ) (nr : ℕ) (mem : List ℕ) → length mem ≡ set_bytes nr → Bytes mem → (s : State) → WholeState s → s.count < lookups nr
    → PutDown (width_of (stage_of nr s.count)) (index_of nr s.count) (entry_next reads nr mem s).value (advance reads nr mem 1 s)
next_puts reads nr mem long bytes s B h =
    rw (next_is reads nr mem long bytes s B h)
    (put_down (shape_at reads (stage_of nr s.count)) (index_of nr s.count) mem (read_next reads nr s) s (next_whole reads nr mem long bytes s B h) bytes)

-- ---- the walk of a record, from a block of bytes over a set of them
module _ (c nr : ℕ) (set block : List ℕ) (long : length set ≡ set_bytes nr) (bs : Bytes set) (bb : Bytes block) (k : ℕ) (h : k < lookups nr) where
  -- The state that lookup k meets, and the one that it leaves.
  abbrev met : State
  met = walk_at c nr set block k

  after_is : walk_at c nr set block (suc k) ≡ advance (reads_of c) nr set 1 met
  after_is =
      ap (walk_at c nr set block) (let e : suc k ≡ k + 1 = omega arith in e)
      ∙ advance_split (reads_of c) nr set k 1 (state_at 0 block zero_area)

  -- What lookup k put down.
  walk_puts : PutDown (width_of (stage_of nr k)) (index_of nr k) (entry_next (reads_of c) nr set met).value (walk_at c nr set block (suc k))
  walk_puts =
      let B : WholeState met = stays_whole (reads_of c) nr set long bs k (state_at 0 block zero_area) (starts_whole block bb) (omega arith) in
      let P = next_puts (reads_of c) nr set long bs met B (omega (arith, count_is c nr set block k (omega arith))) in
      let value = (entry_next (reads_of c) nr set met).value in
      rw after_is (subst (λ (n : ℕ). PutDown (width_of (stage_of nr n)) (index_of nr n) value (advance (reads_of c) nr set 1 met))
      (count_is c nr set block k (omega arith)) P)

-- ---- what an accepted call left: the value in it is that of the lookup
value_is : {c nr : ℕ} {set block lent left : List ℕ} {a : Answer} → Records c nr set block lent a left → a ≡ Accepted → (k : ℕ) → k < lookups nr
    → (entry_next (reads_of c) nr set (walk_at c nr set block k)).value ≡ at (entry_in left k) offset_bytes
value_is {c} {nr} {set} {block} R ok k h =
    value_byte (entry_next (reads_of c) nr set (walk_at c nr set block k)) offset_bytes (omega arith) (omega arith)
    ∙ ap (λ (l : List ℕ). at l offset_bytes) (sym (record_entry c nr set block k h) ∙ ap (λ (l : List ℕ). entry_in l k) (sym (left_is R ok)))

pub values_put_down : ValuesPutDown
values_put_down c nr set block lent left a R ok bs bb o opens k h r moves =
    let after : (held r.walk).state ≡ walk_at c nr set block (suc k) = ap (λ (w : Held). w.state) (moved R ok opens h moves) in
    rw (sym (value_is R ok k h), after) (walk_puts c nr set block (right R ok).0 bs bb k h)
