-- Laws, not definitions: what an accepted `record_walk` left, and the walk that it tells of, by calls. The walk that a start hands back and a move brings to the count n
-- has the state of the record's walk after n lookups, since the number that a walk keeps of its cipher reads as the number does.
-- Assumes nothing.
use mathlib.Core.List.{List}
use mathlib.Core.Path.{◌≡◌, sym, ap, ◌∙◌}
use Prim.Native.Nat.{ℕ, ◌-◌, ◌*◌, ◌≤◌}
use native.Mathlib.Omega.{arith}
use lib.ListN.{length}
use Rattle.answers.proofs.laws.Tests.{left_new}
use Rattle.network.specs.Lookups.{State, state_at, zero_area}
use Rattle.layout.specs.Ciphers.{kept, reads_of}
use Rattle.layout.specs.Stages.{lookups, set_bytes}
use Rattle.layout.proofs.laws.Lookup.{own_sizes}
use Rattle.calls.specs.Calls.{marked, kept_mark, holding, changed, started, to_stop, judge_stop, advance, handed}
use Rattle.calls.proofs.laws.Calls.{advance_count}
use Rattle.calls.proofs.laws.Judged.{presented_right, stop_right}
use Rattle.calls.proofs.laws.Kept.{reads_kept}
use Rattle.evaluate.specs.Held.{held}
use Rattle.evaluate.specs.Promises.{Opens, Moves}
use Rattle.evaluate.specs.declared.walk.Move.{Move}
use Rattle.evaluate.specs.declared.walk.Opening.{Opening}
use Rattle.layer_record.specs.Entries.{entry_size}
use Rattle.records.specs.Promises.{Records}
use Rattle.records.specs.Record.{walk_at, record_of}
use Rattle.records.specs.Replay.{record_left}
use Rattle.records.proofs.laws.Judged.{lengths_were}
use Rattle.answers.specs.Answer.{Answer, Accepted}

-- The count of the record's walk.
pub count_is : (c nr : ℕ) (set block : List ℕ) (n : ℕ) → n ≤ lookups nr → (walk_at c nr set block n).count ≡ n
count_is c nr set block n h = omega (arith, advance_count (reads_of c) nr set n (state_at 0 block zero_area) (omega arith))

module _ {c nr : ℕ} {set block lent left : List ℕ} {a : Answer} (R : Records c nr set block lent a left) (ok : a ≡ Accepted) where
  -- ---- the call left the record of the walk, and the lengths were right
  pub left_is : left ≡ record_of c nr set block
  unfolding record_left
  left_is = R.bytes ∙ sym (left_new _ (record_of c nr set block) lent (sym R.answer ∙ ok))

  pub right : (length set ≡ set_bytes nr) × (length block ≡ 16) × (length lent ≡ lookups nr * entry_size)
  right = lengths_were own_sizes _ _ _ R.answer ok

  -- ---- the walk that a start hands back
  module _ {o : Opening} (opens : Opens c block o) where
    abbrev s₀ : State
    s₀ = state_at 0 block zero_area

    pub opened : held o.walk ≡ holding (marked c) s₀
    unfolding started
    opened = opens.walk ∙ sym (left_new _ (holding (marked c) s₀) _ (sym (presented_right (length block) right.1)))

    -- Brought to the count n.
    module _ {n : ℕ} (h : n ≤ lookups nr) {r : Move} (moves : Moves nr (to_stop set n) o.walk r) where
      accepted : judge_stop nr (length set) n 0 ≡ Accepted
      accepted = sym (stop_right nr (length set) n 0 right.0 h (omega arith))

      pub moved : held r.walk ≡ holding (kept_mark (marked c)) (walk_at c nr set block n)
      unfolding handed
      moved =
          moves.walk
          ∙ ap (handed nr (to_stop set n)) opened
          ∙ sym (left_new _ (changed (advance (reads_of (kept c)) nr set (n - 0)) (holding (marked c) s₀)) (holding (marked c) s₀) accepted)
          ∙ ap (λ (i : ℕ). holding (kept_mark (marked c)) (advance (reads_of (kept c)) nr set i s₀)) (let e : n - 0 ≡ n = omega arith in e)
          ∙ sym (reads_kept (λ f. holding (kept_mark (marked c)) (advance f nr set n s₀)) c)
