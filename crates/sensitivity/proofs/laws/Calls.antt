-- Laws, not definitions: what a move to a stop hands back, and what a fetch at the end leaves, over a memory of the right length, from the walk that a start with a block
-- hands back: by the states of that walk.
-- Assumes nothing.
use mathlib.Core.List.{List}
use mathlib.Core.Path.{◌≡◌, sym, ap, ap₂, ◌∙◌}
use Prim.Native.Nat.{ℕ, ◌-◌, ◌≤◌}
use native.Mathlib.Nat.{le_refl}
use native.Mathlib.Omega.{arith}
use lib.ListN.{length}
use Rattle.answers.proofs.laws.Tests.{left_new}
use Rattle.bits.specs.Bytes.{Block}
use Rattle.bits.specs.Flips.{flipped}
use Rattle.bits.proofs.laws.Flips.{length_flipped, flipped_bytes}
use Rattle.network.specs.Lookups.{State, state_at, zero_area}
use Rattle.layout.specs.Ciphers.{kept, reads_of}
use Rattle.layout.specs.Stages.{lookups}
use Rattle.calls.specs.Calls.{marked, zero_held, Held, holding, changed, judge_start, judge_stop, judge_fetch, started}
use Rattle.calls.specs.Calls.{to_stop, fetch, handed, block_left, advance, state_from, walked_over}
use Rattle.calls.proofs.laws.Calls.{mark_kept}
use Rattle.calls.proofs.laws.Judged.{presented_right, stop_right, count_right}
use Rattle.calls.proofs.laws.Kept.{reads_kept}
use Rattle.sensitivity.specs.Theorems.{Lendable}
use Rattle.sensitivity.proofs.laws.Unread.{state_count}

-- The memory with a bit turned over has the right length too.
pub flipped_lent : (nr : ℕ) (set x : List ℕ) → Lendable nr set x → (i : ℕ) → Lendable nr (flipped set i) x
flipped_lent nr set x lent i = record { long = length_flipped set i ∙ lent.long; bytes = flipped_bytes set lent.bytes i; block = lent.block }

-- ---- the walk that a start hands back
abbrev pub begun : ℕ → List ℕ → Held
begun c x = holding (marked c) (state_at 0 x zero_area)

pub started_is : (c : ℕ) (x : List ℕ) → Block x → started c x ≡ begun c x
unfolding started
started_is c x b =
    sym (left_new (judge_start (length x)) (begun c x) zero_held (sym (presented_right (length x) b.long)))

-- ---- a move to a stop, and a fetch at the end
module _ (c nr : ℕ) (set x : List ℕ) (lent : Lendable nr set x) where
  pub moved : (stop : ℕ) → stop ≤ lookups nr → handed nr (to_stop set stop) (begun c x) ≡ holding (marked c) (state_from (reads_of c) nr set x stop)
  unfolding handed
  moved stop h =
      let s₀ : State = state_at 0 x zero_area in
      let f : Held → Held = changed (advance (reads_of (kept c)) nr set (stop - 0)) in
      sym (left_new (judge_stop nr (length set) stop 0) (f (begun c x)) (begun c x) (sym (stop_right nr (length set) stop 0 lent.long h (omega arith))))
      ∙ ap₂ holding (mark_kept c)
      (sym (reads_kept (λ (reads : ℕ → ℕ). advance reads nr set (stop - 0) s₀) c)
      ∙ ap (λ (n : ℕ). advance (reads_of c) nr set n s₀) (let z : stop - 0 ≡ stop = omega arith in z))

  -- The answer is what stands at the end.
  pub answer_is : (block : List ℕ) → length block ≡ 16 → walked_over c nr set x block ≡ (state_from (reads_of c) nr set x (lookups nr)).standing
  unfolding block_left
  answer_is block room =
      let s : State = state_from (reads_of c) nr set x (lookups nr) in
      ap (λ (w : Held). block_left nr (fetch block) (handed nr (to_stop set (lookups nr)) w)) (started_is c x lent.block)
      ∙ ap (block_left nr (fetch block)) (moved (lookups nr) (le_refl (lookups nr)))
      ∙ sym (left_new (judge_fetch nr (length block) s.count) s.standing block
      (sym (count_right nr (length block) s.count room (state_count (reads_of c) nr set x lent (lookups nr) (le_refl (lookups nr))))))
