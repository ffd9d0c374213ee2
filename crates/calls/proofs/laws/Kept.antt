-- Laws, not definitions: the statements of specs/Kept.antt. What is chosen for a number is chosen for the number that is kept of it.
-- Assumes nothing.
use mathlib.Core.List.{List}
use mathlib.Core.Path.{◌≡◌, refl, sym, ap}
use Prim.Native.Nat.{ℕ, ◌-◌}
use native.Mathlib.Omega.{arith}
use lib.ListN.{length}
use Rattle.answers.specs.Answers.{accepted, reply_of, if_accepted}
use Rattle.answers.proofs.laws.Tests.{left_back}
use Rattle.network.specs.Lookups.{State}
use Rattle.layout.specs.Ciphers.{kept, reads_of, inv_shifted}
use Rattle.layout.specs.Stages.{shifted, nowhere}
use Rattle.layout.proofs.laws.Ciphers.{kept_names}
use Rattle.calls.specs.Calls.{kept_mark, Held, holding, changed, Call, to_stop, one_lookup, fetch, step, advance, answer, handed, block_left}
use Rattle.calls.specs.Calls.{judge_stop, judge_one, reply, read_next, last_offset, passed_on}
use Rattle.calls.specs.Kept.{with_kept, ActsAsKept, MovesHandBackKept, RefusedLeaves, NotRefusedForCipher}
use Rattle.answers.specs.Answer.{Answer, Accepted, Refused}

-- ---- a walk with any number: f are the lookups that it makes, f' those of the walk with the number kept
either_way : (a : Answer) (f f' : State → State) (w : Held) → f w.state ≡ f' w.state
    → with_kept (if_accepted a (changed f w) w) ≡ if_accepted a (changed f' (with_kept w)) (with_kept w)
either_way Accepted f f' w e = ap (holding (kept_mark (kept_mark w.mark))) e
either_way (Refused r) f f' w e = refl

-- The lookups of a move, by the cipher that is read for.
abbrev lookups_to : ℕ → List ℕ → ℕ → Held → ℕ → State → State
lookups_to nr mem stop w c = advance (reads_of c) nr mem (stop - w.state.count)

abbrev lookup_over : ℕ → List ℕ → ℕ → State → State
lookup_over nr mem c = step (reads_of c) nr mem

-- The number kept reads as the number does.
pub reads_kept : {A : Type 0} (f : (ℕ → ℕ) → A) (c : ℕ) → f (reads_of c) ≡ f (reads_of (kept c))
reads_kept f c = ap f (sym (kept_names c shifted inv_shifted))

pub acts_as_kept : ActsAsKept
unfolding answer handed passed_on block_left
acts_as_kept nr (to_stop mem stop) w =
    let f = lookups_to nr mem stop w in
    record {
      same_reply = refl;
      same_offset =
          reads_kept (λ reads. if_accepted (answer nr (to_stop mem stop) w) (last_offset reads nr mem (stop - w.state.count) w.state) (nowhere nr)) w.mark.cipher;
      same_block = refl;
      same_walk =
          either_way (judge_stop nr (length mem) stop w.state.count) (f w.mark.cipher) (f (kept w.mark.cipher)) w
          (reads_kept (λ reads. advance reads nr mem (stop - w.state.count) w.state) w.mark.cipher);
    }
acts_as_kept nr (one_lookup mem) w =
    let f = lookup_over nr mem in
    record {
      same_reply = refl;
      same_offset = reads_kept (λ reads. if_accepted (answer nr (one_lookup mem) w) (read_next reads nr w.state).offset (nowhere nr)) w.mark.cipher;
      same_block = refl;
      same_walk =
          either_way (judge_one nr (length mem) w.state.count) (f w.mark.cipher) (f (kept w.mark.cipher)) w
          (reads_kept (λ reads. step reads nr mem w.state) w.mark.cipher);
    }
acts_as_kept nr (fetch block) w = record { same_reply = refl; same_offset = refl; same_block = refl; same_walk = refl }

-- ---- an accepted move
kept_back : (a : Answer) (f : State → State) (w : Held) → reply_of a ≡ accepted → (if_accepted a (changed f w) w).mark.cipher ≡ kept w.mark.cipher
kept_back Accepted f w e = refl
kept_back (Refused r) f w e = let z : ◌≡◌ {A = ℕ} 0 1 = cc in absurd (omega arith)

pub moves_hand_back_kept : MovesHandBackKept
unfolding answer handed
moves_hand_back_kept nr w =
    record {
      to_stop_lem = λ mem stop e. kept_back (judge_stop nr (length mem) stop w.state.count) (lookups_to nr mem stop w w.mark.cipher) w e;
      one = λ mem e. kept_back (judge_one nr (length mem) w.state.count) (lookup_over nr mem w.mark.cipher) w e;
    }

-- ---- a refused call
pub refused_leaves : RefusedLeaves
unfolding answer handed
refused_leaves nr w = record { refused = refused; fetched = λ block. refl }
  where
    refused : (m : Call) → (reply nr m w ≡ accepted → ⊥) → handed nr m w ≡ w
    refused (to_stop mem stop) n = left_back (judge_stop nr (length mem) stop w.state.count) (changed (lookups_to nr mem stop w w.mark.cipher) w) w n
    refused (one_lookup mem) n = left_back (judge_one nr (length mem) w.state.count) (changed (lookup_over nr mem w.mark.cipher) w) w n
    refused (fetch block) n = refl

-- ---- the reply to a call
pub not_refused_for_cipher : NotRefusedForCipher
unfolding answer
not_refused_for_cipher nr (to_stop mem stop) c w = refl
not_refused_for_cipher nr (one_lookup mem) c w = refl
not_refused_for_cipher nr (fetch block) c w = refl
