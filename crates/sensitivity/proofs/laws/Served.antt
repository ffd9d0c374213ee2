-- Laws, not definitions: a bit that no lookup reads makes no difference to any list of calls. Over a memory with the same states as `set` at every count, the walk at
-- each count is known: it is the walk over `set`. So a list of calls answers what is due by these walks (crate calls), whichever of the two memories it is lent. And
-- lists of calls that are alike are due the same: of an answer that is due, the count tells the walk and the offset, and all else is seen.
-- Assumes nothing.
use mathlib.Core.List.{List, [], ◌∷◌, map}
use mathlib.Core.Path.{◌≡◌, refl, sym, ap, ◌∙◌}
use Prim.Native.Nat.{ℕ, suc, ◌≤◌, ◌<◌}
use native.Mathlib.Omega.{arith}
use lib.ListN.{length}
use Rattle.bits.specs.Flips.{flipped}
use Rattle.network.specs.Lookups.{State, state_at, zero_area}
use Rattle.layout.specs.Ciphers.{reads_of}
use Rattle.layout.specs.Stages.{lookups, set_bytes}
use Rattle.calls.specs.Calls.{marked, Held, holding, Call, table_part, step, advance, state_from, started, Served, serve}
use Rattle.calls.specs.PlainCount.{args_of, plain, block_due, offset_due, due_served, Alike, Seen, seen}
use Rattle.calls.proofs.laws.Calls.{mark_kept, advance_last}
use Rattle.calls.proofs.laws.Kept.{reads_kept}
use Rattle.calls.proofs.laws.Served.{Known, serve_is, alike_seen}
use Rattle.sensitivity.specs.Theorems.{Lendable, LentOver, OthersAloneInCalls}
use Rattle.sensitivity.proofs.laws.Calls.{flipped_lent, started_is}
use Rattle.sensitivity.proofs.laws.Unread.{state_count, others_alone}

-- ---- the walks over `set` from a block
module _ (c nr : ℕ) (set x : List ℕ) (lent : Lendable nr set x) where
  abbrev state : ℕ → State
  state k = state_from (reads_of c) nr set x k

  -- The state at count n. Beyond the last lookup, where no walk comes, the count n stands in it too.
  abbrev S : ℕ → State
  S n = state_at n (state n).standing (state n).area

  abbrev W : ℕ → Held
  W n = holding (marked c) (S n)

  abbrev end : List ℕ
  end = (state (lookups nr)).standing

  is_state : (n : ℕ) → n ≤ lookups nr → S n ≡ state n
  is_state n h = ap (λ (k : ℕ). state_at k (state n).standing (state n).area) (sym (state_count (reads_of c) nr set x lent n h))

  -- ---- over a memory with the same states
  module _ (mem : List ℕ) (long : length mem ≡ set_bytes nr) (same : (k : ℕ) → k ≤ lookups nr → state_from (reads_of c) nr mem x k ≡ state k) where
    -- The lookup at count n leaves the state at the next.
    next : (n : ℕ) → n < lookups nr → step (reads_of c) nr (table_part nr mem n) (S n) ≡ S (suc n)
    next n h =
        ap (step (reads_of c) nr (table_part nr mem n)) (is_state n (omega arith))
        ∙ ap (λ (k : ℕ). step (reads_of c) nr (table_part nr mem k) (state n)) (sym (state_count (reads_of c) nr set x lent n (omega arith)))
        ∙ ap (λ (s : State). step (reads_of c) nr (table_part nr mem s.count) s) (sym (same n (omega arith)))
        ∙ sym (advance_last (reads_of c) nr mem n (state_at 0 x zero_area))
        ∙ same (suc n) h
        ∙ sym (is_state (suc n) h)

    known : Known (marked c) nr (table_part nr mem) mem S end
    known =
        record {
          keeps = mark_kept c;
          counts = λ n. refl;
          steps = λ n h. sym (reads_kept (λ (reads : ℕ → ℕ). step reads nr (table_part nr mem n) (S n)) c) ∙ next n h;
          ends = refl;
          parts = λ n h. refl;
          long = long;
        }

    answers : (cs : List Call) → LentOver nr mem cs → serve nr (started c x) cs ≡ due_served nr W end 0 cs
    unfolding advance
    answers cs over = ap (λ (w : Held). serve nr w cs) (started_is c x lent.block) ∙ serve_is known cs 0 (omega arith) over

  -- ---- two lists of calls that are alike: the answers that are due, back from what is seen of them
  abbrev served_of : ℕ → Seen → Served
  served_of n s = record { reply = s.reply; walk = W s.count; offset = offset_due nr W end n s.count; block = s.block }

  unfoldable answers_of : ℕ → List Seen → List Served
  answers_of n [] = []
  answers_of n (s ∷ rest) = served_of n s ∷ answers_of s.count rest

  answers_back : (cs : List Call) (n : ℕ) → answers_of n (map seen (due_served nr W end n cs)) ≡ due_served nr W end n cs
  unfolding answers_of due_served
  answers_back [] n = refl
  answers_back (a ∷ cs) n =
      let p = plain nr (args_of a) n in
      let first : Seen = record { reply = p.reply; count = p.count; block = block_due nr W end a n } in
      ap (λ (rest : List Served). served_of n first ∷ rest) (answers_back cs p.count)

  alike_due : (cs cs' : List Call) → Alike cs cs' → due_served nr W end 0 cs ≡ due_served nr W end 0 cs'
  alike_due cs cs' alike =
      sym (answers_back cs 0)
      ∙ ap (answers_of 0) (alike_seen nr W W end end (λ n. refl) (λ n. refl) refl cs cs' 0 alike)
      ∙ answers_back cs' 0

-- ---- a memory with a bit turned over that no lookup reads
pub others_in_calls : OthersAloneInCalls
others_in_calls c nr set x lent i unread cs cs' alike over over' =
    answers c nr set x lent (flipped set i) (flipped_lent nr set x lent i).long (others_alone (reads_of c) nr set x lent i unread) cs' over'
    ∙ sym (alike_due c nr set x lent cs cs' alike)
    ∙ sym (answers c nr set x lent set lent.long (λ k h. refl) cs over)
