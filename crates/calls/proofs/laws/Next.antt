-- Laws, not definitions: the statement of specs/Next.antt. A move to the count plus one is one lookup over the part at the count's table.
-- Assumes nothing.
use mathlib.Core.List.{List}
use mathlib.Core.Path.{◌≡◌, sym, ap, ◌∙◌}
use Prim.Native.Nat.{ℕ, suc, ◌-◌, ◌<◌}
use native.Mathlib.Omega.{arith}
use lib.ListN.{length, length-take, length-drop}
use Rattle.answers.specs.Answers.{reply_of}
use Rattle.answers.proofs.laws.Tests.{left_new}
use Rattle.layout.specs.Ciphers.{reads_of}
use Rattle.layout.specs.Stages.{lookups, set_bytes, table_size}
use Rattle.layout.proofs.laws.Instance.{ends_in_tables}
use Rattle.layout.proofs.laws.Lookup.{tables_in_set}
use Rattle.calls.specs.Calls.{Held, table_part, changed, to_stop, step, advance, answer, handed, judge_stop, judge_one}
use Rattle.calls.specs.Next.{NextMove, OneIsNext}
use Rattle.calls.proofs.laws.Calls.{one_handed, step_count}
use Rattle.calls.proofs.laws.Judged.{stop_right, table_right}
use Rattle.answers.specs.Answer.{Accepted}

module _ (nr : ℕ) (mem : List ℕ) (long : length mem ≡ set_bytes nr) (w : Held) (left : w.state.count < lookups nr) where
  abbrev n : ℕ
  n = w.state.count

  abbrev t : List ℕ
  t = table_part nr mem n

  abbrev reads : ℕ → ℕ
  reads = reads_of w.mark.cipher

  part_long : length t ≡ table_size nr n
  part_long = simp (length-take, length-drop) (omega (arith, ends_in_tables nr n left, tables_in_set nr))

  one_accepted : judge_one nr (length t) n ≡ Accepted
  one_accepted = sym (table_right nr (length t) n left part_long)

  pub stop_accepted : judge_stop nr (length mem) (suc n) n ≡ Accepted
  stop_accepted = sym (stop_right nr (length mem) (suc n) n long left (omega arith))

  stop_handed : handed nr (to_stop mem (suc n)) w ≡ changed (step reads nr t) w
  unfolding handed advance
  stop_handed =
      sym (left_new _ (changed (advance reads nr mem (suc n - n)) w) w stop_accepted)
      ∙ ap (λ (k : ℕ). changed (advance reads nr mem k) w) (let e : suc n - n ≡ 1 = omega arith in e)

  next_move : NextMove nr mem t w
  unfolding answer
  next_move =
      record {
        one = ap reply_of one_accepted;
        to_stop_lem = ap reply_of stop_accepted;
        same = one_handed nr t w one_accepted ∙ sym stop_handed;
        next = ap (λ (v : Held). v.state.count) (one_handed nr t w one_accepted) ∙ step_count reads nr t w.state left;
      }

pub one_is_next : OneIsNext
one_is_next = next_move
