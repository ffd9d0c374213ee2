-- Laws, not definitions: what start, moves and fetch are answered, by the tests of document 01's table "Turned down", one law for each outcome.
-- Assumes nothing.
use mathlib.Core.Bool.{Bool, ◌||◌}
use mathlib.Core.Path.{◌≡◌, sym, ◌∙◌}
use Prim.Native.Nat.{ℕ, ◌≤◌, ◌<◌}
use native.Mathlib.Decide.{ℕ_discrete, dec_lt}
use native.Mathlib.Omega.{arith}
use lib.Dec.{ltb}
use borrow.Author.Tests.{lt-ltb, le-ltb}
use Rattle.answers.specs.Answers.{refused_if, wants_length}
use Rattle.answers.specs.declared.Refusal.{Refusal}
use Rattle.answers.specs.declared.Refusal.TheVariants.{SetLength, BlockLength, Stop, Unfinished}
use Rattle.answers.proofs.laws.Tests.{differ, first_refuses, second_decides, test_refuses, test_passes, length_wrong, length_right, length_was}
use Rattle.layout.specs.Stages.{lookups, set_bytes, table_size}
use Rattle.calls.specs.Calls.{judge_start, judge_stop, judge_one, judge_fetch}
use Rattle.answers.specs.Answer.{Accepted, Refused}

-- ---- start: the length of the block
module _ (len : ℕ) where
  pub presented_wrong : (len ≡ 16 → ⊥) → Refused BlockLength ≡ judge_start len
  unfolding judge_start
  presented_wrong n = length_wrong 16 len BlockLength n

  pub presented_right : len ≡ 16 → Accepted ≡ judge_start len
  unfolding judge_start
  presented_right l = length_right 16 len BlockLength l

  pub presented_was : judge_start len ≡ Accepted → len ≡ 16
  unfolding judge_start
  presented_was e = length_was 16 len BlockLength e

-- ---- a move to a stop: the length of the set, then the stop
module _ (nr len stop count : ℕ) where
  pub set_wrong : (len ≡ set_bytes nr → ⊥) → Refused SetLength ≡ judge_stop nr len stop count
  unfolding judge_stop
  set_wrong n = first_refuses _ _ SetLength (sym (length_wrong (set_bytes nr) len SetLength n))

  module _ (l : len ≡ set_bytes nr) where
    abbrev bad : Bool
    bad = ltb (lookups nr) stop || ltb stop count

    stop_decides : refused_if bad Stop ≡ judge_stop nr len stop count
    unfolding judge_stop
    stop_decides = second_decides _ _ (sym (length_right (set_bytes nr) len SetLength l))

    pub stop_above : lookups nr < stop → Refused Stop ≡ judge_stop nr len stop count
    stop_above h = test_refuses bad Stop (rw (lt-ltb (lookups nr) stop h)) ∙ stop_decides

    pub stop_below : stop ≤ lookups nr → stop < count → Refused Stop ≡ judge_stop nr len stop count
    stop_below h b = test_refuses bad Stop (rw (le-ltb (lookups nr) stop h, lt-ltb stop count b)) ∙ stop_decides

    pub stop_right : stop ≤ lookups nr → count ≤ stop → Accepted ≡ judge_stop nr len stop count
    stop_right h b = test_passes bad Stop (rw (le-ltb (lookups nr) stop h, le-ltb stop count b)) ∙ stop_decides

-- ---- a move of one lookup: whether one is left, then the length of its table
module _ (nr len count : ℕ) where
  pub none_left : lookups nr ≤ count → Refused Stop ≡ judge_one nr len count
  unfolding judge_one
  none_left h = rw (le-ltb count (lookups nr) h)

  module _ (h : count < lookups nr) where
    table_decides : wants_length (table_size nr count) len SetLength ≡ judge_one nr len count
    unfolding judge_one
    table_decides = rw (lt-ltb count (lookups nr) h)

    pub table_wrong : (len ≡ table_size nr count → ⊥) → Refused SetLength ≡ judge_one nr len count
    table_wrong n = length_wrong _ len SetLength n ∙ table_decides

    pub table_right : len ≡ table_size nr count → Accepted ≡ judge_one nr len count
    table_right l = length_right _ len SetLength l ∙ table_decides

-- What a move of one lookup was lent, by what it was answered.
pub record Right (nr len n : ℕ) : Type 0 where
  pub inside : n < lookups nr
  pub long : len ≡ table_size nr n

pub accepted_was : (nr len n : ℕ) → judge_one nr len n ≡ Accepted → Right nr len n
accepted_was nr len n e = go (dec_lt n (lookups nr)) (ℕ_discrete len (table_size nr n))
  where
    go : Dec (n < lookups nr) → Dec (len ≡ table_size nr n) → Right nr len n
    go (no a) b = differ (sym e ∙ sym (none_left nr len n (omega arith)))
    go (yes a) (no b) = differ (sym e ∙ sym (table_wrong nr len n a b))
    go (yes a) (yes b) = record { inside = a; long = b }

pub record Wrong (nr len n : ℕ) (r : Refusal) : Type 0 where
  pub long : len ≡ table_size nr n → ⊥
  pub cause : r ≡ SetLength

pub refused_was : (nr len n : ℕ) {r : Refusal} → n < lookups nr → judge_one nr len n ≡ Refused r → Wrong nr len n r
refused_was nr len n {r} h e = go (ℕ_discrete len (table_size nr n))
  where
    go : Dec (len ≡ table_size nr n) → Wrong nr len n r
    go (no b) =
        let same : Refused r ≡ Refused SetLength = sym e ∙ sym (table_wrong nr len n h b) in
        record { long = b; cause = cc }
    go (yes b) = differ (table_right nr len n h b ∙ e)

-- ---- fetch: the length of the block, then the count
module _ (nr len count : ℕ) where
  pub block_wrong : (len ≡ 16 → ⊥) → Refused BlockLength ≡ judge_fetch nr len count
  unfolding judge_fetch
  block_wrong n = first_refuses _ _ BlockLength (sym (length_wrong 16 len BlockLength n))

  module _ (l : len ≡ 16) where
    count_decides : wants_length (lookups nr) count Unfinished ≡ judge_fetch nr len count
    unfolding judge_fetch
    count_decides = second_decides _ _ (sym (length_right 16 len BlockLength l))

    pub count_wrong : (count ≡ lookups nr → ⊥) → Refused Unfinished ≡ judge_fetch nr len count
    count_wrong n = length_wrong _ count Unfinished n ∙ count_decides

    pub count_right : count ≡ lookups nr → Accepted ≡ judge_fetch nr len count
    count_right e = length_right _ count Unfinished e ∙ count_decides
