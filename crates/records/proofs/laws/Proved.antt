-- Laws, not definitions: the statements of specs/Theorems.antt and Cases.antt.
-- Assumes nothing.
use mathlib.Core.Path.{refl, sym, ap}
use Prim.Native.Nat.{ℕ, ◌*◌}
use native.Mathlib.Omega.{arith}
use Rattle.answers.specs.Answers.{reply_of}
use Rattle.bits.specs.Lists.{concat}
use Rattle.network.specs.Lookups.{state_at, zero_area}
use Rattle.layout.specs.Stages.{lookups}
use Rattle.layout.proofs.laws.Cases.{starred}
use Rattle.layout.proofs.laws.Lookup.{own_sizes}
use Rattle.calls.specs.Calls.{advance}
use Rattle.calls.proofs.laws.Kept.{reads_kept}
use Rattle.passes.proofs.laws.Judged.{bad_set, bad_block, good as whole_good}
use Rattle.layer_record.specs.Entries.{entry_size, written}
use Rattle.records.specs.Cases.{Numbers}
use Rattle.records.specs.Record.{entry_next, record_of}
use Rattle.records.specs.Theorems.{TestsInOrder, RecordsShaped, RecordsAndReplays}
use Rattle.records.proofs.laws.Calls.{replay_answers}
use Rattle.records.proofs.laws.Exact.{record_long, record_entry, replays_exact}
use Rattle.records.proofs.laws.Judged.{bad_whole, bad_record, good}
use Rattle.records.proofs.laws.Values.{values_put_down}
use Rattle.records.proofs.laws.Written.{refused_leaves, written_is_own, written_of_moves}

-- ---- the tests
tests_in_order : TestsInOrder
tests_in_order nr set block rec =
    let N = own_sizes {nr = nr} in
    record {
      set_first = λ n. ap reply_of (sym (bad_whole nr set block rec (bad_set N set block n) refl));
      block_second = λ e n. ap reply_of (sym (bad_whole nr set block rec (bad_block N set block e n) refl));
      record_third = λ e f n. ap reply_of (sym (bad_record N set block rec (whole_good N set block e f) refl n));
      none = λ e f g. sym (good N set block rec (whole_good N set block e f) refl g);
    }

-- ---- the record
records_shaped : RecordsShaped
unfolding record_of
records_shaped c nr set block = record {
  long = record_long c nr set block;
  entries = record_entry c nr set block;
  named =
      sym (reads_kept (λ f. concat (lookups nr) (λ k. written (entry_next f nr set (advance f nr set k (state_at 0 block zero_area))))) c);
}

pub records_and_replays : RecordsAndReplays
records_and_replays = record {
  tests = tests_in_order;
  answers = replay_answers;
  refused = refused_leaves;
  shaped = records_shaped;
  exact = replays_exact;
  own = written_is_own;
  moves = written_of_moves;
  values = values_put_down;
}

-- ---- the numbers
pub numbers : Numbers
numbers = record { entry = refl; bytes = ap (λ (n : ℕ). n * entry_size) starred.all_lookups; in_code = refl; four_bytes = omega (arith, starred.table_bytes) }
