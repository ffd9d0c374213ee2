-- `next_bit::search::first_lookup` meets its contract: the entry's tables begin at byte 0 (`first_offset` of layout's `laws.Instance`), those of the halves of the rounds
-- and of the exit behind them in steps of a half's bytes (`half_offset` of `laws.Skipped`), which the quotient rounds down to.
-- Assumes nothing.
use Prim.Native.Nat.{◌-◌, ◌/◌}
use Rattle.layout.proofs.laws.Ranges.{lookups_are}
use Rattle.layout.proofs.laws.Instance.{first_offset}
use Rattle.layout.specs.Stages.{half_bytes, first_byte_of}
use Rattle.layout.specs.declared.stage.Stage.TheVariants.{First}
use Rattle.next_bit.proofs.laws.Skipped.{half_offset, exit_offset}
use native.Mathlib.Omega.{arith}
use Rattle.next_bit.proofs.search.first_lookup.Goals as goal

pub returns-then-byte-lt-FIRST_HALF_START : goal.returns-then-byte-lt-FIRST_HALF_START
returns-then-byte-lt-FIRST_HALF_START c =
    (omega arith, omega (arith, first_offset c.args.rounds))

pub returns-then-byte-exit_start : goal.returns-then-byte-exit_start
returns-then-byte-exit_start c =
    let nr = c.args.rounds in
    (omega (arith, lookups_are nr), omega (arith, half_offset nr ((c.args.byte - first_byte_of nr (First 1)) / half_bytes) (omega arith)))

pub returns : goal.returns
returns c =
    let nr = c.args.rounds in
    (omega (arith, lookups_are nr), exit_offset nr _ _ (search) (omega arith))
