-- `next_bit::search::search` meets its contract. The loop's invariant, `Seeking` of `laws.Search`: the first n lookups of the walk have left the standing bytes and the
-- area, and all bits that they read lie before `from`. At the start n is a lookup whose table begins at or before `from`, as `first_lookup` ensures, and the walk from
-- the block was moved there: set and block are of bytes, so that each lookup reads in its table, and those before n read no bit at or behind `from` (`seeking_moved`).
-- A turn makes lookup n, whose place is one of the set, and its words have at most 16 bytes, so that its bits are far below 2^64: where its first bit
-- lies behind `from` that is the next (`seeking_first`), where `from` is one of its bits `from` is (`seeking_here`), else they are passed (`seeking_next`); behind the
-- last lookup none is left (`seeking_all`).
-- Assumes nothing.
use Prim.Native.Nat.{◌<◌}
use Rattle.layout.specs.Stages.{most_bytes_of}
use Rattle.layout.proofs.laws.Lookup.{own_sizes}
use Rattle.layout.proofs.laws.Rounds.{most_bytes}
use Rattle.sensitivity.specs.Theorems.{Lendable}
use Rattle.passes.proofs.laws.Walking.{read_in_set}
use Rattle.next_bit.proofs.laws.Search.{seeking_moved, seeking_first, seeking_here, seeking_next, seeking_all}
use native.Mathlib.Omega.{arith}
use Rattle.next_bit.proofs.search.search.Goals as goal

pub loop-n-init : goal.loop-n-init
loop-n-init c =
    let lent : Lendable c.args.rounds c.args.set.now c.args.block.now = record {
      long = c.requires.0;
      bytes = λ i. (c.type_inv.set i).fits;
      block = record { long = c.requires.1; bytes = λ i. (c.type_inv.block i).fits };
    } in
    seeking_moved own_sizes lent c.first_lookup-stop.ensures.0 c.first_lookup-stop.ensures.1 c.start-opening.ensures c.to_stop-moved.ensures

pub overflow_mul-first : goal.overflow_mul-first
overflow_mul-first c =
    let below : c.look_up-read.result.offset < most_bytes_of = omega (arith, read_in_set c.look_up-read.ensures, most_bytes _ c.requires.2) in
    omega (arith, below)

pub overflow_add-first : goal.overflow_add-first
overflow_add-first c =
    let below : c.look_up-read.result.offset < most_bytes_of = omega (arith, read_in_set c.look_up-read.ensures, most_bytes _ c.requires.2) in
    omega (arith, below, c.look_up-read.ensures.half)

pub returns-then-from-first : goal.returns-then-from-first
returns-then-from-first c =
    seeking_first c.loop-n.invariant own_sizes (omega arith) c.look_up-read.ensures (search)

pub overflow_add-end : goal.overflow_add-end
overflow_add-end c =
    let below : c.look_up-read.result.offset < most_bytes_of = omega (arith, read_in_set c.look_up-read.ensures, most_bytes _ c.requires.2) in
    omega (arith, below, c.look_up-read.ensures.half, c.bits_of.ensures.1)

pub returns-then-from-end : goal.returns-then-from-end
returns-then-from-end c =
    seeking_here c.loop-n.invariant own_sizes (omega arith) c.look_up-read.ensures c.bits_of.ensures.0 (search) (search)

pub loop-n-preserved : goal.loop-n-preserved
loop-n-preserved c =
    seeking_next c.loop-n.invariant own_sizes (omega arith) c.look_up-read.ensures c.bits_of.ensures.0 (search)

pub returns : goal.returns
returns c =
    seeking_all c.loop-n.invariant own_sizes (omega arith)
