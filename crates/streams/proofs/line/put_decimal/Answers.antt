-- `streams::line::put_decimal` meets its contract: the fewest digits that hold the number are the number in decimal (`number_put` of `laws.Digits`). There are at
-- most ten of them (`few_digits`).
-- Assumes nothing.
use mathlib.Core.Path.{sym}
use Prim.Native.Nat.{◌≤◌}
use native.Mathlib.Omega.{arith}
use lib.Seq.{length-take-le}
use Rattle.streams.specs.Lines.{number_room}
use Rattle.streams.proofs.laws.Digits.{few_digits, number_put}
use Rattle.streams.proofs.line.put_decimal.Goals as goal

pub write_digits-requires-clause-room : goal.write_digits-requires-clause-room
write_digits-requires-clause-room c = few_digits c.args.n c.digit_count-k.result (omega arith) c.digit_count-k.ensures

pub slice_bounds-digits-end : goal.slice_bounds-digits-end
slice_bounds-digits-end c =
    let few : c.digit_count-k.result ≤ number_room = few_digits c.args.n c.digit_count-k.result (omega arith) c.digit_count-k.ensures in
    omega (arith, few, c.write_digits.auto.out)

pub slice_bounds-put-end : goal.slice_bounds-put-end
slice_bounds-put-end c =
    let few : c.digit_count-k.result ≤ number_room = few_digits c.args.n c.digit_count-k.result (omega arith) c.digit_count-k.ensures in
    sym (length-take-le c.digit_count-k.result c.write_digits.new.out (omega (arith, few, c.write_digits.auto.out)))

pub returns : goal.returns
returns c =
    let few : c.digit_count-k.result ≤ number_room = few_digits c.args.n c.digit_count-k.result (omega arith) c.digit_count-k.ensures in
    number_put _ _ c.write_digits.new.out c.digit_count-k.ensures c.write_digits.ensures few c.put.ensures
