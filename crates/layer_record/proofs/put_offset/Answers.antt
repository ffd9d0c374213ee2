-- `layer_record::put_offset` meets its contract: the library's four bytes of the lowest 32 bits are those of the offset.
-- Assumes nothing.
use mathlib.Core.Path.{◌≡◌, ◌∙◌}
use Prim.Native.Nat.{◌/◌, ◌%◌}
use native.Mathlib.Omega.{arith}
use Rattle.bits.specs.Bytes.{bytes_of}
use Rattle.bits.specs.Groups.{group}
use Rattle.bits.specs.Lists.{tabulate}
use Rattle.layer_record.proofs.put_offset.Goals as goal

pub returns : goal.returns
unfolding bytes_of tabulate group
returns c =
    let v = c.args.offset in
    let first : v % 4294967296 / 16777216 % 256 ≡ v / 16777216 % 256 = omega arith in
    let second : v % 4294967296 / 65536 % 256 ≡ v / 65536 % 256 = omega arith in
    let third : v % 4294967296 / 256 % 256 ≡ v / 256 % 256 = omega arith in
    let fourth : v % 4294967296 % 256 ≡ v / 1 % 256 = omega arith in
    c.copy_from_slice.ensures.after ∙ c.to_be_bytes.ensures ∙ rw (first, second, third, fourth)
