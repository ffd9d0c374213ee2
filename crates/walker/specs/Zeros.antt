-- Document 01, "Programs": "Sixteen zero bytes and then 770,048 zero bytes print `00000000000000000000000000000000`." Proved in proofs/laws/Zeros.antt, from
-- the walk of zeros (crate calls, specs/Zeros.antt).
use Rattle.std.specs.Prelude.{◌++◌, ◌≡◌, replicate}
use Rattle.layout.specs.Stages.{set_bytes}
use Rattle.streams.specs.Lines.{newline}
use Rattle.walker.specs.Writes.{walker_writes}

-- 48 is the digit 0 in ASCII. That a set has 770,048 bytes is said in layout's Cases.antt.
abbrev pub PrintsZeros : Type 0
PrintsZeros = walker_writes 10 (replicate 16 0) (replicate (set_bytes 10) 0) ≡ replicate 32 48 ++ newline
