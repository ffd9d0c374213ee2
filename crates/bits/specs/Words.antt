-- How the code holds a vector of up to 128 bits: as two words of 64 bits. Definitions only.
use Rattle.std.specs.Prelude.{ℕ, ◌+◌, ◌*◌, ◌^◌}
use Rattle.bits.specs.declared.vector.Vector.{Vector}

-- The number of two words, and of a `Vector` of the code.
unfoldable pub wide : ℕ → ℕ → ℕ
wide hi lo = hi * 2 ^ 64 + lo

abbrev pub value : Vector → ℕ
value v = wide v.hi v.lo
