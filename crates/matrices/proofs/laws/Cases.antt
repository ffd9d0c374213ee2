-- Laws, not definitions: the starred case of specs/Cases.antt, computed.
-- Assumes nothing.
use mathlib.Core.Path.{refl}
use lib.Count.{ones}
use Rattle.bits.specs.Groups.{joined}
use Rattle.bits.specs.Vectors.{dot}
use Rattle.matrices.specs.Cases.{Cases}
use Rattle.matrices.specs.Matrices.{product_by}

pub cases : Cases
unfolding product_by joined dot ones
cases = record { reversed = refl }
