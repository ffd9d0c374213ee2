-- Laws, not definitions: the theorems of specs/Products.antt.
-- Assumes nothing.
use Rattle.bits.specs.Lists.{at}
use Rattle.matrices.specs.Products.{Bits, Bounded, Linear, Neutral}
use Rattle.matrices.proofs.laws.Matrices.{bit_product, product_lt, product_xor, product_identity}

pub bits : Bits
bits n m v i h = bit_product n (at m) v i h

pub bounded : Bounded
bounded n m v = product_lt n (at m) v

pub linear : Linear
linear n m x y = product_xor n (at m) x y

pub neutral : Neutral
neutral n v h = product_identity n v h
