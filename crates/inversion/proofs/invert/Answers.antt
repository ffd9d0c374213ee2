-- `inversion::invert` is the elimination of rows in two words each, which any such row fits (`row_small` of `laws.Rows`).
-- Assumes nothing.
use Rattle.inversion.proofs.laws.Rows.{row_small}
use native.Mathlib.Omega.{arith}
use Rattle.inversion.proofs.invert.Goals as goal

pub invert-requires-clause-start : goal.invert-requires-clause-start
invert-requires-clause-start c = record {
  within = c.requires.0;
  rows = c.requires.1;
  room = omega arith;
  fit = λ i h. row_small _ i (λ j. (c.type_inv.a j).fits);
}
