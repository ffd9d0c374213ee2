-- `judgement::judge::judge_column_matrices` meets its contract. The section of the column matrices is searched for a bad one, and the judgement is the
-- refusal for what is found (`columns_judged` of `laws.Judging`): the first is refused (`found_refuses` of answers' `laws.Search`), and without one the
-- matrices are accepted (`found_passes`).
-- Assumes nothing.
use mathlib.Core.Path.{refl, ◌∙◌}
use Rattle.answers.specs.declared.Refusal.TheVariants.{ColumnMatrix}
use Rattle.answers.proofs.laws.Search.{found_refuses, found_passes}
use Rattle.bundle.specs.Format.{part_size}
use Rattle.judgement.proofs.laws.Judging.{columns_judged}
use native.Mathlib.Omega.{arith}
use Rattle.judgement.proofs.judge.judge_column_matrices.Goals as goal

pub first_bad_matrix-requires : goal.first_bad_matrix-requires
unfolding part_size
first_bad_matrix-requires c =
    record { framed = c.requires; there = omega arith; narrow = omega arith; square = refl }

pub returns-in-Some : goal.returns-in-Some
returns-in-Some c =
    found_refuses _ ColumnMatrix _ c.in-Some.is ∙ columns_judged _ _ c.first_bad_matrix.ensures

pub returns-in-None : goal.returns-in-None
returns-in-None c =
    found_passes _ ColumnMatrix c.in-None.is ∙ columns_judged _ _ c.first_bad_matrix.ensures
