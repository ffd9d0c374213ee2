-- `judgement::judge::judge_bundle` meets its contract. Frame, encodings, byte matrices, column matrices and block matrices are judged one after the
-- other, and the first refusal is the answer. Each way out has a law of `laws.Judging`, whose premises are what the judgements before it are:
-- `judge_frame`, `judge_encodings_lem`, `judge_bytes` and `judge_columns` where one refuses, `judge_blocks` where none did. What follows the frame is
-- judged only where the frame is accepted, as those judgements ask.
-- Assumes nothing.
use mathlib.Core.Path.{◌∙◌}
use Rattle.answers.proofs.laws.Tests.{handed_on}
use Rattle.judgement.proofs.laws.Judging.{judge_frame, judge_encodings_lem, judge_bytes, judge_columns, judge_blocks}
use Rattle.judgement.proofs.judge.judge_bundle.Goals as goal

pub returns-in_err-judge_frame : goal.returns-in_err-judge_frame
returns-in_err-judge_frame c =
    handed_on c.from_residual.ensures ∙ judge_frame _ _ c.judge_frame.ensures c.in_err-judge_frame.was

pub returns-in_err-judge_encodings : goal.returns-in_err-judge_encodings
returns-in_err-judge_encodings c =
    handed_on c.from_residual-in_err-judge_encodings.ensures
    ∙ judge_encodings_lem _ _ (search) c.in_ok-judge_frame.was c.judge_encodings.ensures c.in_err-judge_encodings.was

pub returns-in_err-judge_byte_matrices : goal.returns-in_err-judge_byte_matrices
returns-in_err-judge_byte_matrices c =
    handed_on c.from_residual-in_err-judge_byte_matrices.ensures
    ∙ judge_bytes _ _ (search) c.in_ok-judge_frame.was (search) c.in_ok-judge_encodings.was c.judge_byte_matrices.ensures c.in_err-judge_byte_matrices.was

pub returns-in_err-judge_column_matrices : goal.returns-in_err-judge_column_matrices
returns-in_err-judge_column_matrices c =
    handed_on c.from_residual-in_err-judge_column_matrices.ensures
    ∙ judge_columns _ _ (search) c.in_ok-judge_frame.was (search) c.in_ok-judge_encodings.was (search) c.in_ok-judge_byte_matrices.was
    c.judge_column_matrices.ensures c.in_err-judge_column_matrices.was

pub returns : goal.returns
returns c =
    judge_blocks _ _ (search) c.in_ok-judge_frame.was (search) c.in_ok-judge_encodings.was (search) c.in_ok-judge_byte_matrices.was
    (search) c.in_ok-judge_column_matrices.was c.judge_block_matrices.ensures
