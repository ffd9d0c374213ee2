-- Laws, not definitions: the answer for the lengths of a whole set and a block, test by test, where the code has the sizes of a set as numbers.
-- Assumes nothing.
use mathlib.Core.Path.{◌≡◌, sym, ◌∙◌}
use Prim.Native.Nat.{ℕ}
use Rattle.answers.specs.Answers.{wants_length}
use Rattle.answers.specs.declared.Refusal.TheVariants.{SetLength, BlockLength}
use Rattle.answers.proofs.laws.Tests.{both, first_refuses, second_decides, length_wrong, length_right, length_was}
use Rattle.layout.specs.Stages.{set_bytes}
use Rattle.layout.proofs.laws.Lookup.{Sizes}
use Rattle.calls.specs.Calls.{judge_whole}
use Rattle.answers.specs.Answer.{Answer, Accepted, Refused}

module _ {nr count bytes : ℕ} (N : Sizes nr count bytes) (set block : ℕ) where
  pub bad_set : (set ≡ bytes → ⊥) → Refused SetLength ≡ judge_whole nr set block
  unfolding judge_whole
  bad_set n = first_refuses _ _ _ (sym (length_wrong (set_bytes nr) set SetLength (λ e. n (e ∙ N.all_bytes))))

  module _ (e : set ≡ bytes) where
    by_block : wants_length 16 block BlockLength ≡ judge_whole nr set block
    unfolding judge_whole
    by_block = second_decides _ _ (sym (length_right (set_bytes nr) set SetLength (e ∙ sym N.all_bytes)))

    pub bad_block : (block ≡ 16 → ⊥) → Refused BlockLength ≡ judge_whole nr set block
    bad_block n = length_wrong 16 block BlockLength n ∙ by_block

    pub good : block ≡ 16 → Accepted ≡ judge_whole nr set block
    good f = length_right 16 block BlockLength f ∙ by_block

  -- Where it is accepted, the lengths are right.
  pub lengths_were : {a : Answer} → a ≡ judge_whole nr set block → a ≡ Accepted → (set ≡ bytes) × (block ≡ 16)
  unfolding judge_whole
  lengths_were e f =
      let tests = both _ _ (sym e ∙ f) in
      (length_was (set_bytes nr) set SetLength tests.first ∙ N.all_bytes, length_was 16 block BlockLength tests.second)
