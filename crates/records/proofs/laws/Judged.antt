-- Laws, not definitions: the answer of both calls, test by test, where the code has the sizes of a set as numbers and the answer for set and block.
-- Assumes nothing.
use mathlib.Core.Path.{◌≡◌, refl, sym, ap, ◌∙◌}
use Prim.Native.Nat.{ℕ, ◌*◌}
use Rattle.answers.specs.Answers.{wants_length}
use Rattle.answers.specs.declared.Refusal.{Refusal}
use Rattle.answers.specs.declared.Refusal.TheVariants.{RecordLength}
use Rattle.answers.proofs.laws.Tests.{both, first_refuses, second_decides, length_wrong, length_right, length_was}
use Rattle.layout.proofs.laws.Lookup.{Sizes}
use Rattle.calls.specs.Calls.{judge_whole}
use Rattle.passes.proofs.laws.Judged as passes
use Rattle.layer_record.specs.Entries.{entry_size}
use Rattle.records.specs.Record.{record_bytes}
use Rattle.records.specs.Replay.{judge_record}
use Rattle.answers.specs.Answer.{Answer, Accepted, Refused}

-- ---- behind the answer w for set and block
module _ (nr set block rec : ℕ) {w : Answer} (e : w ≡ judge_whole nr set block) where
  pub bad_whole : {r : Refusal} → w ≡ Refused r → Refused r ≡ judge_record nr set block rec
  unfolding judge_record
  bad_whole f = first_refuses _ _ _ (sym e ∙ f)

  by_last : w ≡ Accepted → wants_length (record_bytes nr) rec RecordLength ≡ judge_record nr set block rec
  unfolding judge_record
  by_last f = second_decides _ _ (sym e ∙ f)

module _ {nr count bytes : ℕ} (N : Sizes nr count bytes) where
  bytes_are : record_bytes nr ≡ count * entry_size
  bytes_are = ap (λ (n : ℕ). n * entry_size) N.all_lookups

  module _ (set block rec : ℕ) where
    pub bad_record : {w : Answer} → w ≡ judge_whole nr set block → w ≡ Accepted → (rec ≡ count * entry_size → ⊥) → Refused RecordLength ≡ judge_record nr set block rec
    bad_record e f n = length_wrong (record_bytes nr) rec RecordLength (λ g. n (g ∙ bytes_are)) ∙ by_last nr set block rec e f

    pub good : {w : Answer} → w ≡ judge_whole nr set block → w ≡ Accepted → rec ≡ count * entry_size → Accepted ≡ judge_record nr set block rec
    good e f g = length_right (record_bytes nr) rec RecordLength (g ∙ sym bytes_are) ∙ by_last nr set block rec e f

    -- Where it is accepted, the lengths are right.
    pub lengths_were : {a : Answer} → a ≡ judge_record nr set block rec → a ≡ Accepted → (set ≡ bytes) × (block ≡ 16) × (rec ≡ count * entry_size)
    unfolding judge_record
    lengths_were e f =
        let tests = both (judge_whole nr set block) _ (sym e ∙ f) in
        let whole = passes.lengths_were N set block refl tests.first in
        (whole.0, whole.1, length_was (record_bytes nr) rec RecordLength tests.second ∙ bytes_are)
