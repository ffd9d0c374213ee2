-- Laws, not definitions: what the call from a block to its answer returns and leaves.
-- Assumes nothing.
use mathlib.Core.List.{List}
use mathlib.Core.Path.{◌≡◌, sym, ◌∙◌}
use Prim.Native.Nat.{ℕ}
use lib.ListN.{length}
use Rattle.answers.specs.Answers.{wants_length}
use Rattle.answers.specs.declared.Refusal.{Refusal}
use Rattle.answers.specs.declared.Refusal.TheVariants.{BlockLength}
use Rattle.answers.proofs.laws.Tests.{first_refuses, second_decides, length_wrong, length_right, left_new, left_old}
use Rattle.layout.specs.Stages.{lookups}
use Rattle.calls.specs.Calls.{to_stop, judge_whole}
use Rattle.evaluate.specs.Promises.{Opens, Moves, Fetches}
use Rattle.evaluate.specs.Whole.{WalkMade}
use Rattle.evaluate.specs.declared.walk.Move.{Move}
use Rattle.evaluate.specs.declared.walk.Opening.{Opening}
use Rattle.evaluate.proofs.laws.Whole.{whole_walk}
use Rattle.one_call.specs.Walks.{walk_answer_for, walk_leaves_for}
use Rattle.answers.specs.Answer.{Answer, Accepted, Refused}

-- ---- The answer, test by test, behind the answer w for set and block.
module _ (nr set block answer : ℕ) {w : Answer} (e : w ≡ judge_whole nr set block) where
  pub bad_whole : {r : Refusal} → w ≡ Refused r → Refused r ≡ walk_answer_for nr set block answer
  unfolding walk_answer_for
  bad_whole f = first_refuses _ _ _ (sym e ∙ f)

  by_last : w ≡ Accepted → wants_length 16 answer BlockLength ≡ walk_answer_for nr set block answer
  unfolding walk_answer_for
  by_last f = second_decides _ _ (sym e ∙ f)

  pub bad_answer : w ≡ Accepted → (answer ≡ 16 → ⊥) → Refused BlockLength ≡ walk_answer_for nr set block answer
  bad_answer f n = length_wrong 16 answer BlockLength n ∙ by_last f

  pub good : w ≡ Accepted → answer ≡ 16 → Accepted ≡ walk_answer_for nr set block answer
  good f l = length_right 16 answer BlockLength l ∙ by_last f

-- ---- What the call, by a walk for the cipher c, leaves of the lent answer, where the code has the answer a.
module _ (nr c : ℕ) (set block lent : List ℕ) {a : Answer} (e : a ≡ walk_answer_for nr (length set) (length block) (length lent)) where
  pub walk_refused : {r : Refusal} → a ≡ Refused r → lent ≡ walk_leaves_for nr c set block lent
  unfolding walk_leaves_for
  walk_refused {r} f = left_old _ r _ lent (sym e ∙ f)

  -- Accepted, it leaves demand 2's block, by what the three calls ensure; the move's stop is the number of all lookups.
  pub walk_done : a ≡ Accepted → {stop : ℕ} → lookups nr ≡ stop → {o : Opening} {m : Move} {b : Answer} {left : List ℕ} → Opens c block o
      → Moves nr (to_stop set stop) o.walk m → Fetches nr lent m.walk b left → left ≡ walk_leaves_for nr c set block lent
  unfolding walk_leaves_for
  walk_done f all {o} {m} {b} {left} s h k =
      let made : WalkMade c nr set block lent left = record { opening = o; move = m; answer = b; opens = s; moves = rw all h; fetches = k } in
      whole_walk nr c set block lent left made ∙ left_new _ _ lent (sym e ∙ f)
