-- Laws, not definitions: a chain of calls in code answers as the list of its calls does, for any number of rounds. A call that meets its contract answers
-- what that list has it answer, and leaves the walk that it says; the rest is an induction. And a walk of the code is known by what it holds.
-- Assumes nothing.
use mathlib.Core.List.{List, [], ◌∷◌, map}
use mathlib.Core.Path.{◌≡◌, refl, ap, ap₂, ◌∙◌}
use Prim.Native.Nat.{ℕ}
use Rattle.answers.specs.Answers.{reply_of}
use Rattle.calls.specs.Calls.{Held, Served, reply, handed, passed_on, block_left, serve, last_walk}
use Rattle.calls.proofs.laws.Served.{served}
use Rattle.evaluate.specs.Held.{held}
use Rattle.evaluate.specs.Chains.{CallMade, move_to, move_one, fetched, call_of, walk_after, served_by, Meets, Serves, ChainServes}
use Rattle.evaluate.specs.declared.walk.Walk.{Walk}

-- ---- two walks that hold the same are the same
-- The code's walk is all that is held.
unheld : Held → Walk
unheld h = record { cipher = h.mark.cipher; count = h.state.count; standing = h.state.standing; area = h.state.area }

pub same_walk : (v w : Walk) → held v ≡ held w → v ≡ w
unfolding unheld
same_walk v w e = ap unheld e

module _ (nr : ℕ) where
  -- ---- one call
  answers : (w : Walk) (m : CallMade) → Meets nr w m
      → let c = call_of m in
      served_by nr w m ≡ record { reply = reply nr c (held w); walk = handed nr c (held w); offset = passed_on nr c (held w); block = block_left nr c (held w) }
  unfolding block_left handed passed_on
  answers w (move_to set stop r) h = served (ap reply_of h.answer) h.walk h.offset refl
  answers w (move_one table r) h = served (ap reply_of h.answer) h.walk h.offset refl
  answers w (fetched lent r left) h = served (ap reply_of h.answer) refl refl h.block

  leaves : (w : Walk) (m : CallMade) → Meets nr w m → held (walk_after w m) ≡ handed nr (call_of m) (held w)
  unfolding handed
  leaves w (move_to set stop r) h = h.walk
  leaves w (move_one table r) h = h.walk
  leaves w (fetched lent r left) h = refl

  -- ---- a chain of them
  pub chain_serves : ChainServes nr
  unfolding serve last_walk
  chain_serves w [] h = record { answers = refl; last = refl }
  chain_serves w (m ∷ ms) h =
      let rest : Serves nr (walk_after w m) ms = chain_serves (walk_after w m) ms h.1 in
      let next = leaves w m h.0 in
      record {
        answers = ap₂ (λ (s : Served) (ss : List Served). s ∷ ss) (answers w m h.0) (rest.answers ∙ ap (λ (v : Held). serve nr v (map call_of ms)) next);
        last = rest.last ∙ ap (λ (v : Held). last_walk nr v (map call_of ms)) next;
      }
