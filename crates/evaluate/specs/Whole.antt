-- A whole walk in code: a start, one move to the last count and a fetch, each known by its contract alone (Promises.antt). Definition, and the statement, which
-- proofs/laws/Whole.antt proves.
use Rattle.std.specs.Prelude.{List, ◌≡◌, ℕ}
use Rattle.layout.specs.Stages.{lookups}
use Rattle.calls.specs.Calls.{to_stop, walked_over}
use Rattle.evaluate.specs.Promises.{Opens, Moves, Fetches}
use Rattle.evaluate.specs.declared.walk.Move.{Move}
use Rattle.evaluate.specs.declared.walk.Opening.{Opening}
use Rattle.answers.specs.Answer.{Answer}

-- A start for the cipher c over the block x, one move over the memory `set` to the last count, a fetch that left `left` in the lent block
pub record WalkMade (c nr : ℕ) (set x lent left : List ℕ) : Type 0 where
  pub opening : Opening
  pub move : Move
  pub answer : Answer
  pub opens : Opens c x opening
  pub moves : Moves nr (to_stop set (lookups nr)) opening.walk move
  pub fetches : Fetches nr lent move.walk answer left

-- What the fetch left is what demand 2 speaks of (whitebox/specs/Demand2.antt).
abbrev pub WholeWalk : ℕ → Type 0
WholeWalk nr = (c : ℕ) (set x lent left : List ℕ) → WalkMade c nr set x lent left → left ≡ walked_over c nr set x lent
