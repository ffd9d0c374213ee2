-- What the calls of src/walk.rt ensure: their contracts cite these records, at ten rounds, and so does every statement about calls in code. Each result is an
-- equation with a definition of crate calls, specs/Calls.antt. Definitions only.
use Rattle.std.specs.Prelude.{List, ◌≡◌, ℕ, ◌-◌, ◌<◌, length}
use Rattle.answers.specs.declared.Refusal.{Refusal}
use Rattle.layout.specs.Stages.{nowhere}
use Rattle.calls.specs.Calls.{Call, judge_start, started, fetch, answer, handed, passed_on, block_left}
use Rattle.calls.specs.PlaceRead.{InTable}
use Rattle.evaluate.specs.Held.{held}
use Rattle.evaluate.specs.declared.walk.Move.{Move}
use Rattle.evaluate.specs.declared.walk.Opening.{Opening}
use Rattle.evaluate.specs.declared.walk.Walk.{Walk}
use Rattle.answers.specs.Answer.{Answer, Refused}

-- `start` for the cipher c over this block hands back r.
pub record Opens (c : ℕ) (block : List ℕ) (r : Opening) : Type 0 where
  pub answer : r.answer ≡ judge_start (length block)
  pub walk : held r.walk ≡ started c block

module _ (nr : ℕ) where
  -- `move_to` or `move_one`, as the call c, of the walk w hands back r.
  pub record Moves (c : Call) (w : Walk) (r : Move) : Type 0 where
    pub answer : r.answer ≡ answer nr c (held w)
    pub walk : held r.walk ≡ handed nr c (held w)
    pub offset : r.offset ≡ passed_on nr c (held w)
    -- What the code's types add to these equations: standing bytes and area are bytes, so where lookups were made the offset lies in the last one's table.
    pub inside : w.count < r.walk.count → InTable nr (r.walk.count - 1) r.offset

  -- A move of the walk w that is refused, as the private function `refused` hands it back.
  pub record Refuses (refusal : Refusal) (w : Walk) (r : Move) : Type 0 where
    pub answer : r.answer ≡ Refused refusal
    pub walk : r.walk ≡ w
    pub offset : r.offset ≡ nowhere nr

  -- `fetch` from the walk w into a block that held `lent` answers r, and the block is `left` afterwards. The walk stays with the caller.
  pub record Fetches (lent : List ℕ) (w : Walk) (r : Answer) (left : List ℕ) : Type 0 where
    pub answer : r ≡ answer nr (fetch lent) (held w)
    pub block : left ≡ block_left nr (fetch lent) (held w)
