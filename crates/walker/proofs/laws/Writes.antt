-- Laws, not definitions: what the walker writes, by what its calls answered.
-- Assumes nothing.
use mathlib.Core.List.{List}
use mathlib.Core.Path.{◌≡◌}
use Prim.Native.Nat.{ℕ, ◌≤◌, ◌<◌}
use native.Mathlib.Omega.{arith}
use Rattle.answers.specs.declared.Refusal.{Refusal}
use Rattle.answers.specs.declared.Refusal.TheVariants.{SetLength}
use Rattle.answers.proofs.laws.Tests.{length_wrong, length_right}
use Rattle.layout.specs.Stages.{set_bytes}
use Rattle.evaluate.specs.Held.{held}
use Rattle.evaluate.specs.Promises.{Fetches}
use Rattle.evaluate.specs.declared.walk.Walk.{Walk}
use Rattle.streams.specs.Lines.{or_line, cause_line, answer_line}
use Rattle.streams.specs.Written.{Written}
use Rattle.walker.specs.Writes.{blank, behind_tables, line_of}
use Rattle.answers.specs.Answer.{Answer, Accepted, Refused}

-- ---- behind the last table
-- Nothing stands there in a set: that is used in the laws about the code's own numbers, and nowhere else.
pub none_behind : (nr : ℕ) → behind_tables nr ≡ 0
unfolding set_bytes
none_behind nr = omega arith

module _ (nr : ℕ) (w : Walk) (rest : ℕ) where
  pub line_too_long : {line left : List ℕ} {end : ℕ} → 0 < rest → Written (cause_line SetLength) line end left → Written (line_of nr (held w) rest) line end left
  unfolding line_of
  line_too_long h p = rw (← length_wrong (behind_tables nr) rest SetLength (λ e. omega (arith, none_behind nr))) p

  module _ (h : rest ≤ 0) {a : Answer} {block : List ℕ} (f : Fetches nr blank w a block) where
    by_fetch : or_line a cause_line (answer_line block) ≡ line_of nr (held w) rest
    unfolding line_of
    by_fetch = rw (← length_right (behind_tables nr) rest SetLength (omega (arith, none_behind nr)), f.answer, f.block)

    pub line_answer : {line left : List ℕ} {end : ℕ} → a ≡ Accepted → Written (answer_line block) line end left → Written (line_of nr (held w) rest) line end left
    line_answer e p = rw (← by_fetch, e) p

    pub line_refused : {r : Refusal} {line left : List ℕ} {end : ℕ} → a ≡ Refused r → Written (cause_line r) line end left → Written (line_of nr (held w) rest) line end left
    line_refused e p = rw (← by_fetch, e) p
