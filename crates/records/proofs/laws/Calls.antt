-- Laws, not definitions: the answer in what a replay hands back; and what the two calls hand back and leave, where the code has the answer a for the lengths, for any
-- number nr of rounds.
-- Assumes nothing.
use mathlib.Core.List.{List}
use mathlib.Core.Path.{◌≡◌, refl, sym, ap, ◌∙◌}
use Prim.Native.Nat.{ℕ}
use lib.ListN.{length}
use Rattle.answers.specs.Answers.{reply_of}
use Rattle.answers.specs.Search.{first}
use Rattle.answers.specs.declared.Refusal.{Refusal}
use Rattle.answers.proofs.laws.Tests.{left_new, left_old}
use Rattle.layout.specs.Stages.{lookups}
use Rattle.layout.proofs.laws.Lookup.{Sizes}
use Rattle.records.specs.Promises.{Records, Replays}
use Rattle.records.specs.Record.{record_of}
use Rattle.records.specs.Replay.{judge_record, record_left, differs_at, verdict_by, verdict_answer, replayed}
use Rattle.records.specs.Theorems.{ReplayAnswers}
use Rattle.answers.specs.Answer.{Answer, Accepted, Refused}
use Rattle.records.specs.Replay.{Verdict}
use Rattle.std.specs.Prelude.{Ok, Err, Option}

-- ---- the answer in what a replay hands back
answered : (a : Answer) (f : Option ℕ) → verdict_answer (verdict_by a f) ≡ a
answered Accepted f = refl
answered (Refused r) f = refl

pub replay_answers : ReplayAnswers
unfolding replayed
replay_answers c nr set block rec = answered (judge_record nr (length set) (length block) (length rec)) (first (lookups nr) (differs_at c nr set block rec))

-- So a replay meets its contract where its verdict is the one due.
replays : (c nr : ℕ) (set block rec : List ℕ) {r : Verdict} → r ≡ replayed c nr set block rec → Replays c nr set block rec r
replays c nr set block rec e =
    record { result = e; reply = ap reply_of (ap verdict_answer e ∙ replay_answers c nr set block rec) }

module _ (c nr : ℕ) (set block l : List ℕ) {a : Answer} (e : a ≡ judge_record nr (length set) (length block) (length l)) where
  -- ---- the record of a walk, into memory that held l
  pub not_recorded : {why : Refusal} → a ≡ Refused why → Records c nr set block l a l
  unfolding record_left
  not_recorded {why} f = record { answer = e; bytes = left_old _ why _ l (sym e ∙ f) }

  pub recorded : {left : List ℕ} → a ≡ Accepted → left ≡ record_of c nr set block → Records c nr set block l a left
  unfolding record_left
  recorded f d = record { answer = e; bytes = d ∙ left_new _ _ l (sym e ∙ f) }

  -- ---- the replay of the record l
  judges : {b : Answer} → a ≡ b → (v : Option ℕ) → verdict_by b v ≡ verdict_by (judge_record nr (length set) (length block) (length l)) v
  judges f v = ap (λ (x : Answer). verdict_by x v) (sym f ∙ e)

  pub not_replayed : {why : Refusal} {r : Verdict} → a ≡ Refused why → r ≡ Err why → Replays c nr set block l r
  unfolding replayed
  not_replayed f d = replays c nr set block l (d ∙ judges f _)

  pub replay_done : {count bytes : ℕ} → Sizes nr count bytes → {f : Option ℕ} → a ≡ Accepted → f ≡ first count (differs_at c nr set block l)
      → Replays c nr set block l (Ok f)
  unfolding replayed
  replay_done N a d =
      replays c nr set block l (ap Ok (d ∙ ap (λ (n : ℕ). first n (differs_at c nr set block l)) (sym N.all_lookups)) ∙ judges a _)
