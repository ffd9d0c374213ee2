-- Laws, not definitions: the answer in what the call hands back; and what it hands back, where the code has the answer a for the lengths, for any number nr of rounds.
-- Assumes nothing.
use mathlib.Core.List.{List}
use mathlib.Core.Path.{◌≡◌, refl, sym, ap, ◌∙◌}
use Prim.Native.Nat.{ℕ}
use lib.ListN.{length}
use Rattle.answers.specs.Answers.{reply_of}
use Rattle.answers.specs.declared.Refusal.{Refusal}
use Rattle.layout.specs.Ciphers.{reads_of}
use Rattle.calls.specs.Calls.{judge_whole}
use Rattle.sensitivity.specs.Reads.{bits_read}
use Rattle.next_bit.specs.Promises.{Finds}
use Rattle.next_bit.specs.NextBit.{next_in, next_by, bit_answer, next_bit_of}
use Rattle.answers.specs.Answer.{Answer, Accepted, Refused}
use Rattle.next_bit.specs.NextBit.{NextBit}
use Rattle.std.specs.Prelude.{Ok, Err, Option}

-- ---- the answer in what is handed back
answered : (a : Answer) (r : Option ℕ) → bit_answer (next_by a r) ≡ a
answered Accepted r = refl
answered (Refused why) r = refl

pub next_answers : (c nr : ℕ) (set block : List ℕ) (from : ℕ) → bit_answer (next_bit_of c nr set block from) ≡ judge_whole nr (length set) (length block)
unfolding next_bit_of
next_answers c nr set block from =
    answered (judge_whole nr (length set) (length block)) (next_in (bits_read (reads_of c) nr set block) from)

-- So the call meets its contract where its result is the one due.
pub finds : (c nr : ℕ) (set block : List ℕ) (from : ℕ) {r : NextBit} → r ≡ next_bit_of c nr set block from → Finds c nr set block from r
finds c nr set block from e = record { result = e; reply = ap reply_of (ap bit_answer e ∙ next_answers c nr set block from) }

-- An accepted call hands back what the search finds.
pub next_accepted : (c nr : ℕ) (set block : List ℕ) (from : ℕ) → judge_whole nr (length set) (length block) ≡ Accepted
    → next_bit_of c nr set block from ≡ Ok (next_in (bits_read (reads_of c) nr set block) from)
unfolding next_bit_of
next_accepted c nr set block from ok = ap (λ (a : Answer). next_by a (next_in (bits_read (reads_of c) nr set block) from)) ok

-- ---- the call, by the answer for the lengths
module _ (c nr : ℕ) (set block : List ℕ) (from : ℕ) {a : Answer} (e : a ≡ judge_whole nr (length set) (length block)) where
  judges : {b : Answer} → a ≡ b → (r : Option ℕ) → next_by b r ≡ next_by (judge_whole nr (length set) (length block)) r
  judges f r = ap (λ (x : Answer). next_by x r) (sym f ∙ e)

  pub not_sought : {why : Refusal} {r : NextBit} → a ≡ Refused why → r ≡ Err why → Finds c nr set block from r
  unfolding next_bit_of
  not_sought f d = finds c nr set block from (d ∙ judges f _)

  pub sought : {r : Option ℕ} → a ≡ Accepted → r ≡ next_in (bits_read (reads_of c) nr set block) from → Finds c nr set block from (Ok r)
  unfolding next_bit_of
  sought f d = finds c nr set block from (ap Ok d ∙ judges f _)
