-- How an answer is made from tests, what it says in the documents' numbers, and what a call leaves by it: document 01, "Turned down". Definitions
-- only.
use Rattle.std.specs.Prelude.{Bool, true, false, not, ℕ, eqb}
use Rattle.answers.specs.Numbers.{cause_of, second_of, joined}
use Rattle.answers.specs.declared.Refusal.{Refusal}
use Rattle.answers.specs.Answer.{Answer, Accepted, Refused}

-- One cause: refused where the test says so.
abbrev pub refused_if : Bool → Refusal → Answer
refused_if true r = Refused r
refused_if false r = Accepted

-- The same of a length that has to be a certain one.
abbrev pub wants_length : ℕ → ℕ → Refusal → Answer
wants_length due length r = refused_if (not (eqb length due)) r

-- "The lowest number that applies is given": causes stand one after the other in rising order, and the first that applies is the answer.
abbrev pub and_then : Answer → Answer → Answer
and_then Accepted later = later
and_then (Refused r) later = Refused r

-- What a call leaves: `new` where it is accepted, and where it is refused `old`, "left as it was".
abbrev pub if_accepted {ℓ} : {A : Type ℓ} → Answer → A → A → A
if_accepted Accepted new old = new
if_accepted (Refused r) new old = old

-- An answer in the documents' words: accepted, or the number of the cause and the number returned with it.
pub data Reply : Type 0 where
  accepted : Reply
  refused : ℕ → ℕ → Reply

abbrev pub reply_of : Answer → Reply
reply_of Accepted = accepted
reply_of (Refused r) = refused (cause_of r) (second_of r)

-- The number that a call for C returns with a reply: 0, or both numbers joined. It is `number_of` of the answer (`number_is` of proofs/laws/Numbers.antt).
abbrev pub returned : Reply → ℕ
returned accepted = 0
returned (refused cause second) = joined cause second
