-- What a call that only accepts or refuses hands back, in the documents' words: accepted, or refused for a cause. Definitions only.
use Rattle.std.specs.Prelude.{Result, Ok, Err}
use Rattle.answers.specs.declared.Refusal.{Refusal}

abbrev pub Answer : Type 0
Answer = Result Unit Refusal

pattern abbrev pub Accepted : Answer
Accepted = Ok tt

pattern abbrev pub Refused : Refusal → Answer
Refused r = Err r

-- The answer in what a call hands back that gives more where it is accepted.
abbrev pub answer_in : {A : Type 0} → Result A Refusal → Answer
answer_in (Ok x) = Accepted
answer_in (Err r) = Refused r
