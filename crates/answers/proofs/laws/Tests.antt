-- Laws, not definitions: an answer of several causes, one after the other, by what the code's tests found.
-- Assumes nothing.
use mathlib.Core.Bool.{Bool, true, false, not, ◌||◌}
use mathlib.Core.Path.{◌≡◌, refl, sym, ap, ◌∙◌}
use Prim.Native.Nat.{ℕ}
use lib.Dec.{eqb}
use native.Mathlib.Omega.{arith}
use borrow.Author.Tests.{eq-eqb, ne_eqb, eqb-true}
use Rattle.answers.specs.Answers.{accepted, reply_of, refused_if, wants_length, and_then, if_accepted}
use Rattle.answers.specs.declared.Refusal.{Refusal}
use Rattle.answers.specs.Answer.{Answer, Accepted, Refused}
use Rattle.std.specs.Prelude.{Result, Ok, Err, IsErrAnd}
use Rattle.std.proofs.lemmas.Result.{err_from_is_err_and}

-- ---- a test, and an answer, is one or the other
pub clash : (b : Bool) → b ≡ true → b ≡ false → ⊥
clash b e f = let z : ◌≡◌ {A = ℕ} 0 1 = cc in omega arith

-- One test or another.
pub or_left : (a b : Bool) → (a || b) ≡ false → a ≡ false
or_left true b e = e
or_left false b e = refl

pub or_right : (a b : Bool) → (a || b) ≡ false → b ≡ false
or_right true b e = let y : ◌≡◌ {A = ℕ} 0 1 = cc in absurd (omega arith)
or_right false b e = e

pub neither : (a b : Bool) → a ≡ false → b ≡ false → (a || b) ≡ false
neither true b e f = e
neither false b e f = f

pub differ : {r : Refusal} {A : Type 0} → Accepted ≡ Refused r → A
differ e = let z : ◌≡◌ {A = ℕ} 0 1 = cc in absurd (omega arith)

-- Only an accepted call has that reply.
pub reply_was : (a : Answer) → reply_of a ≡ accepted → a ≡ Accepted
reply_was Accepted e = refl
reply_was (Refused r) e = let z : ◌≡◌ {A = ℕ} 0 1 = cc in absurd (omega arith)

-- ---- the first answer refuses, or it accepts and the second decides
pub first_refuses : (a b : Answer) (r : Refusal) → a ≡ Refused r → Refused r ≡ and_then a b
first_refuses a b r e = ap (λ (x : Answer). and_then x b) (sym e)

pub second_decides : (a b : Answer) → a ≡ Accepted → b ≡ and_then a b
second_decides a b e = ap (λ (x : Answer). and_then x b) (sym e)

-- What holds of each answer that can be given, holds of the one that is.
pub by_test : (P : Answer → Type 0) (t : Bool) (r : Refusal) → (t ≡ true → P (Refused r)) → (t ≡ false → P Accepted) → P (refused_if t r)
by_test P true r h k = h refl
by_test P false r h k = k refl

-- An answer of two is accepted where both are.
pub record Both (a b : Answer) : Type 0 where
  pub first : a ≡ Accepted
  pub second : b ≡ Accepted

pub both : (a b : Answer) → and_then a b ≡ Accepted → Both a b
both Accepted b e = record { first = refl; second = e }
both (Refused r) b e = let z : ◌≡◌ {A = ℕ} 0 1 = cc in absurd (omega arith)

-- ---- answers one after the other
pub together : (a b c : Answer) → and_then (and_then a b) c ≡ and_then a (and_then b c)
together Accepted b c = refl
together (Refused r) b c = refl

pub accepted_last : (a : Answer) → and_then a Accepted ≡ a
accepted_last Accepted = refl
accepted_last (Refused r) = refl

-- What stands behind an answer matters only where it is accepted.
pub behind : (a : Answer) {b c : Answer} → (a ≡ Accepted → b ≡ c) → and_then a b ≡ and_then a c
behind Accepted h = h refl
behind (Refused r) h = refl

-- An accepted answer in front, or behind.
pub front : {a b c : Answer} → a ≡ Accepted → b ≡ c → and_then a b ≡ c
front {a} {b} e f = sym (second_decides a b e) ∙ f

pub back : {a b : Answer} → b ≡ Accepted → and_then a b ≡ a
back {a} e = ap (and_then a) e ∙ accepted_last a

-- ---- one test
pub test_refuses : (t : Bool) (r : Refusal) → t ≡ true → Refused r ≡ refused_if t r
test_refuses t r e = ap (λ (x : Bool). refused_if x r) (sym e)

pub test_passes : (t : Bool) (r : Refusal) → t ≡ false → Accepted ≡ refused_if t r
test_passes t r e = ap (λ (x : Bool). refused_if x r) (sym e)

pub passed : (t : Bool) (r : Refusal) → refused_if t r ≡ Accepted → t ≡ false
passed true r e = let z : ◌≡◌ {A = ℕ} 0 1 = cc in absurd (omega arith)
passed false r e = refl

-- A length.
pub length_wrong : (due length : ℕ) (r : Refusal) → (length ≡ due → ⊥) → Refused r ≡ wants_length due length r
length_wrong due length r h = test_refuses _ r (ap not (ne_eqb length due h))

pub length_right : (due length : ℕ) (r : Refusal) → length ≡ due → Accepted ≡ wants_length due length r
length_right due length r e = test_passes _ r (ap not (eq-eqb length due e))

pub length_was : (due length : ℕ) (r : Refusal) → wants_length due length r ≡ Accepted → length ≡ due
length_was due length r e = found (eqb length due) refl (passed _ r e)
  where
    found : (t : Bool) → eqb length due ≡ t → not (eqb length due) ≡ false → length ≡ due
    found true q n = eqb-true length due q
    found false q n = let z : ◌≡◌ {A = ℕ} 0 1 = cc in absurd (omega arith)

-- Two lengths for one cause, as of a block in and a block out.
module _ (due from to : ℕ) (r : Refusal) where
  abbrev Lengths : Answer
  Lengths = and_then (wants_length due from r) (wants_length due to r)

  pub from_wrong : (from ≡ due → ⊥) → Refused r ≡ Lengths
  from_wrong h = first_refuses _ _ r (sym (length_wrong due from r h))

  pub to_wrong : from ≡ due → (to ≡ due → ⊥) → Refused r ≡ Lengths
  to_wrong e h = length_wrong due to r h ∙ second_decides _ _ (sym (length_right due from r e))

  pub lengths_right : from ≡ due → to ≡ due → Accepted ≡ Lengths
  lengths_right e f = length_right due to r f ∙ second_decides _ _ (sym (length_right due from r e))

  pub lengths_were : Lengths ≡ Accepted → (from ≡ due) × (to ≡ due)
  lengths_were e = let b = both _ _ e in (length_was due from r b.first, length_was due to r b.second)

-- ---- a result has one value
value_in : {A E : Type 0} → A → Result A E → A
value_in d (Ok x) = x
value_in d (Err e) = d

pub same_value : {A E : Type 0} {v : Result A E} {x y : A} → v ≡ Ok x → v ≡ Ok y → x ≡ y
unfolding value_in
same_value {x = x} a b = ap (value_in x) (sym a ∙ b)

-- ---- what a `?` hands on, r, where the call before it was refused: the refusal of that call, and so its answer a
pub handed_on : {A P E : Type 0} {e : E} {r : Result A E} → P × IsErrAnd r (λ y. y ≡ e) → r ≡ Err e
handed_on {r = r} h = let e = err_from_is_err_and r h.1 in e.1 ∙ ap Err e.2

pub handed_back : {A P E : Type 0} {e : E} {a r : Result A E} → P × IsErrAnd r (λ y. y ≡ e) → a ≡ Err e → r ≡ a
handed_back h f = handed_on h ∙ sym f

-- ---- what a call leaves
pub left_new : {A : Type 0} (a : Answer) (new old : A) → a ≡ Accepted → new ≡ if_accepted a new old
left_new a new old e = ap (λ (x : Answer). if_accepted x new old) (sym e)

pub left_old : {A : Type 0} (a : Answer) (r : Refusal) (new old : A) → a ≡ Refused r → old ≡ if_accepted a new old
left_old a r new old e = ap (λ (x : Answer). if_accepted x new old) (sym e)

-- By the reply; and where both are the same.
pub left_back : {A : Type 0} (a : Answer) (new old : A) → (reply_of a ≡ accepted → ⊥) → if_accepted a new old ≡ old
left_back Accepted new old n = absurd (n refl)
left_back (Refused r) new old n = refl

pub left_either : {A : Type 0} (a : Answer) (x : A) → if_accepted a x x ≡ x
left_either Accepted x = refl
left_either (Refused r) x = refl

-- What is left by an answer, once more by the same.
pub twice : {T : Type 0} (a : Answer) (new old : T) → if_accepted a new old ≡ if_accepted a (if_accepted a new old) old
twice Accepted new old = refl
twice (Refused r) new old = refl

-- ---- a call that answers a, where the definition says A
module _ {a A : Answer} (e : a ≡ A) where
  -- Refused, it leaves the old; accepted, the new.
  pub refused_leaves : {T : Type 0} {r : Refusal} (new old : T) → a ≡ Refused r → (a ≡ A) × (old ≡ if_accepted A new old)
  refused_leaves {T} {r} new old f = (e, left_old A r new old (sym e ∙ f))

  pub accepted_leaves : {T : Type 0} {left : T} (new old : T) → a ≡ Accepted → left ≡ new → (a ≡ A) × (left ≡ if_accepted A new old)
  accepted_leaves new old f d = (e, d ∙ left_new A new old (sym e ∙ f))

  -- Behind it another answer, B. Refused, it is the answer of both, and the old is left.
  pub stops : {r : Refusal} → a ≡ Refused r → (B : Answer) → a ≡ and_then A B
  stops {r} f B = f ∙ first_refuses A B r (sym e ∙ f)

  pub keeps : {r : Refusal} → a ≡ Refused r → (B : Answer) {T : Type 0} (new old : T) → old ≡ if_accepted (and_then A B) new old
  keeps {r} f B new old = left_old _ r new old (sym (first_refuses A B r (sym e ∙ f)))

  -- Accepted, B decides.
  pub decides : a ≡ Accepted → (B : Answer) → B ≡ and_then A B
  decides f B = second_decides A B (sym e ∙ f)

  pub by_later : a ≡ Accepted → (B : Answer) {T : Type 0} (new old : T) → if_accepted B new old ≡ if_accepted (and_then A B) new old
  by_later f B new old = ap (λ (x : Answer). if_accepted x new old) (decides f B)
