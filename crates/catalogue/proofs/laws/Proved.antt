-- Laws, not definitions: the statements of specs/Theorems.antt, and the entry that the call gives.
-- Assumes nothing.
use mathlib.Core.Bool.{not}
use mathlib.Core.List.{List, [], ◌∷◌}
use mathlib.Core.Path.{◌≡◌, refl, sym, ap, ◌∙◌}
use Prim.Native.Nat.{ℕ, zero, suc, ◌<◌, ◌≤◌}
use native.Mathlib.Decide.{dec_lt}
use native.Mathlib.Omega.{arith}
use borrow.Author.Tests.{lt-ltb, le-ltb}
use lib.ListN.{length}
use Rattle.answers.specs.Answers.{reply_of}
use Rattle.answers.specs.declared.Refusal.{Refusal}
use Rattle.answers.specs.declared.Refusal.TheVariants.{CataloguePosition}
use Rattle.answers.proofs.laws.Tests.{test_refuses, test_passes}
use Rattle.bits.specs.Lists.{at}
use Rattle.catalogue.specs.Catalogue.{side, catalogue, catalogue_length, element_at, catalogue_entry, entry_answer, judge_position}
use Rattle.catalogue.specs.Promises.{Gives}
use Rattle.catalogue.specs.Theorems.{EntriesGiven, Catalogued}
use Rattle.catalogue.proofs.laws.Numbered.{numbered, sixteen_bits}
use Rattle.catalogue.proofs.laws.Listed.{sound, complete, rising}
use Rattle.catalogue.proofs.laws.Unranking.{long}
use Rattle.catalogue.specs.Catalogue.{Entry}
use Rattle.std.specs.Prelude.{Ok, Err}

-- ---- the entry at a position
entry_inside : (l : List ℕ) (p : ℕ) → p < length l → element_at l p ≡ Ok (at l p)
unfolding element_at
entry_inside [] p h = absurd (omega arith)
entry_inside (x ∷ xs) zero h = refl
entry_inside (x ∷ xs) (suc p) h = entry_inside xs p (omega arith)

entry_beyond : (l : List ℕ) (p : ℕ) → length l ≤ p → element_at l p ≡ Err CataloguePosition
unfolding element_at
entry_beyond [] p h = refl
entry_beyond (x ∷ xs) zero h = absurd (omega arith)
entry_beyond (x ∷ xs) (suc p) h = entry_beyond xs p (omega arith)

pub entry_given : (p : ℕ) → p < catalogue_length → catalogue_entry p ≡ Ok (at catalogue p)
entry_given p h = entry_inside catalogue p (omega (arith, long))

pub entry_refused : (p : ℕ) → catalogue_length ≤ p → catalogue_entry p ≡ Err CataloguePosition
entry_refused p h = entry_beyond catalogue p (omega (arith, long))

-- ---- the call's contract, beyond the list and below its length
pub gives_refused : (p : ℕ) → catalogue_length ≤ p → Gives p (Err CataloguePosition)
unfolding judge_position
gives_refused p h = record {
  result = sym (entry_refused p h);
  reply = ap reply_of (test_refuses _ CataloguePosition (ap not (le-ltb p catalogue_length h)));
}

pub gives_matrix : (p : ℕ) {v : ℕ} → p < catalogue_length → v ≡ at catalogue p → Gives p (Ok v)
unfolding judge_position
gives_matrix p h e = record {
  result = ap Ok e ∙ sym (entry_given p h);
  reply = ap reply_of (test_passes _ CataloguePosition (ap not (lt-ltb p catalogue_length h)));
}

-- ---- what an entry tells of its position
abbrev number : Entry → ℕ
number (Ok v) = v
number (Err why) = 0

abbrev refusal : Entry → Refusal
refusal (Ok v) = CataloguePosition
refusal (Err why) = why

no_matrix : {why : Refusal} {v : ℕ} → Err why ≡ Ok v → ⊥
no_matrix e = let z : ◌≡◌ {A = ℕ} 0 1 = cc in omega arith

-- An entry that is refused: its position is 20,160 or more.
pub refused_beyond : (p : ℕ) {why : Refusal} → catalogue_entry p ≡ Err why → catalogue_length ≤ p
refused_beyond p e = elim (dec_lt p catalogue_length) [
  | yes h ↦ absurd (no_matrix (sym e ∙ entry_given p h))
  | no h ↦ omega arith
]

-- An entry that is given: its position is below 20,160, and it is the element there.
module _ (p : ℕ) {v : ℕ} (e : catalogue_entry p ≡ Ok v) where
  pub given_inside : p < catalogue_length
  given_inside = elim (dec_lt p catalogue_length) [
    | yes h ↦ h
    | no h ↦ absurd (no_matrix (sym (entry_refused p (omega arith)) ∙ e))
  ]

  pub given_number : at catalogue p ≡ v
  given_number = ap number (sym (entry_given p given_inside) ∙ e)

given_rising : (p q v w : ℕ) → p < q → catalogue_entry p ≡ Ok v → catalogue_entry q ≡ Ok w → v < w
given_rising p q v w l e f = omega (arith, rising side p q l (omega (arith, given_inside q f, long)), given_number p e, given_number q f)

calls : EntriesGiven
calls = record {
  sixteen_bits = sixteen_bits;
  long = long;
  given = entry_given;
  beyond = λ p h. ap (λ (e : Entry). reply_of (entry_answer e)) (entry_refused p h);
  within = λ p h. ap (λ (e : Entry). reply_of (entry_answer e)) (entry_given p h);
  only_cause = λ p why e. (ap refusal (sym e ∙ entry_refused p (refused_beyond p e)), refused_beyond p e);
  sound = λ p v e. rw (given_number p e) at (sound side p (omega (arith, given_inside p e, long)));
  complete = λ m s I.
      let P = complete side m s I in
      (P.position, entry_given P.position (omega (arith, P.inside, long)) ∙ ap Ok P.number);
  rising = given_rising;
  once = λ p q v e f. elim (dec_lt p q) [
    | yes l ↦ absurd (omega (arith, given_rising p q v v l e f))
    | no l ↦ elim (dec_lt q p) [
      | yes m ↦ absurd (omega (arith, given_rising q p v v m f e))
      | no m ↦ omega arith
    ]
  ];
}

pub catalogued : Catalogued
catalogued = record { numbered = numbered; sound = sound; complete = complete; rising = rising; calls = calls }
