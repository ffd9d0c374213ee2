-- Laws, not definitions: what the calls answer, by the tests on the way, and the set or table that they leave; of keys
-- of nk words. `count` and `bytes` are the sizes of a set as the numbers that the code has.
-- Assumes nothing.
use mathlib.Core.Bool.{Bool, true, false, not}
use mathlib.Core.List.{List}
use mathlib.Core.Path.{◌≡◌, refl, sym, ap, ◌∙◌}
use Prim.Native.Nat.{ℕ, ◌*◌, ◌≤◌, ◌<◌}
use native.Mathlib.Omega.{arith}
use borrow.Author.Tests.{ltb-true, lt-ltb, le-ltb}
use lib.Dec.{ltb}
use Rattle.answers.specs.Answers.{refused_if, wants_length, and_then}
use Rattle.answers.specs.declared.Refusal.{Refusal}
use Rattle.answers.specs.declared.Refusal.TheVariants.{KeyLength, TableNumber, SetLength}
use Rattle.answers.proofs.laws.Tests.{first_refuses, second_decides, both, test_refuses, test_passes, passed, length_wrong, length_right, length_was, stops, decides}
use Rattle.round.specs.Key.{KeyExpansion, rounds_of}
use Rattle.judgement.specs.Judge.{judge}
use Rattle.layout.specs.Stages.{lookups, set_bytes, table_size, place_of}
use Rattle.layout.specs.declared.stage.Place.{Place}
use Rattle.layout.proofs.laws.Lookup.{Sizes}
use Rattle.whitebox.specs.Bundles.{made_table}
use Rattle.stages.specs.Table.{stage_table}
use Rattle.tables.specs.Calls.{judged_for, set_answer_for, table_answer_for}
use Rattle.keyed_tables.proofs.laws.Set.{table_made}
use Rattle.answers.specs.Answer.{Answer, Accepted, Refused}

-- What is made at the place of table n is table n of the set.
pub table_by_place : (c nk : ℕ) (key l dst : List ℕ) (n : ℕ) (q : Place) → q ≡ place_of (rounds_of nk) n → n < lookups (rounds_of nk)
    → dst ≡ stage_table c (rounds_of nk) (KeyExpansion nk key) l q.stage q.index → dst ≡ made_table c nk key l n
unfolding made_table
table_by_place c nk key l dst n q e h d = table_made (rounds_of nk) n q e _ _ dst h d

-- ---- causes 1 to 7
module _ (nk key : ℕ) (l : List ℕ) where
  pub judged_key : (key ≡ 4 * nk → ⊥) → Refused KeyLength ≡ judged_for nk key l
  unfolding judged_for
  judged_key h = first_refuses _ _ _ (sym (length_wrong (4 * nk) key KeyLength h))

  pub judged_by : {a : Answer} → key ≡ 4 * nk → a ≡ judge (rounds_of nk) l → a ≡ judged_for nk key l
  unfolding judged_for
  judged_by h e = e ∙ second_decides _ _ (sym (length_right (4 * nk) key KeyLength h))

-- ---- a call, whose answer a by key and bundle stays if it is a refusal; else another is given, by what the call is
-- asked for
module _ (nk key : ℕ) (l : List ℕ) {a : Answer} (e : a ≡ judged_for nk key l) where
  -- What was lent where it is none.
  pub lent_key : a ≡ Accepted → key ≡ 4 * nk
  unfolding judged_for
  lent_key d = length_was (4 * nk) key KeyLength (both _ _ (sym e ∙ d)).first

  pub lent_bundle : a ≡ Accepted → judge (rounds_of nk) l ≡ Accepted
  unfolding judged_for
  lent_bundle d = (both (wants_length (4 * nk) key KeyLength) _ (sym e ∙ d)).second

  -- The whole set, into a memory of that length.
  module _ (memory : ℕ) where
    pub set_refused : {r : Refusal} → a ≡ Refused r → a ≡ set_answer_for nk key l memory
    unfolding set_answer_for
    set_refused d = stops e d _

    module _ {count bytes : ℕ} (N : Sizes (rounds_of nk) count bytes) (d : a ≡ Accepted) where
      pub set_length : (memory ≡ bytes → ⊥) → Refused SetLength ≡ set_answer_for nk key l memory
      unfolding set_answer_for
      set_length h = length_wrong (set_bytes (rounds_of nk)) memory SetLength (λ f. h (f ∙ N.all_bytes)) ∙ decides e d _

      pub set_done : memory ≡ bytes → Accepted ≡ set_answer_for nk key l memory
      unfolding set_answer_for
      set_done h = length_right (set_bytes (rounds_of nk)) memory SetLength (h ∙ sym N.all_bytes) ∙ decides e d _

  -- Table n, into a memory of that length.
  module _ (n memory : ℕ) where
    pub table_refused : {r : Refusal} → a ≡ Refused r → a ≡ table_answer_for nk key l n memory
    unfolding table_answer_for
    table_refused d = stops e d _

    module _ {count bytes : ℕ} (N : Sizes (rounds_of nk) count bytes) (d : a ≡ Accepted) where
      pub table_number : count ≤ n → Refused TableNumber ≡ table_answer_for nk key l n memory
      unfolding table_answer_for
      table_number h =
          first_refuses _ _ _ (sym (test_refuses _ TableNumber (ap not (le-ltb n (lookups (rounds_of nk)) (omega (arith, N.all_lookups)))))) ∙ decides e d _

      module _ (h : n < count) {q : Place} (p : q ≡ place_of (rounds_of nk) n) where
        in_range : {later : Answer} → later ≡ and_then (refused_if (not (ltb n (lookups (rounds_of nk)))) TableNumber) later
        in_range = second_decides _ _ (sym (test_passes _ TableNumber (ap not (lt-ltb n (lookups (rounds_of nk)) (omega (arith, N.all_lookups))))))

        pub table_length : (memory ≡ q.size → ⊥) → Refused SetLength ≡ table_answer_for nk key l n memory
        unfolding table_answer_for
        table_length k = length_wrong (table_size (rounds_of nk) n) memory SetLength (rw p at k) ∙ in_range ∙ decides e d _

        pub table_done : memory ≡ q.size → Accepted ≡ table_answer_for nk key l n memory
        unfolding table_answer_for
        table_done k = length_right (table_size (rounds_of nk) n) memory SetLength (rw p at k) ∙ in_range ∙ decides e d _

-- ---- what an accepted call was lent: a key of nk words and an accepted bundle
pub record Lent (nk key : ℕ) (l : List ℕ) : Type 0 where
  pub long : key ≡ 4 * nk
  pub judged : judge (rounds_of nk) l ≡ Accepted

module _ (nk key : ℕ) (l : List ℕ) where
  by_judged : judged_for nk key l ≡ Accepted → Lent nk key l
  by_judged d = record { long = lent_key nk key l refl d; judged = lent_bundle nk key l refl d }

  pub set_lent : (memory : ℕ) → set_answer_for nk key l memory ≡ Accepted → Lent nk key l
  unfolding set_answer_for
  set_lent memory e = by_judged (both (judged_for nk key l) (wants_length (set_bytes (rounds_of nk)) memory SetLength) e).first

  module _ (n memory : ℕ) where
    abbrev numbered : Answer
    numbered = refused_if (not (ltb n (lookups (rounds_of nk)))) TableNumber

    abbrev sized : Answer
    sized = wants_length (table_size (rounds_of nk) n) memory SetLength

    pub table_lent : table_answer_for nk key l n memory ≡ Accepted → Lent nk key l
    unfolding table_answer_for
    table_lent e = by_judged (both (judged_for nk key l) (and_then numbered sized) e).first

    -- And the number of a table.
    pub table_inside : table_answer_for nk key l n memory ≡ Accepted → n < lookups (rounds_of nk)
    unfolding table_answer_for
    table_inside e =
        found (ltb n (lookups (rounds_of nk))) refl
        (passed _ TableNumber (both numbered sized (both (judged_for nk key l) (and_then numbered sized) e).second).first)
      where
        found : (t : Bool) → ltb n (lookups (rounds_of nk)) ≡ t → not (ltb n (lookups (rounds_of nk))) ≡ false → n < lookups (rounds_of nk)
        found true q d = ltb-true n (lookups (rounds_of nk)) q
        found false q d = let z : ◌≡◌ {A = ℕ} 0 1 = cc in absurd (omega arith)
