-- Laws, not definitions: the statements of specs/Made.antt. An answer of several causes is accepted where each is; the set is its tables one after the
-- other; and the rest is demand 2.
-- Assumes nothing.
use mathlib.Core.Bool.{not}
use mathlib.Core.List.{List}
use mathlib.Core.Path.{◌≡◌, refl, sym, ap, ◌∙◌, subst}
use Prim.Native.Nat.{ℕ}
use borrow.Author.Tests.{lt-ltb}
use lib.ListN.{length}
use Rattle.answers.specs.declared.Refusal.TheVariants.{TableNumber, SetLength}
use Rattle.answers.proofs.laws.Tests.{second_decides, test_passes, length_right, left_new}
use Rattle.bits.specs.Bytes.{Bytes}
use Rattle.round.specs.Key.{rounds_of}
use Rattle.layout.specs.Stages.{lookups, set_bytes, table_size}
use Rattle.calls.specs.Calls.{table_part}
use Rattle.whitebox.specs.Bundles.{made_set, made_table}
use Rattle.whitebox.specs.Demand2.{WalkIsCipher}
use Rattle.whitebox.specs.Demand3.{Given}
use Rattle.whitebox.proofs.laws.Demands.{demand2_for}
use Rattle.whitebox.proofs.laws.Joined.{made_in_set}
use Rattle.whitebox.proofs.laws.RoundTrip.{round_trip_for}
use Rattle.tables.specs.Calls.{judged_for, set_answer_for, table_answer_for, set_left}
use Rattle.tables.specs.Made.{GivenBySet, GivenByTable, SetOfGiven, TableOfGiven, MadeWalkIsCipher, MadeSetsGiveBack, TableOfSet, MadeFor, Made}
use Rattle.tables.proofs.laws.Calls.{judged_by, Lent, set_lent, table_lent, table_inside}
use Rattle.answers.specs.Answer.{Accepted}

-- ---- a given key and bundle, and the judgement of both
given : (nk : ℕ) (key l : List ℕ) → Bytes key → Bytes l → Lent nk (length key) l → Given nk key l
given nk key l k b lent = record { long = lent.long; key_bytes = k; bundle_bytes = b; judged = lent.judged }

judged_given : (nk : ℕ) (key l : List ℕ) → Given nk key l → judged_for nk (length key) l ≡ Accepted
judged_given nk key l g = sym (judged_by nk (length key) l g.long (sym g.judged))

pub given_by_set : (nk : ℕ) → GivenBySet nk
given_by_set nk key l memory k b e = given nk key l k b (set_lent nk (length key) l memory e)

pub given_by_table : (nk : ℕ) → GivenByTable nk
given_by_table nk key l n memory k b e = given nk key l k b (table_lent nk (length key) l n memory e)

pub set_of_given : (nk : ℕ) → SetOfGiven nk
unfolding set_answer_for
set_of_given nk key l g =
    sym (length_right (set_bytes (rounds_of nk)) (set_bytes (rounds_of nk)) SetLength refl ∙ second_decides _ _ (judged_given nk key l g))

pub table_of_given : (nk : ℕ) → TableOfGiven nk
unfolding table_answer_for
table_of_given nk key l n g h =
    let number = test_passes _ TableNumber (ap not (lt-ltb n (lookups (rounds_of nk)) h)) in
    let long = length_right (table_size (rounds_of nk) n) (table_size (rounds_of nk) n) SetLength refl in
    sym (long ∙ second_decides _ _ (sym number) ∙ second_decides _ _ (judged_given nk key l g))

-- ---- demand 2 of the bytes that are left
pub walk_is_cipher : (nk : ℕ) → MadeWalkIsCipher nk
walk_is_cipher nk c key l held b lent k bytes e block room =
    let g = given_by_set nk key l (length held) k bytes e in
    let left : made_set c nk key l ≡ set_left c nk key l held = left_new _ (made_set c nk key l) held e in
    subst (λ (set : List ℕ). WalkIsCipher c nk key l set b lent) left (demand2_for nk c key l b lent g.long k bytes g.judged block room)

-- ---- the round trip
pub sets_give_back : (nk : ℕ) → MadeSetsGiveBack nk
sets_give_back nk i i' key l l' held held' x lent lent' away away' k bytes bytes' e e' crossed presented room room' =
    let g = given_by_set nk key l (length held) k bytes e in
    let g' = given_by_set nk key l' (length held') k bytes' e' in
    let left : made_set 0 nk key l ≡ set_left 0 nk key l held = left_new _ (made_set 0 nk key l) held e in
    let left' : made_set i' nk key l' ≡ set_left i' nk key l' held' = left_new _ (made_set i' nk key l') held' e' in
    rw (sym left, sym left') (round_trip_for nk i i' key l l' x lent lent' away away' g g' crossed presented room room')

-- ---- one table
pub table_of_set : (nk : ℕ) → TableOfSet nk
table_of_set nk c key l n held one e f =
    sym (left_new _ (made_table c nk key l n) one f)
    ∙ sym ((made_in_set nk c key l).part n (table_inside nk (length key) l n (length one) f))
    ∙ ap (λ (set : List ℕ). table_part (rounds_of nk) set n) (left_new _ (made_set c nk key l) held e)

-- ---- all of them
pub made_for : (nk : ℕ) → MadeFor nk
made_for nk =
    record {
      given_by_set = given_by_set nk;
      given_by_table = given_by_table nk;
      set_of_given = set_of_given nk;
      table_of_given = table_of_given nk;
      walk_is_cipher = walk_is_cipher nk;
      sets_give_back = sets_give_back nk;
      table_of_set = table_of_set nk;
    }

pub made : Made
made = made_for 4
