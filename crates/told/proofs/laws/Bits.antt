-- Laws, not definitions: the statements of specs/Bits.antt, on what the next bit for C leaves behind the pointer.
-- Assumes nothing.
use mathlib.Core.List.{List}
use mathlib.Core.Path.{◌≡◌, refl, sym, ap, ◌∙◌}
use Prim.Native.Nat.{ℕ}
use native.Mathlib.Nat.{le_refl}
use native.Mathlib.Omega.{arith}
use lib.ListN.{length}
use Rattle.answers.proofs.laws.Tests.{differ, left_new}
use Rattle.bits.specs.Flips.{flipped}
use Rattle.rounds.specs.Rounds.{Rounds}
use Rattle.round.specs.Key.{rounds_of}
use Rattle.layout.specs.Ciphers.{reads_of}
use Rattle.layout.proofs.laws.Ranges.{by_stage}
use Rattle.calls.specs.Calls.{walked_over}
use Rattle.whitebox.specs.Bundles.{made_set}
use Rattle.sensitivity.specs.Reads.{bits_read}
use Rattle.sensitivity.specs.Theorems.{Lendable}
use Rattle.sensitivity.proofs.laws.Calls.{flipped_lent}
use Rattle.sensitivity.proofs.laws.Proved.{sensitivity}
use Rattle.next_bit.specs.NextBit.{bit_answer, next_bit_of}
use Rattle.next_bit.specs.Search.{Tells}
use Rattle.next_bit.proofs.laws.Calls.{next_answers, finds}
use Rattle.next_bit.proofs.laws.Proved.{bits_had}
use Rattle.told.specs.Bits.{bit_left, BitsTold, RefusedKeepsBit, BitsCount}
use Rattle.told.specs.Told.{none}
use Rattle.one_call.specs.Walks.{walk_leaves_for}
use Rattle.told.proofs.laws.Pointers.{kept}
use Rattle.one_call.proofs.laws.Walks.{good}
use Rattle.answers.specs.Answer.{Accepted}
use Rattle.next_bit.specs.NextBit.{NextBit}
use Rattle.std.specs.Prelude.{Ok, Err, Some, None}

-- ---- what a host reads off
module _ (c nr : ℕ) (set block : List ℕ) (from old : ℕ) (R : Rounds nr) (lent : Lendable nr set block) where
  abbrev due : NextBit
  due = next_bit_of c nr set block from

  told : Tells (bits_read (reads_of c) nr set block) from due
  told = bits_had.smallest c nr set block lent from due (finds c nr set block from refl)

  accepted : bit_answer due ≡ Accepted
  accepted = next_answers c nr set block from ∙ (bits_had.tests nr (length set) (length block)).none lent.long lent.block.long

  -- A bit of the set has another number than the one that tells of none.
  below_none : (v : ℕ) → due ≡ Ok (Some v) → v ≡ none → ⊥
  below_none v e f =
      omega (arith, (sensitivity.in_order (reads_of c) nr set block lent).within v (told.bit_only v e).listed, (by_stage nr).table_bytes)

  -- By the result r, which is no refusal.
  none_told : (r : NextBit) → due ≡ r → bit_left r old ≡ none → r ≡ Ok None
  none_told (Ok (Some v)) e f = absurd (below_none v e f)
  none_told (Ok None) e f = refl
  none_told (Err why) e f = differ (sym accepted ∙ ap bit_answer e)

  bit_told : (r : NextBit) → due ≡ r → (bit_left r old ≡ none → ⊥) → r ≡ Ok (Some (bit_left r old))
  bit_told (Ok (Some v)) e f = refl
  bit_told (Ok None) e f = absurd (f refl)
  bit_told (Err why) e f = differ (sym accepted ∙ ap bit_answer e)

pub bits_told : BitsTold
bits_told c nr set block from old R lent =
    let T = told c nr set block from old R lent in
    let r = next_bit_of c nr set block from in
    record {
      none_only = λ e. T.none_only (none_told c nr set block from old R lent r refl e);
      none_if = λ A. ap (λ (r : NextBit). bit_left r old) (T.none_if A);
      bit_only = λ e. T.bit_only _ (bit_told c nr set block from old R lent r refl e);
      bit_if = λ v S. ap (λ (r : NextBit). bit_left r old) (T.bit_if v S);
    }

pub refused_keeps_bit : RefusedKeepsBit
refused_keeps_bit c nr set block from old f = kept (next_bit_of c nr set block from) old (λ e. f (sym (next_answers c nr set block from) ∙ e))

-- ---- both calls, over a made set
-- An accepted walk leaves demand 2's block.
left : (nr c : ℕ) (set block lent : List ℕ) → Lendable nr set block → length lent ≡ 16 → walk_leaves_for nr c set block lent ≡ walked_over c nr set block lent
unfolding walk_leaves_for
left nr c set block lent L room =
    sym (left_new _ (walked_over c nr set block lent) lent
    (sym (good nr (length set) (length block) (length lent) refl ((bits_had.tests nr (length set) (length block)).none L.long L.block.long) room)))

pub bits_count : BitsCount
bits_count c nk key l block R given presented i old below lent lent' room room' =
    let nr : ℕ = rounds_of nk in
    let set : List ℕ = made_set c nk key l in
    let S = sensitivity.made nk c key l block given presented in
    let r : NextBit = next_bit_of c nr set block i in
    let T = told c nr set block i old R S.right in
    let D = S.exactly i lent lent' room room' in
    let before : walk_leaves_for nr c set block lent ≡ walked_over c nr set block lent = left nr c set block lent S.right room in
    let turned : walk_leaves_for nr c (flipped set i) block lent' ≡ walked_over c nr (flipped set i) block lent' =
    left nr c (flipped set i) block lent' (flipped_lent nr set block S.right i) room' in
    record {
      changes = λ e same.
          D.differ_exactly.1 (T.bit_only i (bit_told c nr set block i old R S.right r refl (λ f. omega arith) ∙ ap (λ (v : ℕ). Ok (Some v)) e)).listed (sym turned ∙ same ∙ before);
      only = λ other.
          ap (λ (r : NextBit). bit_left r old)
          (T.bit_if i (record { listed = D.differ_exactly.0 (λ same. other (turned ∙ same ∙ sym before)); reached = le_refl i; least = λ u q h. h }));
    }
