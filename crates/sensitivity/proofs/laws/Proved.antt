-- Laws, not definitions: the statements of specs/Theorems.antt. Both ciphers can be undone: the substitutions undo each other, at the position that one row
-- shift gives for a byte, the other one reads that byte, and the column mixings undo each other.
-- Assumes nothing.
use mathlib.Core.List.{List}
use mathlib.Core.Path.{◌≡◌, sym, ap, ◌∙◌, subst}
use Prim.Native.Nat.{ℕ}
use native.Mathlib.Nat.{le_refl}
use lib.Dec.{eqb, eqb→eq}
use lib.ListN.{length}
use Rattle.bits.specs.Bytes.{Block}
use Rattle.bits.specs.Flips.{flipped}
use Rattle.bits.specs.Lists.{Listed}
use Rattle.bits.proofs.laws.Checked.{all_at}
use Rattle.bits.proofs.laws.Flips.{flips_one_bit, top_bit_first}
use Rattle.bits.proofs.laws.Listed.{listed?}
use Rattle.field.specs.Sbox.{sbox_of, inv_sbox_of}
use Rattle.field.proofs.laws.Sbox.{inv_sbox_sbox, sbox_inv_sbox}
use Rattle.round.specs.Key.{KeyExpansion, rounds_of}
use Rattle.round.specs.State.{MixColumns, InvMixColumns}
use Rattle.round.proofs.laws.Key.{round_key_bytes}
use Rattle.round.proofs.laws.Mix.{inv_mix, mix_inv}
use Rattle.network.specs.Lookups.{State}
use Rattle.layout.specs.Ciphers.{reads_of, inv_shifted}
use Rattle.layout.specs.Stages.{shifted, lookups}
use Rattle.layout.proofs.laws.Ciphers.{for_both, inv_shifted_lt}
use Rattle.layout.proofs.laws.Place.{shifted_lt}
use Rattle.calls.specs.Calls.{state_from, walked_over}
use Rattle.calls.proofs.laws.Judged.{presented_was}
use Rattle.whitebox.specs.Bundles.{codings_of, parts_of, made_set}
use Rattle.whitebox.specs.Codings.{Codings, Sound}
use Rattle.whitebox.specs.Demand3.{Given, Presented}
use Rattle.whitebox.specs.Parts.{Parts, Fine, forward, inverse, parts_for}
use Rattle.whitebox.proofs.laws.Bundles.{codings_sound}
use Rattle.whitebox.proofs.laws.Ciphers.{parts_fine, parts_read}
use Rattle.whitebox.proofs.laws.Forward.{mixed_forward}
use Rattle.whitebox.proofs.laws.Inverse.{mixed_inverse}
use Rattle.sensitivity.specs.Reads.{bits_read}
use Rattle.sensitivity.specs.Theorems.{Lendable, DependsOn, SensitivityFor, Sensitivity}
use Rattle.sensitivity.proofs.laws.Apart.{Undoable}
use Rattle.sensitivity.proofs.laws.Calls.{flipped_lent, answer_is}
use Rattle.sensitivity.proofs.laws.Listed.{listed_read}
use Rattle.sensitivity.proofs.laws.Made.{set_lent, read_differs}
use Rattle.sensitivity.proofs.laws.Served.{others_in_calls}
use Rattle.sensitivity.proofs.laws.Unread.{read_in_order, others_alone}

-- ---- both ciphers can be undone
forward_undoable : (nr : ℕ) (w : List ℕ) → Undoable (forward nr w)
unfolding forward inv_shifted
forward_undoable nr w =
    record {
      substitute_apart = λ x y a b e. sym (inv_sbox_sbox x a) ∙ ap inv_sbox_of e ∙ inv_sbox_sbox y b;
      position = inv_shifted;
      position_lt = inv_shifted_lt;
      position_reads = λ j h. eqb→eq _ _ (all_at 16 (λ n. eqb (shifted (inv_shifted n)) n) (unfold shifted in tt) j h);
      mixed_apart = λ s s' p q e.
          sym (inv_mix s p) ∙ ap InvMixColumns (sym (mixed_forward nr w s) ∙ e ∙ mixed_forward nr w s') ∙ inv_mix s' q;
    }

inverse_undoable : (nr : ℕ) (w : List ℕ) → Undoable (inverse nr w)
unfolding inverse shifted
inverse_undoable nr w =
    record {
      substitute_apart = λ x y a b e. sym (sbox_inv_sbox x a) ∙ ap sbox_of e ∙ sbox_inv_sbox y b;
      position = shifted;
      position_lt = shifted_lt;
      position_reads = λ j h. eqb→eq _ _ (all_at 16 (λ n. eqb (inv_shifted (shifted n)) n) (unfold inv_shifted in tt) j h);
      mixed_apart = λ s s' p q e.
          sym (mix_inv s p) ∙ ap MixColumns (sym (mixed_inverse nr w s) ∙ e ∙ mixed_inverse nr w s') ∙ mix_inv s' q;
    }

parts_undoable : (c nr : ℕ) (w : List ℕ) → Undoable (parts_for c nr w)
parts_undoable c nr w = for_both Undoable c (forward nr w) (inverse nr w) (forward_undoable nr w) (inverse_undoable nr w)

-- ---- a made set
module _ (c nk : ℕ) (key l x : List ℕ) (given : Given nk key l) (presented : Presented x) where
  abbrev nr : ℕ
  nr = rounds_of nk

  abbrev P : Parts
  P = parts_of c nk key

  abbrev C : Codings
  C = codings_of nr l

  abbrev set : List ℕ
  set = made_set c nk key l

  fine : Fine P
  fine = parts_fine c nr (KeyExpansion nk key) (round_key_bytes nk key given.key_bytes)

  sound : Sound C
  sound = codings_sound nr l given.bundle_bytes given.judged

  undo : Undoable P
  undo = parts_undoable c nr (KeyExpansion nk key)

  block : Block x
  block = record { long = presented_was (length x) presented.started; bytes = presented.bytes }

  lent : Lendable nr set x
  unfolding made_set
  lent = set_lent P fine undo C sound nr x block

  -- A bit in the list, by the states of the walk that the cipher's number names.
  state_differs : (i : ℕ) → Listed (bits_read (reads_of c) nr set x) i
      → (state_from (reads_of c) nr (flipped set i) x (lookups nr)).standing ≡ (state_from (reads_of c) nr set x (lookups nr)).standing → ⊥
  unfolding made_set
  state_differs i =
      subst
      (λ (reads : ℕ → ℕ). Listed (bits_read reads nr set x) i
      → (state_from reads nr (flipped set i) x (lookups nr)).standing ≡ (state_from reads nr set x (lookups nr)).standing → ⊥)
      (parts_read nr (KeyExpansion nk key) c) (read_differs P fine undo C sound nr x block i)

  module _ (i : ℕ) (to to' : List ℕ) (room : length to ≡ 16) (room' : length to' ≡ 16) where
    answer : walked_over c nr set x to ≡ (state_from (reads_of c) nr set x (lookups nr)).standing
    answer = answer_is c nr set x lent to room

    answer' : walked_over c nr (flipped set i) x to' ≡ (state_from (reads_of c) nr (flipped set i) x (lookups nr)).standing
    answer' = answer_is c nr (flipped set i) x (flipped_lent nr set x lent i) to' room'

    keeps : (Listed (bits_read (reads_of c) nr set x) i → ⊥) → walked_over c nr (flipped set i) x to' ≡ walked_over c nr set x to
    keeps unread =
        answer' ∙ ap (λ (s : State). s.standing) (others_alone (reads_of c) nr set x lent i unread (lookups nr) (le_refl (lookups nr))) ∙ sym answer

    depends : DependsOn c nr set x i to to'
    depends =
        record {
          differ_exactly = (
            λ other. only other (listed? (bits_read (reads_of c) nr set x) i),
            λ p same. state_differs i p (sym answer' ∙ same ∙ answer),
          );
          keeps = keeps;
        }
      where
        only : (walked_over c nr (flipped set i) x to' ≡ walked_over c nr set x to → ⊥) → Dec (Listed (bits_read (reads_of c) nr set x) i)
            → Listed (bits_read (reads_of c) nr set x) i
        only other (yes p) = p
        only other (no n) = absurd (other (keeps n))

sensitivity_for : (nk : ℕ) → SensitivityFor nk
sensitivity_for nk c key l x given presented = record { right = lent c nk key l x given presented; exactly = depends c nk key l x given presented }

-- ---- all of them
pub sensitivity : Sensitivity
sensitivity =
    record {
      in_order = read_in_order;
      read = listed_read;
      others = others_alone;
      calls = others_in_calls;
      made = sensitivity_for;
      ten_rounds = λ reads set x lent. (read_in_order reads 10 set x lent).many;
      flips = flips_one_bit;
      top_first = top_bit_first;
    }
