-- Laws, not definitions: the statement of specs/FreeBytes.antt. The pairs are read from the first 40 bytes, and a section from the bytes that its
-- pair states.
-- Assumes nothing.
use mathlib.Core.Bool.{Bool, ◌||◌}
use mathlib.Core.List.{List}
use mathlib.Core.Path.{◌≡◌, refl, sym, ap, ap₂, ◌∙◌}
use Prim.Native.Nat.{ℕ, zero, suc, ◌+◌, ◌*◌, ◌≤◌, ◌<◌}
use native.Mathlib.Omega.{arith}
use lib.Dec.{ltb}
use lib.ListN.{take, drop}
use lib.Seq.{get_or-take}
use Rattle.bits.specs.Bytes.{number_at}
use Rattle.bits.specs.Lists.{at, part_of}
use Rattle.bits.proofs.laws.Groups.{joined_same}
use Rattle.bundle.specs.Format.{shortest, longest, offset, stated, end_before, pair_bad, length_bad}
use Rattle.bundle.specs.Format.{frame, part_size, section_of, part_at}
use Rattle.bundle.specs.FreeBytes.{SameButFree, FreeBytes}
use Rattle.answers.specs.Search.{refused_at}
use Rattle.answers.specs.Answers.{refused_if, and_then}
use Rattle.answers.specs.declared.Refusal.TheVariants.{BundleLength, Pair}
use Rattle.answers.proofs.laws.Search.{first_same}
use Rattle.bundle.proofs.laws.Frame.{framed, section_is, section_none}
use Rattle.answers.specs.Answer.{Answer, Accepted, Refused}
use Rattle.std.specs.Prelude.{Option}

module _ (nr : ℕ) (l l' : List ℕ) (agree : SameButFree nr l l') where
  -- ---- the pairs
  byte_same : (i : ℕ) → i < 40 → at l i ≡ at l' i
  byte_same i h = sym (get_or-take 40 l i 0 h) ∙ ap (λ (x : List ℕ). at x i) agree.pairs ∙ get_or-take 40 l' i 0 h

  number_same : (a : ℕ) → a + 4 ≤ 40 → number_at l a ≡ number_at l' a
  unfolding number_at
  number_same a h = joined_same 8 4 _ _ (λ j b. byte_same (a + j) (omega arith))

  offset_same : (i : ℕ) → i < 5 → offset l i ≡ offset l' i
  offset_same i h = number_same (8 * i) (omega arith)

  stated_same : (i : ℕ) → i < 5 → stated l i ≡ stated l' i
  stated_same i h = number_same (8 * i + 4) (omega arith)

  end_same : (i : ℕ) → i < 5 → end_before l i ≡ end_before l' i
  unfolding end_before
  end_same zero h = refl
  end_same (suc i) h = ap₂ (λ (x y : ℕ). x + y) (offset_same i (omega arith)) (stated_same i (omega arith))

  pair_same : (i : ℕ) → i < 5 → pair_bad nr l i ≡ pair_bad nr l' i
  unfolding pair_bad
  pair_same i h = rw (stated_same i h, offset_same i h, end_same i h, agree.long)

  length_same : length_bad nr l ≡ length_bad nr l'
  unfolding length_bad
  length_same = ap (λ (n : ℕ). ltb n (shortest nr) || ltb (longest nr) n) agree.long

  frame_same : frame nr l ≡ frame nr l'
  unfolding frame
  frame_same =
      ap₂ (λ (b : Bool) (f : Option ℕ). and_then (refused_if b BundleLength) (refused_at f Pair)) length_same (first_same 5 (pair_bad nr l) (pair_bad nr l') pair_same)

  -- ---- the sections: where the frame is right they have the stated lengths, else both are empty
  section_by : (j : Answer) → frame nr l ≡ j → (s : ℕ) → s < 5 → section_of nr l s ≡ section_of nr l' s
  section_by Accepted f s h =
      let F = framed nr l f in
      section_is nr l f s
      ∙ ap (λ (n : ℕ). take n (drop (offset l s) l)) (sym (F.pairs s h).long)
      ∙ agree.sections F s h
      ∙ ap₂ (λ (n o : ℕ). take n (drop o l')) (F.pairs s h).long (offset_same s h)
      ∙ sym (section_is nr l' (sym frame_same ∙ f) s)
  section_by (Refused r) f s h = section_none nr l r f s ∙ sym (section_none nr l' r (sym frame_same ∙ f) s)

  section_same : (s : ℕ) → s < 5 → section_of nr l s ≡ section_of nr l' s
  section_same = section_by (frame nr l) refl

  part_same : (s n : ℕ) → s < 5 → part_at nr l s n ≡ part_at nr l' s n
  unfolding part_at
  part_same s n h = ap (λ (x : List ℕ). part_of (part_size s) x n) (section_same s h)

pub free_bytes : FreeBytes
free_bytes nr l l' agree =
    record {
      frames = frame_same nr l l' agree;
      starts = offset_same nr l l' agree;
      sections = section_same nr l l' agree;
      parts = part_same nr l l' agree;
    }
