-- Laws, not definitions: the bundle's section of encodings, as the code hands it over, and the bytes that are decoded with it.
-- Assumes nothing.
use mathlib.Core.List.{List}
use mathlib.Core.Path.{◌≡◌, ap, ◌∙◌}
use Prim.Native.Nat.{ℕ, ◌+◌, ◌*◌, ◌/◌, ◌%◌, ◌≤◌, ◌<◌}
use native.Mathlib.Omega.{arith}
use Rattle.bits.specs.Bytes.{Bytes}
use Rattle.bits.specs.Encodings.{decode, Permutation}
use Rattle.bits.specs.Lists.{tabulate}
use Rattle.bits.specs.Nibbles.{pack}
use Rattle.bits.proofs.laws.Lists.{tabulate_ext}
use lib.ListN.{length}
use Rattle.rounds.specs.Rounds.{Rounds}
use Rattle.bundle.specs.Format.{encodings, part_count, part_size, section_length, section_of, part_at, encoding_of}
use Rattle.bundle.proofs.laws.Frame.{section_length_lem}
use Rattle.judgement.specs.Judge.{judge}
use Rattle.judgement.proofs.laws.Judgements.{accepted_sound}
use Rattle.layout.specs.Stages as stages
use Rattle.layout.specs.Stages.{source_of, standing_number}
use Rattle.layout.specs.declared.stage.Stage.{Stage}
use Rattle.whitebox.proofs.laws.Bundles.{encodings_agree}
use Rattle.encodings.specs.Encodings.{encoding_in}
use Rattle.inverse_matrices.proofs.laws.Code.{frame_of}
use Rattle.stages.specs.Spread.{read_byte}
use Rattle.answers.specs.Answer.{Accepted}

module _ (nr : ℕ) (l s : List ℕ) (e : s ≡ section_of nr l 0) where
  pub encodings_in : ◌≡◌ {A = ℕ → List ℕ} (encoding_in s) (encoding_of nr l)
  unfolding part_at part_size
  encodings_in = ap {B = ℕ → List ℕ} (λ (t : List ℕ). encoding_in t) e

  -- Where the bundle is accepted, the section has all of them, and each is a permutation.
  pub encodings_long : judge nr l ≡ Accepted → length s ≡ encodings nr * 8
  unfolding section_length part_count part_size
  encodings_long accepted = ap length e ∙ section_length_lem nr l (frame_of nr l accepted) 0 (omega arith)

  pub encodings_permute : Bytes l → judge nr l ≡ Accepted → (n : ℕ) → n < encodings nr → Permutation (encoding_in s n)
  encodings_permute bytes accepted n h =
      let good = accepted_sound nr l bytes accepted in
      rw (ap (λ (f : ℕ → List ℕ). f n) encodings_in) (good.lists n h)

-- A number below that of all encodings, as the layout counts them, is one of the format's.
pub in_format : (nr : ℕ) → Rounds nr → (n : ℕ) → n < stages.encodings nr → n < encodings nr
in_format nr R n h =
    let some : 1 ≤ nr = omega (arith, R) in
    omega (arith, encodings_agree nr some)

-- The bytes that position p of a stage reads, from the byte j that it reads and the numbers of that byte's two encodings.
pub read_made : (nr : ℕ) (reads : ℕ → ℕ) (l s dst : List ℕ) (stage : Stage) (p j high low : ℕ) → s ≡ section_of nr l 0
    → j ≡ source_of reads stage p → high ≡ standing_number nr stage (2 * j) → low ≡ standing_number nr stage (2 * j + 1)
    → dst ≡ tabulate 256 (λ x. pack (decode (encoding_in s high) (x / 16)) (decode (encoding_in s low) (x % 16)))
    → dst ≡ tabulate 256 (read_byte nr reads l stage p)
unfolding read_byte part_at part_size
read_made nr reads l s dst stage p j high low e source a b d =
    d ∙ tabulate_ext 256 _ _ (λ x h. rw (e, a, b, source))
