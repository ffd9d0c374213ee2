-- Laws, not definitions: the view of a bundle serves the bundle's parts.
-- Assumes nothing.
use mathlib.Core.List.{List, []}
use mathlib.Core.Path.{◌≡◌, refl, sym, ap, ◌∙◌}
use Prim.Native.Nat.{ℕ, ◌<◌}
use native.Mathlib.Omega.{arith}
use Rattle.bits.specs.Lists.{part_of}
use Rattle.bundle.specs.Format.{part_size, offset, frame, section_of, part_at}
use Rattle.answers.specs.declared.Refusal.{Refusal}
use Rattle.bundle.proofs.laws.Frame.{framed, section_is, section_none, section_fits, apart}
use Rattle.bundle.proofs.laws.Parts.{part_refused}
use Rattle.view.specs.Views.{start_of, starts_of, section_from, numbered_from, part_from, view_of, part_in}
use Rattle.view.specs.Serving.{Serves, EmptyOver}
use Rattle.view.specs.declared.part.Part.{Part}
use Rattle.view.specs.declared.part.Part.TheVariants.{Encoding, ByteMatrix, ColumnMatrix, InputMatrix, OutputMatrix}
use Rattle.view.specs.declared.starts.Starts.{Starts}
use Rattle.view.proofs.laws.Code.{start_is, start_none, starts_none, from_nowhere, from_here}
use Rattle.answers.specs.Answer.{Answer, Accepted, Refused}

-- A section from its start is the section.
module _ (nr : ℕ) (l : List ℕ) (s : ℕ) (h : s < 5) where
  started_by : (j : Answer) → frame nr l ≡ j → section_from nr l s (start_of nr l s) ≡ section_of nr l s
  started_by Accepted e =
      ap (section_from nr l s) (start_is nr l e s)
      ∙ sym (from_here nr l s (offset l s) (λ z. omega (arith, (apart nr l (framed nr l e) s h).0)) (section_fits nr l e s h))
      ∙ sym (section_is nr l e s)
  started_by (Refused r) e = sym (from_nowhere nr l s (start_of nr l s) (start_none nr l r e s)) ∙ sym (section_none nr l r e s)

  pub part_started : (n : ℕ) → numbered_from nr l s (start_of nr l s) n ≡ part_at nr l s n
  unfolding numbered_from part_at
  part_started n = ap (λ (x : List ℕ). part_of (part_size s) x n) (started_by (frame nr l) refl)

  pub section_started : {a : ℕ} → a ≡ start_of nr l s → {r : List ℕ} → r ≡ section_from nr l s a → r ≡ section_of nr l s
  section_started e q = q ∙ ap (section_from nr l s) e ∙ started_by (frame nr l) refl

-- A part from the starts is the bundle's part.
pub by_starts : (nr : ℕ) (l : List ℕ) (p : Part) → part_from nr l (starts_of nr l) p ≡ part_in nr l p
unfolding starts_of
by_starts nr l (Encoding n) = part_started nr l 0 (omega arith) n
by_starts nr l (ByteMatrix n) = part_started nr l 1 (omega arith) n
by_starts nr l (ColumnMatrix n) = part_started nr l 2 (omega arith) n
by_starts nr l InputMatrix = part_started nr l 3 (omega arith) 0
by_starts nr l OutputMatrix = part_started nr l 4 (omega arith) 0

-- ---- the starts t that were found for a bundle: its first two sections, and its parts
module _ (nr : ℕ) (l : List ℕ) {t : Starts} (e : t ≡ starts_of nr l) {r : List ℕ} where
  pub encodings_found : r ≡ section_from nr l 0 t.encodings → r ≡ section_of nr l 0
  unfolding starts_of
  encodings_found q = section_started nr l 0 (omega arith) (ap (λ (u : Starts). u.encodings) e) q

  pub byte_matrices_found : r ≡ section_from nr l 1 t.bytes → r ≡ section_of nr l 1
  unfolding starts_of
  byte_matrices_found q = section_started nr l 1 (omega arith) (ap (λ (u : Starts). u.bytes) e) q

  pub part_found : (p : Part) → r ≡ part_from nr l t p → r ≡ part_in nr l p
  part_found p q = q ∙ ap (λ (u : Starts). part_from nr l u p) e ∙ by_starts nr l p

pub serves : Serves
unfolding view_of starts_of
serves b p = by_starts 10 b.now p

none_in : (l : List ℕ) (r : Refusal) → frame 10 l ≡ Refused r → (p : Part) → part_in 10 l p ≡ []
none_in l r e (Encoding n) = part_refused 10 l 0 n r e
none_in l r e (ByteMatrix n) = part_refused 10 l 1 n r e
none_in l r e (ColumnMatrix n) = part_refused 10 l 2 n r e
none_in l r e InputMatrix = part_refused 10 l 3 0 r e
none_in l r e OutputMatrix = part_refused 10 l 4 0 r e

pub empty_over : EmptyOver
unfolding view_of
empty_over b r e = (sym (starts_none 10 b.now refl e), λ p. serves b p ∙ none_in b.now r e p)
