-- Laws, not definitions: the parts of the sections by number: where they lie, where they are empty, and that they are bytes.
-- Assumes nothing.
use mathlib.Core.List.{List, []}
use mathlib.Core.Path.{◌≡◌, refl, ap, ◌∙◌}
use Prim.Native.Nat.{ℕ, ◌+◌, ◌*◌, ◌≤◌, ◌<◌}
use native.Mathlib.Nat.{mul-le-mul_right}
use native.Mathlib.Omega.{arith}
use lib.ListN.{length, take, drop, length-drop}
use lib.Seq.{take-nil, drop-nil, drop-drop}
use Rattle.bits.specs.Lists.{part_of}
use Rattle.bits.specs.Bytes.{Bytes}
use Rattle.bits.proofs.laws.Cuts.{take_bytes, drop_bytes, take_inside, part_none, part_length, part_bytes}
use Rattle.bits.proofs.laws.Multiples.{row_inside}
use Rattle.bundle.specs.Format.{part_count, part_size, section_length, offset, frame, section_of, part_at}
use Rattle.answers.specs.Answers.{if_accepted}
use Rattle.answers.specs.declared.Refusal.{Refusal}
use Rattle.bundle.proofs.laws.Frame.{section_is, section_none, section_fits, section_length_lem}
use Rattle.answers.specs.Answer.{Answer, Accepted, Refused}

-- ---- parts of a bundle
when_bytes : (j : Answer) (l : List ℕ) → Bytes l → Bytes (if_accepted j l [])
when_bytes Accepted l h i = h i
when_bytes (Refused r) l h i = omega arith

pub section_bytes : (nr : ℕ) (l : List ℕ) (s : ℕ) → Bytes l → Bytes (section_of nr l s)
unfolding section_of
section_bytes nr l s h =
    when_bytes (frame nr l) (take (section_length nr s) (drop (offset l s) l))
    (take_bytes (section_length nr s) (drop (offset l s) l) (drop_bytes (offset l s) l h))

pub at_bytes : (nr : ℕ) (l : List ℕ) (s n : ℕ) → Bytes l → Bytes (part_at nr l s n)
unfolding part_at
at_bytes nr l s n h = part_bytes (part_size s) (section_of nr l s) n (section_bytes nr l s h)

module _ (nr : ℕ) (l : List ℕ) (s n : ℕ) where
  pub part_refused : (r : Refusal) → frame nr l ≡ Refused r → part_at nr l s n ≡ []
  unfolding part_at part_of
  part_refused r f = rw (section_none nr l r f s, drop-nil, take-nil)

  module _ (h : s < 5) where
    behind_by : (j : Answer) → frame nr l ≡ j → part_count nr s ≤ n → part_at nr l s n ≡ []
    unfolding part_at section_length
    behind_by Accepted f b =
        part_none (part_size s) (section_of nr l s) n
        (let m : part_count nr s * part_size s ≤ n * part_size s = mul-le-mul_right (part_size s) b in omega (arith, section_length_lem nr l f s h))
    behind_by (Refused r) f b = part_refused r f

    pub part_behind : part_count nr s ≤ n → part_at nr l s n ≡ []
    part_behind = behind_by (frame nr l) refl

    module _ (f : frame nr l ≡ Accepted) (b : n < part_count nr s) where
      pub part_room : n * part_size s + part_size s ≤ section_length nr s
      unfolding section_length
      part_room = row_inside n (part_size s) (part_count nr s) b

      pub part_here : part_at nr l s n ≡ take (part_size s) (drop (offset l s + n * part_size s) l)
      unfolding part_at part_of
      part_here =
          ap (λ (x : List ℕ). take (part_size s) (drop (n * part_size s) x)) (section_is nr l f s)
          ∙ take_inside (part_size s) (n * part_size s) (section_length nr s) (drop (offset l s) l) part_room (omega (arith, section_fits nr l f s h, length-drop (offset l s) l))
          ∙ ap (take (part_size s)) (drop-drop (n * part_size s) (offset l s) l)

      pub part_long : length (part_at nr l s n) ≡ part_size s
      unfolding part_at
      part_long = part_length (part_size s) (section_of nr l s) n (omega (arith, part_room, section_length_lem nr l f s h))
