-- Laws, not definitions: what is made from a source is what is made for the cipher, the key and the bundle that it is the source of.
-- Assumes nothing.
use mathlib.Core.List.{List}
use mathlib.Core.Path.{◌≡◌, sym, ap, ◌∙◌}
use Prim.Native.Nat.{ℕ, ◌-◌}
use native.Mathlib.Omega.{arith}
use borrow.Rule.Slice.PartMut.{put_mid, same_len_mid}
use lib.ListN.{length, take}
use lib.Seq.{take-length}
use Rattle.bits.proofs.laws.Lists.{cut}
use Rattle.round.specs.Key.{KeyExpansion, rounds_of}
use Rattle.layout.specs.Stages.{tables_bytes, set_bytes}
use Rattle.layout.specs.declared.stage.Stage.{Stage}
use Rattle.whitebox.specs.Bundles.{made_set}
use Rattle.whitebox.specs.Tables.{tables_of, set_of}
use Rattle.stages.specs.Table.{stage_table}
use Rattle.keyed_tables.specs.Set.{tables_made}
use Rattle.keyed_tables.proofs.laws.Set.{front_back}

-- What the source of the cipher c, the key of nk words and the bundle l has, named c', nr, w and l'.
pub record SourceOf (c nk : ℕ) (key l : List ℕ) (c' nr : ℕ) (w l' : List ℕ) : Type 0 where
  pub cipher : c' ≡ c
  pub rounds : nr ≡ rounds_of nk
  pub keys : w ≡ KeyExpansion nk key
  pub bundle : l' ≡ l

-- The round keys are the front of n bytes of the room xs, read again.
pub source_of : (n : ℕ) (xs : List ℕ) {c nk : ℕ} {key l : List ℕ} {c' nr : ℕ} {w l' : List ℕ}
    → c' ≡ c → nr ≡ rounds_of nk → l' ≡ l → w ≡ take (n - 0) xs → take n xs ≡ KeyExpansion nk key → SourceOf c nk key l c' nr w l'
source_of n xs c r l k e = record { cipher = c; rounds = r; keys = k ∙ ap (λ (m : ℕ). take m xs) (omega arith) ∙ e; bundle = l }

module _ {c nk : ℕ} {key l : List ℕ} {c' nr : ℕ} {w l' : List ℕ} (S : SourceOf c nk key l c' nr w l') where
  -- The memory of a set whose front of `size` elements, lent, comes back with all tables is the set.
  pub set_made : (memory tables : List ℕ) (size : ℕ) → size ≡ tables_bytes nr → length memory ≡ set_bytes (rounds_of nk)
      → length tables ≡ length (cut memory 0 size) → tables ≡ tables_made c' nr w l'
      → put_mid 0 (size - 0) memory tables ≡ made_set c nk key l
  unfolding made_set set_of tables_of set_bytes
  set_made memory tables size is long kept made =
      let filled = put_mid 0 (size - 0) memory tables in
      let due : size ≡ tables_bytes (rounds_of nk) = is ∙ ap tables_bytes S.rounds in
      let whole : length filled ≡ size - 0 = omega (arith, same_len_mid 0 (size - 0) memory tables kept) in
      sym (ap (λ (n : ℕ). take n filled) (sym whole) ∙ take-length filled)
      ∙ front_back size memory (omega arith) tables kept (rw (S.cipher, S.rounds, S.keys, S.bundle) at made)

  -- One table.
  pub one_made : {dst : List ℕ} (s : Stage) (j : ℕ) → dst ≡ stage_table c' nr w l' s j
      → dst ≡ stage_table c (rounds_of nk) (KeyExpansion nk key) l s j
  one_made s j made = rw (S.cipher, S.rounds, S.keys, S.bundle) at made
