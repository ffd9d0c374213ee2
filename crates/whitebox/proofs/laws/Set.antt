-- Laws, not definitions: the tables are parts of the set; each lookup over its table takes the state due at its count to the next; and at the
-- end stand the last encodings.
-- Assumes nothing.
use mathlib.Core.List.{List}
use mathlib.Core.Path.{◌≡◌, refl, sym, ap, ap₂, ◌∙◌, subst}
use Prim.Native.Nat.{ℕ, suc, ◌+◌, ◌-◌, ◌≤◌, ◌<◌}
use native.Mathlib.Omega.{arith}
use lib.ListN.{length, take, drop}
use lib.Seq.{take_all}
use Rattle.bits.specs.Bytes.{Bytes, Block}
use Rattle.bits.specs.Encodings.{encode}
use Rattle.bits.specs.Nibbles.{nibble}
use Rattle.bits.proofs.laws.Bytes.{bytes_of_bytes}
use Rattle.bits.proofs.laws.Cuts.{take_inside}
use Rattle.bits.proofs.laws.Nibbles.{packed_ext}
use Rattle.external.specs.Coding.{multiply}
use Rattle.network.specs.Due.{closed, encoded, due_state}
use Rattle.network.specs.Lookups.{State, Shape, lookup, lookup_at}
use Rattle.network.specs.Numbers.{start_numbers, numbers_after}
use Rattle.network.specs.Sizes.{lookups_in}
use Rattle.network.specs.Tables.{Layer, shapes_of, widths_of, table_at}
use Rattle.network.proofs.laws.Network.{one_lookup, closed_end}
use Rattle.network.proofs.laws.Values.{follows_left}
use Rattle.layout.specs.Stages.{shapes, widths, lookups, tables_bytes, set_bytes, encodings, table_size, table_offset}
use Rattle.layout.proofs.laws.Instance.{ends_in_tables, stage_shapes, stage_widths, stage_table_length, tables_length, set_table}
use Rattle.layout.proofs.laws.Lookup.{tables_in_set}
use Rattle.layout.proofs.laws.Ranges.{by_stage}
use Rattle.calls.specs.Calls.{step}
use Rattle.whitebox.specs.Codings.{Codings, Sound}
use Rattle.whitebox.specs.Parts.{Parts, Fine}
use Rattle.whitebox.specs.Tables.{layer_of, layers, table_of, tables_of, set_of}
use Rattle.whitebox.specs.Values.{values, ended, state_due}
use Rattle.whitebox.proofs.laws.Values.{layers_good, follows, closed_is_due}

-- ---- the shapes, the set and its tables
module _ (P : Parts) (C : Codings) (nr : ℕ) where
  shapes_are : shapes_of (layers P C nr) ≡ shapes P.reads nr
  unfolding layers
  shapes_are = stage_shapes (layer_of P C nr) P.reads (λ s. refl) nr

  pub widths_are : widths_of (layers P C nr) ≡ widths nr
  unfolding layers
  widths_are = stage_widths (layer_of P C nr) (λ s. refl) nr

  lookups_are : lookups_in (widths_of (layers P C nr)) ≡ lookups nr
  unfolding lookups
  lookups_are = ap lookups_in widths_are

  pub table_length : (k : ℕ) → length (table_of P C nr k) ≡ table_size nr k
  unfolding table_of layers
  table_length k = stage_table_length (layer_of P C nr) (λ s. refl) C.encoding nr k

  -- The tables one after the other.
  tables_long : length (tables_of P C nr) ≡ tables_bytes nr
  unfolding tables_of
  tables_long = tables_length nr (table_of P C nr) (λ k h. table_length k)

  tables_part : (k : ℕ) → k < lookups nr → take (table_size nr k) (drop (table_offset nr k) (tables_of P C nr)) ≡ table_of P C nr k
  unfolding tables_of
  tables_part k h = set_table nr (table_of P C nr) (λ j l. table_length j) k h

  -- ---- the set, whose tables are all of it: that nothing stands behind them is used in these four laws alone
  pub set_length : length (set_of P C nr) ≡ set_bytes nr
  unfolding set_of set_bytes
  set_length = tables_long

  set_front : take (tables_bytes nr) (set_of P C nr) ≡ tables_of P C nr
  unfolding set_of
  set_front = take_all (tables_bytes nr) (tables_of P C nr) (omega (arith, tables_long))

  pub set_bytes_lem : Bytes (tables_of P C nr) → Bytes (set_of P C nr)
  unfolding set_of
  set_bytes_lem bytes = bytes

  pub set_same : (C' : Codings) → tables_of P C nr ≡ tables_of P C' nr → set_of P C nr ≡ set_of P C' nr
  unfolding set_of
  set_same C' e = e

  -- ---- a table is the set's part at its offset
  pub set_part : (k : ℕ) → k < lookups nr → take (table_size nr k) (drop (table_offset nr k) (set_of P C nr)) ≡ table_of P C nr k
  set_part k h =
      sym (take_inside (table_size nr k) (table_offset nr k) (tables_bytes nr) (set_of P C nr) (ends_in_tables nr k h) (omega (arith, set_length, tables_in_set nr)))
      ∙ ap (λ (t : List ℕ). take (table_size nr k) (drop (table_offset nr k) t)) set_front
      ∙ tables_part k h

-- ---- the state due, from count to count
module _ (P : Parts) (fine : Fine P) (C : Codings) (sound : Sound C) (nr : ℕ) (some : 1 ≤ nr) (b : List ℕ) (block : Block b) where
  pub due_count : (n : ℕ) → (state_due P C nr b n).count ≡ n
  unfolding state_due due_state
  due_count n = omega arith

  pub due_step : (n : ℕ) → n < lookups nr → step P.reads nr (table_of P C nr n) (state_due P C nr b n) ≡ state_due P C nr b (suc n)
  unfolding lookup table_of
  due_step n h =
      let Ls : List Layer = layers P C nr in
      let E = C.encoding in
      let l : List ℕ = multiply C.input_matrix b in
      let t : List ℕ = table_at E Ls start_numbers n in
      ap (λ (k : ℕ). lookup_at (shapes P.reads nr) k t (state_due P C nr b n)) (due_count n)
      ∙ ap₂ (λ (Ss : List Shape) (w : State). lookup_at Ss n t w) (sym (shapes_are P C nr)) (sym (closed_is_due P fine C sound nr b block some n))
      ∙ one_lookup E sound.encodings Ls (layers_good P fine C nr) start_numbers l (unfold multiply in bytes_of_bytes 16 _) 0 n
      (subst (λ (m : ℕ). n < m) (sym (lookups_are P C nr)) h)
      ∙ closed_is_due P fine C sound nr b block some (suc n)

  pub due_end : (state_due P C nr b (lookups nr)).standing ≡ encoded C.encoding (λ q. encodings nr - 32 + q) (ended P C nr b)
  unfolding encoded
  due_end =
      let Ls : List Layer = layers P C nr in
      let l : List ℕ = multiply C.input_matrix b in
      ap (λ (w : State). w.standing)
      (sym (closed_is_due P fine C sound nr b block some (lookups nr))
      ∙ ap (closed C.encoding Ls start_numbers l 0) (sym (lookups_are P C nr))
      ∙ closed_end C.encoding Ls start_numbers l 0)
      ∙ ap (encoded C.encoding (numbers_after (widths_of Ls) start_numbers).standing)
      (follows_left Ls (values P C nr b) l (ended P C nr b) (follows P fine C sound nr b block some) (layers_good P fine C nr))
      ∙ packed_ext 16 _ _ (λ q h.
      ap (λ (n : ℕ). encode (C.encoding n) (nibble (ended P C nr b) q))
      (ap (λ (ms : List ℕ). (numbers_after ms start_numbers).standing q) (widths_are P C nr) ∙ (by_stage nr).output_numbers q h))
