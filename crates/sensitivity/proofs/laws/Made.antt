-- Laws, not definitions: a set of the tables of a cipher that can be undone, walked with one bit turned over that the walk reads. Up to the lookup that reads it the
-- state is the one due in the set's network; behind it, and up to the end, it is the one due in the other network of `laws.Turned`, whose tables are the set's own
-- from there on. So other bytes stand at the end.
-- Assumes nothing.
use mathlib.Core.Bool.{Bool, true, false, cond}
use mathlib.Core.List.{List, [], ◌∷◌, map-map}
use mathlib.Core.Path.{◌≡◌, refl, sym, ap, ap₂, ◌∙◌, subst}
use Prim.Native.Nat.{ℕ, zero, suc, ◌+◌, ◌-◌, ◌*◌, ◌≤◌, ◌<◌}
use native.Mathlib.Decide.{dec_lt}
use native.Mathlib.Nat.{le_refl}
use native.Mathlib.Omega.{arith}
use lib.Dec.{ltb}
use Rattle.bits.specs.Bytes.{Bytes, Block}
use Rattle.bits.specs.Flips.{flipped}
use Rattle.bits.specs.Lists.{at, Listed}
use Rattle.bits.proofs.laws.Flips.{part_before, part_behind, part_within}
use Rattle.bits.proofs.laws.Lists.{concat_below}
use Rattle.bits.proofs.laws.Nibbles.{length_packed}
use Rattle.bits.proofs.laws.Offsets.{offset_mono}
use Rattle.network.specs.Due.{left_by, due_state, closed, encoded, decoded}
use Rattle.network.specs.Lookups.{State, Shape, state_at, zero_area, xor_index, lookup_at, lookup, walked}
use Rattle.network.specs.Numbers.{start_numbers, numbers_after}
use Rattle.network.specs.Order.{layer_lookups}
use Rattle.network.specs.Read.{word_place, nibble_place, read_in, read_at}
use Rattle.network.specs.Sizes.{lookups_in, size_in_of}
use Rattle.network.specs.Tables.{Layer, AllGood, shape_of, widths_of, shapes_of, table_at}
use Rattle.network.specs.Theorems.{Permutations}
use Rattle.network.proofs.laws.Bytes.{tables_bytes, left_block, encoded_apart}
use Rattle.network.proofs.laws.Layers.{widths_in}
use Rattle.network.proofs.laws.Network.{one_lookup, closed_end, from_any_layer, decoded_bytes}
use Rattle.network.specs.declared.EntryPlace.{EntryPlace}
use Rattle.layout.specs.Stages.{shape_at, stages, shapes, widths, lookups, table_size, table_offset, stage_of, index_of, width_of}
use Rattle.layout.proofs.laws.Instance.{next_offset, stage_shapes}
use Rattle.layout.proofs.laws.Ranges.{by_stage}
use Rattle.calls.specs.Calls.{table_part, step, advance, read_next, state_from}
use Rattle.calls.proofs.laws.Calls.{advance_last}
use Rattle.whitebox.specs.Codings.{Codings, Sound}
use Rattle.whitebox.specs.Parts.{Parts, Fine}
use Rattle.whitebox.specs.Tables.{layer_of, layers, table_of, tables_of, set_of}
use Rattle.whitebox.proofs.laws.Set.{set_length, set_bytes_lem, set_part}
use Rattle.whitebox.proofs.laws.Values.{layers_good}
use Rattle.sensitivity.specs.Reads.{first_bit, bits_at, first_read, bits_read}
use Rattle.sensitivity.specs.Theorems.{Lendable}
use Rattle.sensitivity.proofs.laws.Apart.{Undoable, layers_apart}
use Rattle.sensitivity.proofs.laws.Runs.{listed_run}
use Rattle.sensitivity.proofs.laws.Turned.{OtherNetwork, turned, turned_lookup}
use Rattle.sensitivity.proofs.laws.Unread.{entry_size, most}

-- ---- the bit of a place in a set is that of the place in its table, behind all tables before
in_set : (Ss : List Shape) (k from : ℕ) (s a : List ℕ) → first_bit (read_at Ss k from s a) ≡ 8 * from + first_bit (read_at Ss k 0 s a)
unfolding read_at read_in
in_set [] k from s a = omega arith
in_set (S ∷ Ss) k from s a = go (ltb k (layer_lookups S.width)) (ltb k 16) _ _ (in_set Ss (k - layer_lookups S.width) from s a)
  where
    x : ℕ
    x = at s (S.source k)

    e : ℕ
    e = xor_index S.width (k - 16) a

    go : (b c : Bool) (r r₀ : EntryPlace) → first_bit r ≡ 8 * from + first_bit r₀
        → first_bit (cond b (cond c (word_place from S.width x) (nibble_place from e)) r)
        ≡ 8 * from + first_bit (cond b (cond c (word_place 0 S.width x) (nibble_place 0 e)) r₀)
    go true true r r₀ z = omega arith
    go true false r r₀ z = omega arith
    go false c r r₀ z = z

-- ---- tables that are a network's, from lookup m on
module _ (E : ℕ → List ℕ) (perm : Permutations E) (reads : ℕ → ℕ) (nr : ℕ) (mem x : List ℕ) (Ls : List Layer) (goods : AllGood Ls)
    (same : shapes_of Ls ≡ shapes reads nr) (l : List ℕ) (plain : Bytes l) where
  widths_are : widths_of Ls ≡ widths nr
  unfolding shapes widths
  widths_are =
      sym (map-map (λ (S : Shape). S.width) shape_of Ls) ∙ ap widths_in same ∙ map-map (λ (S : Shape). S.width) (shape_at reads) (stages nr)

  lookups_are : lookups_in (widths_of Ls) ≡ lookups nr
  unfolding lookups
  lookups_are = ap lookups_in widths_are

  -- The lookup of the count k, one lookup, and n of them.
  at_count : (k : ℕ) → step reads nr (table_part nr mem (closed E Ls start_numbers l 0 k).count) (closed E Ls start_numbers l 0 k)
      ≡ lookup_at (shapes reads nr) k (table_part nr mem k) (closed E Ls start_numbers l 0 k)
  unfolding lookup due_state
  at_count k = ap (λ (n : ℕ). lookup_at (shapes reads nr) n (table_part nr mem n) (closed E Ls start_numbers l 0 k)) (let z : 0 + k ≡ k = omega arith in z)

  one_more : (k : ℕ) → k < lookups nr → table_part nr mem k ≡ table_at E Ls start_numbers k → state_from reads nr mem x k ≡ closed E Ls start_numbers l 0 k
      → state_from reads nr mem x (suc k) ≡ closed E Ls start_numbers l 0 (suc k)
  one_more k h e s =
      advance_last reads nr mem k (state_at 0 x zero_area)
      ∙ ap (λ (w : State). step reads nr (table_part nr mem w.count) w) s
      ∙ at_count k
      ∙ ap₂ (λ (Ss : List Shape) (t : List ℕ). lookup_at Ss k t (closed E Ls start_numbers l 0 k)) (sym same) e
      ∙ one_lookup E perm Ls goods start_numbers l plain 0 k (omega (arith, lookups_are))

  goes_on : (m n : ℕ) → m + n ≤ lookups nr → ((i : ℕ) → m ≤ i → i < m + n → table_part nr mem i ≡ table_at E Ls start_numbers i)
      → state_from reads nr mem x m ≡ closed E Ls start_numbers l 0 m → state_from reads nr mem x (m + n) ≡ closed E Ls start_numbers l 0 (m + n)
  goes_on m zero h t s = ap (state_from reads nr mem x) (let z : m + 0 ≡ m = omega arith in z) ∙ s ∙ ap (closed E Ls start_numbers l 0) (omega arith)
  goes_on m (suc n) h t s =
      let z : m + suc n ≡ suc (m + n) = omega arith in
      ap (state_from reads nr mem x) z
      ∙ one_more (m + n) (omega arith) (t (m + n) (omega arith) (omega arith)) (goes_on m n (omega arith) (λ i a b. t i a (omega arith)) s)
      ∙ ap (closed E Ls start_numbers l 0) (sym z)

  -- At the end.
  stands : state_from reads nr mem x (lookups nr) ≡ closed E Ls start_numbers l 0 (lookups nr)
      → (state_from reads nr mem x (lookups nr)).standing ≡ encoded E (numbers_after (widths nr) start_numbers).standing (left_by Ls l)
  stands s =
      ap (λ (w : State). w.standing) (s ∙ ap (closed E Ls start_numbers l 0) (sym lookups_are) ∙ closed_end E Ls start_numbers l 0)
      ∙ ap (λ (ms : List ℕ). encoded E (numbers_after ms start_numbers).standing (left_by Ls l)) widths_are

-- ---- a set, and a presented block x
module _ (P : Parts) (fine : Fine P) (undo : Undoable P) (C : Codings) (sound : Sound C) (nr : ℕ) (x : List ℕ) (block : Block x) where
  abbrev E : ℕ → List ℕ
  E = C.encoding

  abbrev Ls : List Layer
  Ls = layers P C nr

  abbrev set : List ℕ
  set = set_of P C nr

  -- The plain bytes that stand at the start.
  abbrev l₀ : List ℕ
  l₀ = decoded E start_numbers.standing x

  plain : Bytes l₀
  plain = decoded_bytes E sound.encodings start_numbers.standing x block.bytes

  plain_block : Block l₀
  unfolding decoded
  plain_block = record { long = length_packed 16 _; bytes = plain }

  goods : AllGood Ls
  goods = layers_good P fine C nr

  same : shapes_of Ls ≡ shapes P.reads nr
  unfolding layers
  same = stage_shapes (layer_of P C nr) P.reads (λ s. refl) nr

  pub set_lent : Lendable nr set x
  unfolding tables_of table_of
  set_lent =
      record {
        long = set_length P C nr;
        bytes = set_bytes_lem P C nr (concat_below 256 (lookups nr) (table_of P C nr) (omega arith) (λ k h. tables_bytes E sound.encodings Ls start_numbers k));
        block = block;
      }

  part_is : (k : ℕ) → k < lookups nr → table_part nr set k ≡ table_at E Ls start_numbers k
  unfolding table_of
  part_is k h = set_part P C nr k h

  begins : (mem : List ℕ) → state_from P.reads nr mem x 0 ≡ closed E Ls start_numbers l₀ 0 0
  unfolding advance numbers_after lookups_in walked
  begins mem = from_any_layer E sound.encodings [] Ls goods x block 0 (omega arith)

  -- Over the set itself.
  at_every_count : (k : ℕ) → k ≤ lookups nr → state_from P.reads nr set x k ≡ closed E Ls start_numbers l₀ 0 k
  at_every_count k h =
      let z : 0 + k ≡ k = omega arith in
      subst (λ (n : ℕ). state_from P.reads nr set x n ≡ closed E Ls start_numbers l₀ 0 n) z
      (goes_on E sound.encodings P.reads nr set x Ls goods same l₀ plain 0 k (omega arith) (λ i a b. part_is i (omega arith)) (begins set))

  -- ---- over the set with bit e turned over of those that lookup k reads
  module _ (k e : ℕ) (h : k < lookups nr) (el : e < bits_at nr k) where
    -- The bit within the lookup's table.
    b : ℕ
    b = first_bit (read_at (shapes P.reads nr) k 0 (closed E Ls start_numbers l₀ 0 k).standing (closed E Ls start_numbers l₀ 0 k).area) + e

    unfoldable turned_set : List ℕ
    turned_set = flipped set (first_read P.reads nr set x k + e)

    bit_is : first_read P.reads nr set x k + e ≡ 8 * table_offset nr k + b
    unfolding b
    bit_is =
        ap (λ (w : State). first_bit (read_next P.reads nr w) + e) (at_every_count k (omega arith))
        ∙ counted
        ∙ ap (λ (i : ℕ). i + e) (in_set (shapes P.reads nr) k (table_offset nr k) w.standing w.area)
        ∙ omega arith
      where
        w : State
        w = closed E Ls start_numbers l₀ 0 k

        counted : first_bit (read_next P.reads nr w) + e ≡ first_bit (read_at (shapes P.reads nr) k (table_offset nr k) w.standing w.area) + e
        counted =
            unfold due_state in
            ap (λ (n : ℕ). first_bit (read_at (shapes P.reads nr) n (table_offset nr n) w.standing w.area) + e) (let z : 0 + k ≡ k = omega arith in z)

    b_lt : b < 8 * table_size nr k
    b_lt = omega (arith, bit_is, most P.reads nr set x set_lent k h, next_offset nr k h)

    part_here : table_part nr turned_set k ≡ flipped (table_at E Ls start_numbers k) b
    unfolding turned_set
    part_here =
        ap (λ (i : ℕ). table_part nr (flipped set i) k) bit_is
        ∙ part_within set (table_offset nr k) (table_size nr k) b b_lt
        ∙ ap (λ (t : List ℕ). flipped t b) (part_is k h)

    part_other : (n : ℕ) → n < lookups nr → (n ≡ k → ⊥) → table_part nr turned_set n ≡ table_at E Ls start_numbers n
    unfolding turned_set
    part_other n c ne = ap (λ (i : ℕ). table_part nr (flipped set i) n) bit_is ∙ go (dec_lt n k) ∙ part_is n c
      where
        mono : (a d : ℕ) → d < a → a ≤ lookups nr → table_offset nr d + table_size nr d ≤ table_offset nr a
        mono a d p q = offset_mono (table_size nr) (table_offset nr) (lookups nr) (next_offset nr) a d p q

        go : Dec (n < k) → table_part nr (flipped set (8 * table_offset nr k + b)) n ≡ table_part nr set n
        go (yes a) = part_behind set (table_offset nr n) (table_size nr n) _ (omega (arith, mono k n a (omega arith)))
        go (no a) = part_before set (table_offset nr n) (table_size nr n) _ (omega (arith, b_lt, mono n k (omega arith) (omega arith)))

    -- What lookup k leaves is due in the other network.
    other : OtherNetwork E sound.encodings Ls start_numbers l₀ 0 k (turned_lookup E sound.encodings Ls start_numbers k e (closed E Ls start_numbers l₀ 0 k))
    other =
        turned E sound.encodings Ls goods (layers_apart C sound P fine undo nr) start_numbers l₀ plain 0 k e
        (subst (λ (n : ℕ). k < n) (sym (lookups_are E sound.encodings P.reads nr set x Ls goods same l₀ plain)) h) size
      where
        size : 32 * e < size_in_of (widths_of Ls) k
        size =
            subst (λ (n : ℕ). 32 * e < n) (sym (ap (λ (ms : List ℕ). size_in_of ms k) (widths_are E sound.encodings P.reads nr set x Ls goods same l₀ plain)))
            (unfold table_size in omega (arith, (by_stage nr).size_is k h, entry_size (width_of (stage_of nr k)) (index_of nr k)))

    up_to : state_from P.reads nr turned_set x k ≡ closed E Ls start_numbers l₀ 0 k
    up_to =
        let z : 0 + k ≡ k = omega arith in
        subst (λ (n : ℕ). state_from P.reads nr turned_set x n ≡ closed E Ls start_numbers l₀ 0 n) z
        (goes_on E sound.encodings P.reads nr turned_set x Ls goods same l₀ plain 0 k (omega arith) (λ i c d. part_other i (omega arith) (λ y. omega arith))
        (begins turned_set))

    just_past : state_from P.reads nr turned_set x (suc k) ≡ closed E other.network start_numbers l₀ 0 (suc k)
    just_past =
        advance_last P.reads nr turned_set k (state_at 0 x zero_area)
        ∙ ap (λ (w : State). step P.reads nr (table_part nr turned_set w.count) w) up_to
        ∙ at_count E sound.encodings P.reads nr turned_set x Ls goods same l₀ plain k
        ∙ ap (λ (t : List ℕ). lookup_at (shapes P.reads nr) k t (closed E Ls start_numbers l₀ 0 k)) part_here
        ∙ in_network
        ∙ other.state
      where
        in_network : lookup_at (shapes P.reads nr) k (flipped (table_at E Ls start_numbers k) b) (closed E Ls start_numbers l₀ 0 k)
            ≡ turned_lookup E sound.encodings Ls start_numbers k e (closed E Ls start_numbers l₀ 0 k)
        in_network =
            unfold b in
            ap (λ (Ss : List Shape).
            lookup_at Ss k
            (flipped (table_at E Ls start_numbers k)
            (first_bit (read_at Ss k 0 (closed E Ls start_numbers l₀ 0 k).standing (closed E Ls start_numbers l₀ 0 k).area) + e))
            (closed E Ls start_numbers l₀ 0 k)) (sym same)

    at_end : state_from P.reads nr turned_set x (lookups nr) ≡ closed E other.network start_numbers l₀ 0 (lookups nr)
    at_end =
        let z : suc k + (lookups nr - suc k) ≡ lookups nr = omega arith in
        subst (λ (n : ℕ). state_from P.reads nr turned_set x n ≡ closed E other.network start_numbers l₀ 0 n) z
        (goes_on E sound.encodings P.reads nr turned_set x other.network other.good (other.shapes ∙ same) l₀ plain (suc k) (lookups nr - suc k) (omega arith)
        (λ i c d. part_other i (omega arith) (λ y. omega arith) ∙ sym (other.later i (omega arith))) just_past)

    differs : (state_from P.reads nr turned_set x (lookups nr)).standing ≡ (state_from P.reads nr set x (lookups nr)).standing → ⊥
    differs z =
        let number = (numbers_after (widths nr) start_numbers).standing in
        other.differs
        (encoded_apart E sound.encodings number (left_by other.network l₀) (left_by Ls l₀) (left_block other.network other.good l₀ plain_block)
        (left_block Ls goods l₀ plain_block)
        (sym (stands E sound.encodings P.reads nr turned_set x other.network other.good (other.shapes ∙ same) l₀ plain at_end)
        ∙ z
        ∙ stands E sound.encodings P.reads nr set x Ls goods same l₀ plain (at_every_count (lookups nr) (le_refl (lookups nr)))))

-- A bit in the list, turned over.
pub read_differs : (P : Parts) → Fine P → Undoable P → (C : Codings) → Sound C → (nr : ℕ) (x : List ℕ) → Block x → (i : ℕ) → Listed (bits_read P.reads nr (set_of P C nr) x) i
    → (state_from P.reads nr (flipped (set_of P C nr) i) x (lookups nr)).standing ≡ (state_from P.reads nr (set_of P C nr) x (lookups nr)).standing → ⊥
unfolding bits_read turned_set
read_differs P fine undo C sound nr x block i listed same =
    let set : List ℕ = set_of P C nr in
    let r = listed_run (first_read P.reads nr set x) (bits_at nr) (lookups nr) i listed in
    differs P fine undo C sound nr x block r.run r.index r.below r.within
    (ap (λ (j : ℕ). (state_from P.reads nr (flipped set j) x (lookups nr)).standing) (sym r.is) ∙ same)
