-- Laws, not definitions: over the tables of a network whose layers keep distinct blocks apart. After a lookup over its table with a bit turned over that it reads,
-- the state is the one due in another network, of which one layer is changed (`laws.Struck`). All later tables are that network's own, so the walk goes on as one
-- over its tables; it leaves other bytes, since the changed layer's sums are others and the layers behind keep them apart.
-- Assumes nothing.
use mathlib.Core.Bool.{cond}
use mathlib.Core.List.{List, [], ◌∷◌}
use mathlib.Core.Path.{◌≡◌, refl, sym, ap, ◌∙◌}
use Prim.Native.Nat.{ℕ, suc, ◌+◌, ◌-◌, ◌*◌, ◌≤◌, ◌<◌}
use native.Mathlib.Decide.{dec_lt}
use native.Mathlib.Nat.{not-suc-le-zero}
use native.Mathlib.Omega.{arith}
use borrow.Author.Tests.{lt-ltb, le-ltb}
use lib.Dec.{ltb}
use Rattle.bits.specs.Bytes.{Bytes, Block}
use Rattle.bits.specs.Flips.{flipped}
use Rattle.network.specs.Due.{summed, values_in, left_by, closed}
use Rattle.network.specs.Lookups.{State, Shape, area_in, leaving, lookup_in, lookup_at}
use Rattle.network.specs.Numbers.{Numbers, next_numbers}
use Rattle.network.specs.Order.{layer_lookups}
use Rattle.network.specs.Read.{read_in, read_at}
use Rattle.network.specs.Sizes.{size_of, lookups_in, size_in_of}
use Rattle.network.specs.Tables.{Layer, Good, AllGood, shape_of, widths_of, shapes_of, table_in, table_at}
use Rattle.network.specs.Theorems.{Permutations}
use Rattle.network.proofs.laws.Bytes.{summed_block}
use Rattle.network.proofs.laws.Network.{closed_past, closed_in, layer_left}
use Rattle.network.proofs.laws.Steps.{layer_state}
use Rattle.sensitivity.specs.Reads.{first_bit}
use Rattle.sensitivity.proofs.laws.Changed.{changed, good_changed, table_later, summed_differs}
use Rattle.sensitivity.proofs.laws.Struck.{Struck, struck}

-- ---- layers that keep blocks apart
-- From two blocks the layer never leaves the same sums.
abbrev pub Apart : Layer → Type 0
Apart L = (a b : List ℕ) → Block a → Block b → summed (values_in L a) ≡ summed (values_in L b) → a ≡ b

abbrev pub AllApart : List Layer → Type 0
AllApart [] = Unit {0}
AllApart (L ∷ Ls) = Apart L × AllApart Ls

left_apart : (Ls : List Layer) → AllGood Ls → AllApart Ls → (a b : List ℕ) → Block a → Block b → left_by Ls a ≡ left_by Ls b → a ≡ b
unfolding left_by
left_apart [] g h a b p q e = e
left_apart (L ∷ Ls) g h a b p q e =
    h.0 a b p q (left_apart Ls g.1 h.1 (summed (values_in L a)) (summed (values_in L b)) (summed_block L g.0 a) (summed_block L g.0 b) e)

-- ---- a bit that lookup k reads, turned over
module _ (E : ℕ → List ℕ) (perm : Permutations E) where
  -- What lookup k leaves of the state w over its table with bit e turned over of those that it reads.
  abbrev pub turned_lookup : List Layer → Numbers → ℕ → ℕ → State → State
  turned_lookup Ls N k e w =
      lookup_at (shapes_of Ls) k (flipped (table_at E Ls N k) (first_bit (read_at (shapes_of Ls) k 0 w.standing w.area) + e)) w

  -- The state `left` behind lookup k is the one due in another network, whose later tables are the same, and which leaves other bytes.
  pub record OtherNetwork (Ls : List Layer) (N : Numbers) (l : List ℕ) (from k : ℕ) (left : State) : Type 0 where
    pub network : List Layer
    pub shapes : shapes_of network ≡ shapes_of Ls
    pub good : AllGood network
    pub later : (n : ℕ) → k < n → table_at E network N n ≡ table_at E Ls N n
    pub state : left ≡ closed E network N l from (suc k)
    pub differs : left_by network l ≡ left_by Ls l → ⊥

  -- In the first layer, and past it.
  module _ (L : Layer) (Ls : List Layer) (g : AllGood (L ∷ Ls)) (aparts : AllApart (L ∷ Ls)) (N : Numbers) (l : List ℕ) (plain : Bytes l) (from k e : ℕ) where
    abbrev T : ℕ
    T = layer_lookups L.width

    turned_here : k < T → 32 * e < size_of L.width k → OtherNetwork (L ∷ Ls) N l from k (turned_lookup (L ∷ Ls) N k e (closed E (L ∷ Ls) N l from k))
    turned_here h b =
        record {
          network = L' ∷ Ls;
          shapes = refl;
          good = (good', g.1);
          later = later;
          state = state;
          differs = λ z.
              summed_differs L g.0 s.word s.place s.by s.small s.place_lt l s.word_lt s.some
              (left_apart Ls g.1 aparts.1 (summed (values_in L' l)) (summed (values_in L l)) (summed_block L' good' l) (summed_block L g.0 l)
              (unfold left_by in z));
        }
      where
        w : State
        w = layer_state E perm L g.0 N l plain from k

        made : List ℕ
        made =
            area_in (shape_of L) k (flipped (table_in E L N k) (first_bit (read_in (shape_of L) k 0 w.standing w.area) + e)) w

        s : Struck E perm L g.0 N l plain k made
        s = struck E perm L g.0 N l plain from k h e b

        L' : Layer
        L' = changed L s.word s.place s.by

        good' : Good L'
        good' = good_changed L g.0 s.word s.place s.by s.small s.place_lt

        later : (n : ℕ) → k < n → table_at E (L' ∷ Ls) N n ≡ table_at E (L ∷ Ls) N n
        later n c =
            unfold table_at in
            ap (λ (t : List ℕ). cond (ltb n T) t (table_at E Ls (next_numbers L.width N) (n - T)))
            (table_later L g.0 s.word s.place s.by s.small s.place_lt E N n (omega (arith, s.by_then)))

        looked_up : turned_lookup (L ∷ Ls) N k e w ≡ leaving (shape_of L) k made w
        looked_up = unfold lookup_at table_at read_at lookup_in in rw (lt-ltb k T h)

        state : turned_lookup (L ∷ Ls) N k e (closed E (L ∷ Ls) N l from k) ≡ closed E (L' ∷ Ls) N l from (suc k)
        state =
            ap (turned_lookup (L ∷ Ls) N k e) (closed_in E perm L Ls g N l plain from k h)
            ∙ looked_up
            ∙ ap (λ (a : List ℕ). leaving (shape_of L) k a w) s.is
            ∙ layer_left E perm L' Ls (good', g.1) N l plain from k h

    abbrev N' : Numbers
    N' = next_numbers L.width N

    abbrev l' : List ℕ
    l' = summed (values_in L l)

    turned_past : T ≤ k → OtherNetwork Ls N' l' (from + T) (k - T) (turned_lookup Ls N' (k - T) e (closed E Ls N' l' (from + T) (k - T)))
        → OtherNetwork (L ∷ Ls) N l from k (turned_lookup (L ∷ Ls) N k e (closed E (L ∷ Ls) N l from k))
    turned_past h t =
        record {
          network = L ∷ t.network;
          shapes = ap (λ (Ss : List Shape). shape_of L ∷ Ss) t.shapes;
          good = (g.0, t.good);
          later = λ n c. unfold table_at in rw (le-ltb n T (omega arith)) (t.later (n - T) (omega arith));
          state =
              ap (turned_lookup (L ∷ Ls) N k e) (closed_past E L Ls N l from k h)
              ∙ passed (closed E Ls N' l' (from + T) (k - T))
              ∙ t.state
              ∙ ap (closed E t.network N' l' (from + T)) (let z : suc (k - T) ≡ suc k - T = omega arith in z)
              ∙ sym (closed_past E L t.network N l from (suc k) (omega arith));
          differs = λ z. t.differs (unfold left_by in z);
        }
      where
        passed : (w : State) → turned_lookup (L ∷ Ls) N k e w ≡ turned_lookup Ls N' (k - T) e w
        passed w = unfold lookup_at table_at read_at in rw (le-ltb k T h)

  -- In any layer.
  pub turned : (Ls : List Layer) → AllGood Ls → AllApart Ls → (N : Numbers) (l : List ℕ) → Bytes l → (from k e : ℕ) → k < lookups_in (widths_of Ls)
      → 32 * e < size_in_of (widths_of Ls) k → OtherNetwork Ls N l from k (turned_lookup Ls N k e (closed E Ls N l from k))
  unfolding lookups_in size_in_of
  turned [] g aparts N l plain from k e h b = absurd (not-suc-le-zero h)
  turned (L ∷ Ls) g aparts N l plain from k e h b =
      go (dec_lt k T₀) (λ c d. turned Ls g.1 aparts.1 (next_numbers L.width N) (summed (values_in L l)) (summed_block L g.0 l).bytes (from + T₀) (k - T₀) e c d)
    where
      T₀ : ℕ
      T₀ = layer_lookups L.width

      N₁ : Numbers
      N₁ = next_numbers L.width N

      l₁ : List ℕ
      l₁ = summed (values_in L l)

      go : Dec (k < T₀)
          → (k - T₀ < lookups_in (widths_of Ls) → 32 * e < size_in_of (widths_of Ls) (k - T₀)
          → OtherNetwork Ls N₁ l₁ (from + T₀) (k - T₀) (turned_lookup Ls N₁ (k - T₀) e (closed E Ls N₁ l₁ (from + T₀) (k - T₀))))
          → OtherNetwork (L ∷ Ls) N l from k (turned_lookup (L ∷ Ls) N k e (closed E (L ∷ Ls) N l from k))
      go (yes c) ih = turned_here L Ls g aparts N l plain from k e c (rw (lt-ltb k T₀ c) at b)
      go (no c) ih = turned_past L Ls g aparts N l plain from k e (omega arith) (ih (omega arith) (rw (le-ltb k T₀ (omega arith)) at b))
