-- Laws, not definitions: the lookups of a stage or half are the walk's, from its first lookup on, for any number nr of rounds and any byte
-- `reads` that the row shift reads; and behind the last of them the next stage or half begins (`next_starts`).
-- Assumes nothing.
use mathlib.Core.List.{List}
use mathlib.Core.Logic.{⊎_elim}
use mathlib.Core.Path.{◌≡◌, sym, ap, ap₂, ◌∙◌, subst}
use Prim.Native.Nat.{ℕ, zero, suc, ◌+◌, ◌-◌, ◌≤◌, ◌<◌}
use native.Mathlib.Decide.{dec_lt}
use native.Mathlib.Omega.{arith}
use lib.ListN.{take, drop}
use Rattle.network.specs.Lookups.{State, state_at, Shape, zero_area, sums, lookup, lookup_in}
use Rattle.network.specs.Order.{xors, layer_lookups}
use Rattle.network.specs.Read.{read_in}
use Rattle.network.specs.Sizes.{size_of, offset_of}
use Rattle.network.proofs.laws.Order.{layer_lookups_lem}
use Rattle.layout.specs.Stages.{width_of, shape_at, shapes, lookups, table_size, table_offset, stage_of, index_of, first_lookup, first_byte_of}
use Rattle.layout.specs.declared.stage.Stage.{Stage}
use Rattle.layout.proofs.laws.Lookup.{first_byte}
use Rattle.layout.proofs.laws.Ranges.{InStage, in_stage, by_stage}
use Rattle.layout.proofs.laws.Stages.{lookups_16, lookups_4}
use Rattle.calls.specs.Calls.{table_part, step, advance, read_next}
use Rattle.calls.proofs.laws.Calls.{advance_last}
use Rattle.lookups.specs.Layer.{table_from, spreads_in, xors_in, sums_in}
use Rattle.lookups.proofs.laws.Layers.{at_spread, at_xor, at_last}
use Rattle.lookups.proofs.laws.Words.{xors_next}

-- ---- where a stage or half begins, of which n is the first lookup
module _ (nr n : ℕ) (h : n < lookups nr) (z : index_of nr n ≡ 0) where
  pub starts : n ≡ first_lookup nr (stage_of nr n)
  unfolding index_of
  starts = omega (arith, z, (in_stage nr n h).from)

  abbrev here : Stage
  here = stage_of nr n

  abbrev all : ℕ
  all = layer_lookups (width_of here)

  pub next_starts : n + layer_lookups (width_of (stage_of nr n)) < lookups nr → index_of nr (n + layer_lookups (width_of (stage_of nr n))) ≡ 0
  unfolding index_of
  next_starts b = elim (dec_lt (first_lookup nr there) (n + all)) [
    | yes l ↦ absurd (overlap l)
    | no l ↦ omega (arith, B.from)
  ]
    where
      there : Stage
      there = stage_of nr (n + all)

      A : InStage nr n here
      A = in_stage nr n h

      B : InStage nr (n + all) there
      B = in_stage nr (n + all) b

      overlap : first_lookup nr there < n + all → ⊥
      overlap l =
          let one : stage_of nr (n + all - 1) ≡ here = A.same (n + all - 1) (omega (arith, starts, A.within)) (omega (arith, starts, A.within)) in
          let two : stage_of nr (n + all - 1) ≡ there = B.same (n + all - 1) (omega arith) (omega (arith, B.within)) in
          let same : there ≡ here = sym two ∙ one in
          let within : n + all - first_lookup nr here < layer_lookups (width_of here) =
          subst (λ (s : Stage). n + all - first_lookup nr s < layer_lookups (width_of s)) same B.within in
          omega (arith, within, starts)

module _ (reads : ℕ → ℕ) (nr : ℕ) (set : List ℕ) where
  -- ---- from the first lookup n of a stage or half
  module _ (n : ℕ) (h : n < lookups nr) (z : index_of nr n ≡ 0) where
    abbrev m : ℕ
    m = width_of (stage_of nr n)

    abbrev S : Shape
    S = shape_at reads (stage_of nr n)

    abbrev from : ℕ
    from = table_offset nr n

    abbrev table : ℕ → List ℕ
    table = table_from m set from

    first : n ≡ first_lookup nr (stage_of nr n)
    first = starts nr n h z

    module _ (k : ℕ) (b : k < layer_lookups m) where
      pub below : n + k < lookups nr
      below = omega (arith, first, (in_stage nr n h).room)

      pub stage_is : stage_of nr (n + k) ≡ stage_of nr n
      stage_is = (in_stage nr n h).same (n + k) (omega (arith, first)) (omega (arith, first))

      pub index_is : index_of nr (n + k) ≡ k
      unfolding index_of
      index_is = rw stage_is (omega (arith, first))

      pub offset_is : table_offset nr (n + k) ≡ from + offset_of m k
      offset_is =
          (by_stage nr).offset_is (n + k) below
          ∙ ap₂ (λ (s : Stage) (j : ℕ). first_byte_of nr s + offset_of (width_of s) j) stage_is index_is
          ∙ ap (λ (x : ℕ). x + offset_of (width_of (stage_of nr n)) k) (sym (first_byte nr n h z))

      table_is : take (table_size nr (n + k)) (drop (table_offset nr (n + k)) set) ≡ table k
      table_is =
          ap₂ (λ (x y : ℕ). take x (drop y set))
          ((by_stage nr).size_is (n + k) below ∙ ap₂ (λ (s : Stage) (j : ℕ). size_of (width_of s) j) stage_is index_is)
          offset_is

      -- The place that lookup k of the stage or half reads is the walk's.
      pub read_is : (u a : List ℕ) → read_next reads nr (state_at (n + k) u a) ≡ read_in S k (from + offset_of m k) u a
      read_is u a =
          (by_stage nr).read_is reads (n + k) below (table_offset nr (n + k)) u a
          ∙ ap₂ (λ (s : Stage) (j : ℕ). read_in (shape_at reads s) j (table_offset nr (n + k)) u a) stage_is index_is
          ∙ ap (λ (o : ℕ). read_in S k o u a) offset_is

      -- The walk's next lookup is lookup k of the stage or half.
      next : (w : State) (u a : List ℕ) → advance reads nr set k w ≡ state_at (n + k) u a
          → advance reads nr set (suc k) w ≡ lookup_in S k (table k) (state_at (n + k) u a)
      unfolding lookup
      next w u a e =
          advance_last reads nr set k w
          ∙ ap (λ (v : State). step reads nr (table_part nr set v.count) v) e
          ∙ ap (λ (t : List ℕ). lookup (shapes reads nr) t (state_at (n + k) u a)) table_is
          ∙ (by_stage nr).lookup_is reads (n + k) below (table k) (state_at (n + k) u a)
          ∙ ap₂ (λ (s : Stage) (j : ℕ). lookup_in (shape_at reads s) j (table k) (state_at (n + k) u a)) stage_is index_is

    module _ (u a : List ℕ) where
      abbrev spread : ℕ → List ℕ
      spread k = spreads_in S set from u k a

      abbrev xored : ℕ → List ℕ
      xored k = xors_in m set from 0 k (spread 16)

      pub spreads_walk : (k : ℕ) → k ≤ 16 → advance reads nr set k (state_at n u a) ≡ state_at (n + k) u (spread k)
      spreads_walk zero b = unfold advance spreads_in in ap (λ (x : ℕ). state_at x u a) (let e : n ≡ n + 0 = omega arith in e)
      spreads_walk (suc k) b =
          next k (omega (arith, layer_lookups_lem m)) (state_at n u a) u (spread k) (spreads_walk k (omega arith))
          ∙ at_spread S k (table k) (state_at (n + k) u (spread k)) (omega arith)
          ∙ (unfold spreads_in in ap (λ (x : ℕ). state_at x u (spread (suc k))) (let e : suc (n + k) ≡ n + suc k = omega arith in e))

      pub xors_walk : (k : ℕ) → k < xors m → advance reads nr set (16 + k) (state_at n u a) ≡ state_at (n + (16 + k)) u (xored k)
      xors_walk zero b = unfold xors_in in spreads_walk 16 (omega arith)
      xors_walk (suc k) b =
          let e : 16 + suc k ≡ suc (16 + k) = omega arith in
          ap (λ (x : ℕ). advance reads nr set x (state_at n u a)) e
          ∙ next (16 + k) (omega (arith, layer_lookups_lem m)) (state_at n u a) u (xored k) (xors_walk k (omega arith))
          ∙ at_xor S (16 + k) (table (16 + k)) (state_at (n + (16 + k)) u (xored k)) k (omega arith) (omega arith) (λ l. omega (arith, l, layer_lookups_lem m))
          ∙ ap₂ (λ (x : ℕ) (b : List ℕ). state_at x u b) (let f : suc (n + (16 + k)) ≡ n + (16 + suc k) = omega arith in f)
          (sym (xors_next m set from k (spread 16)))

      last_walk : (k : ℕ) → suc k ≡ xors m
          → advance reads nr set (layer_lookups m) (state_at n u a) ≡ state_at (n + layer_lookups m) (sums m (xored (xors m))) zero_area
      last_walk k e =
          let l : layer_lookups m ≡ suc (16 + k) = omega (arith, layer_lookups_lem m) in
          let f : suc (n + (16 + k)) ≡ n + layer_lookups m = omega arith in
          ap (λ (x : ℕ). advance reads nr set x (state_at n u a)) l
          ∙ next (16 + k) (omega arith) (state_at n u a) u (xored k) (xors_walk k (omega arith))
          ∙ at_last S (16 + k) (table (16 + k)) (state_at (n + (16 + k)) u (xored k)) k (omega arith) (omega arith) (sym l)
          ∙ ap₂ (λ (x : ℕ) (b : List ℕ). state_at x (sums m b) zero_area) f
          (sym (xors_next m set from k (spread 16)) ∙ ap xored e)

      -- There is an XOR lookup, which the last is.
      pub some_xors : 16 < layer_lookups m
      some_xors =
          ⊎_elim
          (λ e. subst (λ (m : ℕ). 16 < layer_lookups m) (sym e) (omega (arith, lookups_4)))
          (λ e. subst (λ (m : ℕ). 16 < layer_lookups m) (sym e) (omega (arith, lookups_16)))
          (in_stage nr n h).width

      pub layer_walk : advance reads nr set (layer_lookups (width_of (stage_of nr n))) (state_at n u a)
          ≡ state_at (n + layer_lookups (width_of (stage_of nr n))) (sums_in (shape_at reads (stage_of nr n)) set (table_offset nr n) u a) zero_area
      unfolding sums_in
      layer_walk = last_walk (xors m - 1) (omega (arith, layer_lookups_lem m, some_xors))
