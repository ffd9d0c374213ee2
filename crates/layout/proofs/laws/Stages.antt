-- Laws, not definitions: each stage or half stands in the order of layers behind the lookups, bytes and encodings that its definitions
-- name.
-- Assumes nothing.
use mathlib.Core.List.{List, [], ◌∷◌, ◌++◌, map, map-append, append_assoc}
use mathlib.Core.Logic.{⊎_elim, ◌⊎◌}
use mathlib.Core.Path.{◌≡◌, refl, sym, ap, ap₂, ◌∙◌, subst}
use Prim.Native.Nat.{ℕ, zero, suc, ◌+◌, ◌-◌, ◌*◌, ◌/◌, ◌%◌, ◌<◌}
use native.Mathlib.Omega.{arith}
use Rattle.network.specs.Numbers.{Numbers, encoding_number, sum_number, layer_results, next_numbers, start_numbers, numbers_after}
use Rattle.network.specs.Order.{GoodWidth, xors, layer_lookups}
use Rattle.network.specs.Sizes.{layer_bytes, lookups_in, bytes_in, results_in}
use Rattle.network.proofs.laws.Layers.{lookups_append, bytes_append, results_append, numbers_append, first_after}
use Rattle.layout.specs.Stages.{rounds, stages, width_of, entry_lookups, half_lookups, round_lookups, after_round, first_lookup, first_byte_of, numbers_of}
use Rattle.layout.specs.declared.stage.Stage.{Stage}
use Rattle.layout.specs.declared.stage.Stage.TheVariants.{Entry, First, Second, Exit, Beyond}

-- ---- the two widths
pub good_16 : GoodWidth 16
good_16 = record { wide = omega arith; most = omega arith; whole = refl }

pub good_4 : GoodWidth 4
good_4 = record { wide = omega arith; most = omega arith; whole = refl }

pub either_good : (m : ℕ) → (m ≡ 4) ⊎ (m ≡ 16) → GoodWidth m
either_good m k = ⊎_elim (λ e. subst GoodWidth (sym e) good_4) (λ e. subst GoodWidth (sym e) good_16) k

pub lookups_16 : layer_lookups 16 ≡ entry_lookups
unfolding layer_lookups xors
lookups_16 = refl

pub lookups_4 : layer_lookups 4 ≡ half_lookups
unfolding layer_lookups xors
lookups_4 = refl

pub bytes_16 : layer_bytes 16 ≡ 126976
unfolding layer_bytes xors
bytes_16 = refl

pub bytes_4 : layer_bytes 4 ≡ 28672
unfolding layer_bytes xors
bytes_4 = refl

pub results_16 : layer_results 16 ≡ 992
unfolding layer_results xors
results_16 = refl

pub results_4 : layer_results 4 ≡ 224
unfolding layer_results xors
results_4 = refl

-- ---- rounds
abbrev widths_in : List Stage → List ℕ
widths_in ss = map width_of ss

rounds_split : (r i n : ℕ) → rounds r (i + n) ≡ rounds r i ++ rounds (r + i) n
unfolding rounds
rounds_split r zero n = ap₂ rounds (let e : r ≡ r + 0 = omega arith in e) (let e : 0 + n ≡ n = omega arith in e)
rounds_split r (suc i) n =
    ap (rounds r) (let e : suc i + n ≡ suc (i + n) = omega arith in e)
    ∙ ap (λ (ss : List Stage). First r ∷ Second r ∷ ss)
    (rounds_split (suc r) i n ∙ ap (λ (x : ℕ). rounds (suc r) i ++ rounds x n) (let e : suc r + i ≡ r + suc i = omega arith in e))

rounds_lookups : (r n : ℕ) → lookups_in (widths_in (rounds r n)) ≡ round_lookups * n
unfolding rounds lookups_in
rounds_lookups r zero = omega arith
rounds_lookups r (suc n) = omega (arith, lookups_4, rounds_lookups (suc r) n)

rounds_bytes : (r n : ℕ) → bytes_in (widths_in (rounds r n)) ≡ 57344 * n
unfolding rounds bytes_in
rounds_bytes r zero = omega arith
rounds_bytes r (suc n) = omega (arith, bytes_4, rounds_bytes (suc r) n)

rounds_results : (r n : ℕ) → results_in (widths_in (rounds r n)) ≡ 448 * n
unfolding rounds results_in
rounds_results r zero = omega arith
rounds_results r (suc n) = omega (arith, results_4, rounds_results (suc r) n)

-- ---- the numbers after the entry and n rounds
numbers : {A B : Numbers} → A.first ≡ B.first → A.standing ≡ B.standing → A ≡ B
numbers p q = λ i. record { first = p i; standing = q i }

abbrev entered : ℕ → List Stage
entered n = Entry ∷ rounds 1 n

entered_lookups : (n : ℕ) → lookups_in (widths_in (entered n)) ≡ entry_lookups + round_lookups * n
unfolding lookups_in
entered_lookups n = omega (arith, lookups_16, rounds_lookups 1 n)

entered_bytes : (n : ℕ) → bytes_in (widths_in (entered n)) ≡ 126976 + 57344 * n
unfolding bytes_in
entered_bytes n = omega (arith, bytes_16, rounds_bytes 1 n)

entered_first : (n : ℕ) → (numbers_after (widths_in (entered n)) start_numbers).first ≡ 1024 + 448 * n
unfolding results_in start_numbers
entered_first n = first_after (widths_in (entered n)) start_numbers ∙ omega (arith, results_16, rounds_results 1 n)

entered_standing : (n : ℕ) → (numbers_after (widths_in (entered n)) start_numbers).standing ≡ after_round n
unfolding numbers_after
entered_standing zero = unfold next_numbers in unfold start_numbers in unfold rounds in refl
entered_standing (suc n) =
    ap (λ (ms : List ℕ). (numbers_after ms start_numbers).standing) last
    ∙ ap (λ (N : Numbers). N.standing) (numbers_append (widths_in (entered n)) (4 ∷ 4 ∷ []) start_numbers)
    ∙ (unfold next_numbers in
    ap (sum_number 4) (let e : (numbers_after (widths_in (entered n)) start_numbers).first + layer_results 4 ≡ 1248 + 448 * n = omega (arith, entered_first n, results_4) in e))
  where
    last : widths_in (entered (suc n)) ≡ widths_in (entered n) ++ (4 ∷ 4 ∷ [])
    last =
        ap (λ (x : ℕ). widths_in (entered x)) (let e : suc n ≡ n + 1 = omega arith in e)
        ∙ ap (λ (ss : List Stage). widths_in (Entry ∷ ss)) (rounds_split 1 n 1)
        ∙ map-append width_of (entered n) (rounds (1 + n) 1)
        ∙ (unfold rounds in refl)

entered_numbers : (n : ℕ) → numbers_after (widths_in (entered n)) start_numbers ≡ record { first = 1024 + 448 * n; standing = after_round n }
entered_numbers n = numbers (entered_first n) (entered_standing n)

-- ---- where a stage or half stands
pub record Found (nr : ℕ) (s : Stage) : Type 0 where
  pub before : List Stage
  pub behind : List Stage
  pub split : stages nr ≡ before ++ (s ∷ behind)
  pub lookups_before : lookups_in (map width_of before) ≡ first_lookup nr s
  pub bytes_before : bytes_in (map width_of before) ≡ first_byte_of nr s
  pub numbers_before : numbers_after (map width_of before) start_numbers ≡ numbers_of nr s

pub found_entry : (nr : ℕ) → Found nr Entry
unfolding stages lookups_in bytes_in numbers_after numbers_of start_numbers
found_entry nr =
    record { before = []; behind = rounds 1 (nr - 1) ++ (Exit ∷ []); split = refl; lookups_before = refl; bytes_before = refl; numbers_before = refl }

-- in the rounds: i rounds before round i + 1, which is one of the nr - 1
module _ (nr i : ℕ) (h : suc i < nr) where
  split_rounds : stages nr ≡ entered i ++ (First (i + 1) ∷ Second (i + 1) ∷ (rounds (suc (1 + i)) (nr - 2 - i) ++ (Exit ∷ [])))
  unfolding stages
  split_rounds =
      ap (λ (n : ℕ). Entry ∷ (rounds 1 n ++ (Exit ∷ []))) (let e : nr - 1 ≡ i + suc (nr - 2 - i) = omega arith in e)
      ∙ ap (λ (ss : List Stage). Entry ∷ (ss ++ (Exit ∷ []))) (rounds_split 1 i (suc (nr - 2 - i)))
      ∙ ap (λ (ss : List Stage). Entry ∷ ss) (append_assoc (rounds 1 i) (rounds (1 + i) (suc (nr - 2 - i))) (Exit ∷ []))
      ∙ (unfold rounds in
      ap (λ (r : ℕ). entered i ++ (First r ∷ Second r ∷ (rounds (suc (1 + i)) (nr - 2 - i) ++ (Exit ∷ [])))) (let e : 1 + i ≡ i + 1 = omega arith in e))

  pub found_first : Found nr (First (i + 1))
  unfolding numbers_of
  found_first =
      let e : i + 1 - 1 ≡ i = omega arith in
      record {
        before = entered i;
        behind = Second (i + 1) ∷ (rounds (suc (1 + i)) (nr - 2 - i) ++ (Exit ∷ []));
        split = split_rounds;
        lookups_before = rw e (entered_lookups i);
        bytes_before = rw e (entered_bytes i);
        numbers_before = entered_numbers i ∙ ap (λ (x : ℕ). record { first = 1024 + 448 * x; standing = after_round x }) (sym e);
      }

  pub found_second : Found nr (Second (i + 1))
  unfolding numbers_of
  found_second =
      let e : i + 1 - 1 ≡ i = omega arith in
      record {
        before = entered i ++ (First (i + 1) ∷ []);
        behind = rounds (suc (1 + i)) (nr - 2 - i) ++ (Exit ∷ []);
        split = split_rounds ∙ sym (append_assoc (entered i) (First (i + 1) ∷ []) _);
        lookups_before = ap lookups_in widths_are ∙ lookups_append (widths_in (entered i)) (4 ∷ []) ∙ omega (arith, entered_lookups i, one_lookups);
        bytes_before = ap bytes_in widths_are ∙ bytes_append (widths_in (entered i)) (4 ∷ []) ∙ omega (arith, entered_bytes i, one_bytes);
        numbers_before = ap (λ (ms : List ℕ). numbers_after ms start_numbers) widths_are
            ∙ numbers_append (widths_in (entered i)) (4 ∷ []) start_numbers
            ∙ ap (numbers_after (4 ∷ [])) (entered_numbers i)
            ∙ next_is
            ∙ ap (λ (x : ℕ). record { first = 1248 + 448 * x; standing = sum_number 4 (1024 + 448 * x) }) (sym e);
      }
    where
      widths_are : widths_in (entered i ++ (First (i + 1) ∷ [])) ≡ widths_in (entered i) ++ (4 ∷ [])
      widths_are = map-append width_of (entered i) (First (i + 1) ∷ [])

      next_is : numbers_after (4 ∷ []) (record { first = 1024 + 448 * i; standing = after_round i })
          ≡ record { first = 1248 + 448 * i; standing = sum_number 4 (1024 + 448 * i) }
      next_is = unfold numbers_after in unfold next_numbers in numbers (omega (arith, results_4)) refl

      one_lookups : lookups_in (4 ∷ []) ≡ half_lookups
      one_lookups = unfold lookups_in in omega (arith, lookups_4)

      one_bytes : bytes_in (4 ∷ []) ≡ 28672
      one_bytes = unfold bytes_in in omega (arith, bytes_4)

pub found_exit : (nr : ℕ) → Found nr Exit
unfolding stages numbers_of
found_exit nr =
    record {
      before = entered (nr - 1);
      behind = [];
      split = refl;
      lookups_before = entered_lookups (nr - 1);
      bytes_before = entered_bytes (nr - 1);
      numbers_before = entered_numbers (nr - 1);
    }

-- ---- all layers
abbrev all : ℕ → List ℕ
all nr = widths_in (entered (nr - 1)) ++ (16 ∷ [])

widths_all : (nr : ℕ) → map width_of (stages nr) ≡ all nr
unfolding stages
widths_all nr = map-append width_of (entered (nr - 1)) (Exit ∷ [])

pub all_lookups_of : (nr : ℕ) → lookups_in (map width_of (stages nr)) ≡ first_lookup nr Beyond
unfolding lookups_in
all_lookups_of nr =
    ap lookups_in (widths_all nr) ∙ lookups_append (widths_in (entered (nr - 1))) (16 ∷ []) ∙ omega (arith, entered_lookups (nr - 1), lookups_16)

pub all_bytes_of : (nr : ℕ) → bytes_in (map width_of (stages nr)) ≡ first_byte_of nr Beyond
unfolding bytes_in
all_bytes_of nr = ap bytes_in (widths_all nr) ∙ bytes_append (widths_in (entered (nr - 1))) (16 ∷ []) ∙ omega (arith, entered_bytes (nr - 1), bytes_16)

pub all_results_of : (nr : ℕ) → results_in (map width_of (stages nr)) ≡ 1984 + 448 * (nr - 1)
unfolding results_in
all_results_of nr =
    ap results_in (widths_all nr) ∙ results_append (widths_in (entered (nr - 1))) (16 ∷ []) ∙ omega (arith, rounds_results 1 (nr - 1), results_16)

-- after all layers the standing nibbles have the last 32 numbers
pub numbers_end : (nr : ℕ) → numbers_after (map width_of (stages nr)) start_numbers ≡ numbers_of nr Beyond
unfolding numbers_of numbers_after next_numbers
numbers_end nr =
    ap (λ (ms : List ℕ). numbers_after ms start_numbers) (widths_all nr)
    ∙ numbers_append (widths_in (entered (nr - 1))) (16 ∷ []) start_numbers
    ∙ ap (numbers_after (16 ∷ [])) (entered_numbers (nr - 1))
    ∙ numbers (omega (arith, results_16)) refl

pub sums_16 : (first q : ℕ) → q < 32 → sum_number 16 first q ≡ first + 960 + q
unfolding encoding_number
sums_16 first q b =
    let e : q / 32 ≡ 0 = omega arith in
    let f : q % 32 ≡ q = omega arith in
    rw (e, f) (omega arith)
