-- Laws, not definitions: AES's layers are good, and they follow the values due, from the input matrix times the block to the output matrix
-- times the cipher's block. So the network's closed form is the state of values due.
-- Assumes nothing.
use mathlib.Core.List.{List, [], ◌∷◌, ◌++◌, map}
use mathlib.Core.Path.{◌≡◌, refl, sym, ap, ap₂, ◌∙◌, subst}
use Prim.Native.Nat.{ℕ, zero, suc, ◌+◌, ◌-◌, ◌≤◌, ◌<◌}
use native.Mathlib.Omega.{arith}
use lib.Dec.{lit<}
use Rattle.bits.specs.Bytes.{Bytes, Block}
use Rattle.bits.specs.Lists.{at}
use Rattle.bits.proofs.laws.Bytes.{bytes_of_bytes}
use Rattle.bits.proofs.laws.Lists.{tabulate_below}
use Rattle.matrices.proofs.laws.Matrices.{product_lt}
use Rattle.external.specs.Coding.{multiply}
use Rattle.network.specs.Due.{summed, closed}
use Rattle.network.specs.Numbers.{start_numbers}
use Rattle.network.specs.Tables.{AllGood}
use Rattle.network.proofs.laws.Values.{Follows, closed_follows}
use Rattle.layout.specs.Stages.{stages, rounds}
use Rattle.layout.proofs.laws.Instance.{good_stages}
use Rattle.layout.proofs.laws.Stages.{good_16, good_4}
use Rattle.layout.specs.declared.stage.Stage.TheVariants.{First, Exit}
use Rattle.whitebox.specs.Codings.{Codings, Sound, byte_matrix_at}
use Rattle.whitebox.specs.Parts.{Parts, Fine}
use Rattle.whitebox.specs.States.{keyed, mixed, state_after, result}
use Rattle.whitebox.specs.Tables.{layer_of, layers}
use Rattle.whitebox.specs.Values.{under_bytes, under_columns, standing_at, values_at, values, ended, state_due}
use Rattle.whitebox.specs.Words.{entry_word, mixed_word, second_word_of, placed_word}
use Rattle.whitebox.proofs.laws.States.{state_bytes, keyed_bytes}
use Rattle.whitebox.proofs.laws.Words.{substituted_is, entry_next, first_next, second_next, exit_next}

-- ---- the layers are good: words are bytes, and positions read positions
module _ (P : Parts) (C : Codings) where
  pub entry_bytes : (p x : ℕ) → Bytes (entry_word P C p x)
  unfolding entry_word
  entry_bytes p x = tabulate_below 256 16 _ (lit< tt) (λ j h. product_lt 8 (at (byte_matrix_at C 1 j)) _)

  pub mixed_word_bytes : (r p y : ℕ) → Bytes (mixed_word P C r p y)
  unfolding mixed_word
  mixed_word_bytes r p y = bytes_of_bytes 4 _

  pub second_bytes : (r p x : ℕ) → Bytes (second_word_of P C r p x)
  unfolding second_word_of
  second_bytes r p x = tabulate_below 256 4 _ (lit< tt) (λ t h. product_lt 8 (at (byte_matrix_at C (suc r) _)) _)

  pub placed_word_bytes : (p y : ℕ) → Bytes (placed_word P C p y)
  unfolding placed_word
  placed_word_bytes p y = bytes_of_bytes 16 _

  pub layers_read : ((p : ℕ) → p < 16 → P.reads p < 16) → (nr : ℕ) → AllGood (layers P C nr)
  unfolding layers
  layers_read reads nr =
      good_stages (layer_of P C nr) nr
      (record { groups = good_16; reads = λ p h. h; bytes = entry_bytes })
      (λ r. record { groups = good_4; reads = reads; bytes = λ p x. mixed_word_bytes r p _ })
      (λ r. record { groups = good_4; reads = λ p h. h; bytes = second_bytes r })
      (record { groups = good_16; reads = reads; bytes = λ p x. placed_word_bytes p _ })

pub layers_good : (P : Parts) → Fine P → (C : Codings) (nr : ℕ) → AllGood (layers P C nr)
layers_good P fine C nr = layers_read P C fine.reads_lt nr

-- ---- the layers follow the values due
module _ (P : Parts) (fine : Fine P) (C : Codings) (sound : Sound C) (nr : ℕ) (b : List ℕ) (block : Block b) where
  bytes_at : (k : ℕ) → Bytes (state_after P b k)
  bytes_at k = state_bytes P fine b block.bytes k

  -- Round r = k + 1 starts from the state behind round k.
  before : (k : ℕ) → under_bytes C (suc k) (state_after P b k) ≡ under_bytes C (suc k) (state_after P b (suc k - 1))
  before k = ap (λ (j : ℕ). under_bytes C (suc k) (state_after P b j)) (let e : k ≡ suc k - 1 = omega arith in e)

  first_words : (k p : ℕ) → p < 16
      → Rattle.whitebox.specs.Words.first_word P C (suc k) p (at (under_bytes C (suc k) (state_after P b k)) (P.reads p))
      ≡ mixed_word P C (suc k) p (at (keyed P (suc k) (state_after P b (suc k - 1))) p)
  first_words k p h =
      ap (mixed_word P C (suc k) p) (substituted_is P fine C sound (suc k) (state_after P b k) (bytes_at k) p h)
      ∙ ap (λ (j : ℕ). mixed_word P C (suc k) p (at (keyed P (suc k) (state_after P b j)) p)) (let e : k ≡ suc k - 1 = omega arith in e)

  half_way : (k : ℕ) → summed (values_at P C nr b (First (suc k))) ≡ under_columns C (suc k) (state_after P b (suc k))
  unfolding state_after
  half_way k =
      first_next P fine C sound (suc k) (standing_at P C nr b (First (suc k))) (keyed P (suc k) (state_after P b (suc k - 1)))
      ∙ ap (λ (j : ℕ). under_columns C (suc k) (mixed P (keyed P (suc k) (state_after P b j)))) (let e : suc k - 1 ≡ k = omega arith in e)

  exit_words : (k p : ℕ) → suc k ≡ nr → p < 16
      → Rattle.whitebox.specs.Words.exit_word P C nr p (at (under_bytes C (suc k) (state_after P b k)) (P.reads p))
      ≡ placed_word P C p (at (result P nr b) p)
  unfolding result
  exit_words k p e h =
      ap₂ (λ (r j : ℕ). Rattle.whitebox.specs.Words.exit_word P C nr p (at (under_bytes C r (state_after P b j)) (P.reads p))) e
      (let z : k ≡ nr - 1 = omega arith in z)
      ∙ ap (placed_word P C p) (substituted_is P fine C sound nr (state_after P b (nr - 1)) (bytes_at (nr - 1)) p h)

  -- The values of n rounds from round k on, and of the exit, from the standing bytes l.
  abbrev FromRound : ℕ → ℕ → List ℕ → Type 0
  FromRound k n l = Follows (map (layer_of P C nr) (rounds k n ++ (Exit ∷ []))) (map (values_at P C nr b) (rounds k n ++ (Exit ∷ []))) l (ended P C nr b)

  from_round : (n k : ℕ) → suc k + n ≡ nr → FromRound (suc k) n (under_bytes C (suc k) (state_after P b k))
  unfolding rounds ended result
  from_round zero k e =
      let z : suc k ≡ nr = omega arith in (
        record {
          width = refl;
          standing = ap₂ (λ (r j : ℕ). under_bytes C r (state_after P b j)) z (let y : k ≡ nr - 1 = omega arith in y);
          words = λ p h. exit_words k p z h;
        },
        exit_next P fine C sound (standing_at P C nr b Exit) (result P nr b) (keyed_bytes P fine nr (state_after P b (nr - 1)) (bytes_at (nr - 1))),
      )
  from_round (suc n) k e = (
    record { width = refl; standing = before k; words = first_words k },
    (
      record { width = refl; standing = half_way k; words = λ p h. ap (λ (l : List ℕ). second_word_of P C (suc k) p (at l p)) (half_way k) },
      subst (FromRound (suc (suc k)) n)
          (sym (second_next P fine C sound (suc k) (state_after P b (suc k)) (bytes_at (suc k))))
          (from_round n (suc k) (omega arith)),
    ),
  )

  start_is : under_bytes C 1 b ≡ under_bytes C 1 (state_after P b 0)
  unfolding state_after
  start_is = refl

  pub follows : 1 ≤ nr → Follows (layers P C nr) (values P C nr b) (multiply C.input_matrix b) (ended P C nr b)
  unfolding layers values stages
  follows h = (
    record { width = refl; standing = refl; words = λ p c. refl },
    subst (FromRound 1 (nr - 1))
        (sym (entry_next P fine C sound nr b block ∙ start_is)) (from_round (nr - 1) 0 (omega arith)),
  )

  -- The closed form of the network is the state of values due.
  pub closed_is_due : 1 ≤ nr → (k : ℕ) → closed C.encoding (layers P C nr) start_numbers (multiply C.input_matrix b) 0 k ≡ state_due P C nr b k
  unfolding state_due
  closed_is_due h k =
      closed_follows C.encoding (layers P C nr) (values P C nr b) (multiply C.input_matrix b) (ended P C nr b) (follows h)
      (layers_good P fine C nr) start_numbers 0 k
