-- Laws, not definitions: the theorems of specs/Witness.antt but for the matrices, which are in Mixing.antt. A built bundle holds what it was built from, so it is
-- sound, and a sound bundle is accepted.
-- Assumes nothing.
use mathlib.Core.List.{List}
use mathlib.Core.Path.{sym, subst}
use Prim.Native.Nat.{ℕ, ◌≤◌}
use native.Mathlib.Omega.{arith}
use Rattle.bits.specs.Bytes.{Bytes}
use Rattle.bits.specs.Encodings.{Permutation}
use Rattle.bits.proofs.laws.Encodings.{plain_permutation}
use Rattle.matrices.specs.Matrices.{Invertible}
use Rattle.matrices.proofs.laws.Matrices.{identity_invertible}
use Rattle.blocks.specs.Theorems.{BlockInvertible}
use Rattle.bundle.specs.Built.{bundle_of, PlainBut}
use Rattle.bundle.specs.Format.{shortest, longest}
use Rattle.bundle.proofs.laws.Built.{building, but_writable, but_built}
use Rattle.bundle.proofs.laws.Frame.{sizes, framed}
use Rattle.judgement.specs.Judgements.{Sound}
use Rattle.judgement.specs.Witness.{Buildable, BuiltAccepted, mixing_matrix, mixing_bundle, MixingAccepted, TenAccepted}
use Rattle.judgement.proofs.laws.Judgements.{accepted_exactly}
use Rattle.judgement.proofs.laws.Mixing.{mixing_square, mixing_matrices}

built_sound : (nr : ℕ) (E B C : ℕ → List ℕ) (I O : List ℕ) → shortest nr ≤ longest nr → Buildable nr E B C I O → Sound nr (bundle_of nr E B C I O)
built_sound nr E B C I O fits b =
    let built = building nr E B C I O fits b.writable in
    let holds = built.holds in
    record {
      framed = framed nr (bundle_of nr E B C I O) built.framed;
      lists = λ n h. subst Permutation (sym (holds.lists n h)) (b.lists n h);
      bytes = λ n h. subst (BlockInvertible 2) (sym (holds.bytes n h)) (b.bytes n h);
      columns = λ n h. subst (BlockInvertible 8) (sym (holds.columns n h)) (b.columns n h);
      input = subst (Invertible 128) (sym holds.input) b.input;
      output = subst (Invertible 128) (sym holds.output) b.output;
    }

pub built_accepted : BuiltAccepted
built_accepted nr E B C I O fits b =
    let bytes = (building nr E B C I O fits b.writable).all_bytes in
    (accepted_exactly nr (bundle_of nr E B C I O) bytes).1 (built_sound nr E B C I O fits b)

-- ---- the bundle that is plain but for them
pub mixing_accepted : MixingAccepted
unfolding mixing_bundle
mixing_accepted nr fits = built_accepted nr _ _ _ _ _ fits (record {
  writable = but_writable nr _ _ (λ n. mixing_square 2) (λ n. mixing_square 8);
  lists = λ n h. plain_permutation;
  bytes = λ n h. mixing_matrices.0;
  columns = λ n h. mixing_matrices.1;
  input = identity_invertible 128;
  output = identity_invertible 128;
})

pub ten_fits : shortest 10 ≤ longest 10
ten_fits = omega (arith, sizes.low, sizes.high)

pub ten_accepted : TenAccepted
ten_accepted = mixing_accepted 10 ten_fits

pub ten_built : Bytes (mixing_bundle 10) × PlainBut 10 (λ n. mixing_matrix 2) (λ n. mixing_matrix 8) (mixing_bundle 10)
unfolding mixing_bundle
ten_built =
    let built = but_built 10 _ _ (λ n. mixing_square 2) (λ n. mixing_square 8) ten_fits in
    (built.all_bytes, built.holds)
