-- Laws, not definitions: the test whether two parts of records are the same, byte by byte, and the search for the first entry of which they have other bytes.
-- Assumes nothing.
use Rattle.std.specs.Prelude.{None}
use mathlib.Core.Bool.{Bool, true, false, not, ◌&&◌}
use mathlib.Core.List.{List, [], ◌∷◌}
use mathlib.Core.Path.{◌≡◌, refl, sym, ap, ap₂, ◌∙◌}
use Prim.Native.Nat.{ℕ, ◌+◌, ◌*◌, ◌≤◌, ◌<◌}
use native.Mathlib.Omega.{arith}
use borrow.Author.Tests.{eq-eqb, eqb-true}
use lib.Dec.{eqb}
use lib.ListN.{length}
use Rattle.answers.specs.Search.{first}
use Rattle.answers.proofs.laws.Search.{all_none}
use Rattle.bits.specs.Lists.{at, part_of}
use Rattle.bits.proofs.laws.Lists.{ext_at, cut, cut_is}
use Rattle.layer_record.specs.Entries.{entry_size}
use Rattle.records.specs.InPlace.{other_in}
use Rattle.records.specs.Replay.{same}

-- ---- two lists are the same, by the test
both_true : (p q : Bool) → (p && q) ≡ true → (p ≡ true) × (q ≡ true)
both_true true q e = (refl, e)
both_true false q e = let y : ◌≡◌ {A = ℕ} 0 1 = cc in absurd (omega arith)

and_false : (x : Bool) → false ≡ (x && false)
and_false true = refl
and_false false = refl

and_true : (x : Bool) → x ≡ (x && true)
and_true true = refl
and_true false = refl

pub same_only : (a b : List ℕ) → same a b ≡ true → a ≡ b
unfolding same
same_only [] [] e = refl
same_only [] (y ∷ ys) e = let z : ◌≡◌ {A = ℕ} 0 1 = cc in absurd (omega arith)
same_only (x ∷ xs) [] e = let z : ◌≡◌ {A = ℕ} 0 1 = cc in absurd (omega arith)
same_only (x ∷ xs) (y ∷ ys) e =
    let d = both_true (eqb x y) (same xs ys) e in
    ap₂ (λ (z : ℕ) (zs : List ℕ). z ∷ zs) (eqb-true x y d.0) (same_only xs ys d.1)

pub same_if : (a : List ℕ) → same a a ≡ true
unfolding same
same_if [] = refl
same_if (x ∷ xs) = ap₂ (λ (p q : Bool). p && q) (eq-eqb x x refl) (same_if xs)

-- ---- a loop that compares two parts of records: the first i bytes are the same if `alike` says so, and if not the parts differ
pub record Alike (a b : List ℕ) (alike : Bool) (i : ℕ) : Type 0 where
  pub within : i ≤ length a
  pub long : length a ≡ length b
  pub yes : alike ≡ true → (j : ℕ) → j < i → at a j ≡ at b j
  pub no : alike ≡ false → a ≡ b → ⊥

module _ {a b : List ℕ} {alike : Bool} {i : ℕ} (A : Alike a b alike i) where
  pub alike_all : {n : ℕ} → n ≡ length a → n ≤ i → alike ≡ same a b
  alike_all {n} l h = by alike refl (same a b) refl
    where
      by : (x : Bool) → alike ≡ x → (y : Bool) → same a b ≡ y → alike ≡ same a b
      by true g y f = g ∙ sym (ap (same a) (sym (ext_at n a b (sym l) (sym A.long ∙ sym l) (λ j k. A.yes g j (omega arith)))) ∙ same_if a)
      by false g true f = absurd (A.no g (same_only a b f))
      by false g false f = g ∙ sym f

-- ---- the search for the first of n entries of which two parts of records have other bytes
-- Where the parts are the same there is none.
pub all_alike : (a b : List ℕ) (n : ℕ) {r : Bool} → r ≡ same a b → r ≡ true → None ≡ first n (other_in a b)
all_alike a b n e f =
    sym (all_none n (other_in a b) (λ i. other_in a b i ≡ false) (λ i e. e) (λ i e. e)
    (λ i h. ap (λ (l : List ℕ). other_in a l i) (sym (same_only a b (sym e ∙ f))) ∙ ap not (same_if (part_of entry_size a i))))

-- Entry k, as the code cuts it.
pub other_cut : (a b : List ℕ) (k : ℕ) {r : Bool} → r ≡ same (cut a (k * entry_size) (k * entry_size + entry_size)) (cut b (k * entry_size) (k * entry_size + entry_size))
    → not r ≡ other_in a b k
unfolding part_of
other_cut a b k e = ap not (e ∙ ap₂ same (cut_is a (k * entry_size) entry_size) (cut_is b (k * entry_size) entry_size))
