-- Lists of numbers. Definitions only; their laws are in proofs/laws/Lists.antt and Cuts.antt.
use Rattle.std.specs.Prelude.{List, [], ◌∷◌, ◌++◌, ◌≡◌, ℕ, zero, suc, ◌*◌, ◌<◌, length, get_or, take, drop}

-- Element i of a list of numbers, 0 past its end.
abbrev pub at : List ℕ → ℕ → ℕ
at l i = get_or l i 0

-- The list f 0, f 1, .., f (n - 1).
unfoldable pub tabulate : {A : Type 0} → ℕ → (ℕ → A) → List A
tabulate zero f = []
tabulate (suc n) f = f zero ∷ tabulate n (λ k. f (suc k))

-- The lists t 0, t 1, .., t (n - 1), one after the other.
unfoldable pub concat : ℕ → (ℕ → List ℕ) → List ℕ
concat zero t = []
concat (suc n) t = concat n t ++ t n

-- Part k of a list in parts of one size; empty behind the last.
unfoldable pub part_of : ℕ → List ℕ → ℕ → List ℕ
part_of size l k = take size (drop (k * size) l)

-- The number v stands in the list.
pub record Listed (l : List ℕ) (v : ℕ) : Type 0 where
  pub position : ℕ
  pub inside : position < length l
  pub number : at l position ≡ v

-- Each number is above those before it, so none stands there twice.
abbrev pub Rising : List ℕ → Type 0
Rising l = (p q : ℕ) → p < q → q < length l → at l p < at l q
