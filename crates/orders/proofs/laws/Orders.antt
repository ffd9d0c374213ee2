-- Laws, not definitions: orders served one after the other, for any number nr of rounds.
-- Assumes nothing.
use mathlib.Core.List.{List, [], ◌∷◌, ◌++◌, append-nil, append_assoc}
use mathlib.Core.Path.{◌≡◌, refl, sym, ap, ap₂, ◌∙◌, subst}
use Prim.Native.Nat.{ℕ, ◌+◌, ◌≤◌, ◌<◌}
use native.Mathlib.Numerals.{add-one}
use native.Mathlib.Omega.{arith}
use borrow.Author.Tests.{eq-eqb, ne_eqb}
use lib.ListN.{length, get_or, set, take, drop, length-set, drop_of_length-le}
use lib.Seq.{take_all, drop-cons, drop-drop, take-suc-set, drop-set-lt}
use Rattle.answers.specs.Answers.{reply_of, returned}
use Rattle.answers.specs.Numbers.{number_of}
use Rattle.answers.proofs.laws.Numbers.{number_is}
use Rattle.layout.specs.Stages.{nowhere}
use Rattle.calls.specs.Calls.{Held, table_part, Call, to_stop, one_lookup, fetch, reply, handed, passed_on, block_left, serve, last_walk}
use Rattle.evaluate.specs.Promises.{Moves, Fetches}
use Rattle.evaluate.specs.Held.{held}
use Rattle.evaluate.specs.declared.walk.Move.{Move}
use Rattle.evaluate.specs.declared.walk.Walk.{Walk}
use Rattle.orders.specs.Orders.{one_order, fetch_order, call_for, block_behind, last_block, numbers_of, calls_of, OneServed, AllServed}
use Rattle.answers.specs.Answer.{Answer}

-- ---- one order
module _ {nr : ℕ} {mem : List ℕ} {order : ℕ} {w : Walk} {lent : List ℕ} where
  -- Where the order is the call c.
  as_call : (c : Call) → c ≡ call_for nr mem order w.count lent → {r : Move} {left : List ℕ} → Moves nr c w r
      → left ≡ block_behind c (block_left nr c (held w)) lent → OneServed nr mem order w lent r left
  as_call c e {r} m b =
      record {
        moves = subst (λ (c : Call). Moves nr c w r) e m;
        block = b ∙ ap (λ (c : Call). block_behind c (block_left nr c (held w)) lent) e;
      }

  pub one_served : {t : List ℕ} {r : Move} → order ≡ one_order → t ≡ table_part nr mem w.count → Moves nr (one_lookup t) w r
      → OneServed nr mem order w lent r lent
  unfolding call_for
  one_served {t} h e m = as_call (one_lookup t) (rw (e, eq-eqb order one_order h)) m refl

  pub fetch_served : {a : Answer} {o : ℕ} {left : List ℕ} → (order ≡ one_order → ⊥) → order ≡ fetch_order → o ≡ nowhere nr → Fetches nr lent w a left
      → OneServed nr mem order w lent (record { answer = a; walk = w; offset = o }) left
  unfolding call_for handed passed_on
  fetch_served n h e f =
      as_call (fetch lent) (rw (ne_eqb order one_order n, eq-eqb order fetch_order h))
      (record { answer = f.answer; walk = refl; offset = e; inside = λ more. absurd (omega arith) }) f.block

  pub stop_served : {r : Move} → (order ≡ one_order → ⊥) → (order ≡ fetch_order → ⊥) → Moves nr (to_stop mem order) w r
      → OneServed nr mem order w lent r lent
  unfolding call_for
  stop_served n m h = as_call (to_stop mem order) (rw (ne_eqb order one_order n, ne_eqb order fetch_order m)) h refl

-- ---- what orders give: the last walk, the numbers, the block
module _ (nr : ℕ) (mem : List ℕ) (w : Held) (block orders : List ℕ) where
  abbrev cs : List Call
  cs = calls_of nr mem w block orders

  abbrev walk_of : Held
  walk_of = last_walk nr w cs

  abbrev written_of : List ℕ
  written_of = numbers_of (serve nr w cs)

  abbrev block_of : List ℕ
  block_of = last_block block cs (serve nr w cs)

-- ---- the loop: of the orders, i are served and in their places stand the numbers returned. The rest is as it was, and what it gives from the walk
-- and the block as they are now is what is left of what all give.
pub record Serving (nr : ℕ) (mem : List ℕ) (w₀ : Walk) (orders lent : List ℕ) (w : Walk) (t block : List ℕ) (i : ℕ) : Type 0 where
  pub within : i ≤ length orders
  pub kept : length t ≡ length orders
  pub sized : length block ≡ length lent
  pub rest : drop i t ≡ drop i orders
  pub walk : walk_of nr mem (held w₀) lent orders ≡ walk_of nr mem (held w) block (drop i orders)
  pub numbers : written_of nr mem (held w₀) lent orders ≡ take i t ++ written_of nr mem (held w) block (drop i orders)
  pub left : block_of nr mem (held w₀) lent orders ≡ block_of nr mem (held w) block (drop i orders)

module _ {nr : ℕ} {mem : List ℕ} {w₀ : Walk} {orders lent : List ℕ} {w : Walk} {t block : List ℕ} {i : ℕ}
    (I : Serving nr mem w₀ orders lent w t block i) where
  pub serving_more : {r : Move} {left : List ℕ} {v : ℕ} → i < length orders → OneServed nr mem (get_or t i 0) w block r left → length left ≡ length block
      → v ≡ number_of r.answer → Serving nr mem w₀ orders lent r.walk (set t i v) left (i + 1)
  unfolding calls_of serve last_walk last_block
  serving_more {r} {left} {v} b d s e =
      let h : i < length t = omega (arith, b, I.kept) in
      let o : ℕ = get_or t i 0 in
      let c : Call = call_for nr mem o w.count block in
      let os : List ℕ = drop (i + 1) orders in
      let tail : drop (i + 1) t ≡ os = sym (drop-drop 1 i t) ∙ ap (drop 1) I.rest ∙ drop-drop 1 i orders in
      let more : drop i t ≡ o ∷ os = drop-cons t i 0 h ∙ ap (λ (n : ℕ). o ∷ drop n t) (sym (add-one i)) ∙ ap (λ (l : List ℕ). o ∷ l) tail in
      let next : drop i orders ≡ o ∷ os = sym I.rest ∙ more in
      let front : take (i + 1) (set t i v) ≡ take i t ++ (v ∷ []) = ap (λ (n : ℕ). take n (set t i v)) (add-one i) ∙ take-suc-set t i v h in
      let returns : returned (reply nr c (held w)) ≡ v =
      ap (λ (a : Answer). returned (reply_of a)) (sym d.moves.answer) ∙ sym (number_is r.answer) ∙ sym e in
      let was : handed nr c (held w) ≡ held r.walk = sym d.moves.walk in
      let block-was : block_behind c (block_left nr c (held w)) block ≡ left = sym d.block in
      record {
        within = omega (arith, I.kept);
        kept = length-set t i v ∙ I.kept;
        sized = s ∙ I.sized;
        rest = drop-set-lt (i + 1) t i v (omega arith) ∙ tail;
        walk = I.walk ∙ ap (walk_of nr mem (held w) block) next ∙ ap₂ (λ (u : Held) (b : List ℕ). walk_of nr mem u b os) was block-was;
        numbers =
            I.numbers
            ∙ ap (λ (l : List ℕ). take i t ++ written_of nr mem (held w) block l) next
            ∙ ap₂ (λ (u : Held) (b : List ℕ). take i t ++ (returned (reply nr c (held w)) ∷ written_of nr mem u b os)) was block-was
            ∙ ap (λ (n : ℕ). take i t ++ (n ∷ written_of nr mem (held r.walk) left os)) returns
            ∙ sym (append_assoc (take i t) (v ∷ []) _)
            ∙ ap (λ (l : List ℕ). l ++ written_of nr mem (held r.walk) left os) (sym front);
        left = I.left ∙ ap (block_of nr mem (held w) block) next ∙ ap₂ (λ (u : Held) (b : List ℕ). block_of nr mem u b os) was block-was;
      }

  pub serving_all : length orders ≤ i → AllServed nr mem w₀ orders lent w t block
  unfolding calls_of serve last_walk last_block
  serving_all b =
      let h : length t ≤ i = omega (arith, b, I.kept) in
      let end : drop i orders ≡ [] = drop_of_length-le orders {i = i} b in
      record {
        walk = sym (I.walk ∙ ap (walk_of nr mem (held w) block) end);
        numbers =
            sym (I.numbers ∙ ap (λ (l : List ℕ). take i t ++ written_of nr mem (held w) block l) end ∙ append-nil (take i t) ∙ take_all i t h);
        block = sym (I.left ∙ ap (block_of nr mem (held w) block) end);
      }
