-- Laws, not definitions: of a loop that fills n parts of a list from the front, part i with the list t i, one a turn: the part is lent and comes
-- back filled. First for parts of any lengths, then for parts of w places each.
-- Assumes nothing.
use mathlib.Core.Path.{◌≡◌, refl, sym, ap, ap₂, ◌∙◌}
use mathlib.Core.List.{List, ◌++◌}
use Prim.Native.Nat.{ℕ, ◌+◌, ◌-◌, ◌*◌, ◌≤◌, ◌<◌}
use native.Mathlib.Nat.{zero-mul, one-mul, add-mul}
use native.Mathlib.Omega.{arith}
use borrow.Rule.Slice.PartMut.{put_mid, same_len_mid, drop_put}
use lib.ListN.{length, take, drop, take-append-drop}
use lib.Seq.{take_all, drop-drop}
use Rattle.bits.specs.Lists.{concat}
use Rattle.bits.proofs.laws.Lists.{concat_next, cut, length_cut, take_put}
use Rattle.bits.proofs.laws.Multiples.{row_inside}

-- ---- parts of any lengths: part i begins at place o i
-- The loop's invariant: of the list d₀, which d has become, the first i parts are filled, and what stands behind them is as it was.
pub record PartsAt (n : ℕ) (o : ℕ → ℕ) (t : ℕ → List ℕ) (d₀ d : List ℕ) (i : ℕ) : Type 0 where
  pub within : i ≤ n
  pub long : length d ≡ length d₀
  pub front : take (o i) d ≡ concat i t
  pub back : drop (o i) d ≡ drop (o i) d₀

pub parts_at_none : {n : ℕ} {o : ℕ → ℕ} {t : ℕ → List ℕ} {d : List ℕ} → o 0 ≡ 0 → PartsAt n o t d d 0
unfolding concat
parts_at_none {d = d} z = record { within = omega arith; long = refl; front = ap (λ (k : ℕ). take k d) z; back = refl }

module _ {n : ℕ} {o : ℕ → ℕ} {t : ℕ → List ℕ} {d₀ d : List ℕ} {i : ℕ} (g : PartsAt n o t d₀ d i) where
  -- Part i, from place a on, is lent and comes back with list i; behind it begins the next.
  pub parts_at_more : (a size : ℕ) {ys : List ℕ} → i < n → a ≡ o i → a + size ≡ o (i + 1) → a + size ≤ length d
      → length ys ≡ length (cut d a (a + size)) → ys ≡ t i → PartsAt n o t d₀ (put_mid a (a + size - a) d ys) (i + 1)
  parts_at_more a size {ys = ys} h start next inside e is =
      let long = length_cut d a size inside in
      record {
        within = omega arith;
        long = same_len_mid a (a + size - a) d ys e ∙ g.long;
        front =
            take_put a (a + size - a) (o (i + 1)) d ys (omega arith) (omega arith)
            ∙ ap₂ (λ (u v : List ℕ). u ++ v) (ap (λ (k : ℕ). take k d) start ∙ g.front) is
            ∙ sym (concat_next i t);
        back =
            ap (λ (k : ℕ). drop k (put_mid a (a + size - a) d ys)) (sym next)
            ∙ drop_put a (a + size) d ys (omega arith) inside (omega (arith, e, long))
            ∙ sym (drop-drop size a d)
            ∙ ap (drop size) (ap (λ (k : ℕ). drop k d) start ∙ g.back ∙ ap (λ (k : ℕ). drop k d₀) (sym start))
            ∙ drop-drop size a d₀
            ∙ ap (λ (k : ℕ). drop k d₀) next;
      }

  -- Behind the last part: what stands in front of its end, the whole list, and the whole list where the parts are all of it.
  parts_at_front : n ≤ i → take (o n) d ≡ concat n t
  parts_at_front h =
      let done : n ≡ i = omega arith in
      ap (λ (k : ℕ). take (o k) d) done ∙ g.front ∙ ap (λ (k : ℕ). concat k t) (sym done)

  parts_at_whole : n ≤ i → d ≡ concat n t ++ drop (o n) d₀
  parts_at_whole h =
      let done : i ≡ n = omega arith in
      sym (take-append-drop (o n) d)
      ∙ ap₂ (λ (u v : List ℕ). u ++ v) (parts_at_front h)
      (ap (λ (k : ℕ). drop (o k) d) (sym done) ∙ g.back ∙ ap (λ (k : ℕ). drop (o k) d₀) done)

  pub parts_at_all : n ≤ i → length d₀ ≡ o n → d ≡ concat n t
  parts_at_all h e = sym (take_all (o n) d (omega (arith, g.long))) ∙ parts_at_front h

-- ---- parts of w places each, for which the list has room
pub record Parts (n w : ℕ) (t : ℕ → List ℕ) (d₀ d : List ℕ) (i : ℕ) : Type 0 where
  pub within : i ≤ n
  pub room : n * w ≤ length d₀
  pub long : length d ≡ length d₀
  pub front : take (i * w) d ≡ concat i t
  pub back : drop (i * w) d ≡ drop (i * w) d₀

module _ {n w : ℕ} {t : ℕ → List ℕ} {d₀ d : List ℕ} {i : ℕ} where
  places : Parts n w t d₀ d i → PartsAt n (λ k. k * w) t d₀ d i
  places g = record { within = g.within; long = g.long; front = g.front; back = g.back }

  with_room : n * w ≤ length d₀ → PartsAt n (λ k. k * w) t d₀ d i → Parts n w t d₀ d i
  with_room r g = record { within = g.within; room = r; long = g.long; front = g.front; back = g.back }

pub parts_none : {n w : ℕ} {t : ℕ → List ℕ} {d : List ℕ} → n * w ≤ length d → Parts n w t d d 0
parts_none {w = w} h = with_room h (parts_at_none (zero-mul w))

-- The part that a turn lends: it lies within the list, and is w places long.
pub record Part {n w : ℕ} {t : ℕ → List ℕ} {d₀ d : List ℕ} {i : ℕ} (g : Parts n w t d₀ d i) : Type 0 where
  pub inside : i * w + w ≤ length d
  pub long : length (cut d (i * w) (i * w + w)) ≡ w

module _ {n w : ℕ} {t : ℕ → List ℕ} {d₀ d : List ℕ} {i : ℕ} (g : Parts n w t d₀ d i) where
  pub part_lent : i < n → Part g
  part_lent h =
      let inside : i * w + w ≤ length d = omega (arith, row_inside i w n h, g.room, g.long) in
      record { inside = inside; long = length_cut d (i * w) w inside }

  -- It comes back with list i.
  pub parts_more : {ys : List ℕ} → i < n → length ys ≡ length (cut d (i * w) (i * w + w)) → ys ≡ t i
      → Parts n w t d₀ (put_mid (i * w) (i * w + w - i * w) d ys) (i + 1)
  parts_more h e is =
      let next : i * w + w ≡ (i + 1) * w = sym (add-mul i 1 w ∙ ap (λ (x : ℕ). i * w + x) (one-mul w)) in
      with_room g.room (parts_at_more (places g) (i * w) w h refl next (part_lent h).inside e is)

  -- Behind the last part.
  pub parts_whole : n ≤ i → d ≡ concat n t ++ drop (n * w) d₀
  parts_whole = parts_at_whole (places g)

  pub parts_all : n ≤ i → length d₀ ≡ n * w → d ≡ concat n t
  parts_all = parts_at_all (places g)
