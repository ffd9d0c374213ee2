-- Laws, not definitions: what the maker writes, by what the call answers.
-- Assumes nothing.
use mathlib.Core.Bool.{Bool, true, false, or-true}
use mathlib.Core.List.{List, ◌++◌, append-nil}
use mathlib.Core.Path.{◌≡◌, refl, sym, ap, ◌∙◌}
use Prim.Native.Nat.{ℕ, suc, ◌*◌, ◌<◌}
use native.Mathlib.Omega.{arith}
use borrow.Author.Tests.{ltb-true, ltb-false, lt-ltb}
use lib.Dec.{ltb}
use lib.ListN.{length, take, drop, length-take}
use lib.Seq.{take_all, drop-length}
use Rattle.answers.specs.Answers.{wants_length, and_then}
use Rattle.answers.specs.declared.Refusal.{Refusal}
use Rattle.answers.specs.declared.Refusal.TheVariants.{KeyLength, BundleLength, SetLength}
use Rattle.answers.proofs.laws.Tests.{first_refuses, accepted_last, test_refuses, length_right, left_new, left_old}
use Rattle.round.specs.Key.{rounds_of}
use Rattle.bundle.specs.Format.{shortest, longest, length_bad, frame}
use Rattle.judgement.specs.Judge.{judge}
use Rattle.layout.specs.Stages.{set_bytes}
use Rattle.whitebox.specs.Bundles.{made_set}
use Rattle.tables.specs.Calls.{judged_for, set_answer_for, set_left}
use Rattle.streams.specs.Lines.{or_line, refusal_line}
use Rattle.streams.specs.Written.{Written}
use Rattle.streams.specs.Received.{Front}
use Rattle.maker.specs.Writes.{maker_writes, Runs, maker_writes_on, ReadsEnoughFor, ReadsEnough}
use Rattle.answers.specs.Answer.{Answer, Accepted, Refused}

-- ---- over memory of the set's size the call's answer is the judgement of key and bundle
answer_judged : (nk key : ℕ) (l : List ℕ) (memory : ℕ) → memory ≡ set_bytes (rounds_of nk) → set_answer_for nk key l memory ≡ judged_for nk key l
unfolding set_answer_for
answer_judged nk key l memory e =
    ap (and_then (judged_for nk key l)) (sym (length_right (set_bytes (rounds_of nk)) memory SetLength e)) ∙ accepted_last _

module _ (nk : ℕ) (key l held : List ℕ) (room : length held ≡ set_bytes (rounds_of nk)) {a : Answer}
    (e : a ≡ set_answer_for nk (length key) l (length held)) where
  writes : {b : Answer} → a ≡ b → maker_writes nk key l ≡ or_line b refusal_line (made_set 0 nk key l)
  unfolding maker_writes
  writes d = ap (λ (x : Answer). or_line x refusal_line (made_set 0 nk key l)) (sym (answer_judged nk (length key) l (length held) room) ∙ sym e ∙ d)

  pub set_written : {left : List ℕ} → left ≡ set_left 0 nk key l held → length left ≡ length held → a ≡ Accepted
      → Written (maker_writes nk key l) held (length left) left
  set_written {left} m kept d =
      let made : left ≡ maker_writes nk key l = m ∙ sym (left_new _ _ _ (sym e ∙ d)) ∙ sym (writes d) in
      record {
        ends = ap length made;
        bytes = made ∙ sym (append-nil _) ∙ ap (λ (t : List ℕ). maker_writes nk key l ++ t) (sym (drop-length held) ∙ ap (λ (n : ℕ). drop n held) (sym kept));
      }

  pub line_written : (r : Refusal) {mid left : List ℕ} {n : ℕ} → mid ≡ set_left 0 nk key l held → a ≡ Refused r
      → Written (refusal_line r) mid n left → Written (maker_writes nk key l) held n left
  line_written r {mid} m d w =
      let same : mid ≡ held = m ∙ sym (left_old _ r _ _ (sym e ∙ d)) in
      rw (writes d) (rw same at w)

-- ---- a run, with what its calls ensure
pub runs : (nk k b : ℕ) (key bundle : List ℕ) {memory left : List ℕ} {end : ℕ}
    → Front k key → length key ≡ 4 * nk → Front b bundle → length bundle ≡ suc (longest (rounds_of nk))
    → Written (maker_writes nk (take k key) (take b bundle)) memory end left → Runs nk memory end left
runs nk k b key bundle f l g m w =
    record {
      key = take k key;
      key_read = f.received;
      key_most = omega (arith, f.counts);
      bundle = take b bundle;
      bundle_read = g.received;
      bundle_most = omega (arith, g.counts);
      written = w;
    }

-- ---- a bundle that is too long is refused for its length, whatever stands in it
bad_length : (nr : ℕ) (l : List ℕ) → longest nr < length l → length_bad nr l ≡ true
unfolding length_bad
bad_length nr l h = rw (lt-ltb (longest nr) (length l) h) (or-true (ltb (length l) (shortest nr)))

too_long : (nr : ℕ) (l : List ℕ) → longest nr < length l → judge nr l ≡ Refused BundleLength
unfolding judge frame
too_long nr l h =
    sym (first_refuses _ _ BundleLength (sym (first_refuses _ _ BundleLength (sym (test_refuses (length_bad nr l) BundleLength (bad_length nr l h))))))

-- Where the bundle is refused, what would be made does not matter.
refused_alike : (a : Answer) (r : Refusal) (s t : List ℕ) → or_line (and_then a (Refused r)) refusal_line s ≡ or_line (and_then a (Refused r)) refusal_line t
refused_alike Accepted r s t = refl
refused_alike (Refused q) r s t = refl

module _ (nk : ℕ) (key : List ℕ) where
  by_bundle : Answer → List ℕ → List ℕ
  by_bundle x set = or_line (and_then (wants_length (4 * nk) (length key) KeyLength) x) refusal_line set

  both_refused : (l m : List ℕ) {r : Refusal} → judge (rounds_of nk) l ≡ Refused r → judge (rounds_of nk) m ≡ Refused r
      → maker_writes nk key l ≡ maker_writes nk key m
  unfolding maker_writes judged_for by_bundle
  both_refused l m {r} e f =
      ap (λ (x : Answer). by_bundle x (made_set 0 nk key l)) e
      ∙ refused_alike (wants_length (4 * nk) (length key) KeyLength) r (made_set 0 nk key l) (made_set 0 nk key m)
      ∙ ap (λ (x : Answer). by_bundle x (made_set 0 nk key m)) (sym f)

  abbrev most : ℕ
  most = longest (rounds_of nk)

  enough : (l : List ℕ) → maker_writes nk key (take (suc most) l) ≡ maker_writes nk key l
  enough l = by (ltb most (length l)) refl
    where
      by : (b : Bool) → ltb most (length l) ≡ b → maker_writes nk key (take (suc most) l) ≡ maker_writes nk key l
      by false e = ap (maker_writes nk key) (take_all (suc most) l (omega (arith, ltb-false most (length l) e)))
      by true e =
          let long : most < length l = ltb-true most (length l) e in
          let cut : most < length (take (suc most) l) = omega (arith, length-take (suc most) l) in
          both_refused (take (suc most) l) l (too_long (rounds_of nk) (take (suc most) l) cut) (too_long (rounds_of nk) l long)

reads_enough_for : (nk : ℕ) → ReadsEnoughFor nk
unfolding maker_writes_on
reads_enough_for nk input = enough nk (take (4 * nk) input) (drop (4 * nk) input)

pub reads_enough : ReadsEnough
reads_enough = reads_enough_for 4
