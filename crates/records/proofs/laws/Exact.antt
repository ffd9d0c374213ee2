-- Laws, not definitions: a record byte by byte, and what the replay of one says. A record is compared entry by entry, and its entries are equal exactly where their bytes are.
-- Assumes nothing.
use mathlib.Core.Bool.{Bool, false, not}
use mathlib.Core.List.{List}
use mathlib.Core.Path.{◌≡◌, refl, sym, ap, ◌∙◌}
use Prim.Native.Nat.{ℕ, ◌+◌, ◌*◌, ◌/◌, ◌%◌, ◌<◌}
use native.Mathlib.Omega.{arith}
use borrow.Author.Tests.{eq-eqb, eqb-true, not-false}
use lib.Dec.{eqb}
use lib.ListN.{length}
use Rattle.answers.specs.Search.{first, FirstBad}
use Rattle.answers.proofs.laws.Search.{none_all, all_none, at_bad, bad_at}
use Rattle.bits.specs.Lists.{at, part_of}
use Rattle.bits.proofs.laws.Cuts.{part_at, part_length}
use Rattle.bits.proofs.laws.Lists.{ext_at, length_concat}
use Rattle.bits.proofs.laws.Offsets.{concat_row}
use Rattle.layout.specs.Stages.{lookups}
use Rattle.layout.proofs.laws.Lookup.{own_sizes}
use Rattle.layer_record.specs.Entries.{entry_size}
use Rattle.layer_record.proofs.laws.Entries.{length_written}
use Rattle.records.specs.Record.{entry_at, record_of, record_bytes, entry_in}
use Rattle.records.specs.Replay.{judge_record, same, differs_at, verdict_by, replayed}
use Rattle.records.specs.Theorems.{Agrees, OtherAt, OtherByte, ReplaysExact}
use Rattle.records.proofs.laws.Compare.{same_only, same_if}
use Rattle.records.proofs.laws.Judged.{lengths_were}
use Rattle.answers.specs.Answer.{Answer, Accepted}
use Rattle.answers.proofs.laws.Tests.{same_value}
use Rattle.std.specs.Prelude.{Ok, Some, None, Option}

-- ---- the record of a walk, by entries
module _ (c nr : ℕ) (set block : List ℕ) where
  entries_long : (k : ℕ) → k < lookups nr → length (entry_at c nr set block k) ≡ entry_size
  entries_long k h = length_written _

  pub record_long : length (record_of c nr set block) ≡ record_bytes nr
  unfolding record_of
  record_long = length_concat entry_size (entry_at c nr set block) (lookups nr) entries_long

  pub record_entry : (k : ℕ) → k < lookups nr → entry_in (record_of c nr set block) k ≡ entry_at c nr set block k
  unfolding record_of part_of
  record_entry k h = concat_row entry_size (entry_at c nr set block) (lookups nr) entries_long k h

-- ---- entries and their bytes
-- Entry k, of a record of n entries, is whole.
entry_long : (rec : List ℕ) (n k : ℕ) → length rec ≡ n * entry_size → k < n → length (entry_in rec k) ≡ entry_size
entry_long rec n k l h = part_length entry_size rec k (omega arith)

-- Where two functions differ somewhere below n, a place where they do.
module _ (n : ℕ) (f g : ℕ → ℕ) where
  abbrev another : ℕ → Bool
  another i = not (eqb (f i) (g i))

  equal : (i : ℕ) → another i ≡ false → f i ≡ g i
  equal i e = eqb-true (f i) (g i) (not-false (eqb (f i) (g i)) e)

  none : (i : ℕ) → f i ≡ g i → another i ≡ false
  none i e = ap not (eq-eqb (f i) (g i) e)

  some_place : (((i : ℕ) → i < n → f i ≡ g i) → ⊥) → OtherAt n f g
  some_place differ = by (first n another) refl
    where
      by : (r : Option ℕ) → first n another ≡ r → OtherAt n f g
      by None e = absurd (differ (none_all n another (λ i. f i ≡ g i) equal none e))
      by (Some i) e = let B = at_bad n another (λ i. f i ≡ g i) equal none i e in record { place = i; within = B.below; other = B.here }

-- ---- the replay of a record of the right length
module _ (c nr : ℕ) (set block rec : List ℕ) (ok : judge_record nr (length set) (length block) (length rec) ≡ Accepted) where
  abbrev own : List ℕ
  own = record_of c nr set block

  abbrev p : ℕ → Bool
  p = differs_at c nr set block rec

  long : length rec ≡ record_bytes nr
  long = (lengths_were own_sizes _ _ _ refl ok).2

  found : replayed c nr set block rec ≡ Ok (first (lookups nr) p)
  unfolding replayed
  found = ap (λ (a : Answer). verdict_by a (first (lookups nr) p)) ok

  -- Entry k is the walk's.
  abbrev Same : ℕ → Type 0
  Same k = entry_in rec k ≡ entry_at c nr set block k

  to : (k : ℕ) → p k ≡ false → Same k
  to k e = same_only _ _ (not-false (same (entry_in rec k) (entry_at c nr set block k)) e)

  from : (k : ℕ) → Same k → p k ≡ false
  from k e = ap (λ (l : List ℕ). not (same l (entry_at c nr set block k))) e ∙ ap not (same_if (entry_at c nr set block k))

  -- By its bytes.
  agrees : (k : ℕ) → k < lookups nr → Same k → Agrees c nr set block rec k
  agrees k h e i b =
      sym (part_at entry_size rec k i b) ∙ ap (λ (l : List ℕ). at l i) (e ∙ sym (record_entry c nr set block k h)) ∙ part_at entry_size own k i b

  agreed : (k : ℕ) → k < lookups nr → Agrees c nr set block rec k → Same k
  agreed k h A =
      ext_at entry_size _ _ (entry_long rec (lookups nr) k long h) (entry_long own (lookups nr) k (record_long c nr set block) h)
      (λ i b. part_at entry_size rec k i b ∙ A i b ∙ sym (part_at entry_size own k i b))
      ∙ record_entry c nr set block k h

  first_only : (k : ℕ) → replayed c nr set block rec ≡ Ok (Some k) → FirstBad (lookups nr) (Agrees c nr set block rec) k
  first_only k e =
      let B = at_bad (lookups nr) p Same to from k (same_value found e) in
      record { below = B.below; before = λ i h. agrees i (omega (arith, B.below)) (B.before i h); here = λ A. B.here (agreed k B.below A) }

  first_if : (k : ℕ) → FirstBad (lookups nr) (Agrees c nr set block rec) k → replayed c nr set block rec ≡ Ok (Some k)
  first_if k B =
      found ∙ ap Ok (bad_at (lookups nr) p Same to from k
      (record { below = B.below; before = λ i h. agreed i (omega (arith, B.below)) (B.before i h); here = λ e. B.here (agrees k B.below e) }))

  -- All bytes are the walk's where all entries are.
  own_only : replayed c nr set block rec ≡ Ok None → rec ≡ own
  own_only e =
      let all = none_all (lookups nr) p Same to from (same_value found e) in
      ext_at (record_bytes nr) rec own long (record_long c nr set block) (λ x h. byte_by_byte x h (all (x / entry_size) (omega arith)))
    where
      byte_by_byte : (x : ℕ) → x < record_bytes nr → Same (x / entry_size) → at rec x ≡ at own x
      byte_by_byte x h s =
          let e : x ≡ x / entry_size * entry_size + x % entry_size = omega arith in
          ap (at rec) e ∙ agrees (x / entry_size) (omega arith) s (x % entry_size) (omega arith) ∙ ap (at own) (sym e)

  own_if : rec ≡ own → replayed c nr set block rec ≡ Ok None
  own_if e =
      found ∙ ap Ok (all_none (lookups nr) p Same to from (λ k h. ap (λ (l : List ℕ). entry_in l k) e ∙ record_entry c nr set block k h))

  other_byte : (k : ℕ) → replayed c nr set block rec ≡ Ok (Some k) → OtherByte c nr set block rec k
  other_byte k e = some_place entry_size (λ i. at rec (k * entry_size + i)) (λ i. at own (k * entry_size + i)) (first_only k e).here

pub replays_exact : ReplaysExact
replays_exact c nr set block rec ok = record {
  own_only = own_only c nr set block rec ok;
  own_if = own_if c nr set block rec ok;
  first_only = first_only c nr set block rec ok;
  first_if = first_if c nr set block rec ok;
  byte = other_byte c nr set block rec ok;
}
