-- Laws, not definitions: the loop over the spread lookups of a stage or half, and all of its lookups, with what is recorded of them.
-- Assumes nothing.
use mathlib.Core.List.{List, ◌++◌}
use mathlib.Core.Path.{◌≡◌, refl, sym, ap, ap₂, ◌∙◌}
use Prim.Native.Nat.{ℕ, suc, ◌+◌, ◌-◌, ◌*◌, ◌≤◌, ◌<◌}
use native.Mathlib.Omega.{arith}
use borrow.Rule.Slice.PartMut.{put_mid, same_len_mid}
use lib.ListN.{length, length-take, length-drop}
use lib.Seq.{take_all}
use Rattle.bits.specs.Lists.{at, concat}
use Rattle.bits.proofs.laws.Lists.{length_concat, cut, take_put}
use Rattle.bits.proofs.laws.Parts.{Parts, parts_none, parts_more}
use Rattle.network.specs.Lookups.{Shape, sums, zero_area}
use Rattle.network.specs.Order.{xors, layer_lookups}
use Rattle.network.proofs.laws.Order.{layer_lookups_lem}
use Rattle.lookups.specs.Layer.{SpreadMade, spreads_in, sums_in}
use Rattle.layer_record.specs.Entries.{entry_size, written}
use Rattle.layer_record.specs.Layer.{spread_entry, xor_entry, LayerRecorded}
use Rattle.layer_record.specs.Parts.{XorsRecorded, SpreadsRecorded}
use Rattle.layer_record.proofs.laws.Entries.{length_written, spread_noted}

-- ---- the loop over the spread lookups: p of them are made and recorded in the memory d₀, which d has become
pub record Spreads (S : Shape) (set : List ℕ) (from : ℕ) (s a₀ d₀ a d : List ℕ) (p : ℕ) : Type 0 where
  pub area : a ≡ spreads_in S set from s p a₀
  pub parts : Parts 16 entry_size (spread_entry S set from s a₀) d₀ d p

pub spreads_none : {S : Shape} {set : List ℕ} {from : ℕ} {s a d : List ℕ} → length d ≡ 16 * entry_size → Spreads S set from s a d a d 0
unfolding spreads_in
spreads_none k = record { area = refl; parts = parts_none (omega arith) }

module _ {S : Shape} {set : List ℕ} {from : ℕ} {s a₀ d₀ a d : List ℕ} {p : ℕ} (N : Spreads S set from s a₀ d₀ a d p) where
  pub spreads_more : {r : ℕ} {a' ys : List ℕ} → p < 16 → SpreadMade S set from p s a r a'
      → length ys ≡ length (cut d (p * entry_size) (p * entry_size + entry_size)) → ys ≡ written (record { offset = r; value = at set r })
      → Spreads S set from s a₀ d₀ a' (put_mid (p * entry_size) (p * entry_size + entry_size - p * entry_size) d ys) (p + 1)
  unfolding spreads_in
  spreads_more h g l is =
      let next : suc p ≡ p + 1 = omega arith in
      record {
        area = g.area ∙ rw N.area refl ∙ ap (λ (k : ℕ). spreads_in S set from s k a₀) next;
        parts = parts_more N.parts h l (is ∙ spread_noted a₀ h g);
      }

-- ---- the layer: two parts of the memory d, one behind the other, come back as ys and zs
two_parts : (mid end : ℕ) (d ys zs : List ℕ) → mid ≤ end → length d ≡ end → length ys ≡ length (cut d 0 mid)
    → length zs ≡ length (cut (put_mid 0 (mid - 0) d ys) mid end) → put_mid mid (end - mid) (put_mid 0 (mid - 0) d ys) zs ≡ ys ++ zs
two_parts mid end d ys zs h l p q =
    let d' : List ℕ = put_mid 0 (mid - 0) d ys in
    let same : length d' ≡ end = same_len_mid 0 (mid - 0) d ys p ∙ l in
    let first : length ys ≡ mid = p ∙ simp (length-take, length-drop) (omega arith) in
    let second : length zs ≡ end - mid = q ∙ simp (length-take, length-drop) (omega (arith, same)) in
    sym (take_all end (put_mid mid (end - mid) d' zs) (omega (arith, same_len_mid mid (end - mid) d' zs q, same)))
    ∙ take_put mid (end - mid) end d' zs (omega (arith, same)) (omega arith)
    ∙ ap (λ (u : List ℕ). u ++ zs) (take_put 0 (mid - 0) mid d ys (omega arith) (omega arith))

-- The bytes of the entries of all spread lookups. The memory is that of the spread lookups and that of the XOR lookups behind it.
abbrev pub spread_bytes : ℕ
spread_bytes = 16 * entry_size

pub memory_split : (m bytes : ℕ) → bytes ≡ layer_lookups m * entry_size → bytes ≡ spread_bytes + xors m * entry_size
memory_split m bytes e = omega (arith, e, layer_lookups_lem m)

pub front_long : (d : List ℕ) → spread_bytes ≤ length d → length (cut d 0 spread_bytes) ≡ spread_bytes
front_long d e = simp (length-take, length-drop) (omega arith)

-- The spread lookups leave the area b and the memory ys.
module _ {S : Shape} {set : List ℕ} {from : ℕ} {s a b ys : List ℕ} (f : SpreadsRecorded S set from s a b ys) (d : List ℕ) (x : ℕ) (e : length d ≡ spread_bytes + x) where
  front_is : length ys ≡ length (cut d 0 spread_bytes)
  front_is =
      ap length f.bytes
      ∙ length_concat entry_size (spread_entry S set from s a) 16 (λ i h. length_written _)
      ∙ sym (front_long d (omega arith))

  -- What is left of the memory for the XOR lookups.
  pub rest_long : length (cut (put_mid 0 (spread_bytes - 0) d ys) spread_bytes (length d)) ≡ x
  rest_long = simp (length-take, length-drop) (omega (arith, same_len_mid 0 (spread_bytes - 0) d ys front_is))

  -- The XOR lookups leave the area c and the memory zs, and the sums s' are taken.
  pub layer_recorded : {m : ℕ} {c s' a' zs : List ℕ} → m ≡ S.width → x ≡ xors m * entry_size → XorsRecorded m set from 0 (xors m) b c zs → s' ≡ sums m c
      → a' ≡ zero_area → LayerRecorded S set from s a s' a' (put_mid spread_bytes (length d - spread_bytes) (put_mid 0 (spread_bytes - 0) d ys) zs)
  unfolding sums_in
  layer_recorded {m} {zs = zs} w k r g h =
      let rest : length zs ≡ x = ap length r.bytes ∙ length_concat entry_size (xor_entry m set from 0 b) (xors m) (λ i h. length_written _) ∙ sym k in
      record {
        standing = g ∙ rw (r.area, f.area, w) refl;
        area = h;
        bytes =
            two_parts spread_bytes (length d) d ys zs (omega arith) refl front_is (rest ∙ sym rest_long)
            ∙ ap₂ (λ (u v : List ℕ). u ++ v) f.bytes
            (r.bytes ∙ ap₂ (λ (m : ℕ) (b : List ℕ). concat (xors m) (xor_entry m set from 0 b)) w f.area);
      }
