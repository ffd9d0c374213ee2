-- Laws, not definitions: a table by the place that the code has of it, a loop that writes the tables of a set one by
-- one, and a front that is lent and read again.
-- Assumes nothing.
use mathlib.Core.List.{List}
use mathlib.Core.Path.{◌≡◌, refl, sym, ap, ap₂, ◌∙◌, subst}
use Prim.Native.Nat.{ℕ, ◌+◌, ◌-◌, ◌*◌, ◌≤◌, ◌<◌}
use native.Mathlib.Numerals.{add-one}
use native.Mathlib.Omega.{arith}
use borrow.Rule.Slice.PartMut.{put_mid}
use lib.ListN.{length, length-take, length-drop}
use Rattle.bits.specs.Lists.{concat}
use Rattle.bits.proofs.laws.Lists.{cut, take_put}
use Rattle.bits.proofs.laws.Parts.{PartsAt, parts_at_more, parts_at_all}
use Rattle.bundle.specs.Format.{column_matrices}
use Rattle.network.specs.Tables.{table_in}
use Rattle.layout.specs.Stages.{lookups, tables_bytes, table_size, table_offset, numbers_of, place_of}
use Rattle.layout.specs.declared.stage.Place.{Place}
use Rattle.layout.proofs.laws.Instance.{next_offset}
use Rattle.layout.proofs.laws.Lookup.{stands}
use Rattle.layout.proofs.laws.Numbers.{round_at}
use Rattle.layout.proofs.laws.Ranges.{by_stage}
use Rattle.whitebox.specs.Codings.{Codings}
use Rattle.whitebox.specs.Parts.{Parts}
use Rattle.whitebox.specs.Tables.{layer_of, layers, table_of}
use Rattle.inverse_matrices.specs.InverseWords.{column_words, column_inverses, input_inverse, inverse_for, Begins, chosen_from}
use Rattle.inverse_matrices.proofs.laws.Inverses.{columns_long, chosen_begins}

-- ---- a table by the place that the code has of it
module _ (nr n : ℕ) (q : Place) (e : q ≡ place_of nr n) where
  -- What is chosen from all inverses begins with the one that the table is made with.
  pub inverse_chosen : (l m columns input : List ℕ) → 1 ≤ nr → n < lookups nr → columns ≡ column_inverses nr l → input ≡ input_inverse nr l
      → m ≡ chosen_from columns input q.stage q.index → Begins (inverse_for nr l q.stage q.index) m
  inverse_chosen l m columns input some h c i w =
      subst (Begins (inverse_for nr l q.stage q.index))
      (sym (w ∙ ap₂ (λ (x y : List ℕ). chosen_from x y q.stage q.index) c i))
      (chosen_begins nr l q.stage q.index (round_at nr n q e some h))

  -- The table that is made there is table n.
  pub table_made : (P : Parts) (C : Codings) (dst : List ℕ) → n < lookups nr
      → dst ≡ table_in C.encoding (layer_of P C nr q.stage) (numbers_of nr q.stage) q.index
      → dst ≡ table_of P C nr n
  unfolding table_of layers
  table_made P C dst h d = (rw e at d) ∙ sym ((by_stage nr).table_is C.encoding (layer_of P C nr) (λ s. refl) n h)

-- ---- the inverses of all column matrices, whose number is `count`
pub column_count : (nr : ℕ) → column_matrices nr ≡ 4 * (nr - 1)
unfolding column_matrices
column_count nr = refl

pub columns_lent : (nr count : ℕ) (l columns : List ℕ) → column_matrices nr ≡ count → columns ≡ column_inverses nr l
    → length columns ≡ count * column_words
columns_lent nr count l columns n c = ap length c ∙ columns_long nr l ∙ ap (λ (k : ℕ). k * column_words) n

-- ---- a loop that writes table after table: the memory begins with the first n of them (`PartsAt` of bits). `count`
-- and `bytes` are the sizes as the numbers that the code has.
module _ (nr : ℕ) {count bytes : ℕ} (number : lookups nr ≡ count) (size : tables_bytes nr ≡ bytes) {t : ℕ → List ℕ} {memory₀ memory : List ℕ} {n : ℕ}
    (long : length memory₀ ≡ bytes) (g : PartsAt count (table_offset nr) t memory₀ memory n) where
  -- The part at the place of table n lies within the memory.
  pub table_room : n < count → (q : Place) → q ≡ place_of nr n → q.offset + q.size ≤ length memory
  table_room h q e =
      let inside : n < lookups nr = omega (arith, number) in
      let at = stands inside e in
      omega (arith, at.end, size, g.long)

  -- A turn: that part is lent, and comes back with the table.
  pub table_next : n < count → (q : Place) → q ≡ place_of nr n → (table : List ℕ)
      → length table ≡ length (cut memory q.offset (q.offset + q.size)) → table ≡ t n
      → PartsAt count (table_offset nr) t memory₀ (put_mid q.offset (q.offset + q.size - q.offset) memory table) (n + 1)
  table_next h q e table part made =
      let inside : n < lookups nr = omega (arith, number) in
      let at = stands inside e in
      let next : table_offset nr (n + 1) ≡ table_offset nr n + table_size nr n = ap (table_offset nr) (add-one n) ∙ next_offset nr n inside in
      parts_at_more g q.offset q.size h at.offset (omega (arith, at.offset, at.size, next)) (table_room h q e) part made

  -- Behind the last turn the memory is all tables.
  pub tables_all : count ≤ n → memory ≡ concat count t
  tables_all h = parts_at_all g h (long ∙ sym size ∙ sym ((by_stage nr).offset_none count (omega (arith, number))))

-- ---- the front of n elements of a list, which is lent and comes back as `back`, which is `due`: the list then begins
-- with `due`
pub front_back : (n : ℕ) (xs : List ℕ) → n ≤ length xs → (back : List ℕ) → length back ≡ length (cut xs 0 n) → {due : List ℕ} → back ≡ due
    → cut (put_mid 0 (n - 0) xs back) 0 n ≡ due
front_back n xs h back kept e =
    let long : length (cut xs 0 n) ≡ n = simp (length-take, length-drop) (omega arith) in
    take_put 0 (n - 0) (n - 0) xs back (omega arith) (omega arith) ∙ e
