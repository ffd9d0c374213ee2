-- What is proved of document 01's table of stages, for a reader to hold against it: the network of crate network that has a layer for each
-- stage or half goes by the ranges of the table. It is proved in proofs/laws/Ranges.antt; the document's examples are in Cases.antt.
use Rattle.std.specs.Prelude.{List, map, ◌≡◌, ℕ, ◌+◌, ◌-◌, ◌*◌, ◌≤◌, ◌<◌}
use Rattle.network.specs.Lookups.{State, lookup_in, lookup_at}
use Rattle.network.specs.Numbers.{start_numbers, numbers_after}
use Rattle.network.specs.Read.{read_in, read_at}
use Rattle.network.specs.Rule.{labels, first_result, rule_in}
use Rattle.network.specs.Sizes.{size_of, offset_of}
use Rattle.network.specs.Tables.{Layer, AllGood, table_in, table_at}
use Rattle.layout.specs.Stages.{stages, width_of, shape_at, shapes, widths, lookups, tables_bytes, set_bytes, encodings}
use Rattle.layout.specs.Stages.{table_size, table_offset, stage_of, index_of, first_byte_of, numbers_of}
use Rattle.layout.specs.declared.stage.Stage.{Stage}

-- The stages by ranges, for any number nr of rounds.
pub record ByStage (nr : ℕ) : Type 0 where
  -- The limits of the ranges, and of the numbers of bytes and encodings.
  pub all_lookups : lookups nr ≡ 992 + 224 * (nr - 1)
  pub table_bytes : tables_bytes nr ≡ 253952 + 57344 * (nr - 1)
  pub all_bytes : set_bytes nr ≡ 253952 + 57344 * (nr - 1)
  pub all_encodings : encodings nr ≡ 2016 + 448 * (nr - 1)
  -- After the last lookup the standing nibbles have the last 32 encodings: "the output matrix, then lists 6,016 to 6,047".
  pub output_numbers : (q : ℕ) → q < 32 → (numbers_after (widths nr) start_numbers).standing q ≡ encodings nr - 32 + q
  -- Lookup k is lookup `index_of nr k` of its stage or half.
  pub lookup_is : (reads : ℕ → ℕ) (k : ℕ) → k < lookups nr → (t : List ℕ) (w : State)
      → lookup_at (shapes reads nr) k t w ≡ lookup_in (shape_at reads (stage_of nr k)) (index_of nr k) t w
  -- The place that it reads is that lookup's too, where its table begins at byte `from`.
  pub read_is : (reads : ℕ → ℕ) (k : ℕ) → k < lookups nr → (from : ℕ) (standing area : List ℕ)
      → read_at (shapes reads nr) k from standing area ≡ read_in (shape_at reads (stage_of nr k)) (index_of nr k) from standing area
  -- Its table is made there, from the numbers that start the stage or half, in any network with a layer of the right width for each.
  pub table_is : (E : ℕ → List ℕ) (F : Stage → Layer) → ((s : Stage) → (F s).width ≡ width_of s) → (k : ℕ) → k < lookups nr
      → table_at E (map F (stages nr)) start_numbers k ≡ table_in E (F (stage_of nr k)) (numbers_of nr (stage_of nr k)) (index_of nr k)
  -- In a network of good layers it is also the table by document 01's own rule of numbers (network/Rule.antt): its result is numbered in order
  -- of use, and the places that it reads have the labels at its count.
  pub table_by_rule_lem : (E : ℕ → List ℕ) (F : Stage → Layer) → ((s : Stage) → (F s).width ≡ width_of s) → AllGood (map F (stages nr)) → (k : ℕ) → k < lookups nr
      → table_at E (map F (stages nr)) start_numbers k ≡ rule_in E (F (stage_of nr k)) (index_of nr k) (first_result (widths nr) k) (labels (widths nr) k)
  -- Its table has the size of its kind, and stands behind the first byte of its stage or half.
  pub size_is : (k : ℕ) → k < lookups nr → table_size nr k ≡ size_of (width_of (stage_of nr k)) (index_of nr k)
  pub offset_is : (k : ℕ) → k < lookups nr → table_offset nr k ≡ first_byte_of nr (stage_of nr k) + offset_of (width_of (stage_of nr k)) (index_of nr k)
  -- Past the last lookup there is none, and an empty table behind all tables.
  pub lookup_none : (reads : ℕ → ℕ) (k : ℕ) → lookups nr ≤ k → (t : List ℕ) (w : State) → lookup_at (shapes reads nr) k t w ≡ w
  pub size_none : (k : ℕ) → lookups nr ≤ k → table_size nr k ≡ 0
  pub offset_none : (k : ℕ) → lookups nr ≤ k → table_offset nr k ≡ tables_bytes nr
