-- What the call of src/lib.rt at a position ensures: its contract cites this. Definitions only.
use Rattle.std.specs.Prelude.{◌≡◌, ℕ}
use Rattle.answers.specs.Answers.{reply_of}
use Rattle.catalogue.specs.Catalogue.{catalogue_entry, entry_answer, judge_position}
use Rattle.catalogue.specs.Catalogue.{Entry}

-- `entry_at` of a position hands back r: the entry, and what it says in the documents' numbers, which is what the position gives.
pub record Gives (position : ℕ) (r : Entry) : Type 0 where
  pub result : r ≡ catalogue_entry position
  pub reply : reply_of (entry_answer r) ≡ reply_of (judge_position position)
