-- `bundle::layout::section_length` meets its contract. The length is the count of parts times their size (`section_counted` of `laws.Code`); at
-- most 7,840 parts of at most 2,048 bytes do not wrap.
-- Assumes nothing.
use Rattle.bundle.proofs.laws.Code.{section_counted}
use Rattle.bundle.proofs.layout.section_length.Goals as goal

pub returns : goal.returns
returns c = section_counted _ _ c.part_count-count.ensures c.part_size-size.ensures
