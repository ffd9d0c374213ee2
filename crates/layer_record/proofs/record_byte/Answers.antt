-- `layer_record::record_byte` meets its contract. Both offsets are written over parts of the memory that are lent and come back, with the entry read behind each, and
-- then the two values and the byte of the area are written: `byte_recorded` of `laws.Entries`, whose premises are what the calls ensure.
-- Assumes nothing.
use Rattle.layer_record.proofs.laws.Entries.{byte_recorded}
use Rattle.layer_record.proofs.record_byte.Goals as goal

pub returns : goal.returns
returns c =
    byte_recorded c.args.recorded.now c.requires.memory c.entry_of.ensures.0 c.entry_of.ensures.1 c.note_entry-h.ensures
    c.entry_of-2.ensures.0 c.entry_of-2.ensures.1 c.note_entry-l.ensures c.joined.ensures
