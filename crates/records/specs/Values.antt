-- THE VALUES OF A RECORD, document 02, Ticket 3, for a reader; proved in proofs/laws/Values.antt. What a record has behind the offset of a lookup is what that
-- lookup put down, as the walk after it holds it. Of any set and block of bytes, any number nr of rounds and either cipher.
use Rattle.std.specs.Prelude.{List, ◌≡◌, ℕ, suc, ◌-◌, ◌*◌, ◌≤◌, ◌<◌}
use Rattle.bits.specs.Bytes.{Bytes}
use Rattle.bits.specs.Lists.{at}
use Rattle.bits.specs.Nibbles.{nibble}
use Rattle.network.specs.Lookups.{State}
use Rattle.network.specs.Order.{layer_lookups, sum_place}
use Rattle.layout.specs.Stages.{width_of, lookups, stage_of, index_of}
use Rattle.calls.specs.Calls.{to_stop}
use Rattle.evaluate.specs.Held.{held}
use Rattle.evaluate.specs.Promises.{Opens, Moves}
use Rattle.evaluate.specs.declared.walk.Move.{Move}
use Rattle.evaluate.specs.declared.walk.Opening.{Opening}
use Rattle.layer_record.specs.Entries.{offset_bytes}
use Rattle.records.specs.Promises.{Records}
use Rattle.records.specs.Record.{entry_in}
use Rattle.answers.specs.Answer.{Answer, Accepted}

-- The value v is what lookup j of a stage or half of width m put down, where s is the state after it.
pub record PutDown (m j v : ℕ) (s : State) : Type 0 where
  -- Of a spread lookup it is the first byte of its word in the area.
  pub spread : j < 16 → v ≡ at s.area (j * m)
  -- Of an XOR lookup it is the half-byte of the area that it replaced, the sum's.
  pub sum : 16 ≤ j → suc j < layer_lookups m → v ≡ nibble s.area (sum_place m (j - 16))
  -- "The last XOR of a stage or half copies the sums to the standing bytes and zeroes the area": there it is the last half-byte of the standing bytes.
  pub last : suc j ≡ layer_lookups m → v ≡ nibble s.standing 31

-- Of a record that `record_walk` wrote in an accepted call: its value for lookup k, where r is what a move to the count k + 1 hands back, from the walk that a
-- start hands back.
abbrev pub ValuesPutDown : Type 0
ValuesPutDown =
    (c nr : ℕ) (set block lent left : List ℕ) (a : Answer) → Records c nr set block lent a left → a ≡ Accepted → Bytes set → Bytes block
    → (o : Opening) → Opens c block o → (k : ℕ) → k < lookups nr → (r : Move) → Moves nr (to_stop set (suc k)) o.walk r
    → PutDown (width_of (stage_of nr k)) (index_of nr k) (at (entry_in left k) offset_bytes) (held r.walk).state
