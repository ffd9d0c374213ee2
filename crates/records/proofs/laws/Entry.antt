-- Laws, not definitions: the value in an entry of a record.
-- Assumes nothing.
use mathlib.Core.Bool.{Bool, cond}
use mathlib.Core.List.{List, []}
use mathlib.Core.Path.{◌≡◌, sym, ap}
use Prim.Native.Nat.{ℕ, ◌≤◌, ◌<◌}
use native.Mathlib.Omega.{arith}
use borrow.Author.Tests.{lt-ltb, le-ltb}
use lib.ListN.{length}
use lib.Seq.{get_or_at}
use Rattle.bits.specs.Bytes.{bytes_of}
use Rattle.bits.specs.Lists.{at}
use Rattle.bits.specs.Nibbles.{half}
use Rattle.bits.proofs.laws.Bytes.{length_bytes_of}
use Rattle.network.specs.declared.EntryPlace.{EntryPlace}
use Rattle.layer_record.specs.Entries.{Entry, offset_bytes, entry_size, written, entry_read}

-- ---- where it stands among the entry's bytes
module _ (e : Entry) where
  long : length (bytes_of offset_bytes e.offset) ≡ offset_bytes
  long = length_bytes_of offset_bytes e.offset

  pub value_byte : (i : ℕ) → i < entry_size → offset_bytes ≤ i → e.value ≡ at (written e) i
  value_byte i h k = sym (get_or_at (bytes_of offset_bytes e.offset) e.value [] 0 i (let n : length (bytes_of offset_bytes e.offset) ≡ i = omega (arith, long) in n))

-- ---- the value that is recorded of a place
module _ (j : ℕ) (mem : List ℕ) (r : EntryPlace) where
  abbrev value_of : Bool → ℕ
  value_of b = cond b (at mem r.offset) (half r.half (at mem r.offset))

  pub value_spread : j < 16 → (entry_read j mem r).value ≡ at mem r.offset
  value_spread h = ap value_of (lt-ltb j 16 h)

  pub value_xor : 16 ≤ j → (entry_read j mem r).value ≡ half r.half (at mem r.offset)
  value_xor k = ap value_of (le-ltb j 16 k)
