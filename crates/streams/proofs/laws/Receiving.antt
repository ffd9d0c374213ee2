-- Laws, not definitions: memory that is filled from the front by reads, one lent rest of it after the other.
-- Assumes nothing.
use mathlib.Core.List.{List}
use mathlib.Core.Path.{◌≡◌, sym, ◌∙◌}
use Prim.Native.Nat.{ℕ, ◌+◌, ◌-◌, ◌≤◌}
use native.Mathlib.Nat.{add-zero}
use native.Mathlib.Omega.{arith}
use borrow.Rule.Slice.PartMut.{mid_of, put_mid, same_len_mid, mid_len}
use lib.ListN.{length, take}
use lib.Seq.{length-take-le}
use Rattle.streams.specs.Received.{given, Front}

-- The loop's invariant: `done` bytes are read, and the memory is as long as it was.
pub record Receiving (held memory : List ℕ) (done : ℕ) : Type 0 where
  pub within : done ≤ length memory
  pub long : length memory ≡ length held

-- Where it ends.
pub received : {held memory : List ℕ} {done : ℕ} → Receiving held memory done → Front done memory
received {memory = memory} {done = done} r =
    record { counts = (r.within, sym (length-take-le done memory r.within)); received = given (take done memory) }

-- A read gave `more` bytes at the front of the rest, which came back as `rest`.
pub received_more : {held memory : List ℕ} {done more : ℕ} (rest : List ℕ)
    → Receiving held memory done → length rest ≡ length (mid_of done (length memory - done) memory) → more ≤ length rest
    → Receiving held (put_mid done (length memory - done) memory rest) (done + more)
received_more {held} {memory} {done} {more} rest r kept fits =
    let long : length (put_mid done (length memory - done) memory rest) ≡ length memory = same_len_mid done (length memory - done) memory rest kept in
    record {
      within = omega (arith, r.within, mid_len done (length memory) memory (omega arith));
      long = long ∙ r.long;
    }

-- A read gave none.
pub received_last : {held memory : List ℕ} {done : ℕ} (rest : List ℕ)
    → Receiving held memory done → length rest ≡ length (mid_of done (length memory - done) memory)
    → Front done (put_mid done (length memory - done) memory rest)
received_last rest r kept = simp add-zero at (received (received_more {more = 0} rest r kept (omega arith)))
