-- Laws, not definitions: of states by their cells, of SubBytes, ShiftRows and AddRoundKey and what undoes them.
-- Assumes nothing.
use mathlib.Core.Path.{◌≡◌, sym, ap, ap₂, ◌∙◌}
use mathlib.Core.List.{List}
use Prim.Native.Nat.{ℕ, ◌+◌, ◌-◌, ◌*◌, ◌/◌, ◌%◌, ◌<◌}
use native.Mathlib.Omega.{arith}
use lib.Dec.{lit<}
use lib.Bits.{bit_xor, xor_lt}
use lib.ListN.{length}
use Rattle.bits.specs.Lists.{at, tabulate}
use Rattle.bits.specs.Bytes.{Bytes, Block}
use Rattle.bits.proofs.laws.Lists.{length_tabulate, at_tabulate, tabulate_ext, tabulate_at, tabulate_below}
use Rattle.bits.proofs.laws.Xor.{xor_back}
use Rattle.field.specs.Sbox.{sbox_of, inv_sbox_of}
use Rattle.field.proofs.laws.Sbox.{sbox_lt, inv_sbox_lt, inv_sbox_sbox, sbox_inv_sbox}
use Rattle.round.specs.State.{cell, state, SubBytes, ShiftRows, AddRoundKey, InvSubBytes, InvShiftRows}

-- ---- The cells of a state.
pub cell_state : (f : ℕ → ℕ → ℕ) (r c : ℕ) → r < 4 → c < 4 → cell (state f) r c ≡ f r c
unfolding state
cell_state f r c hr hc =
    let p : (r + 4 * c) % 4 ≡ r = omega arith in
    let q : (r + 4 * c) / 4 ≡ c = omega arith in
    at_tabulate 16 (λ i. f (i % 4) (i / 4)) (r + 4 * c) (omega arith) ∙ ap₂ f p q

pub state_ext : (f g : ℕ → ℕ → ℕ) → ((r c : ℕ) → r < 4 → c < 4 → f r c ≡ g r c) → state f ≡ state g
unfolding state
state_ext f g h =
    tabulate_ext 16 (λ i. f (i % 4) (i / 4)) (λ i. g (i % 4) (i / 4)) (λ i l. h (i % 4) (i / 4) (omega arith) (omega arith))

-- The place of byte i.
pub place : (i : ℕ) → i ≡ i % 4 + 4 * (i / 4)
place i = omega arith

pub state_cells : (s : List ℕ) → length s ≡ 16 → state (cell s) ≡ s
unfolding state
state_cells s e =
    tabulate_ext 16 (λ i. cell s (i % 4) (i / 4)) (at s) (λ i l. let p : i % 4 + 4 * (i / 4) ≡ i = omega arith in ap (at s) p)
    ∙ tabulate_at 16 s e

-- A state that is s cell by cell.
pub is_block : (f : ℕ → ℕ → ℕ) (s : List ℕ) → length s ≡ 16 → ((r c : ℕ) → r < 4 → c < 4 → f r c ≡ cell s r c) → state f ≡ s
is_block f s e h = state_ext f (cell s) h ∙ state_cells s e

-- A state of bytes.
pub block : (f : ℕ → ℕ → ℕ) → ((r c : ℕ) → r < 4 → c < 4 → f r c < 256) → Block (state f)
unfolding state
block f h =
    record {
      long = length_tabulate 16 _;
      bytes = tabulate_below 256 16 _ (lit< tt) (λ i l. h (i % 4) (i / 4) (omega arith) (omega arith));
    }

-- ---- Byte p of a state.
pub at_state : (f : ℕ → ℕ → ℕ) (p : ℕ) → p < 16 → at (state f) p ≡ f (p % 4) (p / 4)
unfolding state
at_state f p h = at_tabulate 16 _ p h

-- Of a transformation that makes each byte from those at its own place.
each_at : (g : ℕ → ℕ) (p : ℕ) → p < 16 → at (state (λ r c. g (r + 4 * c))) p ≡ g p
each_at g p h = at_state _ p h ∙ ap g (sym (place p))

pub sub_at : (s : List ℕ) (p : ℕ) → p < 16 → at (SubBytes s) p ≡ sbox_of (at s p)
unfolding SubBytes
sub_at s = each_at (λ i. sbox_of (at s i))

pub inv_sub_at : (s : List ℕ) (p : ℕ) → p < 16 → at (InvSubBytes s) p ≡ inv_sbox_of (at s p)
unfolding InvSubBytes
inv_sub_at s = each_at (λ i. inv_sbox_of (at s i))

pub add_at : (s k : List ℕ) (p : ℕ) → p < 16 → at (AddRoundKey s k) p ≡ bit_xor (at s p) (at k p)
unfolding AddRoundKey
add_at s k = each_at (λ i. bit_xor (at s i) (at k i))

-- A state from its bytes.
tabulated : (f : ℕ → ℕ) (s : List ℕ) → length s ≡ 16 → ((p : ℕ) → p < 16 → f p ≡ at s p) → tabulate 16 f ≡ s
tabulated f s l e = tabulate_ext 16 f (at s) e ∙ tabulate_at 16 s l

pub shifted_is : (f : ℕ → ℕ) (s : List ℕ) → ((p : ℕ) → p < 16 → f p ≡ at (ShiftRows s) p) → tabulate 16 f ≡ ShiftRows s
unfolding ShiftRows state
shifted_is f s e = tabulated f _ (length_tabulate 16 _) e

pub added_is : (f : ℕ → ℕ) (s k : List ℕ) → ((p : ℕ) → p < 16 → f p ≡ bit_xor (at s p) (at k p)) → tabulate 16 f ≡ AddRoundKey s k
added_is f s k e = tabulated f (AddRoundKey s k) (unfold AddRoundKey state in length_tabulate 16 _) (λ p h. e p h ∙ sym (add_at s k p h))

pub sub_is : (s : List ℕ) → tabulate 16 (λ i. sbox_of (at s i)) ≡ SubBytes s
sub_is s = tabulated _ (SubBytes s) (unfold SubBytes state in length_tabulate 16 _) (λ p h. sym (sub_at s p h))

pub inv_sub_is : (s : List ℕ) → tabulate 16 (λ i. inv_sbox_of (at s i)) ≡ InvSubBytes s
inv_sub_is s = tabulated _ (InvSubBytes s) (unfold InvSubBytes state in length_tabulate 16 _) (λ p h. sym (inv_sub_at s p h))

-- ---- A function of each byte.
each_block : (f : ℕ → ℕ) → ((x : ℕ) → x < 256 → f x < 256) → (s : List ℕ) → Block s → Block (state (λ r c. f (cell s r c)))
each_block f h s b = block _ (λ r c p q. h (cell s r c) (b.bytes (r + 4 * c)))

each_back : (f g : ℕ → ℕ) → ((x : ℕ) → x < 256 → g (f x) ≡ x) → (s : List ℕ) → Block s
    → state (λ r c. g (cell (state (λ i j. f (cell s i j))) r c)) ≡ s
each_back f g h s b =
    is_block _ s b.long (λ r c p q. ap g (cell_state (λ i j. f (cell s i j)) r c p q) ∙ h (cell s r c) (b.bytes (r + 4 * c)))

pub sub_block : (s : List ℕ) → Block s → Block (SubBytes s)
unfolding SubBytes
sub_block = each_block sbox_of sbox_lt

pub inv_sub_block : (s : List ℕ) → Block s → Block (InvSubBytes s)
unfolding InvSubBytes
inv_sub_block = each_block inv_sbox_of inv_sbox_lt

pub inv_sub : (s : List ℕ) → Block s → InvSubBytes (SubBytes s) ≡ s
unfolding SubBytes InvSubBytes
inv_sub = each_back sbox_of inv_sbox_of inv_sbox_sbox

pub sub_inv : (s : List ℕ) → Block s → SubBytes (InvSubBytes s) ≡ s
unfolding SubBytes InvSubBytes
sub_inv = each_back inv_sbox_of sbox_of sbox_inv_sbox

-- ---- Bytes that change their columns.
turned_back : (f g : ℕ → ℕ → ℕ) → ((r c : ℕ) → r < 4 → c < 4 → (g r c < 4) × (f r (g r c) ≡ c)) → (s : List ℕ) → length s ≡ 16
    → state (λ r c. cell (state (λ i j. cell s i (f i j))) r (g r c)) ≡ s
turned_back f g h s e =
    is_block _ s e
    (λ r c p q. cell_state (λ i j. cell s i (f i j)) r (g r c) p (h r c p q).0 ∙ ap (cell s r) (h r c p q).1)

pub turn_left : (s : List ℕ) → state (λ r c. cell s r ((c + 1 * r) % 4)) ≡ ShiftRows s
unfolding ShiftRows
turn_left s = state_ext _ _ (λ r c p q. ap (cell s r) (omega arith))

pub turn_right : (s : List ℕ) → state (λ r c. cell s r ((c + 3 * r) % 4)) ≡ InvShiftRows s
unfolding InvShiftRows
turn_right s = state_ext _ _ (λ r c p q. ap (cell s r) (omega arith))

pub shift_block : (s : List ℕ) → Block s → Block (ShiftRows s)
unfolding ShiftRows
shift_block s b = block _ (λ r c p q. b.bytes (r + 4 * ((c + r) % 4)))

pub inv_shift_block : (s : List ℕ) → Block s → Block (InvShiftRows s)
unfolding InvShiftRows
inv_shift_block s b = block _ (λ r c p q. b.bytes (r + 4 * ((c + (4 - r)) % 4)))

pub inv_shift : (s : List ℕ) → length s ≡ 16 → InvShiftRows (ShiftRows s) ≡ s
unfolding ShiftRows InvShiftRows
inv_shift = turned_back (λ r c. (c + r) % 4) (λ r c. (c + (4 - r)) % 4) (λ r c p q. (omega arith, omega arith))

pub shift_inv : (s : List ℕ) → length s ≡ 16 → ShiftRows (InvShiftRows s) ≡ s
unfolding ShiftRows InvShiftRows
shift_inv = turned_back (λ r c. (c + (4 - r)) % 4) (λ r c. (c + r) % 4) (λ r c p q. (omega arith, omega arith))

-- ---- AddRoundKey.
pub add_block : (s k : List ℕ) → Block s → Bytes k → Block (AddRoundKey s k)
unfolding AddRoundKey
add_block s k b l = block _ (λ r c p q. xor_lt 8 (cell s r c) (cell k r c) (b.bytes (r + 4 * c)) (l (r + 4 * c)))

pub add_back : (s k : List ℕ) → length s ≡ 16 → AddRoundKey (AddRoundKey s k) k ≡ s
unfolding AddRoundKey
add_back s k e =
    is_block _ s e
    (λ r c p q.
    ap (λ (z : ℕ). bit_xor z (cell k r c)) (cell_state (λ i j. bit_xor (cell s i j) (cell k i j)) r c p q)
    ∙ xor_back (cell s r c) (cell k r c))
