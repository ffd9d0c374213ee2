-- Laws, not definitions: of the key expansion word by word, of the sum with a round key, and that round keys are bytes.
-- Assumes nothing.
use mathlib.Core.Path.{◌≡◌, sym, ap, ◌∙◌}
use mathlib.Core.Bool.{Bool, true, false, cond, ◌&&◌}
use mathlib.Core.List.{List, [], ◌∷◌}
use Prim.Native.Nat.{ℕ, zero, suc, ◌+◌, ◌-◌, ◌*◌, ◌/◌, ◌%◌, ◌≤◌, ◌<◌}
use native.Mathlib.Omega.{arith}
use native.Mathlib.Decide.{dec_lt, ℕ_discrete}
use Rattle.rounds.specs.Rounds.{Rounds}
use borrow.Author.Tests.{eq-eqb, ne_eqb, lt-ltb, le-ltb}
use lib.Dec.{eqb, ltb, eqb→eq, lit<}
use lib.Bits.{bit_xor, xor_lt}
use lib.ListN.{length, take, drop, length-take}
use lib.Seq.{get_or-take, get_or-drop}
use Rattle.bits.specs.Lists.{at, tabulate}
use Rattle.bits.specs.Bytes.{Bytes}
use Rattle.bits.proofs.laws.Lists.{tabulate_ext, tabulate_below, append_below, at_past}
use Rattle.bits.proofs.laws.Checked as checked
use Rattle.field.specs.Field.{xtime}
use Rattle.field.proofs.laws.Field.{xtime_lt}
use Rattle.field.proofs.laws.Sbox.{sbox_lt}
use Rattle.round.specs.Key.{rcon, word_at, RotWord, SubWord, xor_word, Rcon, temp, next_word_of, expand, rounds_of, KeyExpansion, key_of}
use Rattle.round.specs.RoundKeys.{RoundKeyBytes}
use Rattle.round.specs.State.{AddRoundKey}
use Rattle.round.proofs.laws.State.{added_is}

-- The first bytes of the round constants, as the code has them: ten are the most that a key asks for.
unfoldable pub rcon_table : List ℕ
rcon_table = 0 ∷ 1 ∷ 2 ∷ 4 ∷ 8 ∷ 16 ∷ 32 ∷ 64 ∷ 128 ∷ 27 ∷ 54 ∷ []

right : ℕ → ℕ → Bool
right j x = eqb x (rcon j)

rcon_is : (j : ℕ) → j < 11 → at rcon_table j ≡ rcon j
unfolding rcon_table right rcon xtime
rcon_is j h = eqb→eq _ _ (checked.at right rcon_table tt j h)

pub rcon_at : (j : ℕ) → j < 11 → at rcon_table j ∷ 0 ∷ 0 ∷ 0 ∷ [] ≡ Rcon j
unfolding Rcon
rcon_at j h = ap (λ (x : ℕ). x ∷ 0 ∷ 0 ∷ 0 ∷ []) (rcon_is j h)

-- ---- What becomes of temp, for a key of nk words: by the tests of the code.
module _ (nk i : ℕ) (t : List ℕ) where
  -- At the start of nk words.
  pub temp_turn : i % nk ≡ 0 → {r s c x : List ℕ} → r ≡ RotWord t → s ≡ SubWord r → c ≡ Rcon (i / nk) → x ≡ xor_word s c → x ≡ temp nk i t
  unfolding temp
  temp_turn e pr ps pc px = px ∙ rw (eq-eqb (i % nk) 0 e, pc, ps, pr)

  module _ (e : i % nk ≡ 0 → ⊥) where
    -- Four or six words: else it stays.
    pub temp_keep : nk ≤ 6 → t ≡ temp nk i t
    unfolding temp
    temp_keep h = rw (ne_eqb (i % nk) 0 e, le-ltb 6 nk h)

    -- Eight words: in their middle each byte goes through the S-box, else it stays.
    pub temp_sub : 6 < nk → i % nk ≡ 4 → {x : List ℕ} → x ≡ SubWord t → x ≡ temp nk i t
    unfolding temp
    temp_sub h m q = q ∙ rw (ne_eqb (i % nk) 0 e, lt-ltb 6 nk h, eq-eqb (i % nk) 4 m)

    pub temp_other : 6 < nk → (i % nk ≡ 4 → ⊥) → t ≡ temp nk i t
    unfolding temp
    temp_other h m = rw (ne_eqb (i % nk) 0 e, lt-ltb 6 nk h, ne_eqb (i % nk) 4 m)

-- No word of the expansion asks for a round constant behind the tenth.
pub rcon_small : (nk i : ℕ) → Rounds (rounds_of nk) → i < 4 * (rounds_of nk + 1) → i / nk < 11
rcon_small nk i R h = go (ℕ_discrete nk 4) (ℕ_discrete nk 6)
  where
    go : Dec (nk ≡ 4) → Dec (nk ≡ 6) → i / nk < 11
    go (yes e) b = rw e (omega arith)
    go (no a) (yes e) = rw e (omega arith)
    go (no a) (no b) = let e : nk ≡ 8 = omega (arith, R) in rw e (omega arith)

-- ---- Words and round keys in a list of words.
pub word_take : (w : List ℕ) (m j : ℕ) → 4 * j + 4 ≤ m → word_at (take m w) j ≡ word_at w j
unfolding word_at
word_take w m j h = tabulate_ext 4 _ _ (λ q l. get_or-take m w (4 * j + q) 0 (omega arith))

pub key_at : (w : List ℕ) (n i : ℕ) → i < 16 → at (key_of w n) i ≡ at w (16 * n + i)
unfolding key_of
key_at w n i h = get_or-take 16 (drop (16 * n) w) i 0 h ∙ get_or-drop (16 * n) w i 0

-- A state to whose bytes those of round key n are added.
pub added : (s w : List ℕ) (n : ℕ) → tabulate 16 (λ k. bit_xor (at s k) (at w (16 * n + k))) ≡ AddRoundKey s (key_of w n)
added s w n = added_is _ s (key_of w n) (λ p h. ap (bit_xor (at s p)) (sym (key_at w n p h)))

-- ---- Round keys are bytes.
key_short : (w : List ℕ) (r : ℕ) → length (key_of w r) ≤ 16
unfolding key_of
key_short w r = omega (arith, length-take 16 (drop (16 * r) w))

pub key_bytes : (w : List ℕ) → Bytes w → (r : ℕ) → Bytes (key_of w r)
key_bytes w l r i = elim (dec_lt i 16) [
  | yes h ↦ rw (key_at w r i h) (l (16 * r + i))
  | no h ↦ rw (at_past (key_of w r) i (omega (arith, key_short w r))) (lit< tt)
]

rcon_lt : (j : ℕ) → rcon j < 256
unfolding rcon
rcon_lt zero = lit< tt
rcon_lt (suc zero) = lit< tt
rcon_lt (suc (suc j)) = xtime_lt (rcon (suc j)) (rcon_lt (suc j))

rcon_bytes : (j : ℕ) → Bytes (Rcon j)
unfolding Rcon
rcon_bytes j zero = rcon_lt j
rcon_bytes j (suc zero) = lit< tt
rcon_bytes j (suc (suc zero)) = lit< tt
rcon_bytes j (suc (suc (suc zero))) = lit< tt
rcon_bytes j (suc (suc (suc (suc i)))) = lit< tt

word_bytes : (f : ℕ → ℕ) → ((q : ℕ) → f q < 256) → Bytes (tabulate 4 f)
word_bytes f h = tabulate_below 256 4 f (lit< tt) (λ q l. h q)

xor_bytes : (a b : List ℕ) → Bytes a → Bytes b → Bytes (xor_word a b)
unfolding xor_word
xor_bytes a b p q = word_bytes _ (λ i. xor_lt 8 (at a i) (at b i) (p i) (q i))

sub_bytes : (t : List ℕ) → Bytes t → Bytes (SubWord t)
unfolding SubWord
sub_bytes t p = word_bytes _ (λ i. sbox_lt (at t i) (p i))

rot_bytes : (t : List ℕ) → Bytes t → Bytes (RotWord t)
unfolding RotWord
rot_bytes t p = word_bytes _ (λ i. p ((i + 1) % 4))

at_bytes : (w : List ℕ) (j : ℕ) → Bytes w → Bytes (word_at w j)
unfolding word_at
at_bytes w j p = word_bytes _ (λ q. p (4 * j + q))

pick_bytes : (b : Bool) (x y : List ℕ) → Bytes x → Bytes y → Bytes (cond b x y)
pick_bytes true x y p q = p
pick_bytes false x y p q = q

temp_bytes : (nk i : ℕ) (t : List ℕ) → Bytes t → Bytes (temp nk i t)
unfolding temp
temp_bytes nk i t p =
    pick_bytes (eqb (i % nk) 0) _ _ (xor_bytes _ _ (sub_bytes _ (rot_bytes t p)) (rcon_bytes (i / nk)))
    (pick_bytes (ltb 6 nk && eqb (i % nk) 4) _ _ (sub_bytes t p) p)

next_bytes : (nk i : ℕ) (w : List ℕ) → Bytes w → Bytes (next_word_of nk i w)
unfolding next_word_of
next_bytes nk i w p =
    xor_bytes (word_at w (i - nk)) (temp nk i (word_at w (i - 1))) (at_bytes w (i - nk) p)
    (temp_bytes nk i (word_at w (i - 1)) (at_bytes w (i - 1) p))

expand_bytes : (nk : ℕ) (key : List ℕ) (n : ℕ) → Bytes key → Bytes (expand nk key n)
unfolding expand
expand_bytes nk key zero p = p
expand_bytes nk key (suc n) p =
    append_below 256 (expand nk key n) (next_word_of nk (nk + n) (expand nk key n)) (expand_bytes nk key n p)
    (next_bytes nk (nk + n) (expand nk key n) (expand_bytes nk key n p))

pub round_key_bytes : RoundKeyBytes
unfolding KeyExpansion
round_key_bytes nk key p = expand_bytes nk key _ p
