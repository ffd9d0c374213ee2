-- The number of a walk's cipher: "0 or 1 (any other number there acts as 1, which an accepted move hands back)" (document 02, Ticket 1); and that a refused call
-- leaves the walk as it was. Statements; they are proved in proofs/laws/Kept.antt.
use Rattle.std.specs.Prelude.{List, ◌≡◌, ℕ}
use Rattle.answers.specs.Answers.{accepted}
use Rattle.layout.specs.Ciphers.{kept}
use Rattle.calls.specs.Calls.{kept_mark, Held, holding, Call, to_stop, one_lookup, fetch, reply, handed, passed_on, block_left}

-- ---- a held walk that has another number than 0 or 1
-- The walk with 0 or 1 in its place.
abbrev pub with_kept : Held → Held
with_kept w = holding (kept_mark w.mark) w.state

-- It acts as that one: the same reply, the same offset, the same block, and behind the call the two differ in that number at most.
pub record ActsAs (nr : ℕ) (m : Call) (w : Held) : Type 0 where
  pub same_reply : reply nr m w ≡ reply nr m (with_kept w)
  pub same_offset : passed_on nr m w ≡ passed_on nr m (with_kept w)
  pub same_block : block_left nr m w ≡ block_left nr m (with_kept w)
  pub same_walk : with_kept (handed nr m w) ≡ handed nr m (with_kept w)

abbrev pub ActsAsKept : Type 0
ActsAsKept = (nr : ℕ) (m : Call) (w : Held) → ActsAs nr m w

-- An accepted move hands back 0 or 1, also one that makes no lookup.
pub record HandsBackKept (nr : ℕ) (w : Held) : Type 0 where
  pub to_stop_lem : (mem : List ℕ) (stop : ℕ) → reply nr (to_stop mem stop) w ≡ accepted → (handed nr (to_stop mem stop) w).mark.cipher ≡ kept w.mark.cipher
  pub one : (mem : List ℕ) → reply nr (one_lookup mem) w ≡ accepted → (handed nr (one_lookup mem) w).mark.cipher ≡ kept w.mark.cipher

abbrev pub MovesHandBackKept : Type 0
MovesHandBackKept = (nr : ℕ) (w : Held) → HandsBackKept nr w

-- A refused call leaves the walk as it was, its number too, and so does every fetch.
pub record Leaves (nr : ℕ) (w : Held) : Type 0 where
  pub refused : (m : Call) → (reply nr m w ≡ accepted → ⊥) → handed nr m w ≡ w
  pub fetched : (block : List ℕ) → handed nr (fetch block) w ≡ w

abbrev pub RefusedLeaves : Type 0
RefusedLeaves = (nr : ℕ) (w : Held) → Leaves nr w

-- ---- "a walk or call that names the other is not refused for that": the reply to a call on a walk is the same for every number
-- The walk with the number c in the place of its own.
abbrev pub with_cipher : ℕ → Held → Held
with_cipher c w = holding (record { cipher = c }) w.state

abbrev pub NotRefusedForCipher : Type 0
NotRefusedForCipher = (nr : ℕ) (m : Call) (c : ℕ) (w : Held) → reply nr m (with_cipher c w) ≡ reply nr m w
