-- DEMAND 3, for a reader to hold against the mission and document 01, "Lists of calls"; proved in proofs/laws/Demands.antt. ONE claim about a
-- list of calls of any length, from the walk that an accepted start hands back. The start names the cipher c that the set is made for (document 02, Ticket 1).
use Rattle.std.specs.Prelude.{List, map, ◌≡◌, ℕ, ◌*◌, ◌≤◌, ◌<◌, length}
use Rattle.answers.specs.Answers.{accepted}
use Rattle.bits.specs.Bytes.{Bytes}
use Rattle.bits.specs.Nibbles.{nibble}
use Rattle.round.specs.Key.{rounds_of}
use Rattle.judgement.specs.Judge.{judge}
use Rattle.external.specs.Coding.{decode_input, encode_output, SameOuter}
use Rattle.network.specs.Due.{Due}
use Rattle.network.specs.Lookups.{State}
use Rattle.network.specs.Rule.{label_of, under, labels}
use Rattle.network.specs.Theorems.{Reads}
use Rattle.layout.specs.Stages.{widths, lookups}
use Rattle.calls.specs.Calls.{judge_start, started, Call, to_stop, reply, handed, Served, serve, last_walk}
use Rattle.calls.specs.PlainCount.{args_of, plain_count, Lent, due_served, Alike, seen}
use Rattle.whitebox.specs.Bundles.{codings_of, parts_of, cipher_block, made_set, made_table, due_held}
use Rattle.whitebox.specs.Values.{due_standing, due_area}
use Rattle.answers.specs.Answer.{Accepted}

-- A key of nk words and an accepted bundle, both bytes.
pub record Given (nk : ℕ) (key l : List ℕ) : Type 0 where
  pub long : length key ≡ 4 * nk
  pub key_bytes : Bytes key
  pub bundle_bytes : Bytes l
  pub judged : judge (rounds_of nk) l ≡ Accepted

-- A presented block that the start accepts.
pub record Presented (x : List ℕ) : Type 0 where
  pub bytes : Bytes x
  pub started : judge_start (length x) ≡ Accepted

-- ---- what is due at each place of a walk
-- Of the state s at count k, from the uncoded presented block b: "each coded half-byte held, its own list taken off, is the one that FIPS 197 and the bundle's matrices
-- give for that place"; a place with no encoding is zero. And the encoding of each place is "that of the last look-up numbered below the count whose result
-- these rules put there". That the walk's own count is k is said beside it (`last` of `Answered`).
module _ (c nk : ℕ) (key l b : List ℕ) where
  -- Due at standing nibble q, and at nibble q of the area.
  abbrev pub standing_value : ℕ → ℕ → Due
  standing_value k q = due_standing (parts_of c nk key) (codings_of (rounds_of nk) l) (rounds_of nk) b k q

  abbrev pub area_value : ℕ → ℕ → Due
  area_value k q = due_area (parts_of c nk key) (codings_of (rounds_of nk) l) (rounds_of nk) b k q

  pub record Places (k : ℕ) (s : State) : Type 0 where
    pub standing : (q : ℕ) → q < 32 → Reads (codings_of (rounds_of nk) l).encoding (nibble s.standing q) (standing_value k q)
    pub area : (q : ℕ) → q < 512 → Reads (codings_of (rounds_of nk) l).encoding (nibble s.area q) (area_value k q)
    pub standing_label : (q : ℕ) → q < 32 → label_of (standing_value k q) ≡ under ((labels (widths (rounds_of nk)) k).standing q)
    pub area_label : (q : ℕ) → q < 512 → label_of (area_value k q) ≡ (labels (widths (rounds_of nk)) k).area q

-- ---- a list of calls
-- What the calls cs are to answer over the set of a cipher, a key and a bundle, for the presented block x. Any block x is one under the input coding: it is the coded
-- `decode_input x` (`Undone.input_back` of external/specs/Undoing.antt), so "every block under the input coding" is every x.
abbrev pub due_for : ℕ → ℕ → List ℕ → List ℕ → List ℕ → List Call → List Served
due_for c nk key l x cs =
    due_served (rounds_of nk) (due_held c nk key l (decode_input (rounds_of nk) l x))
    (encode_output (rounds_of nk) l (cipher_block c nk key (decode_input (rounds_of nk) l x))) 0 cs

pub record Answered (c nk : ℕ) (key l x : List ℕ) (cs : List Call) (n : ℕ) : Type 0 where
  -- Call by call: the reply is the plain count's; the walk handed back or left is the one due at the plain count; the offset passed on is that of the
  -- last lookup that the plain count has the call make, in the walk due before it; an accepted fetch leaves the cipher's block under the output coding, a
  -- refused one the bytes that the lent block held.
  pub calls : serve (rounds_of nk) (started c x) cs ≡ due_for c nk key l x cs
  -- At the end: the plain count n is from 0 to the number of lookups, and each place of the walk holds what is due there at that count.
  pub within : n ≤ lookups (rounds_of nk)
  pub places : Places c nk key l (decode_input (rounds_of nk) l x) n (last_walk (rounds_of nk) (started c x) cs).state
  -- The walk is the one due at that count, which is, byte for byte, what one move straight to that count hands back.
  pub last : last_walk (rounds_of nk) (started c x) cs ≡ due_held c nk key l (decode_input (rounds_of nk) l x) n
  pub straight_reply : reply (rounds_of nk) (to_stop (made_set c nk key l) n) (started c x) ≡ accepted
  pub straight : handed (rounds_of nk) (to_stop (made_set c nk key l) n) (started c x) ≡ last_walk (rounds_of nk) (started c x) cs

abbrev pub ListOfCalls : ℕ → Type 0
ListOfCalls nk =
    (c : ℕ) (key l x : List ℕ) → Given nk key l → Presented x → (cs : List Call) → Lent (rounds_of nk) (made_table c nk key l) (made_set c nk key l) 0 cs
    → Answered c nk key l x cs (plain_count (rounds_of nk) 0 (map args_of cs))

-- ---- two sets of one key with the same outer codings, "made for one cipher", answer alike
abbrev pub TwoSets : ℕ → Type 0
TwoSets nk =
    (c : ℕ) (key l l' x : List ℕ) → Given nk key l → Given nk key l' → SameOuter (rounds_of nk) l l' → Presented x → (cs cs' : List Call) → Alike cs cs'
    → Lent (rounds_of nk) (made_table c nk key l) (made_set c nk key l) 0 cs → Lent (rounds_of nk) (made_table c nk key l') (made_set c nk key l') 0 cs'
    → map seen (serve (rounds_of nk) (started c x) cs) ≡ map seen (serve (rounds_of nk) (started c x) cs')

pub record Demand3For (nk : ℕ) : Type 0 where
  pub calls : ListOfCalls nk
  pub two : TwoSets nk

-- AES-128: a key of 16 bytes, ten rounds.
abbrev pub Demand3 : Type 0
Demand3 = Demand3For 4
