-- Laws, not definitions: a walk over tables that are read one by one, for any number nr of rounds.
-- Assumes nothing.
use mathlib.Core.List.{List, [], ◌∷◌, ◌++◌, map}
use mathlib.Core.Path.{◌≡◌, refl, sym, ap, ◌∙◌}
use Prim.Native.Nat.{ℕ, suc, ◌≤◌, ◌<◌}
use native.Mathlib.Decide.{dec_lt}
use native.Mathlib.Omega.{arith}
use lib.ListN.{length, take, length-take}
use Rattle.answers.specs.declared.Refusal.{Refusal}
use Rattle.answers.proofs.laws.Tests.{differ, left_old}
use Rattle.layout.specs.Ciphers.{reads_of}
use Rattle.layout.specs.Stages.{lookups, table_size, place_of}
use Rattle.layout.specs.declared.stage.Place.{Place}
use Rattle.layout.proofs.laws.Lookup.{stands}
use Rattle.layout.proofs.laws.Ranges.{by_stage}
use Rattle.calls.specs.Calls.{Held, judge_one, one_lookup, answer, handed, last_walk}
use Rattle.calls.proofs.laws.Calls.{one_handed, step_count}
use Rattle.calls.proofs.laws.Judged.{accepted_was, refused_was}
use Rattle.evaluate.specs.Held.{held}
use Rattle.evaluate.specs.declared.walk.Move.{Move}
use Rattle.evaluate.specs.declared.walk.Walk.{Walk}
use Rattle.streams.specs.Received.{Received, AllReceived}
use Rattle.walker.specs.Tables.{table_room, Next, AllAccepted, OverTables, Short, OverInput}
use Rattle.answers.specs.Answer.{Accepted, Refused}

-- ---- the memory for a table has room for each
pub size_most : (nr n : ℕ) {p : Place} → p ≡ place_of nr n → p.size ≤ table_room
size_most nr n {p} e = go (dec_lt n (lookups nr))
  where
    go : Dec (n < lookups nr) → p.size ≤ table_room
    go (yes h) = (stands h e).most
    go (no h) = omega (arith, ap (λ (q : Place). q.size) e, (by_stage nr).size_none n (omega arith))

-- What was read for a table has that many bytes.
pub table_long : (nr : ℕ) {w : Walk} {r : Move} {left : List ℕ} (n : Next nr w r left) → length (take n.got left) ≤ table_size nr w.count
table_long nr {left = left} n = omega (arith, n.most, length-take n.got left)

-- ---- one part more
pub received_more : (parts : List (List ℕ)) (last : List ℕ) → AllReceived parts → Received last → AllReceived (parts ++ (last ∷ []))
received_more [] last r s = (s, tt)
received_more (part ∷ parts) last r s = (r.0, received_more parts last r.1 s)

module _ (nr : ℕ) where
  -- ---- one lookup that is accepted
  pub record Made (t : List ℕ) (w : Held) : Type 0 where
    pub inside : w.state.count < lookups nr
    pub long : length t ≡ table_size nr w.state.count
    pub count : (handed nr (one_lookup t) w).state.count ≡ suc w.state.count

  pub made : (t : List ℕ) (w : Held) → answer nr (one_lookup t) w ≡ Accepted → Made t w
  unfolding answer
  made t w e =
      let right = accepted_was nr (length t) w.state.count e in
      record {
        inside = right.inside;
        long = right.long;
        count = ap (λ (v : Held). v.state.count) (one_handed nr t w e) ∙ step_count (reads_of w.mark.cipher) nr t w.state right.inside;
      }

  -- ---- one table more
  all_more : (w : Held) (ts : List (List ℕ)) (t : List ℕ)
      → AllAccepted nr w ts → answer nr (one_lookup t) (last_walk nr w (map one_lookup ts)) ≡ Accepted
      → AllAccepted nr w (ts ++ (t ∷ []))
  unfolding last_walk
  all_more w [] t h e = (e, tt)
  all_more w (u ∷ ts) t h e = (h.0, all_more (handed nr (one_lookup u) w) ts t h.1 e)

  last_more : (w : Held) (ts : List (List ℕ)) (t : List ℕ)
      → handed nr (one_lookup t) (last_walk nr w (map one_lookup ts)) ≡ last_walk nr w (map one_lookup (ts ++ (t ∷ [])))
  unfolding last_walk
  last_more w [] t = refl
  last_more w (u ∷ ts) t = last_more (handed nr (one_lookup u) w) ts t

  over_none : (w : Held) → OverTables nr w w
  unfolding last_walk
  over_none w = record { tables = []; read = tt; accepted = tt; walk = refl }

  over_more : (w v : Held) (t : List ℕ) → OverTables nr w v → Received t → answer nr (one_lookup t) v ≡ Accepted
      → OverTables nr w (handed nr (one_lookup t) v)
  over_more w v t o s e =
      record {
        tables = o.tables ++ (t ∷ []);
        read = received_more o.tables t o.read s;
        accepted = all_more w o.tables t o.accepted (ap (answer nr (one_lookup t)) (sym o.walk) ∙ e);
        walk = ap (handed nr (one_lookup t)) o.walk ∙ last_more w o.tables t;
      }

  -- ---- the loop over the input. `count` is the number of lookups as the code has it, and the memory for a table keeps its length.
  -- Its invariant: tables that were read took the walk w₀ to w, which has not passed the last lookup.
  pub record Going (room : ℕ) (w₀ w : Walk) (memory : List ℕ) : Type 0 where
    pub over : OverTables nr (held w₀) (held w)
    pub most : w₀.count ≤ lookups nr → w.count ≤ lookups nr
    pub long : length memory ≡ room

  pub going_none : {room : ℕ} {w₀ : Walk} {memory : List ℕ} → length memory ≡ room → Going room w₀ w₀ memory
  going_none {w₀ = w₀} l = record { over = over_none (held w₀); most = λ h. h; long = l }

  module _ {room : ℕ} {w₀ w : Walk} {memory after : List ℕ} {r : Move} (I : Going room w₀ w memory) (n : Next nr w r after) where
    -- What was read for the table.
    abbrev table : List ℕ
    table = take n.got after

    accepted_here : r.answer ≡ Accepted → answer nr (one_lookup table) (held w) ≡ Accepted
    accepted_here e = sym n.moves.answer ∙ e

    next_count : r.answer ≡ Accepted → r.walk.count ≡ suc w.count
    next_count e = ap (λ (v : Held). v.state.count) n.moves.walk ∙ (made table (held w) (accepted_here e)).count

    -- A turn whose move is accepted.
    pub going_more : {left : List ℕ} → w.count < lookups nr → r.answer ≡ Accepted → length left ≡ room → Going room w₀ r.walk left
    going_more h e kept =
        record {
          over = rw n.moves.walk (over_more (held w₀) (held w) table I.over n.read (accepted_here e));
          most = λ b. omega (arith, next_count e);
          long = kept;
        }

    pub going_on : r.answer ≡ Accepted → w.count < r.walk.count
    going_on e = omega (arith, next_count e)

    too_short : {q : Refusal} → w.count < lookups nr → answer nr (one_lookup table) (held w) ≡ Refused q → Short nr (held w) q
    unfolding answer
    too_short h e =
        let wrong = refused_was nr (length table) w.count h e in
        record { table = table; read = n.read; less = omega (arith, table_long nr n, wrong.long); answer = e; cause = wrong.cause }

    -- A turn whose move is refused: it has left the walk.
    pub gone_short : {q : Refusal} → w.count < lookups nr → r.answer ≡ Refused q → OverInput nr (held w₀) r.answer (held r.walk)
    unfolding answer handed
    gone_short {q} h e =
        let refused : judge_one nr (length table) w.count ≡ Refused q = sym n.moves.answer ∙ e in
        let stays : held r.walk ≡ held w = n.moves.walk ∙ sym (left_old _ q _ (held w) refused) in
        rw stays (record {
          over = I.over;
          whole = λ a b. differ (sym a ∙ e);
          short = λ p d. too_short h (sym n.moves.answer ∙ d);
        })

  -- Behind the last lookup.
  pub gone_whole : {room : ℕ} {w₀ w : Walk} {memory : List ℕ} → Going room w₀ w memory → lookups nr ≤ w.count
      → OverInput nr (held w₀) Accepted (held w)
  gone_whole {w₀ = w₀} {w = w} I h =
      record { over = I.over; whole = λ a b. let at_most = I.most b in omega arith; short = λ r d. differ d }
