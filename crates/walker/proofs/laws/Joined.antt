-- Laws, not definitions: moves of one lookup over tables, one after the other, are one move over the memory in which they stand one behind the other.
-- Assumes nothing.
use mathlib.Core.List.{List, [], ◌∷◌, ◌++◌, map, append_assoc, append-nil}
use mathlib.Core.Path.{◌≡◌, refl, sym, ap, ◌∙◌}
use Prim.Native.Nat.{ℕ, ◌+◌}
use native.Mathlib.Omega.{arith}
use lib.ListN.{length, take, drop, length-append}
use lib.Seq.{take_at, drop_at}
use Rattle.layout.specs.Ciphers.{reads_of}
use Rattle.layout.specs.Stages.{table_size, table_offset}
use Rattle.layout.proofs.laws.Instance.{next_offset}
use Rattle.calls.specs.Calls.{Mark, kept_mark, Held, holding, step, advance, one_lookup, handed, last_walk}
use Rattle.calls.proofs.laws.Calls.{one_handed}
use Rattle.streams.specs.Received.{joined}
use Rattle.walker.specs.Tables.{AllAccepted}
use Rattle.walker.proofs.laws.Tables.{made}

-- One part more.
pub joined_more : (parts : List (List ℕ)) (last : List ℕ) → joined (parts ++ (last ∷ [])) ≡ joined parts ++ last
unfolding joined
joined_more [] last = append-nil last
joined_more (part ∷ parts) last = ap (λ (l : List ℕ). part ++ l) (joined_more parts last) ∙ sym (append_assoc part (joined parts) last)

module _ (nr : ℕ) where
  abbrev last : Held → List (List ℕ) → Held
  last w ts = last_walk nr w (map one_lookup ts)

  -- The bytes read stand up to the offset of the next table, and the count is the number of tables read.
  pub joined_count : (w : Held) (ts : List (List ℕ)) → AllAccepted nr w ts → (last w ts).state.count ≡ w.state.count + length ts
  unfolding last_walk
  joined_count w [] a = omega arith
  joined_count w (t ∷ ts) a =
      omega (arith, (made nr t w a.0).count, joined_count (handed nr (one_lookup t) w) ts a.1)

  pub joined_bytes : (w : Held) (ts : List (List ℕ)) → AllAccepted nr w ts
      → table_offset nr w.state.count + length (joined ts) ≡ table_offset nr (last w ts).state.count
  unfolding last_walk joined
  joined_bytes w [] a = omega arith
  joined_bytes w (t ∷ ts) a =
      let m = made nr t w a.0 in
      let on = next_offset nr w.state.count m.inside ∙ ap (λ (n : ℕ). table_offset nr w.state.count + n) (sym m.long) in
      let rest = joined_bytes (handed nr (one_lookup t) w) ts a.1 in
      omega (arith, ap (table_offset nr) m.count, on, rest, length-append t (joined ts))

  -- The memory has the tables behind a part of as many bytes as stand before them, and any bytes behind. The walk holds 0 or 1, and keeps it.
  pub joined_walk : (w : Held) (ts : List (List ℕ)) → kept_mark w.mark ≡ w.mark → AllAccepted nr w ts → (before behind : List ℕ)
      → length before ≡ table_offset nr w.state.count
      → last w ts ≡ holding w.mark (advance (reads_of w.mark.cipher) nr (before ++ joined ts ++ behind) (length ts) w.state)
  unfolding last_walk joined advance
  joined_walk w [] keeps a before behind e = refl
  joined_walk w (t ∷ ts) keeps a before behind e =
      let m = made nr t w a.0 in
      let k = w.state.count in
      let reads = reads_of w.mark.cipher in
      let next = handed nr (one_lookup t) w in
      let gone : next ≡ holding w.mark (step reads nr t w.state) = one_handed nr t w a.0 ∙ ap (λ (m : Mark). holding m (step reads nr t w.state)) keeps in
      let same : next.mark ≡ w.mark = ap (λ (v : Held). v.mark) gone in
      let mem : List ℕ = before ++ (t ++ joined ts) ++ behind in
      let apart : mem ≡ before ++ (t ++ (joined ts ++ behind)) = simp append_assoc in
      let here : take (table_size nr k) (drop (table_offset nr k) mem) ≡ t =
      ap (λ (l : List ℕ). take (table_size nr k) (drop (table_offset nr k) l)) apart
      ∙ ap (take (table_size nr k)) (drop_at before (t ++ (joined ts ++ behind)) (table_offset nr k) e)
      ∙ take_at t (joined ts ++ behind) (table_size nr k) m.long
      in
      let upto : length (before ++ t) ≡ table_offset nr next.state.count =
      omega (arith, length-append before t, m.long, next_offset nr k m.inside, ap (table_offset nr) m.count)
      in
      joined_walk next ts (ap kept_mark same ∙ keeps ∙ sym same) a.1 (before ++ t) behind upto
      ∙ ap (λ (l : List ℕ). holding next.mark (advance (reads_of next.mark.cipher) nr (l ++ behind) (length ts) next.state)) (append_assoc before t (joined ts))
      ∙ ap (λ (v : Held). holding v.mark (advance (reads_of v.mark.cipher) nr mem (length ts) v.state)) gone
      ∙ ap (λ (u : List ℕ). holding w.mark (advance reads nr mem (length ts) (step reads nr u w.state))) (sym here)
