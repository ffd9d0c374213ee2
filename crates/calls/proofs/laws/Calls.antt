-- Laws, not definitions: the calls' refusals and the plain count agree: a call is accepted by both, or turned down by both for one cause. So the count of
-- the walk handed back or left is the plain count's, from any walk and over any memory.
-- Assumes nothing.
use mathlib.Core.List.{List, [], ◌∷◌}
use mathlib.Core.Logic.{⊎_elim, ◌⊎◌, inl, inr}
use mathlib.Core.Path.{◌≡◌, refl, sym, ap, ◌∙◌, subst}
use Prim.Native.Nat.{ℕ, zero, suc, ◌+◌, ◌-◌, ◌≤◌, ◌<◌}
use native.Mathlib.Decide.{ℕ_discrete, dec_lt}
use native.Mathlib.Numerals.{add-one}
use native.Mathlib.Omega.{arith}
use borrow.Author.Tests.{lt-ltb, le-ltb, eq-eqb, ne_eqb}
use lib.ListN.{length}
use Rattle.answers.specs.Answers.{accepted, reply_of, if_accepted}
use Rattle.answers.specs.declared.Refusal.{Refusal}
use Rattle.answers.specs.declared.Refusal.TheVariants.{SetLength, BlockLength, Stop, Unfinished}
use Rattle.answers.proofs.laws.Tests.{left_new, left_old}
use Rattle.network.specs.Lookups.{State, state_at, zero_area, lookup}
use Rattle.network.proofs.laws.Walks.{count_in}
use Rattle.layout.specs.Ciphers.{reads_of}
use Rattle.layout.specs.Stages.{lookups, set_bytes, table_size}
use Rattle.layout.proofs.laws.Ciphers.{kept_kept}
use Rattle.layout.proofs.laws.Ranges.{by_stage}
use Rattle.calls.specs.Calls.{Mark, marked, kept_mark, Held, holding, changed, zero_held, Call, to_stop, one_lookup, fetch, step, advance, handed}
use Rattle.calls.specs.Calls.{table_part, judge_start, judge_stop, judge_one, judge_fetch, started, answer}
use Rattle.calls.specs.PlainCount.{Args, stop_args, one_args, fetch_args, args_of, Counted, plain, plain_count}
use Rattle.calls.proofs.laws.Judged.{set_wrong, stop_above, stop_below, stop_right, none_left, table_wrong, table_right, block_wrong, count_wrong, count_right}
use Rattle.answers.specs.Answer.{Answer, Accepted, Refused}

-- ---- each kind of call, by cases: accepted, or turned down for one cause by the call and by the plain count alike
pub record Turned (J : Answer) (p : Counted) (n : ℕ) : Type 0 where
  pub cause : Refusal
  pub call : J ≡ Refused cause
  pub counted : p ≡ record { reply = reply_of (Refused cause); count = n }

-- Both ways the call's answer, in document 01's numbers, is the plain count's reply.
pub replied : {J a : Answer} {p : Counted} {n : ℕ} → J ≡ a → p ≡ record { reply = reply_of a; count = n } → reply_of J ≡ p.reply
replied call counted = ap reply_of call ∙ ap (λ (p : Counted). p.reply) (sym counted)

module _ (nr : ℕ) where
  pub record StopOk (len stop n : ℕ) : Type 0 where
    pub long : len ≡ set_bytes nr
    pub most : stop ≤ lookups nr
    pub least : n ≤ stop
    pub call : judge_stop nr len stop n ≡ Accepted
    pub counted : plain nr (stop_args len stop) n ≡ record { reply = accepted; count = stop }

  pub stop_view : (len stop n : ℕ) → StopOk len stop n ⊎ Turned (judge_stop nr len stop n) (plain nr (stop_args len stop) n) n
  unfolding plain
  stop_view len stop n = go (ℕ_discrete len (set_bytes nr)) (dec_lt (lookups nr) stop) (dec_lt stop n)
    where
      go : Dec (len ≡ set_bytes nr) → Dec (lookups nr < stop) → Dec (stop < n)
          → StopOk len stop n ⊎ Turned (judge_stop nr len stop n) (plain nr (stop_args len stop) n) n
      go (no a) b c = inr (record { cause = SetLength; call = sym (set_wrong nr len stop n a); counted = rw (ne_eqb len (set_bytes nr) a) })
      go (yes a) (yes b) c =
          inr (record { cause = Stop; call = sym (stop_above nr len stop n a b); counted = rw (eq-eqb len (set_bytes nr) a, lt-ltb (lookups nr) stop b) })
      go (yes a) (no b) (yes c) =
          let most : stop ≤ lookups nr = omega arith in
          inr (record {
            cause = Stop;
            call = sym (stop_below nr len stop n a most c);
            counted = rw (eq-eqb len (set_bytes nr) a, le-ltb (lookups nr) stop most, lt-ltb stop n c);
          })
      go (yes a) (no b) (no c) =
          let most : stop ≤ lookups nr = omega arith in
          let least : n ≤ stop = omega arith in
          inl (record {
            long = a;
            most = most;
            least = least;
            call = sym (stop_right nr len stop n a most least);
            counted = rw (eq-eqb len (set_bytes nr) a, le-ltb (lookups nr) stop most, le-ltb stop n least);
          })

  pub record OneOk (len n : ℕ) : Type 0 where
    pub inside : n < lookups nr
    pub long : len ≡ table_size nr n
    pub call : judge_one nr len n ≡ Accepted
    pub counted : plain nr (one_args len) n ≡ record { reply = accepted; count = suc n }

  pub one_view : (len n : ℕ) → n ≤ lookups nr → OneOk len n ⊎ Turned (judge_one nr len n) (plain nr (one_args len) n) n
  unfolding plain
  one_view len n h = go (dec_lt n (lookups nr)) (ℕ_discrete len (table_size nr n))
    where
      go : Dec (n < lookups nr) → Dec (len ≡ table_size nr n) → OneOk len n ⊎ Turned (judge_one nr len n) (plain nr (one_args len) n) n
      go (no a) b = inr (record { cause = Stop; call = sym (none_left nr len n (omega arith)); counted = rw (eq-eqb n (lookups nr) (omega arith)) })
      go (yes a) (no b) =
          inr (record {
            cause = SetLength;
            call = sym (table_wrong nr len n a b);
            counted = rw (ne_eqb n (lookups nr) (λ z. omega arith), ne_eqb len (table_size nr n) b);
          })
      go (yes a) (yes b) =
          inl (record {
            inside = a;
            long = b;
            call = sym (table_right nr len n a b);
            counted = rw (ne_eqb n (lookups nr) (λ z. omega arith), eq-eqb len (table_size nr n) b);
          })

  pub record FetchOk (len n : ℕ) : Type 0 where
    pub ended : n ≡ lookups nr
    pub call : judge_fetch nr len n ≡ Accepted
    pub counted : plain nr (fetch_args len) n ≡ record { reply = accepted; count = n }

  pub fetch_view : (len n : ℕ) → FetchOk len n ⊎ Turned (judge_fetch nr len n) (plain nr (fetch_args len) n) n
  unfolding plain
  fetch_view len n = go (ℕ_discrete len 16) (ℕ_discrete n (lookups nr))
    where
      go : Dec (len ≡ 16) → Dec (n ≡ lookups nr) → FetchOk len n ⊎ Turned (judge_fetch nr len n) (plain nr (fetch_args len) n) n
      go (no a) b = inr (record { cause = BlockLength; call = sym (block_wrong nr len n a); counted = rw (ne_eqb len 16 a) })
      go (yes a) (no b) =
          inr (record { cause = Unfinished; call = sym (count_wrong nr len n a b); counted = rw (eq-eqb len 16 a, ne_eqb n (lookups nr) b) })
      go (yes a) (yes b) =
          inl (record { ended = b; call = sym (count_right nr len n a b); counted = rw (eq-eqb len 16 a, eq-eqb n (lookups nr) b) })

  -- A fetch leaves the plain count.
  pub fetch_count : (len n : ℕ) → (plain nr (fetch_args len) n).count ≡ n
  fetch_count len n =
      ⊎_elim (λ o. ap (λ (p : Counted). p.count) o.counted) (λ t. ap (λ (p : Counted). p.count) t.counted) (fetch_view len n)

  -- ---- the plain count stays in range
  pub next_le : (a : Args) (n : ℕ) → n ≤ lookups nr → (plain nr a n).count ≤ lookups nr
  next_le (stop_args len stop) n h = ⊎_elim
      (λ o. subst (λ (p : Counted). p.count ≤ lookups nr) (sym o.counted) o.most)
      (λ t. subst (λ (p : Counted). p.count ≤ lookups nr) (sym t.counted) h) (stop_view len stop n)
  next_le (one_args len) n h = ⊎_elim
      (λ o. subst (λ (p : Counted). p.count ≤ lookups nr) (sym o.counted) o.inside)
      (λ t. subst (λ (p : Counted). p.count ≤ lookups nr) (sym t.counted) h) (one_view len n h)
  next_le (fetch_args len) n h = subst (λ (x : ℕ). x ≤ lookups nr) (sym (fetch_count len n)) h

  pub count_le : (cs : List Args) (n : ℕ) → n ≤ lookups nr → plain_count nr n cs ≤ lookups nr
  unfolding plain_count
  count_le [] n h = h
  count_le (c ∷ cs) n h = count_le cs (plain nr c n).count (next_le c n h)

-- ---- a start's walk is at count 0, a refused one's too
pub start_count : (c : ℕ) (x : List ℕ) → (started c x).state.count ≡ 0
unfolding started
start_count c x = either (judge_start (length x))
  where
    either : (a : Answer) → (if_accepted a (holding (marked c) (state_at 0 x zero_area)) zero_held).state.count ≡ 0
    either Accepted = refl
    either (Refused r) = refl

-- ---- and it keeps 0 or 1
-- What is kept of a start's mark is that mark.
pub mark_kept : (c : ℕ) → kept_mark (marked c) ≡ marked c
mark_kept c = ap (λ (k : ℕ). let m : Mark = record { cipher = k } in m) (kept_kept c)

pub start_keeps : (c : ℕ) (x : List ℕ) → kept_mark (started c x).mark ≡ (started c x).mark
unfolding started
start_keeps c x = either (judge_start (length x))
  where
    begun : Answer → Held
    begun a = if_accepted a (holding (marked c) (state_at 0 x zero_area)) zero_held

    either : (a : Answer) → kept_mark (begun a).mark ≡ (begun a).mark
    either Accepted = mark_kept c
    either (Refused r) = refl

-- ---- from any walk and over any memory, the count of the walk handed back or left is the plain count's
module _ (reads : ℕ → ℕ) (nr : ℕ) where
  pub step_count : (t : List ℕ) (s : State) → s.count < lookups nr → (step reads nr t s).count ≡ suc s.count
  unfolding lookup
  step_count t s h = ap (λ (s : State). s.count) ((by_stage nr).lookup_is reads s.count h t s) ∙ count_in _ _ t s

  pub advance_count : (mem : List ℕ) (n : ℕ) (s : State) → s.count + n ≤ lookups nr → (advance reads nr mem n s).count ≡ s.count + n
  unfolding advance
  advance_count mem zero s h = omega arith
  advance_count mem (suc n) s h =
      let t : List ℕ = table_part nr mem s.count in
      let one : (step reads nr t s).count ≡ suc s.count = step_count t s (omega arith) in
      let rest : (advance reads nr mem n (step reads nr t s)).count ≡ (step reads nr t s).count + n = advance_count mem n (step reads nr t s) (omega arith) in
      omega arith

  -- Lookups in two parts, and the last of them.
  pub advance_split : (mem : List ℕ) (j k : ℕ) (s : State) → advance reads nr mem (j + k) s ≡ advance reads nr mem k (advance reads nr mem j s)
  unfolding advance
  advance_split mem zero k s = ap (λ (n : ℕ). advance reads nr mem n s) (let e : 0 + k ≡ k = omega arith in e)
  advance_split mem (suc j) k s =
      let e : suc j + k ≡ suc (j + k) = omega arith in
      ap (λ (n : ℕ). advance reads nr mem n s) e ∙ advance_split mem j k (step reads nr (table_part nr mem s.count) s)

  pub advance_last : (mem : List ℕ) (k : ℕ) (s : State)
      → advance reads nr mem (suc k) s ≡ step reads nr (table_part nr mem (advance reads nr mem k s).count) (advance reads nr mem k s)
  unfolding advance
  advance_last mem k s = ap (λ (n : ℕ). advance reads nr mem n s) (sym (add-one k)) ∙ advance_split mem k 1 s

module _ (nr : ℕ) where
  -- The walk that an accepted move of one lookup hands back.
  pub one_handed : (t : List ℕ) (w : Held) → answer nr (one_lookup t) w ≡ Accepted → handed nr (one_lookup t) w ≡ changed (step (reads_of w.mark.cipher) nr t) w
  unfolding answer handed
  one_handed t w e = sym (left_new _ (changed (step (reads_of w.mark.cipher) nr t) w) w e)

  pub counted : (c : Call) (w : Held) → w.state.count ≤ lookups nr → (handed nr c w).state.count ≡ (plain nr (args_of c) w.state.count).count
  unfolding answer handed
  counted (to_stop mem stop) w h =
      let n : ℕ = w.state.count in
      let reads = reads_of w.mark.cipher in
      ⊎_elim
      (λ o.
      ap (λ (v : Held). v.state.count) (sym (left_new _ (changed (advance reads nr mem (stop - n)) w) w o.call))
      ∙ advance_count reads nr mem (stop - n) w.state (let a : stop ≤ lookups nr = o.most in let b : n ≤ stop = o.least in omega arith)
      ∙ (let b : n ≤ stop = o.least in let e : n + (stop - n) ≡ stop = omega arith in e)
      ∙ ap (λ (p : Counted). p.count) (sym o.counted))
      (λ t.
      ap (λ (v : Held). v.state.count) (sym (left_old _ _ (changed (advance reads nr mem (stop - n)) w) w t.call))
      ∙ ap (λ (p : Counted). p.count) (sym t.counted))
      (stop_view nr (length mem) stop n)
  counted (one_lookup mem) w h =
      let reads = reads_of w.mark.cipher in
      ⊎_elim
      (λ o.
      ap (λ (v : Held). v.state.count) (one_handed mem w o.call)
      ∙ step_count reads nr mem w.state o.inside
      ∙ ap (λ (p : Counted). p.count) (sym o.counted))
      (λ t. ap (λ (v : Held). v.state.count) (sym (left_old _ _ (changed (step reads nr mem) w) w t.call)) ∙ ap (λ (p : Counted). p.count) (sym t.counted))
      (one_view nr (length mem) w.state.count h)
  counted (fetch block) w h = sym (fetch_count nr (length block) w.state.count)
