-- Laws, not definitions: a list of calls over walks that are known at each count answers what is due, call by call: the reply is the plain count's, the
-- walk is the one known at its count, and the offset is that of the last lookup that the count went past. And lists of calls that are alike are due the same.
-- Assumes nothing.
use mathlib.Core.List.{List, [], ◌∷◌, map}
use mathlib.Core.Logic.{⊎_elim, inl}
use mathlib.Core.Path.{◌≡◌, refl, sym, ap, ap₂, ◌∙◌}
use Prim.Native.Nat.{ℕ, zero, suc, ◌+◌, ◌-◌, ◌≤◌, ◌<◌}
use native.Mathlib.Omega.{arith}
use borrow.Author.Tests.{lt-ltb, le-ltb, eq-eqb}
use lib.ListN.{length}
use Rattle.answers.specs.Answers.{Reply, accepted, refused, reply_of, if_accepted}
use Rattle.answers.proofs.laws.Tests.{left_new, left_old}
use Rattle.network.specs.Lookups.{State}
use Rattle.layout.specs.Ciphers.{reads_of}
use Rattle.layout.specs.Stages.{lookups, set_bytes, nowhere}
use Rattle.calls.specs.Calls.{Mark, kept_mark, Held, holding, changed, Call, to_stop, one_lookup, fetch, step, advance, reply, handed, block_left, Served, serve, last_walk}
use Rattle.calls.specs.Calls.{table_part, judge_stop, judge_one, judge_fetch, answer, read_next, last_offset, place_read, passed_on}
use Rattle.calls.specs.PlainCount.{Args, stop_args, one_args, fetch_args, args_of, Counted, plain, plain_count, LentCall, Lent}
use Rattle.calls.specs.PlainCount.{block_for, block_due, offset_due, due_served, AlikeCall, Alike, Seen, seen}
use Rattle.calls.proofs.laws.Calls.{replied, stop_view, one_view, fetch_view, fetch_count, next_le}

-- ---- two answers with the same parts
pub served : {a b : Served} → a.reply ≡ b.reply → a.walk ≡ b.walk → a.offset ≡ b.offset → a.block ≡ b.block → a ≡ b
served p q o r = λ i. record { reply = p i; walk = q i; offset = o i; block = r i }

-- ---- walks whose states S are known at each count, and which keep the mark k, over a set and its tables; `end` is the block that they end with
pub record Known (k : Mark) (nr : ℕ) (tables : ℕ → List ℕ) (set : List ℕ) (S : ℕ → State) (end : List ℕ) : Type 0 where
  pub keeps : kept_mark k ≡ k
  pub counts : (n : ℕ) → (S n).count ≡ n
  pub steps : (n : ℕ) → n < lookups nr → step (reads_of k.cipher) nr (tables n) (S n) ≡ S (suc n)
  pub ends : (S (lookups nr)).standing ≡ end
  pub parts : (n : ℕ) → n < lookups nr → table_part nr set n ≡ tables n
  pub long : length set ≡ set_bytes nr

module _ {k : Mark} {nr : ℕ} {tables : ℕ → List ℕ} {set : List ℕ} {S : ℕ → State} {end : List ℕ} (K : Known k nr tables set S end) where
  abbrev W : ℕ → Held
  W n = holding k (S n)

  abbrev reads : ℕ → ℕ
  reads = reads_of k.cipher

  advance_is : (n j : ℕ) → j + n ≤ lookups nr → advance reads nr set n (S j) ≡ S (j + n)
  unfolding advance
  advance_is zero j h = ap S (let e : j ≡ j + 0 = omega arith in e)
  advance_is (suc n) j h =
      ap (λ (c : ℕ). advance reads nr set n (step reads nr (table_part nr set c) (S j))) (K.counts j)
      ∙ ap (λ (t : List ℕ). advance reads nr set n (step reads nr t (S j))) (K.parts j (omega arith))
      ∙ ap (advance reads nr set n) (K.steps j (omega arith))
      ∙ advance_is n (suc j) (omega arith)
      ∙ ap S (let e : suc j + n ≡ j + suc n = omega arith in e)

  reply_is : (c : Call) (n : ℕ) → n ≤ lookups nr → reply nr c (W n) ≡ (plain nr (args_of c) n).reply
  unfolding answer
  reply_is (to_stop mem stop) n h =
      ap (λ (m : ℕ). reply_of (judge_stop nr (length mem) stop m)) (K.counts n)
      ∙ ⊎_elim (λ o. replied o.call o.counted) (λ t. replied t.call t.counted) (stop_view nr (length mem) stop n)
  reply_is (one_lookup mem) n h =
      ap (λ (m : ℕ). reply_of (judge_one nr (length mem) m)) (K.counts n)
      ∙ ⊎_elim (λ o. replied o.call o.counted) (λ t. replied t.call t.counted) (one_view nr (length mem) n h)
  reply_is (fetch block) n h =
      ap (λ (m : ℕ). reply_of (judge_fetch nr (length block) m)) (K.counts n)
      ∙ ⊎_elim (λ o. replied o.call o.counted) (λ t. replied t.call t.counted) (fetch_view nr (length block) n)

  pub block_is : (c : Call) (n : ℕ) → block_left nr c (W n) ≡ block_due nr W end c n
  unfolding block_left
  block_is (to_stop mem stop) n = refl
  block_is (one_lookup mem) n = refl
  block_is (fetch block) n =
      ap (λ (m : ℕ). if_accepted (judge_fetch nr (length block) m) (S n).standing block) (K.counts n)
      ∙ ⊎_elim
      (λ o.
      sym (left_new _ (S n).standing block o.call) ∙ ap (λ (m : ℕ). (S m).standing) o.ended ∙ K.ends
      ∙ ap (λ (p : Counted). block_for nr W end p.reply block) (sym o.counted))
      (λ t. sym (left_old _ _ (S n).standing block t.call) ∙ ap (λ (p : Counted). block_for nr W end p.reply block) (sym t.counted))
      (fetch_view nr (length block) n)

  handed_is : (c : Call) (n : ℕ) → n ≤ lookups nr → LentCall nr tables set c n → handed nr c (W n) ≡ W (plain nr (args_of c) n).count
  unfolding handed
  handed_is (to_stop mem stop) n h lent =
      ap (λ (m : ℕ). if_accepted (judge_stop nr (length mem) stop m) (changed (advance reads nr mem (stop - m)) (W n)) (W n)) (K.counts n)
      ∙ ⊎_elim
      (λ o.
      sym (left_new _ (changed (advance reads nr mem (stop - n)) (W n)) (W n) o.call)
      ∙ ap (λ (m : List ℕ). changed (advance reads nr m (stop - n)) (W n)) (⊎_elim (λ e. e) (λ ne. absurd (ne o.long)) lent)
      ∙ ap₂ holding K.keeps (advance_is (stop - n) n (let a : stop ≤ lookups nr = o.most in let b : n ≤ stop = o.least in omega arith))
      ∙ ap W (let b : n ≤ stop = o.least in let e : n + (stop - n) ≡ stop = omega arith in e)
      ∙ ap (λ (p : Counted). W p.count) (sym o.counted))
      (λ t. sym (left_old _ _ (changed (advance reads nr mem (stop - n)) (W n)) (W n) t.call) ∙ ap (λ (p : Counted). W p.count) (sym t.counted))
      (stop_view nr (length mem) stop n)
  handed_is (one_lookup mem) n h lent =
      ap (λ (m : ℕ). if_accepted (judge_one nr (length mem) m) (changed (step reads nr mem) (W n)) (W n)) (K.counts n)
      ∙ ⊎_elim
      (λ o.
      sym (left_new _ (changed (step reads nr mem) (W n)) (W n) o.call)
      ∙ ap (λ (m : List ℕ). changed (step reads nr m) (W n))
      (⊎_elim (λ e. absurd (let b : n < lookups nr = o.inside in omega arith)) (λ x. ⊎_elim (λ e. e) (λ ne. absurd (ne o.long)) x) lent)
      ∙ ap₂ holding K.keeps (K.steps n o.inside)
      ∙ ap (λ (p : Counted). W p.count) (sym o.counted))
      (λ t. sym (left_old _ _ (changed (step reads nr mem) (W n)) (W n) t.call) ∙ ap (λ (p : Counted). W p.count) (sym t.counted))
      (one_view nr (length mem) n h)
  handed_is (fetch block) n h lent = ap W (sym (fetch_count nr (length block) n))

  -- ---- the offset passed on: behind no lookup, and behind lookup m as the last
  none_due : (n : ℕ) → nowhere nr ≡ offset_due nr W end n n
  none_due n = rw (le-ltb n n (omega arith))

  last_due : (n m : ℕ) → n ≤ m → (place_read nr (W m)).offset ≡ offset_due nr W end n (suc m)
  last_due n m h = rw (lt-ltb n (suc m) (omega arith)) (ap (λ (x : ℕ). (place_read nr (W x)).offset) (let e : m ≡ suc m - 1 = omega arith in e))

  last_offset_lem : (n d : ℕ) → n + d ≤ lookups nr → last_offset reads nr set d (S n) ≡ offset_due nr W end n (n + d)
  unfolding last_offset
  last_offset_lem n zero h = none_due n ∙ ap (offset_due nr W end n) (let e : n ≡ n + 0 = omega arith in e)
  last_offset_lem n (suc d) h =
      ap (λ (s : State). (read_next reads nr s).offset) (advance_is d n (omega arith))
      ∙ last_due n (n + d) (omega arith)
      ∙ ap (offset_due nr W end n) (let e : suc (n + d) ≡ n + suc d = omega arith in e)

  offset_is : (c : Call) (n : ℕ) → n ≤ lookups nr → LentCall nr tables set c n → passed_on nr c (W n) ≡ offset_due nr W end n (plain nr (args_of c) n).count
  unfolding passed_on
  offset_is (to_stop mem stop) n h lent =
      ap (λ (m : ℕ). if_accepted (judge_stop nr (length mem) stop m) (last_offset reads nr mem (stop - m) (S n)) (nowhere nr)) (K.counts n)
      ∙ ⊎_elim
      (λ o.
      sym (left_new _ (last_offset reads nr mem (stop - n) (S n)) (nowhere nr) o.call)
      ∙ ap (λ (m : List ℕ). last_offset reads nr m (stop - n) (S n)) (⊎_elim (λ e. e) (λ ne. absurd (ne o.long)) lent)
      ∙ last_offset_lem n (stop - n) (let a : stop ≤ lookups nr = o.most in let b : n ≤ stop = o.least in omega arith)
      ∙ ap (offset_due nr W end n) (let b : n ≤ stop = o.least in let e : n + (stop - n) ≡ stop = omega arith in e)
      ∙ ap (λ (p : Counted). offset_due nr W end n p.count) (sym o.counted))
      (λ t.
      sym (left_old _ _ (last_offset reads nr mem (stop - n) (S n)) (nowhere nr) t.call)
      ∙ none_due n ∙ ap (λ (p : Counted). offset_due nr W end n p.count) (sym t.counted))
      (stop_view nr (length mem) stop n)
  offset_is (one_lookup mem) n h lent =
      ap (λ (m : ℕ). if_accepted (judge_one nr (length mem) m) (place_read nr (W n)).offset (nowhere nr)) (K.counts n)
      ∙ ⊎_elim
      (λ o.
      sym (left_new _ (place_read nr (W n)).offset (nowhere nr) o.call)
      ∙ last_due n n (omega arith) ∙ ap (λ (p : Counted). offset_due nr W end n p.count) (sym o.counted))
      (λ t.
      sym (left_old _ _ (place_read nr (W n)).offset (nowhere nr) t.call)
      ∙ none_due n ∙ ap (λ (p : Counted). offset_due nr W end n p.count) (sym t.counted))
      (one_view nr (length mem) n h)
  offset_is (fetch block) n h lent = none_due n ∙ ap (offset_due nr W end n) (sym (fetch_count nr (length block) n))

  pub serve_is : (cs : List Call) (n : ℕ) → n ≤ lookups nr → Lent nr tables set n cs → serve nr (W n) cs ≡ due_served nr W end n cs
  unfolding serve due_served
  serve_is [] n h lent = refl
  serve_is (c ∷ cs) n h lent =
      ap₂ (λ (x : Served) (xs : List Served). x ∷ xs)
      (served (reply_is c n h) (handed_is c n h lent.0) (offset_is c n h lent.0) (block_is c n))
      (ap (λ (w : Held). serve nr w cs) (handed_is c n h lent.0) ∙ serve_is cs (plain nr (args_of c) n).count (next_le nr (args_of c) n h) lent.1)

  pub last_is : (cs : List Call) (n : ℕ) → n ≤ lookups nr → Lent nr tables set n cs → last_walk nr (W n) cs ≡ W (plain_count nr n (map args_of cs))
  unfolding last_walk plain_count
  last_is [] n h lent = refl
  last_is (c ∷ cs) n h lent =
      ap (λ (w : Held). last_walk nr w cs) (handed_is c n h lent.0)
      ∙ last_is cs (plain nr (args_of c) n).count (next_le nr (args_of c) n h) lent.1

  -- One move from the start, straight to a count.
  straight_plain : (n : ℕ) → n ≤ lookups nr → plain nr (stop_args (length set) n) 0 ≡ record { reply = accepted; count = n }
  unfolding plain
  straight_plain n h = rw (eq-eqb (length set) (set_bytes nr) K.long, le-ltb (lookups nr) n h, le-ltb n 0 (omega arith))

  pub straight_reply : (n : ℕ) → n ≤ lookups nr → reply nr (to_stop set n) (W 0) ≡ accepted
  straight_reply n h = reply_is (to_stop set n) 0 (omega arith) ∙ ap (λ (p : Counted). p.reply) (straight_plain n h)

  pub straight : (n : ℕ) → n ≤ lookups nr → handed nr (to_stop set n) (W 0) ≡ W n
  straight n h = handed_is (to_stop set n) 0 (omega arith) (inl refl) ∙ ap (λ (p : Counted). W p.count) (straight_plain n h)

-- ---- two lists of calls that are alike
alike_args : (c c' : Call) → AlikeCall c c' → args_of c ≡ args_of c'
alike_args (to_stop mem stop) (to_stop mem' stop') e = ap₂ stop_args e.0 e.1
alike_args (to_stop mem stop) (one_lookup mem') e = absurd e
alike_args (to_stop mem stop) (fetch block') e = absurd e
alike_args (one_lookup mem) (to_stop mem' stop') e = absurd e
alike_args (one_lookup mem) (one_lookup mem') e = ap one_args e
alike_args (one_lookup mem) (fetch block') e = absurd e
alike_args (fetch block) (to_stop mem' stop') e = absurd e
alike_args (fetch block) (one_lookup mem') e = absurd e
alike_args (fetch block) (fetch block') e = ap (λ (b : List ℕ). fetch_args (length b)) e

module _ (nr : ℕ) (W W' : ℕ → Held) (end end' : List ℕ) (counts : (n : ℕ) → (W n).state.count ≡ n) (counts' : (n : ℕ) → (W' n).state.count ≡ n)
    (same : end ≡ end') where
  alike_block : (c c' : Call) (n : ℕ) → AlikeCall c c' → block_due nr W end c n ≡ block_due nr W' end' c' n
  alike_block (to_stop mem stop) (to_stop mem' stop') n e = refl
  alike_block (to_stop mem stop) (one_lookup mem') n e = refl
  alike_block (to_stop mem stop) (fetch block') n e = absurd e
  alike_block (one_lookup mem) (to_stop mem' stop') n e = refl
  alike_block (one_lookup mem) (one_lookup mem') n e = refl
  alike_block (one_lookup mem) (fetch block') n e = absurd e
  alike_block (fetch block) (to_stop mem' stop') n e = absurd e
  alike_block (fetch block) (one_lookup mem') n e = absurd e
  alike_block (fetch block) (fetch block') n e =
      ap (λ (a : List ℕ). block_for nr W a (plain nr (fetch_args (length block)) n).reply block) same
      ∙ ap (λ (b : List ℕ). block_for nr W end' (plain nr (fetch_args (length b)) n).reply b) e
      ∙ either (plain nr (fetch_args (length block')) n).reply
    where
      either : (r : Reply) → block_for nr W end' r block' ≡ block_for nr W' end' r block'
      either accepted = refl
      either (refused c i) = refl

  seen_same : {a b : Seen} → a.reply ≡ b.reply → a.count ≡ b.count → a.block ≡ b.block → a ≡ b
  seen_same p q r = λ i. record { reply = p i; count = q i; block = r i }

  pub alike_seen : (cs cs' : List Call) (n : ℕ) → Alike cs cs' → map seen (due_served nr W end n cs) ≡ map seen (due_served nr W' end' n cs')
  unfolding due_served
  alike_seen [] [] n e = refl
  alike_seen [] (c ∷ cs) n e = absurd e
  alike_seen (c ∷ cs) [] n e = absurd e
  alike_seen (c ∷ cs) (c' ∷ cs') n e =
      let a = alike_args c c' e.0 in
      ap₂ (λ (x : Seen) (xs : List Seen). x ∷ xs)
      (seen_same (ap (λ (x : Args). (plain nr x n).reply) a)
      (counts (plain nr (args_of c) n).count ∙ ap (λ (x : Args). (plain nr x n).count) a ∙ sym (counts' (plain nr (args_of c') n).count))
      (alike_block c c' n e.0))
      (alike_seen cs cs' (plain nr (args_of c) n).count e.1
      ∙ ap (λ (x : Args). map seen (due_served nr W' end' (plain nr x n).count cs')) a)
