-- Laws, not definitions: the statements of specs/Joined.antt. Each table is the set's part at its offset; the tables by the rule are the network's; and a move to
-- the count plus one is one lookup over the part at the count's table (`one_is_next` of crate calls).
-- Assumes nothing.
use mathlib.Core.List.{List}
use mathlib.Core.Path.{refl, sym, subst}
use Prim.Native.Nat.{ℕ, ◌<◌}
use Rattle.round.specs.Key.{KeyExpansion, rounds_of}
use Rattle.layout.proofs.laws.Ciphers.{reads_lt}
use Rattle.layout.proofs.laws.Ranges.{by_stage}
use Rattle.calls.specs.Next.{NextMove}
use Rattle.calls.proofs.laws.Next.{one_is_next}
use Rattle.whitebox.specs.Bundles.{codings_of, parts_of, made_set, made_table}
use Rattle.whitebox.specs.Joined.{TableInSet, MadeTableInSet, table_by_rule, TableByRule, MadeTableByRule, MadeOneIsNext, JoinedFor, Joined}
use Rattle.whitebox.specs.Tables.{layer_of, layers, table_of}
use Rattle.whitebox.proofs.laws.Ciphers.{parts_read}
use Rattle.whitebox.proofs.laws.Set.{table_length, set_length, set_part}
use Rattle.whitebox.proofs.laws.Values.{layers_read}

-- ---- the tables in the set
pub table_in_set : TableInSet
table_in_set P C nr = record { long = set_length P C nr; sized = λ k h. table_length P C nr k; part = set_part P C nr }

pub made_in_set : (nk : ℕ) → MadeTableInSet nk
unfolding made_set made_table
made_in_set nk c key l = table_in_set (parts_of c nk key) (codings_of (rounds_of nk) l) (rounds_of nk)

-- ---- the tables by the rule
pub table_by_rule_lem : TableByRule
unfolding table_of table_by_rule layers
table_by_rule_lem P reads C nr k h =
    (by_stage nr).table_by_rule_lem C.encoding (layer_of P C nr) (λ s. refl) (unfold layers in layers_read P C reads nr) k h

pub made_by_rule : (nk : ℕ) → MadeTableByRule nk
unfolding made_table
made_by_rule nk c key l = table_by_rule_lem (parts_of c nk key) reads (codings_of (rounds_of nk) l) (rounds_of nk)
  where
    reads : (p : ℕ) → p < 16 → (parts_of c nk key).reads p < 16
    reads = subst (λ (f : ℕ → ℕ). (p : ℕ) → p < 16 → f p < 16) (sym (parts_read (rounds_of nk) (KeyExpansion nk key) c)) (reads_lt c)

-- ---- one lookup over a made table
pub made_one_is_next : (nk : ℕ) → MadeOneIsNext nk
made_one_is_next nk c key l w left =
    let S = made_in_set nk c key l in
    subst (λ (t : List ℕ). NextMove (rounds_of nk) (made_set c nk key l) t w) (S.part w.state.count left)
    (one_is_next (rounds_of nk) (made_set c nk key l) S.long w left)

-- ---- all of them
pub joined_for : (nk : ℕ) → JoinedFor nk
joined_for nk = record { in_set = made_in_set nk; by_rule = made_by_rule nk; one_is_next = made_one_is_next nk }

pub joined : Joined
joined = record { table_in_set = table_in_set; table_by_rule_lem = table_by_rule_lem; made = joined_for 4 }
