-- Laws, not definitions: the statements of specs/Told.antt, on what the replay for C leaves behind the pointer.
-- Assumes nothing.
use mathlib.Core.List.{List}
use mathlib.Core.Path.{◌≡◌, refl, sym, ap, ◌∙◌}
use Prim.Native.Nat.{ℕ, ◌<◌}
use native.Mathlib.Omega.{arith}
use lib.ListN.{length}
use Rattle.answers.proofs.laws.Tests.{differ}
use Rattle.rounds.specs.Rounds.{Rounds}
use Rattle.layout.specs.Stages.{lookups}
use Rattle.layout.proofs.laws.Ranges.{by_stage}
use Rattle.records.specs.Replay.{judge_record, verdict_answer, replayed}
use Rattle.records.specs.Theorems.{Exact}
use Rattle.records.proofs.laws.Proved.{records_and_replays}
use Rattle.told.proofs.laws.Pointers.{kept}
use Rattle.told.specs.Told.{none, differs_left, TellsExactly, RefusedKeeps}
use Rattle.answers.specs.Answer.{Accepted}
use Rattle.records.specs.Replay.{Verdict}
use Rattle.std.specs.Prelude.{Ok, Err, Some, None}

-- A lookup's number is not the one that tells of none.
below_none : (nr k : ℕ) → Rounds nr → k < lookups nr → k ≡ none → ⊥
below_none nr k R h e = omega (arith, (by_stage nr).all_lookups)

module _ (c nr : ℕ) (set block rec : List ℕ) (old : ℕ) (R : Rounds nr) (ok : judge_record nr (length set) (length block) (length rec) ≡ Accepted) where
  exact : Exact c nr set block rec
  exact = records_and_replays.exact c nr set block rec ok

  -- By the verdict v, which is no refusal.
  own_told : (v : Verdict) → replayed c nr set block rec ≡ v → differs_left v old ≡ none → v ≡ Ok None
  own_told (Ok None) e f = refl
  own_told (Ok (Some k)) e f = absurd (below_none nr k R (exact.first_only k e).below f)
  own_told (Err r) e f = differ (sym ok ∙ sym (records_and_replays.answers c nr set block rec) ∙ ap verdict_answer e)

  lookup_told : (v : Verdict) → replayed c nr set block rec ≡ v → (differs_left v old ≡ none → ⊥) → v ≡ Ok (Some (differs_left v old))
  lookup_told (Ok None) e f = absurd (f refl)
  lookup_told (Ok (Some k)) e f = refl
  lookup_told (Err r) e f = differ (sym ok ∙ sym (records_and_replays.answers c nr set block rec) ∙ ap verdict_answer e)

pub tells_exactly : TellsExactly
tells_exactly c nr set block rec old R ok = record {
  own_only = λ e. (exact c nr set block rec old R ok).own_only (own_told c nr set block rec old R ok (replayed c nr set block rec) refl e);
  own_if = λ e. ap (λ (v : Verdict). differs_left v old) ((exact c nr set block rec old R ok).own_if e);
  first_only = λ e. (exact c nr set block rec old R ok).first_only _ (lookup_told c nr set block rec old R ok (replayed c nr set block rec) refl e);
  first_if = λ k B. ap (λ (v : Verdict). differs_left v old) ((exact c nr set block rec old R ok).first_if k B);
}

pub refused_keeps : RefusedKeeps
refused_keeps c nr set block rec old f =
    kept (replayed c nr set block rec) old (λ e. f (sym (records_and_replays.answers c nr set block rec) ∙ e))
