-- The stages of a list, expression by expression.
use Rattle.std.proofs.Common.{◌≡◌, ℕ, zero, suc, ◌≤◌, refl, sym, ap, ◌∙◌, true, false, List, [], ◌∷◌, ◌++◌, drop, length, arith}
use Rattle.std.proofs.lemmas.List.{append_assoc}
use Rattle.wh_strategy.specs.declared.expression.Expression.{Expression}
use Rattle.wh_strategy.specs.declared.expression.Expression.TheVariants.{Comp, Inst}
use Rattle.wh_carry.specs.declared.stages.Job.{Job}
use Rattle.wh_carry.specs.declared.stages.Stage.{Stage}
use Rattle.wh_carry.specs.declared.stages.Stage.TheVariants as stage
use Rattle.wh_carry.specs.Waves.{is_target_among, stages_after, wave_of}
use Rattle.std.specs.Prelude.{if◌then◌else◌}

pub inst_next : (old : List Stage) (jobs : List Job) (v : ℕ) (rest : List Expression) → ((old ++ wave_of jobs) ++ stage.Inst v ∷ []) ++ stages_after [] rest ≡ old ++ stages_after jobs (Inst v ∷ rest)
unfolding stages_after
inst_next old jobs v rest = append_assoc (old ++ wave_of jobs) (stage.Inst v ∷ []) (stages_after [] rest) ∙ append_assoc old (wave_of jobs) (stage.Inst v ∷ stages_after [] rest)

-- a Comp that ends the open wave, and one that joins it
pub comp_after : (old : List Stage) (jobs : List Job) (v : ℕ) (ys : List ℕ) (rest : List Expression) → is_target_among ys jobs ≡ true
    → (old ++ wave_of jobs) ++ stages_after (record { view = v; from = ys } ∷ []) rest ≡ old ++ stages_after jobs (Comp v ys ∷ rest)
unfolding stages_after
comp_after old jobs v ys rest t = append_assoc old (wave_of jobs) (stages_after (record { view = v; from = ys } ∷ []) rest)
    ∙ (λ i. old ++ (if sym t i then wave_of jobs ++ stages_after (record { view = v; from = ys } ∷ []) rest else stages_after (jobs ++ record { view = v; from = ys } ∷ []) rest))

pub comp_within : (old : List Stage) (jobs : List Job) (v : ℕ) (ys : List ℕ) (rest : List Expression) → is_target_among ys jobs ≡ false
    → old ++ stages_after (jobs ++ record { view = v; from = ys } ∷ []) rest ≡ old ++ stages_after jobs (Comp v ys ∷ rest)
unfolding stages_after
comp_within old jobs v ys rest t =
    λ i. old ++ (if sym t i then wave_of jobs ++ stages_after (record { view = v; from = ys } ∷ []) rest else stages_after (jobs ++ record { view = v; from = ys } ∷ []) rest)

-- at the end of the list the open wave ends
pub all_taken : (old : List Stage) (jobs : List Job) (n : ℕ) (list : List Expression) → length list ≤ n → old ++ stages_after jobs (drop n list) ≡ old ++ wave_of jobs
unfolding stages_after
all_taken old jobs n list l = ap (λ rest. old ++ stages_after jobs rest) (none_left n list l)
  where
    none_left : (n : ℕ) (list : List Expression) → length list ≤ n → drop n list ≡ []
    none_left zero [] l = refl
    none_left zero (e ∷ list) l = absurd (omega arith)
    none_left (suc n) [] l = refl
    none_left (suc n) (e ∷ list) l = none_left n list (omega arith)
