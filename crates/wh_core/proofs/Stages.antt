-- The stages of a strategy, joined, are its list.
use Rattle.std.proofs.Common.{◌≡◌, refl, sym, ap, ◌∙◌, ℕ, List, [], ◌∷◌, ◌++◌, map, true, false, cond}
use Rattle.std.specs.List.{flat_map}
use Rattle.std.proofs.lemmas.List.{append-nil, append_assoc}
use Rattle.wh_strategy.specs.declared.expression.Expression.{Expression}
use Rattle.wh_strategy.specs.declared.expression.Expression.TheVariants.{Comp, Inst}
use Rattle.wh_carry.specs.declared.stages.Job.{Job}
use Rattle.wh_carry.specs.declared.stages.Stage.{Stage}
use Rattle.wh_carry.specs.declared.stages.Stage.TheVariants as stage
use Rattle.wh_carry.specs.Waves.{comp_of, expressions_of, is_target_among, stages_after, wave_of}

joined-append : (a b : List Stage) → flat_map expressions_of (a ++ b) ≡ flat_map expressions_of a ++ flat_map expressions_of b
joined-append [] b = refl
joined-append (x ∷ a) b = ap (λ l. expressions_of x ++ l) (joined-append a b) ∙ sym (append_assoc (expressions_of x) (flat_map expressions_of a) (flat_map expressions_of b))

joined-wave : (jobs : List Job) → flat_map expressions_of (wave_of jobs) ≡ map comp_of jobs
joined-wave [] = refl
joined-wave (j ∷ jobs) = append-nil (map comp_of (j ∷ jobs))

map-append : (a b : List Job) → map comp_of (a ++ b) ≡ map comp_of a ++ map comp_of b
map-append [] b = refl
map-append (x ∷ a) b = ap (λ l. comp_of x ∷ l) (map-append a b)

pub stages_join : (jobs : List Job) (list : List Expression) → flat_map expressions_of (stages_after jobs list) ≡ map comp_of jobs ++ list
unfolding stages_after
stages_join jobs [] = joined-wave jobs ∙ sym (append-nil (map comp_of jobs))
stages_join jobs (Inst v ∷ list) =
    joined-append (wave_of jobs) (stage.Inst v ∷ stages_after [] list) ∙ (λ i. joined-wave jobs i ++ Inst v ∷ stages_join [] list i)
stages_join jobs (Comp v ys ∷ list) =
    let next : Job = record { view = v; from = ys } in
    elim (is_target_among ys jobs) as (λ b. flat_map expressions_of (cond b (wave_of jobs ++ stages_after (next ∷ []) list) (stages_after (jobs ++ next ∷ []) list)) ≡ map comp_of jobs ++ Comp v ys ∷ list) [
      | true ↦ joined-append (wave_of jobs) (stages_after (next ∷ []) list) ∙ (λ i. joined-wave jobs i ++ stages_join (next ∷ []) list i)
      | false ↦ stages_join (jobs ++ next ∷ []) list ∙ ap (λ l. l ++ list) (map-append jobs (next ∷ [])) ∙ append_assoc (map comp_of jobs) (Comp v ys ∷ []) list
    ]
