-- What stages of a list are.
use Rattle.std.proofs.Common.{◌≡◌, ℕ, zero, suc, ◌+◌, ◌<◌, refl, sym, ap, subst, ◌∙◌, Bool, true, false, ◌||◌, List, [], ◌∷◌, ◌++◌, map, length, arith}
use Rattle.std.specs.Prelude.{if◌then◌else◌}
use Rattle.std.specs.List.{flat_map, list_any}
use Rattle.std.proofs.lemmas.List.{append_assoc}
use Rattle.std.proofs.lemmas.Option.{same_Some}
use Rattle.std.proofs.lemmas.Bool.{false≢true, both_ways, false_from_ne_true, or_right}
use Rattle.wh_dag.specs.Shape.{has}
use Rattle.wh_strategy.specs.declared.expression.Expression.{Expression}
use Rattle.wh_strategy.specs.declared.expression.Expression.TheVariants.{Comp, Inst}
use Rattle.wh_strategy.specs.Expression.{At}
use Rattle.wh_strategy.specs.Rules.{IsCorrect}
use Rattle.wh_carry.specs.declared.stages.Job.{Job}
use Rattle.wh_carry.specs.declared.stages.Stage.{Stage}
use Rattle.wh_carry.specs.declared.stages.Stage.TheVariants as stage
use Rattle.wh_carry.specs.AnyOrder.{AreSideBySide, expressions_from}
use Rattle.wh_carry.specs.Waves.{comp_of, expressions_of, is_target_among, stages_after, stages_of, wave_of}
use Rattle.wh_carry.specs.Stages.{AreStages, ListsHaveOneStages, WavesAreSideBySide, place_behind}

-- ---- stage by stage

-- the first job of a wave that directly follows these jobs
abbrev IsLong : List Job → Job → Type 0
IsLong [] job = Unit {0}
IsLong (p ∷ ps) job = is_target_among job.from (p ∷ ps) ≡ true

-- each of these jobs joins those before it
abbrev Join : List Job → List Job → Type 0
Join earlier [] = Unit {0}
Join earlier (job ∷ later) = (is_target_among job.from earlier ≡ false) × Join (earlier ++ job ∷ []) later

-- these stages may follow these jobs, none where no wave stands directly before
abbrev AreNext : List Job → List Stage → Type 0
AreNext prev [] = Unit {0}
AreNext prev (stage.Inst v ∷ rest) = AreNext [] rest
AreNext prev (stage.Wave [] ∷ rest) = ⊥
AreNext prev (stage.Wave (job ∷ next) ∷ rest) = IsLong prev job × Join [] (job ∷ next) × AreNext (job ∷ next) rest

append_none : {A : Type 0} (xs : List A) → xs ++ [] ≡ xs
append_none [] = refl
append_none (x ∷ xs) = ap (λ z. x ∷ z) (append_none xs)

-- jobs that join a begun wave make it longer
joined_run : (begun : List Job) (jobs : List Job) (rest : List Expression) → Join begun jobs → stages_after begun (map comp_of jobs ++ rest) ≡ stages_after (begun ++ jobs) rest
unfolding stages_after
joined_run begun [] rest h = ap (λ js. stages_after js rest) (sym (append_none begun))
joined_run begun (job ∷ jobs) rest h =
    (λ i. if h.0 i then wave_of begun ++ stages_after (job ∷ []) (map comp_of jobs ++ rest) else stages_after (begun ++ job ∷ []) (map comp_of jobs ++ rest))
    ∙ joined_run (begun ++ job ∷ []) jobs rest h.1
    ∙ ap (λ js. stages_after js rest) (append_assoc begun (job ∷ []) jobs)

-- so such stages are those of their expressions
next_are_stages : (prev : List Job) (stages : List Stage) → AreNext prev stages → stages_after prev (flat_map expressions_of stages) ≡ wave_of prev ++ stages
unfolding stages_after
next_are_stages prev [] h = sym (append_none (wave_of prev))
next_are_stages prev (stage.Inst v ∷ rest) h = ap (λ ss. wave_of prev ++ stage.Inst v ∷ ss) (next_are_stages [] rest h)
next_are_stages prev (stage.Wave [] ∷ rest) h = absurd h
next_are_stages [] (stage.Wave (job ∷ next) ∷ rest) h =
    joined_run [] (job ∷ next) (flat_map expressions_of rest) h.1 ∙ next_are_stages (job ∷ next) rest h.2
next_are_stages (p ∷ ps) (stage.Wave (job ∷ next) ∷ rest) h =
    (λ i. if h.0 i then stage.Wave (p ∷ ps) ∷ stages_after (job ∷ []) (map comp_of next ++ flat_map expressions_of rest) else stages_after ((p ∷ ps) ++ job ∷ []) (map comp_of next ++ flat_map expressions_of rest))
    ∙ ap (λ ss. stage.Wave (p ∷ ps) ∷ ss) (joined_run (job ∷ []) next (flat_map expressions_of rest) h.1.1 ∙ next_are_stages (job ∷ next) rest h.2)

-- ---- the stages of a list

join_more : (earlier jobs : List Job) (job : Job) → Join earlier jobs → is_target_among job.from (earlier ++ jobs) ≡ false → Join earlier (jobs ++ job ∷ [])
join_more earlier [] job h n = (ap (is_target_among job.from) (sym (append_none earlier)) ∙ n, tt)
join_more earlier (first ∷ jobs) job h n = (h.0, join_more (earlier ++ first ∷ []) jobs job h.1 (ap (is_target_among job.from) (append_assoc earlier (first ∷ []) jobs) ∙ n))

-- the jobs of the wave that is begun, behind these
abbrev AreOpen : List Job → List Job → Type 0
AreOpen prev [] = prev ≡ []
AreOpen prev (job ∷ jobs) = IsLong prev job × Join [] (job ∷ jobs)

stages_are_next : (prev begun : List Job) (list : List Expression) → AreOpen prev begun → AreNext prev (stages_after begun list)
unfolding stages_after
stages_are_next prev [] [] h = tt
stages_are_next prev (job ∷ jobs) [] h = (h.0, h.1, tt)
stages_are_next prev [] (Inst v ∷ list) h = stages_are_next [] [] list refl
stages_are_next prev (job ∷ jobs) (Inst v ∷ list) h = (h.0, h.1, stages_are_next [] [] list refl)
stages_are_next prev begun (Comp v ys ∷ list) h =
    elim (is_target_among ys begun) as (λ t. is_target_among ys begun ≡ t
    → AreNext prev (if t then wave_of begun ++ stages_after (record { view = v; from = ys } ∷ []) list else stages_after (begun ++ record { view = v; from = ys } ∷ []) list)) [
      | true ↦ λ t. ends begun h t (λ job jobs. stages_are_next (job ∷ jobs) (record { view = v; from = ys } ∷ []) list)
      | false ↦ λ t. stages_are_next prev (begun ++ record { view = v; from = ys } ∷ []) list (joins begun h t)
    ] refl
  where
    ends : (begun : List Job) → AreOpen prev begun → is_target_among ys begun ≡ true → ((job : Job) (jobs : List Job) → AreOpen (job ∷ jobs) (record { view = v; from = ys } ∷ []) → AreNext (job ∷ jobs) (stages_after (record { view = v; from = ys } ∷ []) list))
        → AreNext prev (wave_of begun ++ stages_after (record { view = v; from = ys } ∷ []) list)
    ends [] h t next = absurd (false≢true t)
    ends (job ∷ jobs) h t next = (h.0, h.1, next job jobs (t, (refl, tt)))

    joins : (begun : List Job) → AreOpen prev begun → is_target_among ys begun ≡ false → AreOpen prev (begun ++ record { view = v; from = ys } ∷ [])
    joins [] h t = (subst (λ p. IsLong p (record { view = v; from = ys })) (sym h) tt, (refl, tt))
    joins (job ∷ jobs) h t = (h.0, join_more [] (job ∷ jobs) (record { view = v; from = ys }) h.1 t)

stages_joined : (begun : List Job) (list : List Expression) → flat_map expressions_of (stages_after begun list) ≡ map comp_of begun ++ list
unfolding stages_after
stages_joined begun [] = ap (flat_map expressions_of) (sym (append_none (wave_of begun))) ∙ of_wave begun []
  where
    of_wave : (begun : List Job) (rest : List Stage) → flat_map expressions_of (wave_of begun ++ rest) ≡ map comp_of begun ++ flat_map expressions_of rest
    of_wave [] rest = refl
    of_wave (job ∷ jobs) rest = refl
stages_joined begun (Inst v ∷ list) = of_wave begun (stage.Inst v ∷ stages_after [] list) ∙ ap (λ es. map comp_of begun ++ Inst v ∷ es) (stages_joined [] list)
  where
    of_wave : (begun : List Job) (rest : List Stage) → flat_map expressions_of (wave_of begun ++ rest) ≡ map comp_of begun ++ flat_map expressions_of rest
    of_wave [] rest = refl
    of_wave (job ∷ jobs) rest = refl
stages_joined begun (Comp v ys ∷ list) =
    elim (is_target_among ys begun) as (λ t.
    flat_map expressions_of (if t then wave_of begun ++ stages_after (record { view = v; from = ys } ∷ []) list else stages_after (begun ++ record { view = v; from = ys } ∷ []) list) ≡ map comp_of begun ++ Comp v ys ∷ list) [
      | true ↦ of_wave begun (stages_after (record { view = v; from = ys } ∷ []) list) ∙ ap (λ es. map comp_of begun ++ es) (stages_joined (record { view = v; from = ys } ∷ []) list)
      | false ↦ stages_joined (begun ++ record { view = v; from = ys } ∷ []) list ∙ one_more begun
    ]
  where
    of_wave : (begun : List Job) (rest : List Stage) → flat_map expressions_of (wave_of begun ++ rest) ≡ map comp_of begun ++ flat_map expressions_of rest
    of_wave [] rest = refl
    of_wave (job ∷ jobs) rest = refl

    one_more : (begun : List Job) → map comp_of (begun ++ record { view = v; from = ys } ∷ []) ++ list ≡ map comp_of begun ++ Comp v ys ∷ list
    one_more [] = refl
    one_more (job ∷ jobs) = ap (λ es. comp_of job ∷ es) (one_more jobs)

-- ---- from one form to the other

next_at : (prev : List Job) (before after : List Stage) → AreNext prev (before ++ after) → (prev : List Job) × AreNext prev after
next_at prev [] after h = (prev, h)
next_at prev (stage.Inst v ∷ before) after h = next_at [] before after h
next_at prev (stage.Wave [] ∷ before) after h = absurd h
next_at prev (stage.Wave (job ∷ jobs) ∷ before) after h = next_at (job ∷ jobs) before after h.2

join_at : (earlier first later : List Job) (job : Job) → Join earlier (first ++ job ∷ later) → is_target_among job.from (earlier ++ first) ≡ false
join_at earlier [] later job h = ap (is_target_among job.from) (append_none earlier) ∙ h.0
join_at earlier (x ∷ first) later job h = ap (is_target_among job.from) (sym (append_assoc earlier (x ∷ []) first)) ∙ join_at (earlier ++ x ∷ []) first later job h.1

wave_joins : (prev jobs : List Job) (after : List Stage) → AreNext prev (stage.Wave jobs ∷ after) → Join [] jobs
wave_joins prev [] after h = absurd h
wave_joins prev (job ∷ jobs) after h = h.1

wave_follows : (prev jobs next : List Job) (job : Job) (after : List Stage) → AreNext prev (stage.Wave jobs ∷ stage.Wave (job ∷ next) ∷ after) → is_target_among job.from jobs ≡ true
wave_follows prev [] next job after h = absurd h
wave_follows prev (first ∷ jobs) next job after h = h.2.0

told_by_next : (list : List Expression) (stages : List Stage) → flat_map expressions_of stages ≡ list → AreNext [] stages → AreStages list stages
told_by_next list stages joined h = record {
  joined = joined;
  filled = λ before after jobs e none. let n = next_at [] before (stage.Wave jobs ∷ after) (subst (AreNext []) e h) in subst (λ js. AreNext n.0 (stage.Wave js ∷ after)) none n.1;
  apart = λ before after earlier later job e. let n = next_at [] before (stage.Wave (earlier ++ job ∷ later) ∷ after) (subst (AreNext []) e h) in join_at [] earlier later job (wave_joins n.0 (earlier ++ job ∷ later) after n.1);
  long = λ before after jobs next job e. let n = next_at [] before (stage.Wave jobs ∷ stage.Wave (job ∷ next) ∷ after) (subst (AreNext []) e h) in wave_follows n.0 jobs next job after n.1;
}

-- no wave stands directly before the rest, or the one of these jobs does
data StandsBefore (prev : List Job) (before : List Stage) : Type 0 where
  none : prev ≡ [] → StandsBefore prev before
  wave : (first : List Stage) → before ≡ first ++ stage.Wave prev ∷ [] → StandsBefore prev before

module _ (list : List Expression) (stages : List Stage) (are : AreStages list stages) where
  jobs_join : (before after : List Stage) (earlier jobs : List Job) → stages ≡ before ++ stage.Wave (earlier ++ jobs) ∷ after → Join earlier jobs
  jobs_join before after earlier [] e = tt
  jobs_join before after earlier (job ∷ jobs) e = (
    are.apart before after earlier jobs job e,
    jobs_join before after (earlier ++ job ∷ []) jobs (e ∙ ap (λ js. before ++ stage.Wave js ∷ after) (sym (append_assoc earlier (job ∷ []) jobs))),
  )

  first_is_long : (prev : List Job) (before after : List Stage) (job : Job) (next : List Job) → StandsBefore prev before → stages ≡ before ++ stage.Wave (job ∷ next) ∷ after → IsLong prev job
  first_is_long [] before after job next stands e = tt
  first_is_long (p ∷ ps) before after job next (none n) e = absurd (not_none n)
    where
      not_none : p ∷ ps ≡ [] → ⊥
      not_none n = cc
  first_is_long (p ∷ ps) before after job next (wave first b) e =
      are.long first after (p ∷ ps) next job (e ∙ ap (λ ss. ss ++ stage.Wave (job ∷ next) ∷ after) b ∙ append_assoc first (stage.Wave (p ∷ ps) ∷ []) (stage.Wave (job ∷ next) ∷ after))

  are_next : (prev : List Job) (before rest : List Stage) → StandsBefore prev before → stages ≡ before ++ rest → AreNext prev rest
  are_next prev before [] stands e = tt
  are_next prev before (stage.Inst v ∷ rest) stands e = are_next [] (before ++ stage.Inst v ∷ []) rest (none refl) (e ∙ sym (append_assoc before (stage.Inst v ∷ []) rest))
  are_next prev before (stage.Wave [] ∷ rest) stands e = are.filled before rest [] e refl
  are_next prev before (stage.Wave (job ∷ next) ∷ rest) stands e = (
    first_is_long prev before rest job next stands e,
    jobs_join before rest [] (job ∷ next) e,
    are_next (job ∷ next) (before ++ stage.Wave (job ∷ next) ∷ []) rest (wave before refl) (e ∙ sym (append_assoc before (stage.Wave (job ∷ next) ∷ []) rest)),
  )

pub lists_have_one_stages : ListsHaveOneStages
lists_have_one_stages = λ list. (
  told_by_next list (stages_of list) (stages_joined [] list) (stages_are_next [] [] list refl),
  λ stages are. sym (next_are_stages [] stages (are_next list stages are [] [] stages (none refl) refl)) ∙ ap stages_of are.joined,
)

-- ---- jobs side by side

map_on : (xs ys : List Job) → map comp_of (xs ++ ys) ≡ map comp_of xs ++ map comp_of ys
map_on [] ys = refl
map_on (x ∷ xs) ys = ap (λ es. comp_of x ∷ es) (map_on xs ys)

length_on : {A : Type 0} (xs ys : List A) → length (xs ++ ys) ≡ length xs + length ys
length_on [] ys = omega arith
length_on (x ∷ xs) ys = let e = length_on xs ys in omega arith

length_jobs : (jobs : List Job) → length (map comp_of jobs) ≡ length jobs
length_jobs [] = refl
length_jobs (job ∷ jobs) = ap suc (length_jobs jobs)

at_middle : (xs : List Expression) (e : Expression) (ys : List Expression) → At (xs ++ e ∷ ys) (length xs) e
at_middle [] e ys = refl
at_middle (x ∷ xs) e ys = at_middle xs e ys

flat_on : (xs ys : List Stage) → flat_map expressions_of (xs ++ ys) ≡ flat_map expressions_of xs ++ flat_map expressions_of ys
flat_on [] ys = refl
flat_on (x ∷ xs) ys = ap (λ es. expressions_of x ++ es) (flat_on xs ys) ∙ sym (append_assoc (expressions_of x) (flat_map expressions_of xs) (flat_map expressions_of ys))

taken_middle : (xs ys zs : List Expression) → expressions_from (xs ++ (ys ++ zs)) (length xs) (length ys) ≡ ys
taken_middle [] [] zs = refl
taken_middle [] (y ∷ ys) zs = ap (λ es. y ∷ es) (taken_middle [] ys zs)
taken_middle (x ∷ xs) ys zs = taken_middle xs ys zs

-- the job of this number, and the jobs before and behind it
record IsJob (jobs : List Job) (n : ℕ) : Type 0 where
  first : List Job
  job : Job
  behind : List Job
  split : jobs ≡ first ++ job ∷ behind
  number : length first ≡ n

the_job : (jobs : List Job) (n : ℕ) → n < length jobs → IsJob jobs n
the_job [] n l = absurd (omega arith)
the_job (x ∷ jobs) zero l = record { first = []; job = x; behind = jobs; split = refl; number = refl }
the_job (x ∷ jobs) (suc n) l = let r = the_job jobs n (omega arith) in record { first = x ∷ r.first; job = r.job; behind = r.behind; split = ap (λ js. x ∷ js) r.split; number = ap suc r.number }

any_middle : (t : Job → Bool) (xs : List Job) (y : Job) (ys : List Job) → t y ≡ true → list_any t (xs ++ y ∷ ys) ≡ true
any_middle t [] y ys h = ap (λ b. b || list_any t ys) h
any_middle t (x ∷ xs) y ys h = or_right (t x) (list_any t (xs ++ y ∷ ys)) (any_middle t xs y ys h)

at_job : (xs : List Expression) (jobs : List Job) (n : ℕ) (zs : List Expression) → (r : IsJob jobs n) → At (xs ++ (map comp_of jobs ++ zs)) (length xs + n) (comp_of r.job)
at_job xs jobs n zs r =
    let es : List Expression = xs ++ map comp_of r.first in
    let rest : List Expression = map comp_of r.behind ++ zs in
    let whole : xs ++ (map comp_of jobs ++ zs) ≡ es ++ comp_of r.job ∷ rest =
    ap (λ js. xs ++ (map comp_of js ++ zs)) r.split
    ∙ ap (λ ms. xs ++ (ms ++ zs)) (map_on r.first (r.job ∷ r.behind))
    ∙ ap (λ ms. xs ++ ms) (append_assoc (map comp_of r.first) (comp_of r.job ∷ map comp_of r.behind) zs)
    ∙ sym (append_assoc xs (map comp_of r.first) (comp_of r.job ∷ rest)) in
    let place : length es ≡ length xs + n = length_on xs (map comp_of r.first) ∙ ap (λ m. length xs + m) (length_jobs r.first ∙ r.number) in
    subst (λ l. At l (length xs + n) (comp_of r.job)) (sym whole) (subst (λ p. At (es ++ comp_of r.job ∷ rest) p (comp_of r.job)) place (at_middle es (comp_of r.job) rest))

pub waves_are_side_by_side : WavesAreSideBySide
waves_are_side_by_side = λ shape list ok before after jobs e. of_wave shape list ok before after jobs e
  where
    of_wave : (shape : List (List ℕ)) (list : List Expression) → IsCorrect shape list → (before after : List Stage) (jobs : List Job) → stages_of list ≡ before ++ stage.Wave jobs ∷ after
        → (expressions_from list (place_behind before) (length jobs) ≡ map comp_of jobs) × AreSideBySide list (place_behind before) (length jobs)
    of_wave shape list ok before after jobs e =
        let are = (lists_have_one_stages list).0 in
        let xs : List Expression = flat_map expressions_of before in
        let zs : List Expression = flat_map expressions_of after in
        let whole : list ≡ xs ++ (map comp_of jobs ++ zs) = sym are.joined ∙ ap (flat_map expressions_of) e ∙ flat_on before (stage.Wave jobs ∷ after) in
        let there : (n : ℕ) (r : IsJob jobs n) → At list (length xs + n) (comp_of r.job) = λ n r. subst (λ l. At l (length xs + n) (comp_of r.job)) (sym whole) (at_job xs jobs n zs r) in (
          ap (λ l. expressions_from l (length xs) (length jobs)) whole ∙ ap (λ n. expressions_from (xs ++ (map comp_of jobs ++ zs)) (length xs) n) (sym (length_jobs jobs)) ∙ taken_middle xs (map comp_of jobs) zs,
          record {
            comps = λ j l. let r = the_job jobs j l in (r.job.view, r.job.from, there j r);
            apart = λ j k v w ys zs' lj lk at to. false_from_ne_true (has ys w) (λ m.
                let s6 : length xs + k < length xs + j = ok.changes_first (length xs + k) (length xs + j) w v zs' ys to at m in
                let r = the_job jobs j lj in
                let q = the_job r.first k (let n = r.number in omega arith) in
                let whole_k : IsJob jobs k = record { first = q.first; job = q.job; behind = q.behind ++ r.job ∷ r.behind; split = r.split ∙ ap (λ js. js ++ r.job ∷ r.behind) q.split ∙ append_assoc q.first (q.job ∷ q.behind) (r.job ∷ r.behind); number = q.number } in
                let mine = same_Some (Comp v ys) (comp_of r.job) (sym at ∙ there j r) in
                let other = same_Some (Comp w zs') (comp_of q.job) (sym to ∙ there k whole_k) in
                let from : r.job.from ≡ ys = sources_same v ys r.job mine in
                let target : q.job.view ≡ w = target_same w zs' q.job other in
                both_ways (is_target_among r.job.from r.first)
                (are.apart before after r.first r.behind r.job (e ∙ ap (λ js. before ++ stage.Wave js ∷ after) r.split))
                (ap (is_target_among r.job.from) q.split ∙ any_middle (λ (job : Job). has r.job.from job.view) q.first q.job q.behind ((λ i. has (from i) (target i)) ∙ m)));
          },
        )
      where
        sources_same : (v : ℕ) (ys : List ℕ) (job : Job) → Comp v ys ≡ comp_of job → job.from ≡ ys
        sources_same v ys job e = cc

        target_same : (w : ℕ) (zs : List ℕ) (job : Job) → Comp w zs ≡ comp_of job → job.view ≡ w
        target_same w zs job e = cc
