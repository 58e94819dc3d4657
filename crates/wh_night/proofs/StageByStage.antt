-- A stage of a night: what it carries out and publishes, or why it is refused.
use Rattle.std.proofs.Common.{◌≡◌, refl, sym, ap, subst, ◌∙◌, ℕ, ◌+◌, eqb, List, [], ◌∷◌, ◌++◌, map, length, Option, Some, None, ◌⊎◌, inl, inr, ⊎_elim, arith}
use Rattle.std.proofs.lemmas.Bool.{cases_Bool}
use Rattle.std.proofs.lemmas.List.{append-nil, append_assoc, length-map}
use Rattle.wh_dag.specs.Catalog.{CatalogOf}
use Rattle.wh_strategy.specs.declared.expression.Expression.{Expression}
use Rattle.wh_strategy.specs.declared.expression.Expression.TheVariants.{Inst}
use Rattle.wh_strategy.specs.Expression.{At}
use Rattle.wh_row.specs.Bag.{Bag}
use Rattle.wh_maint.specs.declared.fault.MaintFault.{MaintFault}
use Rattle.wh_maint.specs.declared.fault.MaintFault.TheVariants.{Memory}
use Rattle.wh_maint.specs.Comp.{bag_at}
use Rattle.wh_maint.specs.Definition.{graph_of}
use Rattle.wh_maint.specs.Finishing.{kind_in}
use Rattle.wh_maint.specs.Refused.{IsInstallFault}
use Rattle.wh_store.specs.Operations.{Writes}
use Rattle.wh_store.specs.Ledgers.{Ledger, with_held}
use Rattle.wh_carry.specs.declared.stages.Job.{Job}
use Rattle.wh_carry.specs.declared.stages.Stage.{Stage}
use Rattle.wh_carry.specs.declared.stages.Stage.TheVariants as stage
use Rattle.wh_carry.specs.Carry.{State}
use Rattle.wh_carry.specs.Kept.{Kept, finished, installed}
use Rattle.wh_carry.specs.Inner.Kept.{rows_in}
use Rattle.wh_carry.specs.NightList.{new_counts, pages_of, puts_at}
use Rattle.wh_carry.specs.Refused.{ArePassedBelow, IsStepFault}
use Rattle.wh_carry.specs.Inner.Refused.{IsPassedIn, IsStepFaultIn}
use Rattle.wh_carry.specs.Inner.Steps.{AreFirstSteps}
use Rattle.wh_carry.specs.Waves.{comp_of, stages_of}
use Rattle.wh_carry.proofs.Agreeing.{inst_done}
use Rattle.wh_carry.proofs.Nights.{agrees_next, passed_next, rows_right, steps_next}
use Rattle.wh_carry.proofs.Reasons.{inst_reason}
use Rattle.wh_carry.proofs.Refusals.{same_fit, told_next, unfinished}
use Rattle.wh_carry.specs.Night.{Night, state_at}
use Rattle.wh_carry.specs.Stages.{place_behind}
use Rattle.wh_carry.specs.Inner.Standing.{IsWaveAt, StandsAt}
use Rattle.wh_carry.proofs.Parts.{fits_behind, inst_at, place_next, wave_at}
use Rattle.wh_night.specs.Refusals.{IsFirstStageFault, IsStageFault, IsWaveFault}
use Rattle.wh_night.specs.Tonight.{IsRefusedThere, goes_out, made_by, out_below}
use Rattle.wh_night.specs.Inner.Underway.{ArePartlyOut, Given, HasCome, IsAt, IsHalted, IsInstStopped, IsStopped, Reports, behind, is_cut, is_refused, night_given, puts_in}
use Rattle.wh_night.proofs.Outs.{behind_more, held_behind, out_more}
use Rattle.wh_night.proofs.Puts.{out_next, wave_out}

-- before the first expression
pub comes_first : (catalog : CatalogOf) (list : List Expression) (tables changes : ℕ → Bag) (keys : ℕ) (k : Kept) → StandsAt (record { catalog = catalog; list = list; tables = tables; changes = changes; keys = keys }) 0 k
    → HasCome (record { catalog = catalog; list = list; tables = tables; changes = changes; keys = keys }) 0 k []
comes_first catalog list tables changes keys k stands = record {
  stands = stands;
  passed = λ q e l at. absurd (omega arith);
  reported = record { each = refl; rows = λ q e l at. absurd (omega arith) };
}

module _ (n : Night) (l m : Option Ledger) (before after : List Stage) (k : Kept) (steps : List (Expression × ℕ)) (here : IsAt n l (place_behind before) k steps m) where
  abbrev p : ℕ
  p = place_behind before

  -- where it has come to it can stop
  stopped : (x : Stage) → stages_of n.list ≡ before ++ x ∷ after → (fault : MaintFault) → (fault ≡ Memory) ⊎ IsStageFault n p x fault → IsHalted n l fault m
  stopped x split fault f = subst (IsHalted n l fault) (sym here.out) (behind_it l)
    where
      behind_it : (o : Option Ledger) → IsHalted n o fault (behind o (out_below n p))
      behind_it None = ⊎_elim (λ e. inl e) (λ w. inr (record { before = before; refused = x; after = after; split = split; passed = here.come.passed; is = w })) f
      behind_it (Some o) = record {
        ops = out_below n p;
        held = None;
        now = refl;
        begun = λ e. cc;
        place = p;
        within = let g = fits_behind n before after x split in omega (arith, g);
        passed = here.come.passed;
        rest = [];
        begins = sym (append-nil (out_below n p));
        why = ⊎_elim (λ e. inl e) (λ w. inr (refl, refl, record { before = before; refused = x; after = after; split = split; here = refl; is = w })) f;
      }

  -- ---- a wave

  module _ (jobs : List Job) (split : stages_of n.list ≡ before ++ stage.Wave jobs ∷ after) where
    pub its_wave : IsWaveAt n.catalog jobs n p
    its_wave = wave_at n before after jobs k here.come.stands split

    pub wave_goes : (next : Kept) (more : List (Expression × ℕ)) → HasCome n (p + length jobs) next more → IsAt n l (place_behind (before ++ stage.Wave jobs ∷ [])) next more m
    wave_goes next more come =
        let e : p + length jobs ≡ place_behind (before ++ stage.Wave jobs ∷ []) = sym (place_next before (stage.Wave jobs) ∙ ap (λ j. p + j) (length-map jobs comp_of)) in
        subst (λ q. IsAt n l q next more m) e (record { come = come; out = here.out ∙ ap (behind l) (sym (wave_out n p jobs its_wave (length jobs) (omega arith))) })

    pub wave_stops : (fault : MaintFault) → (fault ≡ Memory) ⊎ IsWaveFault n p jobs fault → IsHalted n l fault m
    wave_stops fault f = stopped (stage.Wave jobs) split fault f

  -- ---- an Inst

  module _ (v : ℕ) (split : stages_of n.list ≡ before ++ stage.Inst v ∷ after) where
    at : At n.list p (Inst v)
    at = inst_at n before after v k here.come.stands split

    -- its pages
    same_puts : puts_in n.catalog n.keys v k ≡ puts_at (graph_of n.catalog) n.changes n.keys (state_at n p) (Inst v)
    same_puts =
        let s = here.come.stands in
        let change = (inst_done n.catalog n.list n.tables n.changes s.catalogue s.correct p v k at s.agrees).1 in
        (λ i. map (Writes v) (pages_of n.keys (new_counts (s.agrees.tables v i) (change i))))

    out_behind : out_below n (p + 1) ≡ out_below n p ++ puts_in n.catalog n.keys v k
    out_behind = out_next n p (Inst v) at ∙ ap (λ ops. out_below n p ++ ops) (sym same_puts)

    inst_comes : (next : Kept) (more : List (Expression × ℕ)) → IsPassedIn n.catalog k (Inst v) → next ≡ installed v (finished n.catalog (λ u. eqb v u) k)
        → Reports (rows_in n.catalog (Inst v) k) (Inst v) steps more → HasCome n (p + 1) next more
    inst_comes next more passed done report =
        let s = here.come.stands in
        record {
          stands = record {
            catalogue = s.catalogue;
            correct = s.correct;
            agrees = agrees_next n.catalog n.list n.tables n.changes s.catalogue s.correct p (Inst v) k next at s.agrees done;
            told = told_next n.catalog n.list n.tables n.changes s.catalogue s.correct p (Inst v) k next at s.agrees s.told passed done;
          };
          passed = passed_next n.catalog n.list n.tables n.changes s.catalogue s.correct p (Inst v) k at s.agrees s.told here.come.passed passed;
          reported = subst (AreFirstSteps n.catalog.views.children n.list n.tables (made_by n) (p + 1)) (sym report.steps)
              (steps_next n.catalog.views.children n.list n.tables (made_by n) p steps (Inst v) report.told here.come.reported at
              (rows_right n.catalog n.list n.tables n.changes s.catalogue s.correct p (Inst v) k report.told at s.agrees report.is report.few));
        }

    pub inst_goes : (next : Kept) (more : List (Expression × ℕ)) (o : Option Ledger) → IsPassedIn n.catalog k (Inst v) → next ≡ installed v (finished n.catalog (λ u. eqb v u) k)
        → Reports (rows_in n.catalog (Inst v) k) (Inst v) steps more → o ≡ behind m (puts_in n.catalog n.keys v k) → IsAt n l (place_behind (before ++ stage.Inst v ∷ [])) next more o
    inst_goes next more o passed done report out =
        subst (λ q. IsAt n l q next more o) (sym (place_next before (stage.Inst v))) (record {
          come = inst_comes next more passed done report;
          out = behind_more l m o (out_below n p) (puts_in n.catalog n.keys v k) here.out out ∙ ap (behind l) (sym out_behind);
        })

    fault_is : (fault : MaintFault) → IsStepFaultIn n.catalog k (Inst v) fault → (fault ≡ Memory) ⊎ IsStepFault n.catalog n.changes (state_at n p) (Inst v) fault
    fault_is fault h =
        let cat : CatalogOf = n.catalog in
        let stands = here.come.stands in
        let s : State = state_at n p in
        let done = inst_done cat n.list n.tables n.changes stands.catalogue stands.correct p v k at stands.agrees in
        let inside = stands.correct.views p v at in
        inst_reason cat n.changes s v fault (⊎_elim
        (λ u. inl (unfinished cat n.list n.tables n.changes stands.catalogue stands.correct p s k stands.agrees v inside fault u))
        (λ r. inr (
          λ derived. ⊎_elim
              (λ y. stands.told p v at y derived)
              (λ unknown. same_fit (kind_in cat v) (k.tables v) (s.tables v) (bag_at (k.pending v)) (s.pending v) (stands.agrees.tables v) (λ i j. stands.agrees.pending v inside j i) (r.0 unknown))
              (cases_Bool (k.known v)),
          subst (λ b. IsInstallFault v (s.tables v) b fault) done.1 (subst (λ b. IsInstallFault v b ((finished cat (λ u. eqb v u) k).changes v) fault) (stands.agrees.tables v) r.1),
        ))
        h)

    -- some of its pages have gone out
    cut_stopped : (o : Option Ledger) (fault : MaintFault) → fault ≡ Memory → IsPassedIn n.catalog k (Inst v) → ArePartlyOut m (puts_in n.catalog n.keys v k) o → IsHalted n l fault o
    cut_stopped o fault memory passed part = cut l o (subst (λ x. ArePartlyOut x (puts_in n.catalog n.keys v k) o) here.out part)
      where
        cut : (l o : Option Ledger) → ArePartlyOut (behind l (out_below n p)) (puts_in n.catalog n.keys v k) o → IsHalted n l fault o
        cut None o part = absurd part
        cut (Some l) None part = absurd part
        cut (Some l) (Some o) part =
            let s = here.come.stands in
            let f = fits_behind n before after (stage.Inst v) split in
            let all = held_behind (out_below n p) part.out part.held in
            record {
              ops = out_below n p ++ part.out;
              held = part.held;
              now = out_more l (goes_out l (out_below n p) None) o (out_below n p) part.out part.held refl part.now;
              begun = λ e. let g : out_below n p ++ with_held part.out part.held ≡ [] = sym all ∙ e in cc;
              place = p + 1;
              within = omega (arith, f);
              passed = passed_next n.catalog n.list n.tables n.changes s.catalogue s.correct p (Inst v) k at s.agrees s.told here.come.passed passed;
              rest = part.rest;
              begins = out_behind ∙ ap (λ ops. out_below n p ++ ops) part.split ∙ sym (append_assoc (out_below n p) (with_held part.out part.held) part.rest) ∙ ap (λ ops. ops ++ part.rest) (sym all);
              why = inl memory;
            }

    pub inst_stops : (fault : MaintFault) (o : Option Ledger) → IsInstStopped n.catalog n.keys v k fault m o → IsHalted n l fault o
    inst_stops fault o (is_refused same h) = subst (IsHalted n l fault) (sym same) (stopped (stage.Inst v) split fault (fault_is fault h))
    inst_stops fault o (is_cut memory passed part) = cut_stopped o fault memory passed part

-- what stops it is the first stage that is refused, if not want of memory
pub stopped_so : (n : Night) (l m : Ledger) (fault : MaintFault) → IsStopped n l fault m → (fault ≡ Memory) ⊎ IsFirstStageFault n fault
stopped_so n l m fault u = ⊎_elim (λ e. inl e) (λ r. inr (first r.2)) u.why
  where
    first : IsRefusedThere n u.place fault → IsFirstStageFault n fault
    first r = record {
      before = r.before;
      refused = r.refused;
      after = r.after;
      split = r.split;
      passed = subst (ArePassedBelow n.catalog n.list n.tables n.changes) r.here u.passed;
      is = subst (λ q. IsStageFault n q r.refused fault) r.here r.is;
    }

-- ---- where nothing is published, pages have any size

stage_fault : (catalog : CatalogOf) (t : Given) (keys other place : ℕ) (x : Stage) (fault : MaintFault) → IsStageFault (night_given catalog keys t) place x fault → IsStageFault (night_given catalog other t) place x fault
stage_fault catalog t keys other place (stage.Wave jobs) fault w = record { reason = w.reason; first = w.first; answer = w.answer }
stage_fault catalog t keys other place (stage.Inst v) fault w = w

pub first_fault : (catalog : CatalogOf) (t : Given) (keys other : ℕ) (fault : MaintFault) → IsFirstStageFault (night_given catalog keys t) fault → IsFirstStageFault (night_given catalog other t) fault
first_fault catalog t keys other fault f = record {
  before = f.before;
  refused = f.refused;
  after = f.after;
  split = f.split;
  passed = f.passed;
  is = stage_fault catalog t keys other (place_behind f.before) f.refused fault f.is;
}
