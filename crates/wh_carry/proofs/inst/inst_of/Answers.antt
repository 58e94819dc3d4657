use Rattle.std.proofs.Common.{◌≡◌, sym, ap, subst, ◌∙◌, refl, eqb, ℕ, ℤ, map, inr}
use Rattle.std.proofs.lemmas.Bool.{eq-eqb, or_left}
use Rattle.wh_row.specs.Bag.{SumFits, count, sum_of, written}
use Rattle.wh_row.specs.Row.{Row}
use Rattle.wh_maint.specs.Refused.{IsInstallFault}
use Rattle.wh_carry.specs.Kept.{Kept, kept, finished, installed}
use Rattle.wh_carry.specs.NightList.{pages_of}
use Rattle.std.proofs.Common.{cond}
use Rattle.std.proofs.lemmas.Option.{same_Some}
use Rattle.wh_carry.specs.Inner.Standing.{PutsPages}
use Rattle.wh_carry.proofs.Storing.{can_finish_after, can_finish_installed}
use Rattle.wh_carry.proofs.inst.inst_of.Goals as goal

pub install-requires-clause-known : goal.install-requires-clause-known
install-requires-clause-known g c = ap (λ (k : Kept). k.known c.args.view) c.in_default.ensures.done ∙ or_left (eqb c.args.view c.args.view) ((kept c.args.state.now).known c.args.view) (eq-eqb c.args.view c.args.view refl)

pub returns-clause-done : goal.returns-clause-done
returns-clause-done g c = λ e. c.in_default-install.ensures.done ∙ ap (installed c.args.view) c.in_default.ensures.done

pub returns-clause-fit : goal.returns-clause-fit
returns-clause-fit g c =
    can_finish_installed c.args.catalog.now (kept c.args.state.now) (kept c.install.new.self) c.args.view c.requires.fit (c.in_default-install.ensures.done ∙ ap (installed c.args.view) c.in_default.ensures.done)

pub returns-clause-passed : goal.returns-clause-passed
returns-clause-passed g c = λ e.
    let v = c.args.view in
    (c.in_default.ensures.passed, subst (λ (k : Kept). SumFits (k.tables v) (k.changes v)) c.in_default.ensures.done c.in_default-install.ensures.fits)

pub returns-in-Err-install-clause-fit : goal.returns-in-Err-install-clause-fit
returns-in-Err-install-clause-fit g c =
    can_finish_after c.args.catalog.now (kept c.args.state.now) (kept c.install.new.self) (λ u. eqb c.args.view u) c.requires.fit (ap kept c.in-Err-install.ensures.err ∙ c.in_default.ensures.done)

pub returns-in-Err-install-clause-refused : goal.returns-in-Err-install-clause-refused
returns-in-Err-install-clause-refused g c = λ f e.
    let v = c.args.view in
    let same : c.in-Err-install.fault ≡ f = same_Some c.in-Err-install.fault f (sym c.in_ok-told-2.ensures.told ∙ e) in
    inr (
      c.in_default.ensures.passed,
      subst (λ f. IsInstallFault v ((kept c.args.state.now).tables v) ((finished c.args.catalog.now (λ u. eqb v u) (kept c.args.state.now)).changes v) f) same
          (subst (λ (k : Kept). IsInstallFault v (k.tables v) (k.changes v) c.in-Err-install.fault) c.in_default.ensures.done c.in-Err-install.ensures.refused),
    )

pub change-requires-clause-known : goal.change-requires-clause-known
change-requires-clause-known g c =
    ap (λ (k : Kept). k.known c.args.view) (c.in_default-install.ensures.done ∙ ap (installed c.args.view) c.in_default.ensures.done) ∙ or_left (eqb c.args.view c.args.view) ((kept c.args.state.now).known c.args.view) (eq-eqb c.args.view c.args.view refl)

pub returns-clause-puts : goal.returns-clause-puts
returns-clause-puts g c = λ e.
    let v : ℕ = c.args.view in
    let k : Kept = kept c.args.state.now in
    let over : Kept = finished c.args.catalog.now (λ u. eqb v u) k in
    let whole : kept c.install.new.self ≡ installed v over = c.in_default-install.ensures.done ∙ ap (installed v) c.in_default.ensures.done in
    let table : c.table.result.now ≡ sum_of (over.tables v) (over.changes v) =
    c.table.ensures ∙ ap (λ (k : Kept). k.tables v) whole ∙ ap (λ b. cond b (sum_of (over.tables v) (over.changes v)) (over.tables v)) (eq-eqb v v refl) in
    let change : c.change.result.now ≡ over.changes v = c.change.ensures ∙ ap (λ (k : Kept). k.changes v) whole in
    subst (λ pages. PutsPages v pages c.args.parts.now.items c.put_pages.new.parts.items)
    (λ i. pages_of c.args.keys (map {A = Row × ℤ} {B = Row × ℤ} (λ e. (e.0, count (table i) e.0)) (written (change i)))) c.in_ok-put_pages.ensures
