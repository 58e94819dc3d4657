use Rattle.std.proofs.Common.{rules, ◌≡◌, refl, ap, subst, sym, ◌∙◌, length, set, arith, ℤ, OnOk, IfErr, Result, Err, FitsSigned}
use Rattle.std.proofs.Math.Nat.{lt_of_not-le}
use Rattle.std.proofs.lemmas.List.{get_or_read}
use mir.Syntax.{w64}
use Rattle.wh_row.specs.Bag.{Bag, HasWidth, HasRowsOf, SumFits, empty, sum_of}
use Rattle.wh_dag.specs.Catalog.{CatalogOf, width_of}
use Rattle.wh_maint.specs.Comp.{bag_at}
use Rattle.wh_maint.specs.Refused.{IsInstallFault}
use Rattle.wh_maint.specs.declared.fault.MaintFault.{MaintFault}
use Rattle.wh_carry.specs.Kept.{KeptLists}
use Rattle.wh_carry.proofs.Storing.{parts_table, sum_wide}
use Rattle.wh_carry.proofs.state.NightState.install.Goals.{in-Ok, in-Err-Large, in-Err-Memory, Joined-merge}
use Rattle.wh_carry.proofs.state.NightState.install.Goals as goal

-- what is not too large fits
fits_if_not : (z : ℤ) → ¬ ¬ (FitsSigned w64 z) → FitsSigned w64 z
fits_if_not z not_large = record { sfits = lt_of_not-le (λ le. not_large (λ f. omega (arith, f.sfits, le))) }

module _ (c : Joined-merge) where
  table : c.index_mut.result.now ≡ bag_at c.args.self.now.tables c.args.view
  table =
      let same = ap (λ (z : KeptLists). z.tables) c.self.view_is in
      let l = c.requires.table in
      let each = ap length same in
      get_or_read c.self.inside.tables.items c.args.view c.index_mut.result.now (omega arith) c.index_mut.ensures.value empty ∙ ap (λ bs. bag_at bs c.args.view) same

  change : c.index.result.now ≡ bag_at c.args.self.now.changes c.args.view
  change =
      let same = ap (λ (z : KeptLists). z.changes) c.self.view_is in
      let l = c.requires.change in
      let each = ap length same in
      get_or_read c.self.inside.changes.items c.args.view c.index.result.now (omega arith) c.index.ensures empty ∙ ap (λ bs. bag_at bs c.args.view) same

  -- of these bags the merge tells, and of those the clauses
  moved : (P : Bag → Bag → Type 0) → P c.index_mut.result.now c.index.result.now → P (bag_at c.args.self.now.tables c.args.view) (bag_at c.args.self.now.changes c.args.view)
  moved P p = subst (λ (b : Bag). P b (bag_at c.args.self.now.changes c.args.view)) table (subst (λ (d : Bag). P c.index_mut.result.now d) change p)

pub returns-clause-refused : goal.returns-clause-refused
returns-clause-refused c =
    let P : Result (Unit {0}) MaintFault → Type 0 = λ r. IfErr r (IsInstallFault c.args.view (bag_at c.args.self.now.tables c.args.view) (bag_at c.args.self.now.changes c.args.view)) in
    elim c.match-merge.branch [
      | in-Ok w ↦ subst P (sym w.result-is) tt
      | in-Err-Large w ↦ subst P (sym w.result-is) (refl, moved c (λ b d. ¬ (SumFits b d)) (c.merge.ensures.large.0 (search (rules, w))))
      | in-Err-Memory w ↦ subst P (sym w.result-is) (moved c SumFits (λ row. fits_if_not _ (λ large. (let bad : Err Rattle.wh_row.specs.declared.fault.BagFault.TheVariants.Memory ≡ Err Rattle.wh_row.specs.declared.fault.BagFault.TheVariants.Large = sym (search (rules, w)) ∙ c.merge.ensures.large.1 (λ fits. large (fits row)) in cc))))
    ]

pub returns-clause-memory : goal.returns-clause-memory
returns-clause-memory c = λ e. elim c.match-merge.branch [
  | in-Ok w ↦ absurd (let bad = sym w.result-is ∙ e in cc)
  | in-Err-Large w ↦ absurd (let bad = sym w.result-is ∙ e in cc)
  | in-Err-Memory w ↦ moved c (λ b d. ¬ (HasRowsOf b d)) (c.merge.ensures.memory (search (rules, w)))
]

pub returns-clause-parts : goal.returns-clause-parts
returns-clause-parts c =
    let to = (goal.at.returns-clause-parts c).Joined-merge in
    let v = c.args.view in
    let s : KeptLists = c.args.self.now in
    let inside = c.self.inside in
    let next : KeptLists = record { tables = set inside.tables.items v c.merge.new.self; pendings = inside.pendings.items; changes = inside.changes.items; known = inside.known.items } in
    let P : Result (Unit {0}) MaintFault → Type 0 = λ r. OnOk r ((cat : CatalogOf) → Rattle.wh_carry.specs.Kept.HaveParts cat s → Rattle.wh_carry.specs.Kept.HaveParts cat next) in
    elim c.match-merge.branch [
      | in-Ok w ↦ subst P (sym w.result-is) (λ cat p.
          let l = c.requires.change in
          let e = p.changes.each in
          parts_table cat s next v c.merge.new.self p (omega arith)
          (subst (λ b. HasWidth b (width_of cat v)) (sym (w.in-Ok.ensures.ok ∙ (λ i. sum_of (table c i) (change c i))))
          (sum_wide (bag_at s.tables v) (bag_at s.changes v) (width_of cat v) (p.tables.widths v (omega arith)) (p.changes.widths v (omega arith))))
          (λ i. set (c.self.view_is i).tables v c.merge.new.self)
          (ap (λ (z : KeptLists). z.pendings) c.self.view_is)
          (ap (λ (z : KeptLists). z.changes) c.self.view_is)
          (ap (λ (z : KeptLists). z.known) c.self.view_is))
      | in-Err-Large w ↦ subst P (sym w.result-is) tt
      | in-Err-Memory w ↦ subst P (sym w.result-is) tt
    ]
