-- Which texts are plans, and where a text stops being one.
use Rattle.std.specs.Prelude.{◌≡◌, ◌↔◌, ◌++◌, ℕ, List, ◌∷◌, map, Some, Ok, Err}
use Rattle.wh_cert.specs.Tree.{CaseTree, IsTreeOf}
use Rattle.wh_cert.specs.declared.certificate.Certificate.{Certificate}
use Rattle.wh_cert.specs.declared.certificate.Certificate.TheVariants.{Pairs, Search}
use Rattle.wh_cert.specs.declared.certificate.Scope.{Scope}
use Rattle.wh_cert.specs.declared.certificate.Scope.TheVariants as scope
use Rattle.wh_text.specs.declared.fault.LoadFault.{LoadFault}
use Rattle.wh_text.specs.declared.fault.LoadFault.TheVariants.{Plan as PlanFault}
use Rattle.wh_text_lines.specs.LineGrammar.{StopAt}
use Rattle.wh_text_lines.specs.ListedLines.{told_in}
use Rattle.wh_text_lines.specs.PlanLine.{plan_line_of}
use Rattle.wh_text_lines.specs.PlanText.{nodes_of, plan_of}
use Rattle.wh_text_lines.specs.TreeGrowth.{IsBegun}
use Rattle.wh_text_lines.specs.Words.{lines_of}
use Rattle.wh_text_lines.specs.declared.plan.Plan.{Plan}
use Rattle.wh_text_lines.specs.declared.plan.line.PlanLine.{PlanLine}
use Rattle.wh_text_lines.specs.declared.plan.line.PlanLine.TheVariants.{Scoped, Worked, Listed, Paired, Searched}

-- the lines of a certificate
abbrev pub certificate_lines : Certificate → List PlanLine
certificate_lines (Pairs pairs) = map Paired pairs
certificate_lines (Search nodes) = map Searched nodes

-- the lines of a plan: its scope, its work, its list and its certificate
abbrev pub plan_lines : Plan → List PlanLine
plan_lines plan = Scoped plan.scope ∷ Worked plan.work ∷ (map Listed plan.strategy ++ certificate_lines plan.certificate)

-- the certificate is one for this scope: pairs for all, nodes for one-way
abbrev pub IsForScope : Scope → Certificate → Type 0
IsForScope scope.All (Pairs pairs) = Unit {0}
IsForScope scope.OneWay (Search nodes) = Unit {0}
IsForScope scope.All (Search nodes) = ⊥
IsForScope scope.OneWay (Pairs pairs) = ⊥

-- the nodes of a certificate, if it has some, are those of a tree at most 1,000 deep
abbrev pub IsWhole : Certificate → Type 0
IsWhole (Pairs pairs) = Unit {0}
IsWhole (Search nodes) = (tree : CaseTree) × IsTreeOf nodes tree

-- the lines say this plan
pub record SayPlan (names : List (List ℕ)) (lines : List (List ℕ)) (plan : Plan) : Type 0 where
  pub told : told_in (plan_line_of names) lines ≡ map Some (plan_lines plan)
  pub for_scope : IsForScope plan.scope plan.certificate
  pub whole : IsWhole plan.certificate

-- the lines say the first lines of some plan, and the nodes among them begin a tree, none of them more than 1,000 deep
pub record BeginPlan (names : List (List ℕ)) (lines : List (List ℕ)) : Type 0 where
  pub plan : Plan
  pub first : List PlanLine
  pub rest : List PlanLine
  pub parts : plan_lines plan ≡ first ++ rest
  pub for_scope : IsForScope plan.scope plan.certificate
  pub told : told_in (plan_line_of names) lines ≡ map Some first
  pub begun : IsBegun (nodes_of first)

-- a text is read as the plan that its lines say, and as none where they say none
abbrev pub PlanGrammar : Type 0
PlanGrammar = (names : List (List ℕ)) (text : List ℕ) (plan : Plan) → (plan_of names text ≡ Ok plan) ↔ SayPlan names (lines_of text) plan

-- a text that is no plan is at fault at the first line with which its lines no longer begin one, or after the last
abbrev pub PlanFaults : Type 0
PlanFaults =
    (names : List (List ℕ)) (text : List ℕ) (fault : LoadFault) → plan_of names text ≡ Err fault →
    (number : ℕ) × (fault ≡ PlanFault number) × StopAt (BeginPlan names) (λ lines. (plan : Plan) × SayPlan names lines plan) (lines_of text) number
