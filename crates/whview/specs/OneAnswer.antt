-- That there is one answer at most: what the texts and statuses that are allowed for one list of words and one list of bytes have in
-- common.
use Rattle.std.specs.Prelude.{◌≡◌, ◌⊎◌, ℕ, ◌+◌, ◌^◌, ◌<◌, ◌≤◌, List, length, None, Ok}
use Rattle.wh_cert.specs.declared.certificate.Certificate.{Certificate}
use Rattle.wh_cert.specs.declared.certificate.Certificate.TheVariants.{Search}
use Rattle.wh_cert.specs.declared.certificate.Scope.{Scope}
use Rattle.wh_cert.specs.declared.certificate.Scope.TheVariants as scope
use Rattle.wh_cert.specs.declared.tree.TreeNode.{TreeNode}
use Rattle.wh_dag.specs.Siblings.{couples_of}
use Rattle.wh_text_lines.specs.PlanText.{plan_text}
use Rattle.wh_load.specs.ReadingPlan.{Measured, measured_of}
use Rattle.wh_prune.specs.Plan.{IsCyclicAsDesired}
use Rattle.wh_strategy.specs.Sizes.{sizes_of}
use Rattle.wh_strategy.specs.declared.costs.Costs.{Costs}
use Rattle.wh_strategy.specs.declared.expression.Expression.{Expression}
use Rattle.whview.specs.CertifyOutput.{IsCertifyOutput}
use Rattle.whview.specs.CheckOutput.{IsCheckOutput}
use Rattle.whview.specs.FirstLine.{after_first_line, first_line_of, words_in}
use Rattle.whview.specs.NightOutput.{IsNightOutput}
use Rattle.whview.specs.Output.{AskFor, Bytes, Failed, IsHandedOutput, IsInputOutput, IsRefused, Reading, file_of}
use Rattle.whview.specs.PlanOutput.{IsPlanOutput, spent_text}
use Rattle.whview.specs.ReplayOutput.{IsReplayOutput}
use Rattle.whview.specs.declared.command_line.Asked.{Asked}
use Rattle.whview.specs.declared.command_line.Asked.TheVariants as asked
use Rattle.whview.specs.declared.night_options.Printed.{Printed}

-- two answers have one text and one status
pub record AreSame (text : List ℕ) (status : ℕ) (other : List ℕ) (ended : ℕ) : Type 0 where
  pub texts : text ≡ other
  pub statuses : status ≡ ended

-- two plans of scope all have one work and one certificate: their lists alone may differ
pub record DifferInList (names : List (List ℕ)) (text other : List ℕ) : Type 0 where
  pub work : ℕ
  pub certificate : Certificate
  pub list : List Expression
  pub other_list : List Expression
  pub printed : text ≡ plan_text names scope.All work list certificate
  pub other_printed : other ≡ plan_text names scope.All work other_list certificate

-- two plans of scope one-way have one work: their lists and their trees alone may differ
pub record DifferInListAndTree (names : List (List ℕ)) (text other : List ℕ) : Type 0 where
  pub work : ℕ
  pub list : List Expression
  pub other_list : List Expression
  pub tree : List TreeNode
  pub other_tree : List TreeNode
  pub printed : text ≡ plan_text names scope.OneWay work list (Search tree)
  pub other_printed : other ≡ plan_text names scope.OneWay work other_list (Search other_tree)

-- two searches that spent the same budget opened as many nodes: the least work that they found alone may differ
pub record DifferInBest (budget : ℕ) (text other : List ℕ) : Type 0 where
  pub best : ℕ
  pub other_best : ℕ
  pub printed : text ≡ spent_text budget best
  pub other_printed : other ≡ spent_text budget other_best

-- a plan, and a search that spent its budget: the least work that it found is no less than the plan's
pub record IsPlanBesideSpent (names : List (List ℕ)) (budget : ℕ) (text other : List ℕ) : Type 0 where
  pub work : ℕ
  pub scope : Scope
  pub list : List Expression
  pub certificate : Certificate
  pub best : ℕ
  pub printed : text ≡ plan_text names scope work list certificate
  pub other_printed : other ≡ spent_text budget best
  pub no_less : work ≤ best

-- a search may spend this budget: the ordered graph has a cycle, and the full tree of all couples has more nodes
pub record MaySpend (budget : ℕ) (measured : Measured) : Type 0 where
  pub cyclic : IsCyclicAsDesired measured.shape.children (sizes_of measured.sizes)
  pub few : budget + 1 < 2 ^ (length (couples_of measured.shape.children) + 1)

-- What two answers of `plan` for the same bytes have in common, at the same costs and with the same budget. A fault of the input
-- has one text. Two plans have one scope and one work, and scope one-way only where the ordered graph has a cycle. That the budget
-- is spent is answered only where a search may spend it; the other answer is then a plan, or says the same.
pub data AreOnePlan (budget : ℕ) (bytes text : List ℕ) (status : ℕ) (other : List ℕ) (ended : ℕ) : Type 0 where
  one_text : AreSame text status other ended → AreOnePlan budget bytes text status other ended
  two_of_all : (measured : Measured) → measured_of bytes ≡ Ok measured
      → DifferInList measured.shape.names text other → status ≡ 0 → ended ≡ 0 → AreOnePlan budget bytes text status other ended
  two_one_way : (measured : Measured) → measured_of bytes ≡ Ok measured → IsCyclicAsDesired measured.shape.children (sizes_of measured.sizes)
      → DifferInListAndTree measured.shape.names text other → status ≡ 0 → ended ≡ 0 → AreOnePlan budget bytes text status other ended
  two_spent : (measured : Measured) → measured_of bytes ≡ Ok measured → MaySpend budget measured
      → DifferInBest budget text other → status ≡ 4 → ended ≡ 4 → AreOnePlan budget bytes text status other ended
  plan_and_spent : (measured : Measured) → measured_of bytes ≡ Ok measured → MaySpend budget measured
      → IsPlanBesideSpent measured.shape.names budget text other → status ≡ 0 → ended ≡ 4 → AreOnePlan budget bytes text status other ended
  spent_and_plan : (measured : Measured) → measured_of bytes ≡ Ok measured → MaySpend budget measured
      → IsPlanBesideSpent measured.shape.names budget other text → status ≡ 4 → ended ≡ 0 → AreOnePlan budget bytes text status other ended

-- what two answers of this command for the same bytes have in common
abbrev pub AreOneAnswer : Asked → List ℕ → List ℕ → ℕ → List ℕ → ℕ → Type 0
AreOneAnswer (asked.Check costs input) bytes text status other ended = AreSame text status other ended
AreOneAnswer (asked.Plan costs budget input) bytes text status other ended = AreOnePlan budget.nodes bytes text status other ended
AreOneAnswer (asked.Certify costs input) bytes text status other ended = AreSame text status other ended
AreOneAnswer (asked.Night how input) bytes text status other ended = AreSame text status other ended
AreOneAnswer (asked.Replay input) bytes text status other ended = AreSame text status other ended
AreOneAnswer (asked.Live how input) bytes text status other ended = AreSame text status other ended

-- What two answers for the same reading have in common, where this is what two answers for the same bytes have. Of a reader that
-- failed there is one.
abbrev pub AreOneAnswerTo : Reading → (List ℕ → List ℕ → ℕ → List ℕ → ℕ → Type 0) → List ℕ → ℕ → List ℕ → ℕ → Type 0
AreOneAnswerTo (Bytes bytes) one text status other ended = one bytes text status other ended
AreOneAnswerTo Failed one text status other ended = AreSame text status other ended

-- What two answers for the same bytes have in common, where their first line gives the words. They have one text and one status, or what
-- two answers of the command have that the words ask for. Or `clap` refuses the words or answers them with help.
abbrev pub AreOneLineAnswer : List ℕ → List ℕ → ℕ → List ℕ → ℕ → Type 0
AreOneLineAnswer input text status other ended =
    AreSame text status other ended
    ⊎ (((command : Asked) × AskFor (words_in (first_line_of input)) command × AreOneAnswer command (after_first_line input) text status other ended)
    ⊎ (IsRefused (words_in (first_line_of input)) status × IsRefused (words_in (first_line_of input)) ended))

-- all checks of the same bytes at the same costs have one text and one status
abbrev pub OneCheckOutput : Type 0
OneCheckOutput =
    (costs : Costs) (bytes text other : List ℕ) (status ended : ℕ) →
    IsCheckOutput costs bytes text status → IsCheckOutput costs bytes other ended → AreSame text status other ended

-- all certifications of the same bytes at the same costs have one text and one status
abbrev pub OneCertifyOutput : Type 0
OneCertifyOutput =
    (costs : Costs) (bytes text other : List ℕ) (status ended : ℕ) →
    IsCertifyOutput costs bytes text status → IsCertifyOutput costs bytes other ended → AreSame text status other ended

-- All answers of `plan` for the same bytes, at the same costs and with the same budget, are one. Left out are the lists of plans, the trees
-- of one-way ones, and what a budget comes to
abbrev pub OnePlanOutput : Type 0
OnePlanOutput =
    (costs : Costs) (budget : ℕ) (bytes text other : List ℕ) (status ended : ℕ) →
    IsPlanOutput costs budget bytes text status → IsPlanOutput costs budget bytes other ended → AreOnePlan budget bytes text status other ended

-- all nights of the same bytes that print tables, or print changes, beside so many readers have one text and one status
abbrev pub OneNightOutput : Type 0
OneNightOutput =
    (printed : Printed) (readers : ℕ) (bytes text other : List ℕ) (status ended : ℕ) →
    IsNightOutput printed readers bytes text status → IsNightOutput printed readers bytes other ended → AreSame text status other ended

-- all replays of the same bytes have one text and one status
abbrev pub OneReplayOutput : Type 0
OneReplayOutput =
    (bytes text other : List ℕ) (status ended : ℕ) →
    IsReplayOutput bytes text status → IsReplayOutput bytes other ended → AreSame text status other ended

-- words that were handed in, that `clap` takes and that name no file have one answer for what was read
abbrev pub OneHandedOutput : Type 0
OneHandedOutput =
    (words : List (List ℕ)) (command : Asked) (reading : Reading) (text other : List ℕ) (status ended : ℕ) →
    AskFor words command → file_of command ≡ None →
    IsHandedOutput words reading text status → IsHandedOutput words reading other ended →
    AreOneAnswerTo reading (AreOneAnswer command) text status other ended

-- an input whose first line gives the words has one answer for what was read, unless `clap` refuses these words or answers them
-- with help
abbrev pub OneInputOutput : Type 0
OneInputOutput =
    (reading : Reading) (text other : List ℕ) (status ended : ℕ) →
    IsInputOutput reading text status → IsInputOutput reading other ended → AreOneAnswerTo reading AreOneLineAnswer text status other ended
