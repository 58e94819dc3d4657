-- Two answers of `plan` for the same bytes, at the same costs and with the same budget.
use Rattle.std.proofs.Common.{◌≡◌, ◌∙◌, ◌≤◌, ℕ, List, Result, Ok, Err, ap, refl, subst, sym, arith}
use Rattle.std.specs.Prelude.{MatchResult}
use Rattle.wh_cert.specs.Certificate.{IsJudged}
use Rattle.wh_cert.specs.declared.certificate.Certificate.{Certificate}
use Rattle.wh_cert.specs.declared.certificate.Certificate.TheVariants.{Pairs, Search}
use Rattle.wh_cert.specs.declared.certificate.Scope.{Scope}
use Rattle.wh_cert.specs.declared.certificate.Scope.TheVariants as scope
use Rattle.wh_cert.specs.declared.certificate.Verdict.TheVariants as verdict
use Rattle.wh_cert.specs.declared.tree.TreeNode.{TreeNode}
use Rattle.wh_text.specs.declared.fault.LoadFault.{LoadFault}
use Rattle.wh_text_lines.specs.PlanText.{plan_text}
use Rattle.wh_load.specs.ReadingPlan.{Measured, measured_of}
use Rattle.wh_prune.specs.Plan.{IsCyclicAsDesired}
use Rattle.wh_prune.specs.Spent.{IsSpent}
use Rattle.wh_strategy.specs.Prices.{Prices, prices_of}
use Rattle.wh_strategy.specs.declared.sizes.Size.{Size}
use Rattle.wh_strategy.specs.Sizes.{sizes_of}
use Rattle.wh_strategy.specs.declared.costs.Costs.{Costs}
use Rattle.wh_strategy.specs.declared.expression.Expression.{Expression}
use Rattle.whview.specs.CheckOutput.{IsFaultShown}
use Rattle.whview.specs.OneAnswer.{AreOnePlan, IsPlanBesideSpent, MaySpend, OnePlanOutput, one_text, plan_and_spent, spent_and_plan, two_of_all, two_one_way, two_spent}
use Rattle.whview.specs.PlanOutput.{GoesByOrderFor, IsLeastFor, IsPlanOutput, IsPlanned, planned, spent, spent_text}

-- ---- two plans

-- one is no less than the other, each way, as both are one-way
one_work : (prices : Prices) (measured : Measured) (work again : ℕ) (found other : Scope) (list other_list : List Expression) (certificate other_certificate : Certificate)
    → IsLeastFor prices measured work found list certificate → IsLeastFor prices measured again other other_list other_certificate → again ≡ work
one_work prices measured work again found other list other_list certificate other_certificate least least' =
    let below : work ≤ again = subst (λ w. work ≤ w) (sym least'.worked) (least.least_one_way other_list least'.correct least'.one_way) in
    let above : again ≤ work = subst (λ w. again ≤ w) (sym least.worked) (least'.least_one_way list least.correct least.one_way) in
    omega arith

-- a certificate of scope all has the lines of the sibling pairs
one_certificate : (shape : List (List ℕ)) (sizes : ℕ → Size) (prices : Prices) (work again : ℕ) (first second : Certificate)
    → IsJudged shape sizes prices work first verdict.All → IsJudged shape sizes prices again second verdict.All → second ≡ first
one_certificate shape sizes prices work again (Pairs lines) (Pairs others) j k = ap Pairs (k.right ∙ sym j.right)
one_certificate shape sizes prices work again (Pairs lines) (Search nodes) j k = absurd k
one_certificate shape sizes prices work again (Search nodes) second j k = absurd j

-- a certificate of scope one-way is a tree
tree_in : (shape : List (List ℕ)) (sizes : ℕ → Size) (prices : Prices) (work : ℕ) (certificate : Certificate)
    → IsJudged shape sizes prices work certificate verdict.OneWay → (nodes : List TreeNode) × (certificate ≡ Search nodes)
tree_in shape sizes prices work (Pairs lines) j = absurd j
tree_in shape sizes prices work (Search nodes) j = (nodes, refl)

-- two plans have one scope: all exactly where their work is the pair bound
two_plans : (prices : Prices) (budget : ℕ) (bytes : List ℕ) (measured : Measured) → measured_of bytes ≡ Ok measured
    → (work again : ℕ) (found also : Scope) (list other_list : List Expression) (certificate other_certificate : Certificate) (text other : List ℕ) (status ended : ℕ)
    → IsLeastFor prices measured work found list certificate → GoesByOrderFor measured found list → IsLeastFor prices measured again also other_list other_certificate
    → text ≡ plan_text measured.shape.names found work list certificate → other ≡ plan_text measured.shape.names also again other_list other_certificate
    → status ≡ 0 → ended ≡ 0 → AreOnePlan budget bytes text status other ended
two_plans prices budget bytes measured read work again scope.All scope.All list other_list certificate other_certificate text other status ended least by_order least' t u s e =
    let works : again ≡ work = one_work prices measured work again scope.All scope.All list other_list certificate other_certificate least least' in
    let certificates : other_certificate ≡ certificate = one_certificate _ _ prices work again certificate other_certificate least.accepted least'.accepted in
    two_of_all measured read
    (record {
      work = work;
      certificate = certificate;
      list = list;
      other_list = other_list;
      printed = t;
      other_printed = u
          ∙ ap (λ w. plan_text measured.shape.names scope.All w other_list other_certificate) works
          ∙ ap (plan_text measured.shape.names scope.All work other_list) certificates;
    })
    s e
two_plans prices budget bytes measured read work again scope.OneWay scope.OneWay list other_list certificate other_certificate text other status ended least by_order least' t u s e =
    let works : again ≡ work = one_work prices measured work again scope.OneWay scope.OneWay list other_list certificate other_certificate least least' in
    let tree = tree_in _ _ prices work certificate least.accepted in
    let other_tree = tree_in _ _ prices again other_certificate least'.accepted in
    two_one_way measured read (by_order.cyclic refl)
    (record {
      work = work;
      list = list;
      other_list = other_list;
      tree = tree.0;
      other_tree = other_tree.0;
      printed = t ∙ ap (plan_text measured.shape.names scope.OneWay work list) tree.1;
      other_printed = u
          ∙ ap (λ w. plan_text measured.shape.names scope.OneWay w other_list other_certificate) works
          ∙ ap (plan_text measured.shape.names scope.OneWay work other_list) other_tree.1;
    })
    s e
two_plans prices budget bytes measured read work again scope.All scope.OneWay list other_list certificate other_certificate text other status ended least by_order least' t u s e =
    let works : again ≡ work = one_work prices measured work again scope.All scope.OneWay list other_list certificate other_certificate least least' in
    let bad : scope.OneWay ≡ scope.All = least'.all.1 (works ∙ least.all.0 refl) in
    cc
two_plans prices budget bytes measured read work again scope.OneWay scope.All list other_list certificate other_certificate text other status ended least by_order least' t u s e =
    let works : again ≡ work = one_work prices measured work again scope.OneWay scope.All list other_list certificate other_certificate least least' in
    let bad : scope.OneWay ≡ scope.All = least.all.1 (sym works ∙ least'.all.0 refl) in
    cc

-- ---- a search that spent its budget

may_spend : (prices : Prices) (budget opened best : ℕ) (measured : Measured) → IsCyclicAsDesired measured.shape.children (sizes_of measured.sizes)
    → IsSpent measured.shape.children (sizes_of measured.sizes) prices budget opened best → MaySpend budget measured
may_spend prices budget opened best measured cyclic is = record { cyclic = cyclic; few = is.few }

beside_spent : (prices : Prices) (budget opened best work : ℕ) (found : Scope) (list : List Expression) (certificate : Certificate) (measured : Measured) (text other : List ℕ)
    → IsLeastFor prices measured work found list certificate → IsSpent measured.shape.children (sizes_of measured.sizes) prices budget opened best
    → text ≡ plan_text measured.shape.names found work list certificate → other ≡ spent_text opened best
    → IsPlanBesideSpent measured.shape.names budget text other
beside_spent prices budget opened best work found list certificate measured text other least is t u =
    record {
      work = work;
      scope = found;
      list = list;
      certificate = certificate;
      best = best;
      printed = t;
      other_printed = u ∙ ap (λ n. spent_text n best) is.all;
      no_less = subst (λ w. work ≤ w) is.known.3 (least.least_one_way is.known.0 is.known.1 is.known.2);
    }

-- ---- two answers

one_planned : (prices : Prices) (budget : ℕ) (bytes : List ℕ) (measured : Measured) (text other : List ℕ) (status ended : ℕ) → measured_of bytes ≡ Ok measured
    → IsPlanned prices budget measured text status → IsPlanned prices budget measured other ended → AreOnePlan budget bytes text status other ended
one_planned prices budget bytes measured text other status ended read (planned work found list certificate least by_order within t s) (planned again also other_list other_certificate least' by_order' within' u e) =
    two_plans prices budget bytes measured read work again found also list other_list certificate other_certificate text other status ended least by_order least' t u s e
one_planned prices budget bytes measured text other status ended read (planned work found list certificate least by_order within t s) (spent opened best cyclic is u e) =
    plan_and_spent measured read (may_spend prices budget opened best measured cyclic is)
    (beside_spent prices budget opened best work found list certificate measured text other least is t u) s e
one_planned prices budget bytes measured text other status ended read (spent opened best cyclic is t s) (planned work found list certificate least by_order within u e) =
    spent_and_plan measured read (may_spend prices budget opened best measured cyclic is)
    (beside_spent prices budget opened best work found list certificate measured other text least is u t) s e
one_planned prices budget bytes measured text other status ended read (spent opened best cyclic is t s) (spent opened' best' cyclic' is' u e) =
    two_spent measured read (may_spend prices budget opened best measured cyclic is)
    (record {
      best = best;
      other_best = best';
      printed = t ∙ ap (λ n. spent_text n best) is.all;
      other_printed = u ∙ ap (λ n. spent_text n best') is'.all;
    })
    s e

pub one_plan : OnePlanOutput
one_plan costs budget bytes text other status ended = go (measured_of bytes) refl
  where
    go : (r : Result Measured LoadFault) → measured_of bytes ≡ r
        → MatchResult r (λ measured. IsPlanned (prices_of costs) budget measured text status) (λ fault. IsFaultShown fault text status)
        → MatchResult r (λ measured. IsPlanned (prices_of costs) budget measured other ended) (λ fault. IsFaultShown fault other ended)
        → AreOnePlan budget bytes text status other ended
    go (Ok measured) read f g = one_planned (prices_of costs) budget bytes measured text other status ended read f g
    go (Err fault) read f g = one_text (record { texts = f.printed ∙ sym g.printed; statuses = f.ended ∙ sym g.ended })

-- a plan asks of the costs and the budget their prices and number alone
pub as_planning : (costs other : Costs) (budget more : ℕ) (bytes text : List ℕ) (status : ℕ) → prices_of other ≡ prices_of costs → more ≡ budget
    → IsPlanOutput other more bytes text status → IsPlanOutput costs budget bytes text status
as_planning costs other budget more bytes text status e b = go (measured_of bytes)
  where
    go : (r : Result Measured LoadFault) → MatchResult r (λ measured. IsPlanned (prices_of other) more measured text status) (λ fault. IsFaultShown fault text status)
        → MatchResult r (λ measured. IsPlanned (prices_of costs) budget measured text status) (λ fault. IsFaultShown fault text status)
    go (Ok measured) is =
        subst (λ n. IsPlanned (prices_of costs) n measured text status) b (subst (λ prices. IsPlanned prices more measured text status) e is)
    go (Err fault) is = is
