-- What `plan` prints is read back and certified.
use Rattle.std.proofs.Common.{◌≡◌, ◌∙◌, ap, ℕ, ◌^◌, ◌<◌, ◌≤◌, ◌++◌, Bool, true, false, cond, List, [], ◌∷◌, length, get_or, refl, sym, subst, zero, suc, arith, Result, Ok, Err}
use Rattle.std.specs.Prelude.{◌&&◌, MatchResult, filter, nat_lt}
use Rattle.std.specs.List.{All, list_all}
use Rattle.std.proofs.lemmas.Bool.{and_parts}
use Rattle.std.proofs.lemmas.List.Elements.{All-append, All-cons, All-map, All-nil, All-weaker}
use Rattle.std.proofs.lemmas.Option.{slice_get-get_or}
use Rattle.wh_cert.proofs.Trees.{Each, each_of_all, has_parent}
use Rattle.wh_cert.proofs.WeighedSizes.{sizes_are_light}
use Rattle.wh_cert.specs.Bound.{pair_min}
use Rattle.wh_cert.specs.Certificate.{IsJudged, line_in_order, line_of, lines_of}
use Rattle.wh_cert.specs.Graph.{IsCycle, IsNode, Leads}
use Rattle.wh_cert.specs.Order.{comes_first}
use Rattle.wh_cert.specs.Search.{IsGoodNode, IsOpen, Placed, higher_first, lower_first, nodes_below}
use Rattle.wh_cert.specs.Tree.{Bound, Branch, CaseTree, Cycle, preorder, tree_of}
use Rattle.wh_cert.specs.declared.certificate.Certificate.{Certificate}
use Rattle.wh_cert.specs.declared.certificate.Certificate.TheVariants.{Pairs, Search}
use Rattle.wh_cert.specs.declared.certificate.Scope.{Scope}
use Rattle.wh_cert.specs.declared.certificate.Scope.TheVariants as scope
use Rattle.wh_cert.specs.declared.tree.TreeNode.TheVariants as node
use Rattle.wh_dag.specs.Shape.{IsShape, children_of, has}
use Rattle.wh_dag.specs.Siblings.{have_parent, is_couple, is_sibling_pair, sibling_pairs_of, triples_below}
use Rattle.wh_dag.specs.declared.siblings.Couple.{Couple}
use Rattle.wh_dag.specs.declared.siblings.SiblingPair.{SiblingPair}
use Rattle.wh_text_catalogue.proofs.ShapesRead.{from_step, is_shape, same_Ok}
use Rattle.wh_text_catalogue.specs.Catalogue.{◌>>=◌, shape_of}
use Rattle.wh_text_tables.specs.SizesText.{sizes_of_text}
use Rattle.wh_text_lines.proofs.PlanReadingBack.{plan_reads_back}
use Rattle.wh_text_lines.specs.PlanText.{plan_of, plan_text}
use Rattle.wh_text_lines.specs.declared.plan.Plan.{Plan}
use Rattle.wh_text_lines.specs.PlanReadsBack.{IsCertificateWritable, IsNodeWithin, IsPairWithin, IsWritable}
use Rattle.wh_text_lines.specs.ReadsBack.{IsWithin}
use Rattle.wh_load.specs.ReadingCertify.{claim_in, claim_of}
use Rattle.wh_text.specs.declared.fault.LoadFault.{LoadFault}
use Rattle.wh_load.specs.ReadingPlan.{Measured, MeasuredTexts, measured_in, measured_of, measured_texts_of}
use Rattle.wh_prune.specs.Plan.{accepted_for}
use Rattle.wh_strategy.proofs.Found.{has-head, has-tail, has_within}
use Rattle.wh_strategy.specs.Expression.{At}
use Rattle.wh_strategy.specs.Prices.{Prices, prices_of}
use Rattle.wh_strategy.specs.Rules.{IsCorrect}
use Rattle.wh_strategy.specs.declared.costs.Costs.{Costs}
use Rattle.wh_strategy.specs.declared.sizes.Size.{Size}
use Rattle.wh_strategy.specs.Sizes.{AreSizeRows, sizes_of}
use Rattle.wh_strategy.specs.declared.expression.Expression.{Expression}
use Rattle.wh_strategy.specs.declared.expression.Expression.TheVariants.{Comp, Inst}
use Rattle.wh_strategy.specs.declared.sizes.SizeRow.{SizeRow}
use Rattle.whview.proofs.ClearTexts.{plan_clear}
use Rattle.whview.proofs.PlacedPlans.{placed_texts, texts_with}
use Rattle.whview.proofs.NamesRead.{AreNames, is_clear, are_names, are_sizes, name-plain, name-unparted}
use Rattle.whview.proofs.SmallWorks.{work_fits}
use Rattle.whview.specs.CheckOutput.{IsFaultShown}
use Rattle.whview.specs.CertifyOutput.{IsJudgement, judged}
use Rattle.whview.specs.PlanCertified.{EndsLine, HasNoPlan, IsReadBackIn, LeastPlanIsCertified, PrintedPlanIsCertified, PrintedPlanIsReadBack, accepted_text, claim_with, plan_with, with_plan}
use Rattle.whview.specs.PlanOutput.{IsLeastFor, IsPlanned, planned, spent}
use Rattle.wh_text.specs.NameForm.{is_name}

-- ---- the list is of views

has_at : (us : List ℕ) (k d : ℕ) → k < length us → has us (get_or us k d) ≡ true
has_at [] k d l = absurd (omega arith)
has_at (u ∷ us) zero d l = has-head u us
has_at (u ∷ us) (suc k) d l = has-tail u (get_or us k d) us (has_at us k d (omega arith))

list_within : (shape : List (List ℕ)) (list : List Expression) (n : ℕ) → n ≡ length shape → IsShape shape → IsCorrect shape list → All (IsWithin n) list
list_within shape list n e sh co k d l = of (get_or list k d) (slice_get-get_or list k d l)
  where
    of : (x : Expression) → At list k x → IsWithin n x
    of (Comp v ys) at =
        let ok = co.allowed k v ys at in
        let inside : v < length shape = ok.0 in
        let some : 1 ≤ length ys = ok.1 in (
          omega arith,
          omega arith,
          λ i z m. let below : get_or ys i z < v = sh.lower v (get_or ys i z) (ok.3 (get_or ys i z) (has_at ys i z m)) in omega arith,
        )
    of (Inst v) at = let inside : v < length shape = co.views k v at in omega arith

-- ---- the sizes are small

small_pair : (rows : List SizeRow) (u w : ℕ) → AreSizeRows rows → pair_min (sizes_of rows) u w < 2 ^ 128
small_pair rows u w are =
    let first = sizes_are_light rows are u in
    let second = sizes_are_light rows are w in
    let before = second.light_before in
    let after = first.light_after in
    let other = first.light_before in
    let new = second.light_after in
    omega arith

-- ---- pairs are of views

passed : {X : Type 0} (p : X → Bool) (xs : List X) → All (λ x. p x ≡ true) (filter p xs)
passed p [] = All-nil (λ x. p x ≡ true)
passed p (x ∷ xs) = by (p x) refl (passed p xs)
  where
    by : (b : Bool) → p x ≡ b → All (λ x. p x ≡ true) (filter p xs) → All (λ x. p x ≡ true) (cond b (x ∷ filter p xs) (filter p xs))
    by true e rest = All-cons (λ x. p x ≡ true) x (filter p xs) e rest
    by false e rest = rest

siblings : (shape : List (List ℕ)) → All (λ pair. is_sibling_pair shape pair ≡ true) (sibling_pairs_of shape)
unfolding sibling_pairs_of
siblings shape = passed (is_sibling_pair shape) (triples_below (length shape))

pair_within : (shape : List (List ℕ)) (rows : List SizeRow) (n : ℕ) → n ≡ length shape → IsShape shape → AreSizeRows rows → (pair : SiblingPair) → is_sibling_pair shape pair ≡ true
    → IsPairWithin n (line_of (sizes_of rows) pair)
pair_within shape rows n e sh are pair h =
    let p = and_parts (nat_lt pair.lower pair.higher) (has (children_of shape pair.parent) pair.lower && has (children_of shape pair.parent) pair.higher) h in
    let q = and_parts (has (children_of shape pair.parent) pair.lower) (has (children_of shape pair.parent) pair.higher) p.1 in
    let v : pair.parent < length shape = has_within shape pair.parent pair.lower q.0 in
    let a : pair.lower < pair.parent = sh.lower pair.parent pair.lower q.0 in
    let b : pair.higher < pair.parent = sh.lower pair.parent pair.higher q.1 in
    by (comes_first (sizes_of rows) pair.lower pair.higher) (omega arith) (omega arith) (omega arith)
  where
    by : (b : Bool) → pair.parent < n → pair.lower < n → pair.higher < n → IsPairWithin n (cond b (line_in_order (sizes_of rows) pair.parent pair.lower pair.higher) (line_in_order (sizes_of rows) pair.parent pair.higher pair.lower))
    by true parent low high = record { parent = parent; first = low; second = high; least = small_pair rows pair.lower pair.higher are }
    by false parent low high = record { parent = parent; first = high; second = low; least = small_pair rows pair.higher pair.lower are }

pairs_within : (shape : List (List ℕ)) (rows : List SizeRow) (n : ℕ) → n ≡ length shape → IsShape shape → AreSizeRows rows → All (IsPairWithin n) (lines_of shape (sizes_of rows))
pairs_within shape rows n e sh are =
    All-map (IsPairWithin n) (line_of (sizes_of rows)) (sibling_pairs_of shape)
    (All-weaker (λ pair. is_sibling_pair shape pair ≡ true) (λ pair. IsPairWithin n (line_of (sizes_of rows) pair)) (pair_within shape rows n e sh are) (sibling_pairs_of shape) (siblings shape))

-- ---- the nodes of a tree are of views

node_within : (shape : List (List ℕ)) (n : ℕ) → n ≡ length shape → IsShape shape → (x : Expression) → IsNode shape x → IsWithin n x
node_within shape n e sh (Inst v) is = let inside : v < length shape = is in omega arith
node_within shape n e sh (Comp v ys) is =
    let u : ℕ = is.0 in
    let inside : v < length shape = has_within shape v u is.2 in
    let below : u < v = sh.lower v u is.2 in (
      omega arith,
      subst (λ zs. 0 < length zs) (sym is.1) (omega arith),
      subst (All (λ source. source < n)) (sym is.1) (All-cons (λ source. source < n) u [] (omega arith) (All-nil (λ source. source < n))),
    )

leads_within : (shape : List (List ℕ)) (n : ℕ) → n ≡ length shape → IsShape shape → (decided : List (ℕ × ℕ)) (x : Expression) (ys : List Expression) (z : Expression) → Leads shape decided x ys z → All (IsWithin n) ys
leads_within shape n e sh decided x [] z h = All-nil (IsWithin n)
leads_within shape n e sh decided x (y ∷ ys) z h = All-cons (IsWithin n) y ys (node_within shape n e sh y h.0) (leads_within shape n e sh decided y ys z h.2)

cycle_within : (shape : List (List ℕ)) (n : ℕ) → n ≡ length shape → IsShape shape → (decided : List (ℕ × ℕ)) (list : List Expression) → IsCycle shape decided list → IsNodeWithin n (node.Cycle list)
cycle_within shape n e sh decided [] h = absurd h
cycle_within shape n e sh decided (x ∷ xs) h = (omega arith, All-cons (IsWithin n) x xs (node_within shape n e sh x h.0) (leads_within shape n e sh decided x xs x h.1))

branch_within : (shape : List (List ℕ)) (n : ℕ) → n ≡ length shape → IsShape shape → (couple : Couple) → is_couple shape couple ≡ true → IsNodeWithin n (node.Branch couple)
branch_within shape n e sh couple h =
    let parent = has_parent shape couple.lower couple.higher (and_parts (nat_lt couple.lower couple.higher) (have_parent shape couple.lower couple.higher) h).1 in
    let inside : parent.0 < length shape = parent.1 in
    let low : couple.lower < parent.0 = sh.lower parent.0 couple.lower parent.2 in
    let high : couple.higher < parent.0 = sh.lower parent.0 couple.higher parent.3 in
    (omega arith, omega arith)

each_parts : (P : Placed → Type 0) (xs ys : List Placed) → Each P (xs ++ ys) → Each P xs × Each P ys
each_parts P [] ys h = (tt, h)
each_parts P (x ∷ xs) ys h = let parts = each_parts P xs ys h.1 in ((h.0, parts.0), parts.1)

tree_within : (shape : List (List ℕ)) (sizes : ℕ → Size) (prices : Prices) (work n : ℕ) → n ≡ length shape → IsShape shape → (above : List (ℕ × ℕ)) (tree : CaseTree)
    → Each (IsGoodNode shape sizes prices work) (nodes_below above tree) → All (IsNodeWithin n) (preorder tree)
tree_within shape sizes prices work n e sh above Bound good = All-cons (IsNodeWithin n) node.Bound [] tt (All-nil (IsNodeWithin n))
tree_within shape sizes prices work n e sh above (Cycle list) good =
    All-cons (IsNodeWithin n) (node.Cycle list) [] (cycle_within shape n e sh above list good.0) (All-nil (IsNodeWithin n))
tree_within shape sizes prices work n e sh above (Branch couple left right) good =
    let free : IsOpen shape above couple = good.0 in
    let parts = each_parts (IsGoodNode shape sizes prices work) (nodes_below (lower_first couple ∷ above) left) (nodes_below (higher_first couple ∷ above) right) good.1 in
    All-cons (IsNodeWithin n) (node.Branch couple) (preorder left ++ preorder right) (branch_within shape n e sh couple free.couple)
    (All-append (IsNodeWithin n) (preorder left) (preorder right)
    (tree_within shape sizes prices work n e sh (lower_first couple ∷ above) left parts.0)
    (tree_within shape sizes prices work n e sh (higher_first couple ∷ above) right parts.1))

-- ---- the certificate can be written

writable_certificate : (names shape : List (List ℕ)) (rows : List SizeRow) (prices : Prices) (work : ℕ) → length names ≡ length shape → All (λ name. is_name name ≡ true) names
    → IsShape shape → AreSizeRows rows → (own : Scope) (certificate : Certificate) → IsJudged shape (sizes_of rows) prices work certificate (accepted_for own)
    → IsCertificateWritable names own certificate
writable_certificate names shape rows prices work e formed sh are scope.All (Pairs lines) j =
    subst (All (IsPairWithin (length names))) (sym j.right) (pairs_within shape rows (length names) e sh are)
writable_certificate names shape rows prices work e formed sh are scope.All (Search nodes) j = absurd j
writable_certificate names shape rows prices work e formed sh are scope.OneWay (Pairs lines) j = absurd j
writable_certificate names shape rows prices work e formed sh are scope.OneWay (Search nodes) j =
    record {
      unparted = All-weaker _ _ name-unparted names formed;
      within = subst (All (IsNodeWithin (length names))) j.0.0
          (tree_within shape (sizes_of rows) prices work (length names) e sh [] (tree_of nodes)
          (each_of_all (IsGoodNode shape (sizes_of rows) prices work) (nodes_below [] (tree_of nodes)) j.1));
      tree = tree_of nodes;
      whole = j.0;
    }

-- what is known of views and sizes that were read
record IsRead (measured : Measured) : Type 0 where
  names : AreNames measured.shape
  shape : IsShape measured.shape.children
  sizes : AreSizeRows measured.sizes

is_read : (bytes : List ℕ) (measured : Measured) → measured_of bytes ≡ Ok measured → IsRead measured
is_read bytes measured e =
    let texts = from_step (measured_texts_of bytes) measured_in measured e in
    let shape = from_step (shape_of texts.0.catalogue) _ measured texts.2 in
    let sizes = from_step (sizes_of_text shape.0.names texts.0.sizes) _ measured shape.2 in
    subst IsRead (same_Ok _ _ _ refl sizes.2)
    (record {
      names = are_names texts.0.catalogue shape.0 shape.1;
      shape = is_shape texts.0.catalogue shape.0 shape.1;
      sizes = are_sizes shape.0.names texts.0.sizes sizes.0 sizes.1;
    })

is_writable : (prices : Prices) (measured : Measured) (work : ℕ) (own : Scope) (list : List Expression) (certificate : Certificate) → IsRead measured
    → IsLeastFor prices measured work own list certificate → work < 2 ^ 128 → IsWritable measured.shape.names own work list certificate
is_writable prices measured work own list certificate read least fits =
    record {
      plain = All-weaker _ _ name-plain measured.shape.names read.names.formed;
      distinct = read.names.distinct;
      work_fits = fits;
      list_within = list_within measured.shape.children list (length measured.shape.names) read.names.many read.shape least.correct;
      certified = writable_certificate measured.shape.names measured.shape.children measured.sizes prices work read.names.many read.names.formed read.shape read.sizes own certificate least.accepted;
    }

small_work : (costs : Costs) (measured : Measured) (work : ℕ) (own : Scope) (list : List Expression) (certificate : Certificate) → IsRead measured
    → IsLeastFor (prices_of costs) measured work own list certificate → work < 2 ^ 128
small_work costs measured work own list certificate is least =
    subst (λ w. w < 2 ^ 128) (sym least.worked) (work_fits measured.shape.children measured.sizes costs list is.shape is.sizes least.correct least.one_way)

pub printed_plan_is_read_back : PrintedPlanIsReadBack
printed_plan_is_read_back costs bytes measured work own list certificate read least =
    let is = is_read bytes measured read in
    plan_reads_back measured.shape.names own work list certificate
    (is_writable (prices_of costs) measured work own list certificate is least (small_work costs measured work own list certificate is least))

-- ---- and it is certified

pub least_plan_is_certified : LeastPlanIsCertified
least_plan_is_certified costs measured work scope.All list certificate least =
    judged (accepted_for scope.All) least.correct (sym least.worked)
    (subst (λ w. IsJudged measured.shape.children (sizes_of measured.sizes) (prices_of costs) w certificate (accepted_for scope.All)) least.worked least.accepted)
    (least.least_of_all refl) refl refl
least_plan_is_certified costs measured work scope.OneWay list certificate least =
    judged (accepted_for scope.OneWay) least.correct (sym least.worked)
    (subst (λ w. IsJudged measured.shape.children (sizes_of measured.sizes) (prices_of costs) w certificate (accepted_for scope.OneWay)) least.worked least.accepted)
    least.least_one_way refl refl

-- what is read of the texts, and of that of a plan
claim_read : (texts : MeasuredTexts) (measured : Measured) (text : List ℕ) (plan : Plan) → measured_in texts ≡ Ok measured → plan_of measured.shape.names text ≡ Ok plan
    → claim_in (texts_with texts text) ≡ Ok (claim_with measured plan)
claim_read texts measured text plan read said = rw (read, said) refl

-- a plan that was printed
of_plan : (costs : Costs) (bytes text : List ℕ) (texts : MeasuredTexts) (measured : Measured) (work : ℕ) (own : Scope) (list : List Expression) (certificate : Certificate)
    → EndsLine bytes → HasNoPlan bytes → measured_texts_of bytes ≡ Ok texts → measured_in texts ≡ Ok measured
    → IsLeastFor (prices_of costs) measured work own list certificate → text ≡ plan_text measured.shape.names own work list certificate
    → IsReadBackIn costs bytes text (with_plan bytes text)
of_plan costs bytes text texts measured work own list certificate ends no_plan found read least printed =
    let whole : measured_of bytes ≡ Ok measured = ap (λ r. r >>= measured_in) found ∙ read in
    let is = is_read bytes measured whole in
    let written = is_writable (prices_of costs) measured work own list certificate is least (small_work costs measured work own list certificate is least) in
    let clear : list_all is_clear text ≡ true = subst (λ t. list_all is_clear t ≡ true) (sym printed) (plan_clear measured.shape.names is.names.formed own work list certificate written) in
    let back : plan_of measured.shape.names text ≡ Ok (plan_with own work list certificate) =
    ap (plan_of measured.shape.names) printed ∙ printed_plan_is_read_back costs bytes measured work own list certificate whole least in
    let claimed : claim_of (with_plan bytes text) ≡ Ok (claim_with measured (plan_with own work list certificate)) =
    ap (λ r. r >>= claim_in) (placed_texts bytes text texts ends no_plan clear found) ∙ claim_read texts measured text (plan_with own work list certificate) read back in
    record {
      measured = measured;
      work = work;
      scope = own;
      list = list;
      certificate = certificate;
      asked = whole;
      least = least;
      printed = printed;
      read = claimed;
      certified = subst (λ r. MatchResult r (λ claim. IsJudgement costs claim (accepted_text own work) 0) (λ fault. IsFaultShown fault (accepted_text own work) 0)) (sym claimed)
          (least_plan_is_certified costs measured work own list certificate least);
    }

of_planned : (costs : Costs) (budget : ℕ) (bytes text : List ℕ) (texts : MeasuredTexts) (measured : Measured) → EndsLine bytes → HasNoPlan bytes → measured_texts_of bytes ≡ Ok texts → measured_in texts ≡ Ok measured
    → IsPlanned (prices_of costs) budget measured text 0 → IsReadBackIn costs bytes text (with_plan bytes text)
of_planned costs budget bytes text texts measured ends no_plan found read (planned work own list certificate least by_order within t s) =
    of_plan costs bytes text texts measured work own list certificate ends no_plan found read least t
of_planned costs budget bytes text texts measured ends no_plan found read (spent opened best cyclic is t s) = absurd (omega arith)

pub printed_plan_is_certified : PrintedPlanIsCertified
printed_plan_is_certified costs budget bytes text ends no_plan output = by (measured_of bytes) refl output
  where
    by : (r : Result Measured LoadFault) → measured_of bytes ≡ r → MatchResult r (λ measured. IsPlanned (prices_of costs) budget measured text 0) (λ fault. IsFaultShown fault text 0)
        → IsReadBackIn costs bytes text (with_plan bytes text)
    by (Ok measured) read is =
        let step = from_step (measured_texts_of bytes) measured_in measured read in
        of_planned costs budget bytes text step.0 measured ends no_plan step.1 step.2 is
    by (Err fault) read is = let other : 0 ≡ 3 = is.ended in absurd (omega arith)
