-- A text is read as the plan that its lines say, and else is at fault where they stop being one.
use Rattle.std.proofs.Common.{◌≡◌, ℕ, true, List, [], ◌∷◌, ◌++◌, length, map, Option, Some, None, Result, Ok, Err, refl, ap, sym, subst, ◌∙◌, arith}
use Rattle.std.specs.Prelude.{◌&&◌, is_some, nat_lt, option_and_then}
use Rattle.std.specs.List.{flat_map}
use Rattle.std.proofs.lemmas.Bool.{and_parts, lt-ltb}
use Rattle.std.proofs.lemmas.Grind.{flat_map-append}
use Rattle.std.proofs.lemmas.List.{append-nil, append_assoc}
use Rattle.wh_cert.specs.declared.certificate.Certificate.{Certificate}
use Rattle.wh_cert.specs.declared.certificate.Certificate.TheVariants.{Pairs, Search}
use Rattle.wh_cert.specs.declared.certificate.PairMin.{PairMin}
use Rattle.wh_cert.specs.declared.certificate.Scope.{Scope}
use Rattle.wh_cert.specs.declared.certificate.Scope.TheVariants as scope
use Rattle.wh_cert.specs.declared.tree.TreeNode.{TreeNode}
use Rattle.wh_strategy.specs.declared.expression.Expression.{Expression}
use Rattle.wh_text.specs.declared.fault.LoadFault.{LoadFault}
use Rattle.wh_text.specs.declared.fault.LoadFault.TheVariants.{Plan as PlanFault}
use Rattle.wh_text_lines.specs.LineGrammar.{Say, SayWhole, read_by}
use Rattle.wh_text_lines.specs.ListedLines.{told_in}
use Rattle.wh_text_lines.specs.Inner.ListedLines.{each_follows}
use Rattle.wh_text_lines.specs.PlanGrammar.{BeginPlan, IsForScope, IsWhole, PlanFaults, PlanGrammar, SayPlan, plan_lines}
use Rattle.wh_text_lines.specs.PlanLine.{plan_line_of}
use Rattle.wh_text_lines.specs.PlanText.{listed_in, may_end, may_follow, may_stand, nodes_in, nodes_of, pairs_in, plan_from, plan_grammar, plan_of, plan_said}
use Rattle.wh_text_lines.specs.TreeGrowth.{after_nodes, are_taken, begins_tree, is_tree, places_after}
use Rattle.wh_text_lines.specs.Words.{lines_of}
use Rattle.wh_text_lines.specs.declared.plan.Plan.{Plan}
use Rattle.wh_text_lines.specs.declared.plan.line.PlanLine.{PlanLine}
use Rattle.wh_text_lines.specs.declared.plan.line.PlanLine.TheVariants.{Scoped, Worked, Listed, Paired, Searched}
use Rattle.wh_text_lines.proofs.BegunTrees.{begun_trees}
use Rattle.wh_text_lines.proofs.LineGrammars.{lines_read, lines_stop, stop_so}
use Rattle.wh_text_lines.proofs.ListedLines.{comes, reads}
use Rattle.wh_text_lines.proofs.PlanForms.{Form, Whole, begins_plan, form_above, form_more, form_of, line_stands, more, nothing, plan_in, plan_in-lines, plan_in-scope, scope_alone}
use Rattle.wh_text_lines.proofs.TreeGrowths.{after_nodes-append}
use Rattle.wh_text_lines.proofs.WholeTrees.{tree_from, whole_trees}

-- ---- first lines of a plan, with their nodes

record IsStart (said : List PlanLine) : Type 0 where
  pub form : Form said
  pub begun : begins_tree (nodes_of said) ≡ true

no_lines : IsStart []
no_lines = record { form = nothing refl; begun = refl }

some_before : (others : List TreeNode) (places : Option (List ℕ)) → is_some (option_and_then (after_nodes others) places) ≡ true → is_some places ≡ true
some_before others None h = cc
some_before others (Some own) h = refl

nodes_above : (nodes others : List TreeNode) → begins_tree (nodes ++ others) ≡ true → begins_tree nodes ≡ true
nodes_above nodes others h = some_before others (places_after nodes) (ap is_some (sym (after_nodes-append nodes others (1 ∷ []))) ∙ h)

start_above : (said below : List PlanLine) → IsStart (said ++ below) → IsStart said
start_above said below start =
    record { form = form_above said below start.form; begun = nodes_above (nodes_of said) (nodes_of below) (ap begins_tree (sym (flat_map-append nodes_in said below)) ∙ start.begun) }

start_more : (before : List PlanLine) (line : PlanLine) → IsStart before → may_follow before line ≡ true → IsStart (before ++ line ∷ [])
start_more before line start h =
    let parts = and_parts (may_stand before line) (begins_tree (nodes_of (before ++ line ∷ []))) h in
    record { form = form_more before line start.form parts.0; begun = parts.1 }

line_follows : (before : List PlanLine) (line : PlanLine) → IsStart (before ++ line ∷ []) → may_follow before line ≡ true
line_follows before line start =
    ap (λ b. b && begins_tree (nodes_of (before ++ line ∷ []))) (line_stands before line start.form) ∙ start.begun

-- ---- lines of which each may follow are first lines of a plan

follows_start : (before own : List PlanLine) → IsStart before → each_follows may_follow before own ≡ true → IsStart (before ++ own)
follows_start before [] start each = subst IsStart (sym (append-nil before)) start
follows_start before (line ∷ own) start each =
    let both = and_parts (may_follow before line) (each_follows may_follow (before ++ line ∷ []) own) each in
    subst IsStart (append_assoc before (line ∷ []) own) (follows_start (before ++ line ∷ []) own (start_more before line start both.0) both.1)

start_follows : (before own : List PlanLine) → IsStart (before ++ own) → each_follows may_follow before own ≡ true
start_follows before [] start = refl
start_follows before (line ∷ own) start =
    let next : IsStart ((before ++ line ∷ []) ++ own) = subst IsStart (sym (append_assoc before (line ∷ []) own)) start in
    ap (λ b. b && each_follows may_follow (before ++ line ∷ []) own) (line_follows before line (start_above (before ++ line ∷ []) own next))
    ∙ start_follows (before ++ line ∷ []) own next

-- lines say these, and they are first lines of a plan
record Told (names : List (List ℕ)) (lines : List (List ℕ)) (said : List PlanLine) : Type 0 where
  told : told_in (plan_line_of names) lines ≡ map Some said
  start : IsStart said

-- lines that are read say such
read_told : (names lines : List (List ℕ)) (said : List PlanLine) → Say (plan_grammar names) lines said → Told names lines said
read_told names lines said e =
    let came = comes PlanLine (plan_line_of names) may_follow may_end PlanFault lines [] said e in
    record { told = came.told ∙ ap (map Some) (sym came.same); start = subst IsStart (sym came.same) (follows_start [] came.own no_lines came.each) }

-- lines that say such are read
told_read : (names lines : List (List ℕ)) (said : List PlanLine) → Told names lines said → Say (plan_grammar names) lines said
told_read names lines said h = reads PlanLine (plan_line_of names) may_follow may_end PlanFault lines [] said h.told (start_follows [] said h.start)

-- ---- the beginning of a plan, as it is defined

-- the lines may stand one below another
abbrev Stand : List (List ℕ) → List (List ℕ) → Type 0
Stand names lines = (said : List PlanLine) × Say (plan_grammar names) lines said

stand_begun : (names lines : List (List ℕ)) → Stand names lines → BeginPlan names lines
stand_begun names lines h =
    let own = read_told names lines h.0 h.1 in
    let plan = begins_plan h.0 own.start.form in
    record { plan = plan.plan; first = h.0; rest = plan.rest; parts = plan.parts; for_scope = plan.for_scope; told = own.told; begun = (begun_trees (nodes_of h.0)).0 own.start.begun }

begun_stand : (names lines : List (List ℕ)) → BeginPlan names lines → Stand names lines
begun_stand names lines h =
    let start : IsStart h.first = record { form = form_of h.first h.rest h.plan h.parts h.for_scope; begun = (begun_trees (nodes_of h.first)).1 h.begun } in
    (h.first, told_read names lines h.first (record { told = h.told; start = start }))

-- ---- what the lines of a plan say together

listed_all : {A : Type 0} (f : A → PlanLine) → ((a : A) → listed_in (f a) ≡ []) → (list : List Expression) (items : List A) → flat_map listed_in (map Listed list ++ map f items) ≡ list
listed_all f none [] [] = refl
listed_all f none [] (item ∷ items) = rw (none item) (listed_all f none [] items)
listed_all f none (e ∷ list) items = ap (λ es. e ∷ es) (listed_all f none list items)

paired_all : (list : List Expression) (pairs : List PairMin) → flat_map pairs_in (map Listed list ++ map Paired pairs) ≡ pairs
paired_all [] [] = refl
paired_all [] (p ∷ ps) = ap (λ rest. p ∷ rest) (paired_all [] ps)
paired_all (e ∷ es) pairs = paired_all es pairs

no_nodes : (list : List Expression) (pairs : List PairMin) → nodes_of (map Listed list ++ map Paired pairs) ≡ []
no_nodes [] [] = refl
no_nodes [] (p ∷ ps) = no_nodes [] ps
no_nodes (e ∷ es) pairs = no_nodes es pairs

searched_all : (list : List Expression) (nodes : List TreeNode) → nodes_of (map Listed list ++ map Searched nodes) ≡ nodes
searched_all [] [] = refl
searched_all [] (n ∷ ns) = ap (λ rest. n ∷ rest) (searched_all [] ns)
searched_all (e ∷ es) nodes = searched_all es nodes

-- the plan that its own lines say
plan_again : (own : Scope) (work : ℕ) (list : List Expression) (certificate : Certificate) → IsForScope own certificate
    → plan_from (plan_lines (record { scope = own; work = work; strategy = list; certificate = certificate })) ≡ record { scope = own; work = work; strategy = list; certificate = certificate }
plan_again scope.All work list (Pairs pairs) fits =
    ap (λ l. record { scope = scope.All; work = work; strategy = l; certificate = Pairs (flat_map pairs_in (map Listed list ++ map Paired pairs)) }) (listed_all Paired (λ _. refl) list pairs)
    ∙ ap (λ ps. record { scope = scope.All; work = work; strategy = list; certificate = Pairs ps }) (paired_all list pairs)
plan_again scope.OneWay work list (Search nodes) fits =
    ap (λ l. record { scope = scope.OneWay; work = work; strategy = l; certificate = Search (nodes_of (map Listed list ++ map Searched nodes)) }) (listed_all Searched (λ _. refl) list nodes)
    ∙ ap (λ ns. record { scope = scope.OneWay; work = work; strategy = list; certificate = Search ns }) (searched_all list nodes)
plan_again scope.All work list (Search nodes) fits = absurd fits
plan_again scope.OneWay work list (Pairs pairs) fits = absurd fits

-- what a plan has to say to be whole
ends_whole : (own : Scope) (work : ℕ) (list : List Expression) (certificate : Certificate) → IsForScope own certificate
    → may_end (plan_lines (record { scope = own; work = work; strategy = list; certificate = certificate })) ≡ true → IsWhole certificate
ends_whole scope.All work list (Pairs pairs) fits end = tt
ends_whole scope.OneWay work list (Search nodes) fits end =
    let lines = map Listed list ++ map Searched nodes in
    let whole : is_tree (nodes_of lines) ≡ true = (and_parts (nat_lt 1 (length (Scoped scope.OneWay ∷ Worked work ∷ lines))) (is_tree (nodes_of lines)) end).1 in
    tree_from nodes (ap is_tree (sym (searched_all list nodes)) ∙ whole)
ends_whole scope.All work list (Search nodes) fits end = absurd fits
ends_whole scope.OneWay work list (Pairs pairs) fits end = absurd fits

whole_ends : (own : Scope) (work : ℕ) (list : List Expression) (certificate : Certificate) → IsForScope own certificate → IsWhole certificate
    → may_end (plan_lines (record { scope = own; work = work; strategy = list; certificate = certificate })) ≡ true
whole_ends scope.All work list (Pairs pairs) fits whole = rw (lt-ltb 1 (length (Scoped scope.All ∷ Worked work ∷ (map Listed list ++ map Paired pairs))) (omega arith)) refl
whole_ends scope.OneWay work list (Search nodes) fits whole =
    rw (lt-ltb 1 (length (Scoped scope.OneWay ∷ Worked work ∷ (map Listed list ++ map Searched nodes))) (omega arith))
    (ap is_tree (searched_all list nodes) ∙ (whole_trees nodes).1 whole)
whole_ends scope.All work list (Search nodes) fits whole = absurd fits
whole_ends scope.OneWay work list (Pairs pairs) fits whole = absurd fits

some_left : (nodes : List TreeNode) → is_tree nodes ≡ true → begins_tree nodes ≡ true
some_left nodes h = by (places_after nodes) h
  where
    by : (places : Option (List ℕ)) → are_taken places ≡ true → is_some places ≡ true
    by None h = cc
    by (Some left) h = refl

whole_begins : (own : Scope) (work : ℕ) (list : List Expression) (certificate : Certificate) → IsForScope own certificate → IsWhole certificate
    → begins_tree (nodes_of (plan_lines (record { scope = own; work = work; strategy = list; certificate = certificate }))) ≡ true
whole_begins scope.All work list (Pairs pairs) fits whole = ap begins_tree (no_nodes list pairs)
whole_begins scope.OneWay work list (Search nodes) fits whole = ap begins_tree (searched_all list nodes) ∙ some_left nodes ((whole_trees nodes).1 whole)
whole_begins scope.All work list (Search nodes) fits whole = absurd fits
whole_begins scope.OneWay work list (Pairs pairs) fits whole = absurd fits

-- ---- the grammar

-- the lines of a plan are read
said_plan : (names lines : List (List ℕ)) (plan : Plan) → SayPlan names lines plan → SayWhole (plan_grammar names) lines (plan_lines plan)
said_plan names lines plan h =
    let start : IsStart (plan_lines plan) = record {
      form = form_of (plan_lines plan) [] plan (sym (append-nil (plan_lines plan))) h.for_scope;
      begun = whole_begins plan.scope plan.work plan.strategy plan.certificate h.for_scope h.whole;
    } in
    (told_read names lines (plan_lines plan) (record { told = h.told; start = start }), whole_ends plan.scope plan.work plan.strategy plan.certificate h.for_scope h.whole)

plan_read : (names : List (List ℕ)) (text : List ℕ) (plan : Plan) → SayPlan names (lines_of text) plan → plan_of names text ≡ Ok plan
plan_read names text plan h =
    ap plan_said ((lines_read (List PlanLine) (plan_grammar names) text (plan_lines plan)).1 (said_plan names (lines_of text) plan h))
    ∙ ap Ok (plan_again plan.scope plan.work plan.strategy plan.certificate h.for_scope)

-- lines that may end are those of a plan
whole_form : (said : List PlanLine) → Form said → may_end said ≡ true → Whole said
whole_form said (nothing e) end = let no = ap may_end (sym e) ∙ end in cc
whole_form said (scope_alone own e) end = let no = ap may_end (sym e) ∙ end in cc
whole_form said (more whole) end = whole

plan_said_by : (names lines : List (List ℕ)) (said : List PlanLine) → Told names lines said → may_end said ≡ true → SayPlan names lines (plan_from said)
plan_said_by names lines said h end =
    let whole = whole_form said h.start.form end in
    let plan = plan_in said whole in
    let same : said ≡ plan_lines plan = plan_in-lines said whole in
    let fits = plan_in-scope said whole in
    let again : plan ≡ plan_from said = sym (ap plan_from same ∙ plan_again plan.scope plan.work plan.strategy plan.certificate fits) in
    subst (SayPlan names lines) again (record {
      told = h.told ∙ ap (map Some) same;
      for_scope = fits;
      whole = ends_whole plan.scope plan.work plan.strategy plan.certificate fits (ap may_end (sym same) ∙ end);
    })

plan_told : (names : List (List ℕ)) (text : List ℕ) (plan : Plan) (outcome : Result (List PlanLine) LoadFault) → read_by (plan_grammar names) text ≡ outcome → plan_said outcome ≡ Ok plan
    → SayPlan names (lines_of text) plan
plan_told names text plan (Ok said) read e =
    let same : plan_from said ≡ plan = cc in
    let whole = (lines_read (List PlanLine) (plan_grammar names) text said).0 read in
    subst (SayPlan names (lines_of text)) same (plan_said_by names (lines_of text) said (read_told names (lines_of text) said whole.0) whole.1)
plan_told names text plan (Err fault) read e = cc

pub plan_grammar_holds : PlanGrammar
plan_grammar_holds names text plan = (plan_told names text plan (read_by (plan_grammar names) text) refl, plan_read names text plan)

plan_stops : (names : List (List ℕ)) (text : List ℕ) (fault : LoadFault) (outcome : Result (List PlanLine) LoadFault) → read_by (plan_grammar names) text ≡ outcome → plan_said outcome ≡ Err fault
    → read_by (plan_grammar names) text ≡ Err fault
plan_stops names text fault (Ok said) read e = cc
plan_stops names text fault (Err own) read e =
    let same : own ≡ fault = cc in
    read ∙ ap Err same

pub plan_faults : PlanFaults
plan_faults names text fault e =
    let grammar = plan_grammar names in
    let lines = lines_of text in
    let stop = lines_stop (List PlanLine) grammar text fault (plan_stops names text fault (read_by grammar text) refl e) in (
      stop.0,
      stop.1,
      stop_so (Stand names) (λ ls. (said : List PlanLine) × SayWhole grammar ls said) (BeginPlan names) (λ ls. (plan : Plan) × SayPlan names ls plan) lines stop.0
          (stand_begun names) (begun_stand names) (λ h. (plan_lines h.0, said_plan names lines h.0 h.1)) stop.2,
    )
