-- What a plan's first lines may be, line by line.
use Rattle.std.proofs.Common.{◌≡◌, ℕ, ◌<◌, ◌==◌, Bool, true, false, not, List, [], ◌∷◌, ◌++◌, length, map, ◌⊎◌, inl, inr, refl, ap, sym, subst, ◌∙◌, arith}
use Rattle.std.specs.Prelude.{nat_lt}
use Rattle.std.specs.List.{list_any}
use Rattle.std.proofs.lemmas.Bool.{and_parts, lt-ltb}
use Rattle.std.proofs.lemmas.Bool.Decides.{eqb_tells}
use Rattle.std.proofs.lemmas.List.{append-nil, append_assoc, map-append}
use Rattle.wh_cert.specs.declared.certificate.Certificate.{Certificate}
use Rattle.wh_cert.specs.declared.certificate.Certificate.TheVariants.{Pairs, Search}
use Rattle.wh_cert.specs.declared.certificate.Scope.{Scope}
use Rattle.wh_cert.specs.declared.certificate.Scope.TheVariants as scope
use Rattle.wh_strategy.specs.declared.expression.Expression.{Expression}
use Rattle.wh_text_lines.specs.PlanGrammar.{IsForScope, certificate_lines, plan_lines}
use Rattle.wh_text_lines.specs.PlanText.{has_pairs, is_certifying, may_stand}
use Rattle.wh_text_lines.specs.declared.plan.Plan.{Plan}
use Rattle.wh_text_lines.specs.declared.plan.line.PlanLine.{PlanLine}
use Rattle.wh_text_lines.specs.declared.plan.line.PlanLine.TheVariants.{Scoped, Worked, Listed, Paired, Searched}

-- lines below the scope and the work: a list, and a certificate for the scope
pub record Body (own : Scope) (lines : List PlanLine) : Type 0 where
  pub list : List Expression
  pub certificate : Certificate
  pub same : lines ≡ map Listed list ++ certificate_lines certificate
  pub for_scope : IsForScope own certificate

-- the scope, the work and what stands below them
pub record Whole (said : List PlanLine) : Type 0 where
  pub own : Scope
  pub work : ℕ
  pub lines : List PlanLine
  pub same : said ≡ Scoped own ∷ Worked work ∷ lines
  pub body : Body own lines

-- first lines of a plan: none, its scope, or the scope and the work with others
pub data Form (said : List PlanLine) : Type 0 where
  nothing : said ≡ [] → Form said
  scope_alone : (own : Scope) → said ≡ Scoped own ∷ [] → Form said
  more : Whole said → Form said

-- ---- the beginning of a plan has such a form

mapped_start : {A : Type 0} (f : A → PlanLine) (lines rest : List PlanLine) (items : List A) → lines ++ rest ≡ map f items → (own : List A) × (lines ≡ map f own)
mapped_start f [] rest items e = ([], refl)
mapped_start f (line ∷ lines) rest [] e = cc
mapped_start f (line ∷ lines) rest (item ∷ items) e =
    let first : line ≡ f item = cc in
    let below : lines ++ rest ≡ map f items = cc in
    let own = mapped_start f lines rest items below in
    (item ∷ own.0, ap (λ l. l ∷ lines) first ∙ ap (λ ls. f item ∷ ls) own.1)

certificate_start : (own : Scope) (lines rest : List PlanLine) (certificate : Certificate) → IsForScope own certificate → lines ++ rest ≡ certificate_lines certificate → Body own lines
certificate_start scope.All lines rest (Pairs pairs) fits e =
    let start = mapped_start Paired lines rest pairs e in
    record { list = []; certificate = Pairs start.0; same = start.1; for_scope = tt }
certificate_start scope.OneWay lines rest (Search nodes) fits e =
    let start = mapped_start Searched lines rest nodes e in
    record { list = []; certificate = Search start.0; same = start.1; for_scope = tt }
certificate_start scope.All lines rest (Search nodes) fits e = absurd fits
certificate_start scope.OneWay lines rest (Pairs pairs) fits e = absurd fits

empty_body : (own : Scope) → Body own []
empty_body scope.All = record { list = []; certificate = Pairs []; same = refl; for_scope = tt }
empty_body scope.OneWay = record { list = []; certificate = Search []; same = refl; for_scope = tt }

-- an expression above
with_listed : (own : Scope) (lines : List PlanLine) (line : PlanLine) (e : Expression) → line ≡ Listed e → Body own lines → Body own (line ∷ lines)
with_listed own lines line e first body =
    record { list = e ∷ body.list; certificate = body.certificate; same = ap (λ l. l ∷ lines) first ∙ ap (λ ls. Listed e ∷ ls) body.same; for_scope = body.for_scope }

body_start : (own : Scope) (lines rest : List PlanLine) (list : List Expression) (certificate : Certificate) → IsForScope own certificate
    → lines ++ rest ≡ map Listed list ++ certificate_lines certificate → Body own lines
body_start own lines rest [] certificate fits e = certificate_start own lines rest certificate fits e
body_start own [] rest (x ∷ list) certificate fits e = empty_body own
body_start own (line ∷ lines) rest (x ∷ list) certificate fits e =
    let first : line ≡ Listed x = cc in
    let below : lines ++ rest ≡ map Listed list ++ certificate_lines certificate = cc in
    with_listed own lines line x first (body_start own lines rest list certificate fits below)

pub form_of : (said rest : List PlanLine) (plan : Plan) → plan_lines plan ≡ said ++ rest → IsForScope plan.scope plan.certificate → Form said
form_of [] rest plan e fits = nothing refl
form_of (line ∷ []) rest plan e fits =
    let first : line ≡ Scoped plan.scope = cc in
    scope_alone plan.scope (ap (λ l. l ∷ []) first)
form_of (line ∷ second ∷ lines) rest plan e fits =
    let first : line ≡ Scoped plan.scope = cc in
    let next : second ≡ Worked plan.work = cc in
    let below : lines ++ rest ≡ map Listed plan.strategy ++ certificate_lines plan.certificate = cc in
    more (record {
      own = plan.scope;
      work = plan.work;
      lines = lines;
      same = ap (λ l. l ∷ second ∷ lines) first ∙ ap (λ l. Scoped plan.scope ∷ l ∷ lines) next;
      body = body_start plan.scope lines rest plan.strategy plan.certificate fits below;
    })

-- ---- and what has such a form begins a plan

-- the plan that lines begin
pub record Begins (said : List PlanLine) : Type 0 where
  pub plan : Plan
  pub rest : List PlanLine
  pub parts : plan_lines plan ≡ said ++ rest
  pub for_scope : IsForScope plan.scope plan.certificate

begins_scope : (own : Scope) → Begins (Scoped own ∷ [])
begins_scope own =
    let body = empty_body own in
    record {
      plan = record { scope = own; work = 0; strategy = body.list; certificate = body.certificate };
      rest = Worked 0 ∷ [];
      parts = ap (λ ls. Scoped own ∷ Worked 0 ∷ ls) (sym body.same);
      for_scope = body.for_scope;
    }

-- the plan of a whole form
pub plan_in : (said : List PlanLine) → Whole said → Plan
plan_in said h = record { scope = h.own; work = h.work; strategy = h.body.list; certificate = h.body.certificate }

pub plan_in-lines : (said : List PlanLine) (h : Whole said) → said ≡ plan_lines (plan_in said h)
unfolding plan_in
plan_in-lines said h = h.same ∙ ap (λ ls. Scoped h.own ∷ Worked h.work ∷ ls) h.body.same

pub plan_in-scope : (said : List PlanLine) (h : Whole said) → IsForScope (plan_in said h).scope (plan_in said h).certificate
unfolding plan_in
plan_in-scope said h = h.body.for_scope

pub begins_plan : (said : List PlanLine) → Form said → Begins said
begins_plan said (nothing e) =
    let first = begins_scope scope.All in
    subst Begins (sym e) (record { plan = first.plan; rest = Scoped scope.All ∷ first.rest; parts = first.parts; for_scope = first.for_scope })
begins_plan said (scope_alone own e) = subst Begins (sym e) (begins_scope own)
begins_plan said (more h) =
    record { plan = plan_in said h; rest = []; parts = sym (plan_in-lines said h) ∙ sym (append-nil said); for_scope = plan_in-scope said h }

pub form_above : (said below : List PlanLine) → Form (said ++ below) → Form said
form_above said below form =
    let all = begins_plan (said ++ below) form in
    form_of said (below ++ all.rest) all.plan (all.parts ∙ append_assoc said below all.rest) all.for_scope

-- ---- one line more

-- below the scope and the work a line may stand so
abbrev Stands : Scope → List PlanLine → PlanLine → Type 0
Stands own lines (Scoped s) = ⊥
Stands own lines (Worked n) = ⊥
Stands own lines (Listed e) = list_any is_certifying lines ≡ false
Stands own lines (Paired p) = has_pairs own ≡ true
Stands own lines (Searched n) = has_pairs own ≡ false

not_at : (n k : ℕ) → k < n → (n == k) ≡ false
not_at n k l = by (eqb_tells n k)
  where
    by : ((n == k) ≡ true) × (n ≡ k) ⊎ ((n == k) ≡ false) × ((n ≡ k) → ⊥) → (n == k) ≡ false
    by (inl e) = absurd (omega (arith, l, e.1))
    by (inr e) = e.0

not_true : (b : Bool) → not b ≡ true → b ≡ false
not_true true h = cc
not_true false h = refl

stands_there : (own : Scope) (work : ℕ) (lines : List PlanLine) (line : PlanLine) → may_stand (Scoped own ∷ Worked work ∷ lines) line ≡ true → Stands own lines line
stands_there own work lines (Scoped s) h = let no = not_at (length (Scoped own ∷ Worked work ∷ lines)) 0 (omega arith) in cc
stands_there own work lines (Worked n) h = let no = not_at (length (Scoped own ∷ Worked work ∷ lines)) 1 (omega arith) in cc
stands_there own work lines (Listed e) h = not_true (list_any is_certifying lines) (and_parts (nat_lt 1 (length (Scoped own ∷ Worked work ∷ lines))) (not (list_any is_certifying lines)) h).1
stands_there own work lines (Paired p) h = (and_parts (nat_lt 1 (length (Scoped own ∷ Worked work ∷ lines))) (has_pairs own) h).1
stands_there own work lines (Searched n) h = not_true (has_pairs own) (and_parts (nat_lt 1 (length (Scoped own ∷ Worked work ∷ lines))) (not (has_pairs own)) h).1

may_stand_there : (own : Scope) (work : ℕ) (lines : List PlanLine) (line : PlanLine) → Stands own lines line → may_stand (Scoped own ∷ Worked work ∷ lines) line ≡ true
may_stand_there own work lines (Scoped s) h = absurd h
may_stand_there own work lines (Worked n) h = absurd h
may_stand_there own work lines (Listed e) h = rw (lt-ltb 1 (length (Scoped own ∷ Worked work ∷ lines)) (omega arith), h) refl
may_stand_there own work lines (Paired p) h = rw (lt-ltb 1 (length (Scoped own ∷ Worked work ∷ lines)) (omega arith), h) refl
may_stand_there own work lines (Searched n) h = rw (lt-ltb 1 (length (Scoped own ∷ Worked work ∷ lines)) (omega arith), h) refl

-- where nothing of the certificate stands yet, an expression may
listed_last : (own : Scope) (list : List Expression) (certificate : Certificate) (e : Expression) → IsForScope own certificate → list_any is_certifying (map Listed list ++ certificate_lines certificate) ≡ false
    → Body own ((map Listed list ++ certificate_lines certificate) ++ Listed e ∷ [])
listed_last own [] (Pairs []) e fits none = record { list = e ∷ []; certificate = Pairs []; same = refl; for_scope = fits }
listed_last own [] (Search []) e fits none = record { list = e ∷ []; certificate = Search []; same = refl; for_scope = fits }
listed_last own [] (Pairs (p ∷ ps)) e fits none = cc
listed_last own [] (Search (n ∷ ns)) e fits none = cc
listed_last own (x ∷ list) certificate e fits none =
    with_listed own ((map Listed list ++ certificate_lines certificate) ++ Listed e ∷ []) (Listed x) x refl (listed_last own list certificate e fits none)

-- one item more at the end of a certificate
certified_last : {A : Type 0} (f : A → PlanLine) (list : List Expression) (items : List A) (item : A)
    → (map Listed list ++ map f items) ++ f item ∷ [] ≡ map Listed list ++ map f (items ++ item ∷ [])
certified_last f list items item =
    append_assoc (map Listed list) (map f items) (f item ∷ []) ∙ ap (λ ls. map Listed list ++ ls) (sym (map-append f items (item ∷ [])))

body_last : (own : Scope) (list : List Expression) (certificate : Certificate) (line : PlanLine) → IsForScope own certificate → Stands own (map Listed list ++ certificate_lines certificate) line
    → Body own ((map Listed list ++ certificate_lines certificate) ++ line ∷ [])
body_last own list certificate (Scoped s) fits h = absurd h
body_last own list certificate (Worked n) fits h = absurd h
body_last own list certificate (Listed e) fits h = listed_last own list certificate e fits h
body_last scope.All list (Pairs pairs) (Paired p) fits h = record { list = list; certificate = Pairs (pairs ++ p ∷ []); same = certified_last Paired list pairs p; for_scope = tt }
body_last scope.OneWay list (Search nodes) (Searched n) fits h = record { list = list; certificate = Search (nodes ++ n ∷ []); same = certified_last Searched list nodes n; for_scope = tt }
body_last scope.All list (Search nodes) (Paired p) fits h = absurd fits
body_last scope.OneWay list (Pairs pairs) (Searched n) fits h = absurd fits
body_last scope.OneWay list certificate (Paired p) fits h = cc
body_last scope.All list certificate (Searched n) fits h = cc

body_more : (own : Scope) (lines : List PlanLine) (line : PlanLine) → Body own lines → Stands own lines line → Body own (lines ++ line ∷ [])
body_more own lines line body h =
    subst (λ ls. Body own (ls ++ line ∷ [])) (sym body.same) (body_last own body.list body.certificate line body.for_scope (subst (λ ls. Stands own ls line) body.same h))

first_line : (line : PlanLine) → may_stand [] line ≡ true → Form (line ∷ [])
first_line (Scoped s) h = scope_alone s refl
first_line (Worked n) h = cc
first_line (Listed e) h = cc
first_line (Paired p) h = cc
first_line (Searched n) h = cc

second_line : (own : Scope) (line : PlanLine) → may_stand (Scoped own ∷ []) line ≡ true → Form (Scoped own ∷ line ∷ [])
second_line own (Scoped s) h = cc
second_line own (Worked n) h = more (record { own = own; work = n; lines = []; same = refl; body = empty_body own })
second_line own (Listed e) h = cc
second_line own (Paired p) h = cc
second_line own (Searched n) h = cc

third_line : (own : Scope) (work : ℕ) (lines : List PlanLine) (line : PlanLine) → Body own lines → may_stand (Scoped own ∷ Worked work ∷ lines) line ≡ true → Form (Scoped own ∷ Worked work ∷ (lines ++ line ∷ []))
third_line own work lines line body h =
    more (record { own = own; work = work; lines = lines ++ line ∷ []; same = refl; body = body_more own lines line body (stands_there own work lines line h) })

-- a line that may stand after first lines of a plan makes first lines of a plan
pub form_more : (before : List PlanLine) (line : PlanLine) → Form before → may_stand before line ≡ true → Form (before ++ line ∷ [])
form_more before line (nothing e) h = subst (λ ls. Form (ls ++ line ∷ [])) (sym e) (first_line line (subst (λ ls. may_stand ls line ≡ true) e h))
form_more before line (scope_alone own e) h = subst (λ ls. Form (ls ++ line ∷ [])) (sym e) (second_line own line (subst (λ ls. may_stand ls line ≡ true) e h))
form_more before line (more w) h =
    subst (λ ls. Form (ls ++ line ∷ [])) (sym w.same) (third_line w.own w.work w.lines line w.body (subst (λ ls. may_stand ls line ≡ true) w.same h))

-- ---- a line that stands among a plan's may stand there

last_of : {A : Type 0} (f : A → PlanLine) (lines : List PlanLine) (line : PlanLine) (items : List A) → lines ++ line ∷ [] ≡ map f items → (item : A) × (line ≡ f item)
last_of f [] line [] e = cc
last_of f [] line (item ∷ items) e = (item, cc)
last_of f (first ∷ lines) line [] e = cc
last_of f (first ∷ lines) line (item ∷ items) e = let below : lines ++ line ∷ [] ≡ map f items = cc in last_of f lines line items below

certificate_ends : (own : Scope) (lines : List PlanLine) (line : PlanLine) (certificate : Certificate) → IsForScope own certificate → lines ++ line ∷ [] ≡ certificate_lines certificate → Stands own lines line
certificate_ends scope.All lines line (Pairs pairs) fits e = subst (Stands scope.All lines) (sym (last_of Paired lines line pairs e).1) refl
certificate_ends scope.OneWay lines line (Search nodes) fits e = subst (Stands scope.OneWay lines) (sym (last_of Searched lines line nodes e).1) refl
certificate_ends scope.All lines line (Search nodes) fits e = absurd fits
certificate_ends scope.OneWay lines line (Pairs pairs) fits e = absurd fits

below_listed : (own : Scope) (lines : List PlanLine) (line : PlanLine) (e : Expression) → Stands own lines line → Stands own (Listed e ∷ lines) line
below_listed own lines (Scoped s) e h = h
below_listed own lines (Worked n) e h = h
below_listed own lines (Listed x) e h = h
below_listed own lines (Paired p) e h = h
below_listed own lines (Searched n) e h = h

body_ends : (own : Scope) (lines : List PlanLine) (line : PlanLine) (list : List Expression) (certificate : Certificate) → IsForScope own certificate
    → lines ++ line ∷ [] ≡ map Listed list ++ certificate_lines certificate → Stands own lines line
body_ends own lines line [] certificate fits e = certificate_ends own lines line certificate fits e
body_ends own [] line (x ∷ list) certificate fits e = let same : line ≡ Listed x = cc in subst (Stands own []) (sym same) refl
body_ends own (first ∷ lines) line (x ∷ list) certificate fits e =
    let same : first ≡ Listed x = cc in
    let below : lines ++ line ∷ [] ≡ map Listed list ++ certificate_lines certificate = cc in
    subst (λ l. Stands own (l ∷ lines) line) (sym same) (below_listed own lines line x (body_ends own lines line list certificate fits below))

first_stands : (line : PlanLine) → Form (line ∷ []) → may_stand [] line ≡ true
first_stands line (nothing e) = cc
first_stands line (scope_alone own e) = let same : line ≡ Scoped own = cc in ap (may_stand []) same
first_stands line (more h) = let e : line ∷ [] ≡ Scoped h.own ∷ Worked h.work ∷ h.lines = h.same in cc

second_stands : (first line : PlanLine) → Form (first ∷ line ∷ []) → may_stand (first ∷ []) line ≡ true
second_stands first line (nothing e) = cc
second_stands first line (scope_alone own e) = cc
second_stands first line (more h) =
    let e : first ∷ line ∷ [] ≡ Scoped h.own ∷ Worked h.work ∷ h.lines = h.same in
    let same : line ≡ Worked h.work = cc in
    ap (may_stand (first ∷ [])) same

third_stands : (first second : PlanLine) (lines : List PlanLine) (line : PlanLine) → Form (first ∷ second ∷ (lines ++ line ∷ [])) → may_stand (first ∷ second ∷ lines) line ≡ true
third_stands first second lines line (nothing e) = cc
third_stands first second lines line (scope_alone own e) = cc
third_stands first second lines line (more h) =
    let e : first ∷ second ∷ (lines ++ line ∷ []) ≡ Scoped h.own ∷ Worked h.work ∷ h.lines = h.same in
    let one : first ≡ Scoped h.own = cc in
    let two : second ≡ Worked h.work = cc in
    let below : lines ++ line ∷ [] ≡ h.lines = cc in
    let stands = body_ends h.own lines line h.body.list h.body.certificate h.body.for_scope (below ∙ h.body.same) in
    ap (λ l. may_stand (l ∷ second ∷ lines) line) one ∙ ap (λ l. may_stand (Scoped h.own ∷ l ∷ lines) line) two ∙ may_stand_there h.own h.work lines line stands

pub line_stands : (before : List PlanLine) (line : PlanLine) → Form (before ++ line ∷ []) → may_stand before line ≡ true
line_stands [] line form = first_stands line form
line_stands (first ∷ []) line form = second_stands first line form
line_stands (first ∷ second ∷ lines) line form = third_stands first second lines line form
