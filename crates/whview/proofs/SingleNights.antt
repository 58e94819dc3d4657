-- The same bytes have one answer of `night`.
use Rattle.std.proofs.Common.{◌≡◌, ◌≢◌, ◌∙◌, ◌+◌, ◌++◌, ◌<◌, ◌≤◌, ℕ, List, [], ◌∷◌, Result, Ok, Err, ap, arith, length, refl, subst, sym, ⊎_elim}
use Rattle.std.specs.Prelude.{◌↔◌, Bool, true, false, MatchResult, replicate}
use Rattle.std.proofs.lemmas.Bool.{cases_lt}
use Rattle.std.proofs.lemmas.List.{ext_get_or, length-map, same_lists}
use Rattle.std.proofs.lemmas.Option.{get_or_from_slice_get}
use Rattle.wh_dag.specs.Catalog.{IsCatalog}
use Rattle.wh_dag.specs.Shape.{IsShape, Views}
use Rattle.wh_dag.specs.Written.{name_of}
use Rattle.wh_text.specs.declared.fault.LoadFault.{LoadFault}
use Rattle.wh_text_bundle.specs.declared.bundle.fault.Nights.TheVariants as nights
use Rattle.wh_text_bundle.specs.declared.bundle.heading.Heading.TheVariants as heading
use Rattle.wh_text_bundle.specs.declared.bundle.part.Part.{Part}
use Rattle.wh_text_catalogue.proofs.DefinitionsFit.{are-definitions}
use Rattle.wh_text_catalogue.proofs.ShapesRead.{from_step, same_Ok}
use Rattle.wh_text_catalogue.specs.Catalogue.{shape_of}
use Rattle.wh_text_catalogue.specs.Definitions.{ViewOf, definitions_of}
use Rattle.wh_text_catalogue.specs.FormulaKinds.{Texts}
use Rattle.wh_text_catalogue.specs.ReadCatalog.{catalog_of}
use Rattle.wh_load.specs.ReadingNight.{Night, Opening, catalog_in, given_of, night_in, night_read, night_over, tables_of}
use Rattle.wh_load.specs.ReadingParts.{parts_in, text_in}
use Rattle.wh_maint.specs.Comp.{bag_at}
use Rattle.wh_maint.specs.Contents.{contents}
use Rattle.wh_maint.specs.Opening.{CanBeEvaluated, HasNoContents, IsEvaluateFault}
use Rattle.wh_maint.specs.View.{ViewGraph}
use Rattle.wh_maint.specs.declared.fault.MaintFault.{MaintFault}
use Rattle.wh_maint.specs.declared.fault.MaintFault.TheVariants.{Absent, Large, Memory, Range}
use Rattle.wh_carry.proofs.NewValues.{within}
use Rattle.wh_carry.proofs.Prefixes.{there}
use Rattle.wh_carry.specs.Carry.{tables_after}
use Rattle.wh_carry.specs.Steps.{AreSteps}
use Rattle.wh_carry.specs.declared.report.CarryFault.{CarryFault}
use Rattle.wh_row.specs.Bag.{Bag, difference_of, empty}
use Rattle.wh_night.proofs.OneRefusal.{one_refusal as nights_have_one_refusal}
use Rattle.wh_night.specs.Refusals.{IsRefusedSo, left_of}
use Rattle.wh_night.specs.declared.left.Aftermath.TheVariants.{Untouched}
use Rattle.wh_night.specs.Serving.{rows_of}
use Rattle.wh_strategy.proofs.Agreeing.{refused as not_correct}
use Rattle.wh_strategy.specs.Rules.{IsCorrect}
use Rattle.wh_strategy.specs.declared.expression.Expression.{Expression}
use Rattle.whview.proofs.SingleFaults.{one_broken, one_shown}
use Rattle.whview.specs.CheckOutput.{IsFaultShown}
use Rattle.whview.specs.NightOutput.{AreOpened, IsCarriedOut, IsNightTold, IsRefusedAs, broken, carried, carried_text, graph_in, graph_over, left_text, night_from, no_contents, readers_text, refused, refused_text, report_text, rows_printed, view_text, views_text, word_of}
use Rattle.whview.specs.OneAnswer.{AreSame, OneNightOutput}
use Rattle.whview.specs.declared.night_options.Printed.{Printed}
use Rattle.whview.specs.declared.night_options.Printed.TheVariants.{Changes, Tables}

-- ---- one reason why there are no contents

not_evaluated : (g : ViewGraph) (tables : ℕ → Bag) (view : ℕ) (fault : MaintFault) → IsEvaluateFault g tables view fault → CanBeEvaluated g tables view → ⊥
not_evaluated g tables view (Large v) why has = has.few why.1
not_evaluated g tables view (Range v) why has = why.2 has.valued
not_evaluated g tables view (Absent v row) why has = why
not_evaluated g tables view Memory why has = why

one_evaluate_fault : (g : ViewGraph) (tables : ℕ → Bag) (view : ℕ) (fault other : MaintFault) → IsEvaluateFault g tables view fault → IsEvaluateFault g tables view other → fault ≡ other
one_evaluate_fault g tables view (Large v) (Large w) a b = ap Large (a.0 ∙ sym b.0)
one_evaluate_fault g tables view (Large v) (Range w) a b = absurd (b.1 a.1)
one_evaluate_fault g tables view (Range v) (Large w) a b = absurd (a.1 b.1)
one_evaluate_fault g tables view (Range v) (Range w) a b = ap Range (a.0 ∙ sym b.0)
one_evaluate_fault g tables view (Absent v row) other a b = absurd a
one_evaluate_fault g tables view fault (Absent v row) a b = absurd b
one_evaluate_fault g tables view Memory other a b = absurd a
one_evaluate_fault g tables view fault Memory a b = absurd b

pub one_lack : (g : ViewGraph) (base : ℕ → Bag) (fault other : MaintFault) → HasNoContents g base fault → HasNoContents g base other → fault ≡ other
one_lack g base fault other a b =
    let tables = contents g base in
    ⊎_elim
    (λ l. absurd (not_evaluated g tables a.view fault a.why (b.before a.view l a.derived)))
    (λ m. ⊎_elim
    (λ l. absurd (not_evaluated g tables b.view other b.why (a.before b.view l b.derived)))
    (λ k.
    let e : a.view ≡ b.view = omega (arith, m, k) in
    one_evaluate_fault g tables b.view fault other (subst (λ v. IsEvaluateFault g tables v fault) e a.why) b.why)
    (cases_lt b.view a.view))
    (cases_lt a.view b.view)

-- contents that are opened lack nothing
pub never_opened : (shape : Views) (opening : Opening) (fault : MaintFault) (old : List Bag) → HasNoContents (graph_over shape opening) (bag_at opening.tables) fault → AreOpened shape opening old → ⊥
never_opened shape opening fault old h a = not_evaluated (graph_over shape opening) _ h.view fault h.why (a.valued h.view (within shape.children h.view h.derived) h.derived)

not_opened : (night : Night) (fault : MaintFault) (old : List Bag) → HasNoContents (graph_in night) (bag_at night.opening.tables) fault → AreOpened night.shape night.opening old → ⊥
not_opened night fault old h a = never_opened night.shape night.opening fault old h a

-- ---- one opening, one list of steps, one text of the tables

pub same_opening : (shape : Views) (opening : Opening) (old other : List Bag) → AreOpened shape opening old → AreOpened shape opening other → old ≡ other
same_opening shape opening old other a b =
    ext_get_or empty old other (a.each ∙ sym b.each) (λ v l. (let within : v < length shape.children = omega (arith, l, a.each) in a.opened v within ∙ sym (b.opened v within)))

one_opening : (night : Night) (old other : List Bag) → AreOpened night.shape night.opening old → AreOpened night.shape night.opening other → old ≡ other
one_opening night old other a b = same_opening night.shape night.opening old other a b

one_report : (shape : List (List ℕ)) (list : List Expression) (old new : ℕ → Bag) (steps others : List (Expression × ℕ)) → AreSteps shape list old new steps → AreSteps shape list old new others → steps ≡ others
one_report shape list old new steps others a b =
    same_lists steps others (a.each ∙ sym b.each) (λ place d l.
    (let e = there list place (omega (arith, l, a.each)) in
    get_or_from_slice_get steps place _ d (a.rows place e.0 e.1) ∙ sym (get_or_from_slice_get others place _ d (b.rows place e.0 e.1))))

-- the text of the tables asks for those of its views alone
one_text_of_tables : (word : List ℕ) (texts : Texts) (names : List (List ℕ)) (number : ℕ) (views : List ViewOf) (tables others : ℕ → Bag)
    → ((k : ℕ) → number ≤ k → k < number + length views → tables k ≡ others k) → views_text word texts names number views tables ≡ views_text word texts names number views others
one_text_of_tables word texts names number [] tables others same = refl
one_text_of_tables word texts names number (view ∷ views) tables others same =
    ap (λ t. view_text word texts (name_of names number) view t ++ views_text word texts names (number + 1) views tables) (same number (omega arith) (omega arith))
    ∙ ap (λ rest. view_text word texts (name_of names number) view (others number) ++ rest)
    (one_text_of_tables word texts names (number + 1) views tables others (λ k l m. same k (omega (arith, l)) (omega (arith, m))))

-- the same of two tables is printed
same_printed : (printed : Printed) (old new others : ℕ → Bag) (v : ℕ) → new v ≡ others v → rows_printed printed old new v ≡ rows_printed printed old others v
same_printed Tables old new others v same = same
same_printed Changes old new others v same = ap (λ t. difference_of t (old v)) same

one_carried : (night : Night) (printed : Printed) (old new other_old other_new : List Bag) (steps others : List (Expression × ℕ)) → length night.opening.views ≡ length night.shape.children
    → IsCarriedOut night old new steps → IsCarriedOut night other_old other_new others → carried_text printed night steps (bag_at old) (bag_at new) ≡ carried_text printed night others (bag_at old) (bag_at other_new)
one_carried night printed old new other_old other_new steps others each a b =
    let opened : other_old ≡ old = one_opening night other_old old b.opened a.opened in
    let list = night.given.list in
    let changes = bag_at night.given.changes in
    let reported = subst (λ bags. AreSteps night.shape.children list (bag_at bags) (tables_after (graph_in night) changes list (bag_at bags)) others) opened b.reported in
    let carried = subst (λ bags. (view : ℕ) → view < length night.shape.children → bag_at other_new view ≡ tables_after (graph_in night) changes list (bag_at bags) view) opened b.carried in
    ap (λ s. report_text night.shape.names s ++ views_text (word_of printed) night.opening.texts night.shape.names 0 night.opening.views (rows_printed printed (bag_at old) (bag_at new)))
    (one_report night.shape.children list (bag_at old) (tables_after (graph_in night) changes list (bag_at old)) steps others a.reported reported)
    ∙ ap (λ t. report_text night.shape.names others ++ t)
    (one_text_of_tables (word_of printed) night.opening.texts night.shape.names 0 night.opening.views (rows_printed printed (bag_at old) (bag_at new)) (rows_printed printed (bag_at old) (bag_at other_new))
    (λ k l m. (let within : k < length night.shape.children = omega (arith, m, each) in same_printed printed (bag_at old) (bag_at new) (bag_at other_new) k (a.carried k within ∙ sym (carried k within)))))

-- ---- one refusal

-- a night had begun or not
same_started : (a b : Bool) → ((left_of a ≡ Untouched) ↔ (left_of b ≡ Untouched)) → a ≡ b
same_started true true h = refl
same_started true false h = let e : left_of true ≡ Untouched = h.1 refl in cc
same_started false true h = let e : left_of true ≡ Untouched = h.0 refl in cc
same_started false false h = refl

one_refusal : (night : Night) (old other_old : List Bag) (fault other : CarryFault) → IsCatalog (catalog_in night) → IsCorrect night.shape.children night.given.list
    → AreOpened night.shape night.opening old → AreOpened night.shape night.opening other_old → fault.fault ≢ Memory → other.fault ≢ Memory
    → IsRefusedAs night old fault → IsRefusedAs night other_old other → fault ≡ other
one_refusal night old other_old fault other is ok a b m n f g =
    let opened : other_old ≡ old = one_opening night other_old old b a in
    let same = (nights_have_one_refusal (night_from night old 1) is ok).one (left_of fault.started) (left_of other.started) fault.fault other.fault (f 1)
    (subst (λ bags. IsRefusedSo (night_from night bags 1) (left_of other.started) other.fault) opened (g 1)) m n in
    let started : fault.started ≡ other.started = same_started fault.started other.started same.1 in
    λ i. record { fault = same.0 i; started = started i }

-- what is carried out is not refused
not_refused : (night : Night) (old new other_old : List Bag) (steps : List (Expression × ℕ)) (fault : CarryFault) → IsCatalog (catalog_in night) → IsCorrect night.shape.children night.given.list
    → IsCarriedOut night old new steps → AreOpened night.shape night.opening other_old → fault.fault ≢ Memory → IsRefusedAs night other_old fault → ⊥
not_refused night old new other_old steps fault is ok a b m f =
    let opened : other_old ≡ old = one_opening night other_old old b a.opened in
    m ((nights_have_one_refusal (night_from night old 1) is ok).none a.allowed a.passed (left_of fault.started) fault.fault
    (subst (λ bags. IsRefusedSo (night_from night bags 1) (left_of fault.started) fault.fault) opened (f 1)))

-- ---- one answer

-- a night that was read has a shape, and as many views
record IsReadNight (night : Night) : Type 0 where
  catalog : IsCatalog (catalog_in night)
  shape : IsShape night.shape.children
  each : length night.opening.views ≡ length night.shape.children

one_told : (night : Night) (printed : Printed) (readers : ℕ) (text other : List ℕ) (status ended : ℕ) → IsReadNight night → IsNightTold night printed readers text status → IsNightTold night printed readers other ended → AreSame text status other ended
one_told night printed readers text other status ended is (broken rule place f t s) (broken rule' place' f' t' s') = record { texts = t ∙ one_broken _ _ rule rule' place place' f f' ∙ sym t'; statuses = s ∙ sym s' }
one_told night printed readers text other status ended is (broken rule place f t s) (no_contents fault' ok' h' t' s') = absurd (not_correct rule _ _ place is.shape f ok')
one_told night printed readers text other status ended is (broken rule place f t s) (refused old' fault' ok' o' m' h' t' s') = absurd (not_correct rule _ _ place is.shape f ok')
one_told night printed readers text other status ended is (broken rule place f t s) (carried old' new' steps' ok' c' t' s') = absurd (not_correct rule _ _ place is.shape f ok')
one_told night printed readers text other status ended is (no_contents fault ok h t s) (broken rule' place' f' t' s') = absurd (not_correct rule' _ _ place' is.shape f' ok)
one_told night printed readers text other status ended is (no_contents fault ok h t s) (no_contents fault' ok' h' t' s') =
    record { texts = t ∙ ap (refused_text night.shape.names) (one_lack (graph_in night) (bag_at night.opening.tables) fault fault' h h') ∙ sym t'; statuses = s ∙ sym s' }
one_told night printed readers text other status ended is (no_contents fault ok h t s) (refused old' fault' ok' o' m' h' t' s') = absurd (not_opened night fault old' h o')
one_told night printed readers text other status ended is (no_contents fault ok h t s) (carried old' new' steps' ok' c' t' s') = absurd (not_opened night fault old' h c'.opened)
one_told night printed readers text other status ended is (refused old fault ok o m h t s) (broken rule' place' f' t' s') = absurd (not_correct rule' _ _ place' is.shape f' ok)
one_told night printed readers text other status ended is (refused old fault ok o m h t s) (no_contents fault' ok' h' t' s') = absurd (not_opened night fault' old h' o)
one_told night printed readers text other status ended is (refused old fault ok o m h t s) (refused old' fault' ok' o' m' h' t' s') =
    record { texts = t ∙ ap (left_text night.shape.names) (one_refusal night old old' fault fault' is.catalog ok o o' m m' h h') ∙ sym t'; statuses = s ∙ sym s' }
one_told night printed readers text other status ended is (refused old fault ok o m h t s) (carried old' new' steps' ok' c' t' s') = absurd (not_refused night old' new' old steps' fault is.catalog ok c' o m h)
one_told night printed readers text other status ended is (carried old new steps ok c t s) (broken rule' place' f' t' s') = absurd (not_correct rule' _ _ place' is.shape f' ok)
one_told night printed readers text other status ended is (carried old new steps ok c t s) (no_contents fault' ok' h' t' s') = absurd (not_opened night fault' old h' c.opened)
one_told night printed readers text other status ended is (carried old new steps ok c t s) (refused old' fault' ok' o' m' h' t' s') = absurd (not_refused night old new old' steps fault' is.catalog ok c o' m' h')
one_told night printed readers text other status ended is (carried old new steps ok c t s) (carried old' new' steps' ok' c' t' s') =
    let opened : old ≡ old' = one_opening night old old' c.opened c'.opened in
    record {
      texts = t ∙ ap (λ text. text ++ readers_text 0 (replicate readers (rows_of old))) (one_carried night printed old new old' new' steps steps' is.each c c')
          ∙ ap (λ bags. carried_text printed night steps' (bag_at bags) (bag_at new') ++ readers_text 0 (replicate readers (rows_of bags))) opened ∙ sym t';
      statuses = s ∙ sym s';
    }

-- its shape and its views are those that were read
record IsOver (shape : Views) (views : List ViewOf) (night : Night) : Type 0 where
  shapes : night.shape ≡ shape
  viewed : night.opening.views ≡ views

over_views : (parts : List Part) (shape : Views) (views : List ViewOf) (texts : Texts) (strategy : List ℕ) (night : Night) → night_over parts shape views texts strategy ≡ Ok night → IsOver shape views night
over_views parts shape views texts strategy night e =
    let tables = from_step (tables_of parts shape.names views texts) _ night e in
    let given = from_step (given_of parts shape.names views 0 strategy tables.0.1) _ night tables.2 in
    let same = same_Ok _ _ _ refl given.2 in
    record { shapes = ap (λ n. n.shape) (sym same); viewed = ap (λ n. n.opening.views) (sym same) }

read_night : (bytes : List ℕ) (night : Night) → night_read bytes ≡ Ok night → IsReadNight night
read_night bytes night e =
    let parts = from_step (parts_in nights.First bytes) night_in night e in
    let catalogue = from_step (text_in parts.0 heading.Catalogue 0) _ night parts.2 in
    let strategy = from_step (text_in parts.0 heading.Strategy 0) _ night catalogue.2 in
    let shape = from_step (shape_of catalogue.0) _ night strategy.2 in
    let written = from_step (definitions_of shape.0 catalogue.0 []) _ night shape.2 in
    let definitions = are-definitions catalogue.0 shape.0 [] written.0.1 written.0.0 shape.1 written.1 in
    let over = over_views parts.0 shape.0 written.0.0 written.0.1 strategy.0 night written.2 in
    let each = sym (length-map written.0.0 (λ view. length view.columns)) ∙ definitions.catalog.each_width in
    record {
      catalog = subst (λ s. IsCatalog (catalog_of s night.opening.views)) (sym over.shapes) (subst (λ vs. IsCatalog (catalog_of shape.0 vs)) (sym over.viewed) definitions.catalog);
      shape = subst (λ s. IsShape s.children) (sym over.shapes) definitions.catalog.shape;
      each = ap (λ vs. length vs) over.viewed ∙ each ∙ ap (λ s. length s.children) (sym over.shapes);
    }

pub one_night : OneNightOutput
one_night printed readers bytes text other status ended = go (night_read bytes) (read_night bytes)
  where
    go : (r : Result Night LoadFault) → ((night : Night) → r ≡ Ok night → IsReadNight night)
        → MatchResult r (λ night. IsNightTold night printed readers text status) (λ fault. IsFaultShown fault text status)
        → MatchResult r (λ night. IsNightTold night printed readers other ended) (λ fault. IsFaultShown fault other ended)
        → AreSame text status other ended
    go (Ok night) read f g = one_told night printed readers text other status ended (read night refl) f g
    go (Err fault) read f g = one_shown fault text other status ended f g
