-- What a night made while readers were served, from what the night answered.
use Rattle.std.proofs.Common.{◌≡◌, ◌⊎◌, ◌∙◌, ◌<◌, ◌≤◌, ℕ, suc, List, [], ◌∷◌, length, Option, Some, None, Result, Ok, Err, ap, arith, inl, subst, sym}
use Rattle.std.specs.Prelude.{IfErr, IfOk, IfSome, MatchOption, MatchResult}
use Rattle.std.specs.Global.{Vec}
use Rattle.std.specs.List.{All}
use Rattle.wh_row.specs.Bag.{Bag, IsTable}
use Rattle.wh_dag.specs.Catalog.{CatalogOf}
use Rattle.wh_strategy.specs.declared.expression.Expression.{Expression}
use Rattle.wh_strategy.specs.Rules.{IsCorrect}
use Rattle.wh_maint.specs.Asked.{AreBags}
use Rattle.wh_maint.specs.Comp.{bag_at}
use Rattle.wh_maint.specs.Finishing.{kind_in}
use Rattle.wh_maint.specs.Fit.{IsFitTable}
use Rattle.wh_maint.specs.View.{Joined, Kind, Summed}
use Rattle.wh_maint.specs.declared.fault.MaintFault.TheVariants.{Memory}
use Rattle.wh_store.specs.Faults.{publish_refusal}
use Rattle.wh_store.specs.Kept.{AreTables}
use Rattle.wh_store.specs.Ledgers.{Ledger, ledger}
use Rattle.wh_store.specs.Operations.{Opens}
use Rattle.wh_store.specs.Pages.{Contents}
use Rattle.wh_carry.specs.Fit.{AreFitTables}
use Rattle.wh_carry.specs.Night.{Night, night_over}
use Rattle.wh_carry.specs.declared.report.CarryFault.{CarryFault}
use Rattle.wh_carry.specs.declared.report.Carried.{Carried}
use Rattle.wh_carry.specs.declared.report.Report.{Report}
use Rattle.wh_desk.specs.Askers.{AreAnswered, CanAsk}
use Rattle.wh_desk.specs.Desks.{Sitting, sitting}
use Rattle.wh_desk.specs.Known.{Known}
use Rattle.wh_desk.specs.Reading.{IsAskable}
use Rattle.wh_desk.specs.Writers.{Writing, published}
use Rattle.wh_desk.specs.declared.askers.Answered.{Answered}
use Rattle.wh_desk.specs.declared.askers.Asker.{Asker}
use Rattle.wh_night.specs.declared.readers.Given.{Given}
use Rattle.wh_night.specs.declared.left.NightFault.{NightFault}
use Rattle.wh_night.specs.declared.serving.Served.{Served}
use Rattle.wh_night.specs.Beside.{HasRun}
use Rattle.wh_night.specs.Causes.{CannotBegin}
use Rattle.wh_night.specs.Published.{IsPublished}
use Rattle.wh_night.specs.Refusals.{IsRefused, IsRefusedSo, left_of}
use Rattle.wh_night.specs.Tonight.{newest_in, tonight}
use Rattle.wh_night.specs.Serving.{AreGiven, IsAt, IsSeated, WereServed, all_out, newly}
use Rattle.wh_night.specs.Inner.Serving.{IsServed}
use Rattle.wh_night.proofs.Rests.{rests_askable}
use Rattle.wh_night.proofs.Soundness.{done_number}

-- ---- tables that are fit are tables

fit_is_table : (kind : Kind) (table : Bag) → IsFitTable kind table → IsTable table
fit_is_table Joined table h = h
fit_is_table (Summed sums) table h = h.0

tables_of : (tables : List Bag) → ((v : ℕ) → v < length tables → IsTable (bag_at tables v)) → AreTables tables
tables_of [] each = tt
tables_of (t ∷ tables) each = (each 0 (omega arith), tables_of tables (λ v l. each (suc v) (omega (arith, l))))

pub fit_are_tables : (catalog : CatalogOf) (tables : List Bag) → length tables ≡ length catalog.views.children → AreFitTables catalog tables → AreTables tables
fit_are_tables catalog tables each fit = tables_of tables (λ v l. fit_is_table (kind_in catalog v) (bag_at tables v) (fit v (omega (arith, each, l))))

-- ---- desks

-- the desks of a new warehouse are at the warehouse of what its writer tells
pub all_at : (w : Writing) (desks : List Sitting) → All (λ d. d ≡ sitting (record { book = w.book; of = w.ledger.of; list = [] }) None) desks → All (IsAt (published w)) desks
all_at w desks alike = λ k d l. (let e = alike k d l in (ap (λ (s : Sitting). s.book) e, ap (λ (s : Sitting). s.of) e))

pub can_ask : (told : Known) (views : ℕ) (askers : List Asker) → All (IsSeated told views) askers → All (CanAsk told) askers
can_ask told views askers seated = λ k d l. (let a = seated k d l in (sym a.at.0, subst (All IsAskable) (sym a.asks) (rests_askable views)))

-- ---- what is answered

-- what is answered beside readers is what the night made, and what its writer then tells
pub served_of : (catalog : CatalogOf) (list : List Expression) (before after : Writing) (l : Ledger) (changes : List Bag) (keys : ℕ) (r : Result Served CarryFault) (night : Result Carried NightFault) (given : Option Given) (told : Known)
    → before.ledger ≡ l → told ≡ published after → IfOk r (λ s. (night ≡ Ok (record { tables = s.tables; report = s.report })) × (given ≡ Some (record { rows = s.rows; answered = s.answered })))
    → IfOk r (λ s. s.published ≡ Some told) → HasRun catalog list before changes keys night after → IfOk r (IsServed catalog list l changes keys)
served_of catalog list before after l changes keys (Err f) night given told same tells ok is run = tt
served_of catalog list before after l changes keys (Ok s) night given told same tells ok is run =
    let own = subst (λ n. HasRun catalog list before changes keys n after) ok.0 run in
    let held : after.ledger.held ≡ None = ap (λ (m : Ledger). m.held) own.published.done.now in
    let out : after.ledger ≡ all_out told = (λ i. ledger after.ledger.of after.ledger.list (held i)) ∙ ap all_out (sym tells) in
    record {
      told = told;
      is_told = is;
      published = subst (λ (k : Ledger). IsPublished catalog list k changes keys s.report (all_out told)) same (subst (IsPublished catalog list before.ledger changes keys s.report) out own.published);
      tables = own.tables ∙ ap newest_in out;
    }

-- and what the readers were given
pub rows_served : (rows : List ℕ) (r : Result Served CarryFault) (night : Result Carried NightFault) (given : Option Given)
    → IfOk r (λ s. (night ≡ Ok (record { tables = s.tables; report = s.report })) × (given ≡ Some (record { rows = s.rows; answered = s.answered }))) → IfSome given (λ g. g.rows.items ≡ rows)
    → IfOk r (λ s. s.rows.items ≡ rows)
rows_served rows (Err f) night given ok is = tt
rows_served rows (Ok s) night given ok is = subst (λ o. IfSome o (λ (g : Given). g.rows.items ≡ rows)) ok.1 is

-- with how they were answered
pub were_served : (tables : Contents) (readers : ℕ) (told : Known) (askers : List Asker) (r : Result Served CarryFault) (night : Result Carried NightFault) (given : Option Given)
    (all : Option (Vec (Option Answered))) → told.of.opening ≡ tables → length askers ≡ readers → All (IsSeated told (length tables)) askers
    → IfSome all (λ all. AreAnswered told askers all.items) → IfSome given (λ g. all ≡ Some g.answered) → IfSome given (λ g. AreGiven g.answered.items g.rows.items)
    → IfOk r (λ s. (night ≡ Ok (record { tables = s.tables; report = s.report })) × (given ≡ Some (record { rows = s.rows; answered = s.answered })))
    → IfOk r (λ s. WereServed tables readers s.answered.items s.rows.items)
were_served tables readers told askers (Err f) night given all opening each seated are same rows ok = tt
were_served tables readers told askers (Ok s) night given all opening each seated are same rows ok =
    let is : all ≡ Some s.answered = subst (λ o. IfSome o (λ (g : Given). all ≡ Some g.answered)) ok.1 same in
    record {
      told = told;
      askers = askers;
      opening = opening;
      each = each;
      seated = seated;
      answers = subst (λ (o : Option (Vec (Option Answered))). IfSome o (λ a. AreAnswered told askers a.items)) is are;
      given = subst (λ o. IfSome o (λ (g : Given). AreGiven g.answered.items g.rows.items)) ok.1 rows;
    }

-- and it is refused as the night is
pub refused_of : (catalog : CatalogOf) (list : List Expression) (before after : Writing) (tables changes : List Bag) (keys : ℕ) (r : Result Served CarryFault) (night : Result Carried NightFault) → before.ledger ≡ newly tables
    → IfErr r (λ f. MatchResult night (λ _. f.fault ≡ Memory) (λ g. (n : Night) → IsRefused n g → (f.fault ≡ Memory) ⊎ IsRefusedSo n (left_of f.started) f.fault)) → HasRun catalog list before changes keys night after
    → IfErr r (λ f. (f.fault ≡ Memory) ⊎ IsRefusedSo (night_over catalog list tables changes keys) (left_of f.started) f.fault)
refused_of catalog list before after tables changes keys (Ok s) night same err run = tt
refused_of catalog list before after tables changes keys (Err f) (Ok c) same err run = inl err
refused_of catalog list before after tables changes keys (Err f) (Err g) same err run =
    let begins : publish_refusal before.ledger Opens ≡ None = ap (λ (l : Ledger). publish_refusal l Opens) same in
    let refused : IsRefused (tonight catalog list before.ledger changes keys) g =
    subst (λ o. MatchOption o (IsRefused (tonight catalog list before.ledger changes keys) g) (λ fault. CannotBegin {T = Carried} fault (Err g))) begins run.refused in
    err (night_over catalog list tables changes keys) (subst (λ (l : Ledger). IsRefused (tonight catalog list l changes keys) g) same refused)

-- what follows from what was made holds of what is answered
pub if_served : (P : Served → Type 0) (catalog : CatalogOf) (list : List Expression) (l : Ledger) (changes : List Bag) (keys : ℕ) (r : Result Served CarryFault)
    → IfOk r (IsServed catalog list l changes keys) → ((s : Served) → IsServed catalog list l changes keys s → P s) → IfOk r P
if_served P catalog list l changes keys (Err f) served more = tt
if_served P catalog list l changes keys (Ok s) served more = more s served

-- the first night of a warehouse makes version 1
pub first_number : (catalog : CatalogOf) (list : List Expression) (tables changes : List Bag) (keys : ℕ) (report : Report) (m : Ledger) → IsCorrect catalog.views.children list
    → AreBags catalog tables → 1 ≤ keys → IsPublished catalog list (newly tables) changes keys report m → report.version ≡ 1
first_number catalog list tables changes keys report m ok bags some is = is.version ∙ done_number catalog list (newly tables) m changes keys ok bags some is.done
