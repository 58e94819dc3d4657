-- Tables stay tables.
use Rattle.std.proofs.Common.{◌≡◌, refl, sym, subst, ℕ, zero, suc, ◌-◌, List, [], ◌∷◌, length, Bool, true, false, Option, Some, None, arith}
use Rattle.std.proofs.lemmas.Int.{ints}
use Rattle.std.specs.Prelude.{IsTrue, ◌&&◌, slice_index_or, option_map, nat_lt, pos, ◌≤ℤ◌, ℤ, unwrap_or}
use Rattle.std.specs.List.{AllByRecursion}
use Rattle.std.proofs.lemmas.Option.{same_Some}
use Rattle.wh_row.specs.Bag.{IsTable, empty}
use Rattle.wh_row.specs.Weigh.{Counted}
use Rattle.wh_store.specs.Kept.{AreTables}
use Rattle.wh_store.specs.Laws.{TablesStay}
use Rattle.wh_store.specs.Operations.{Operation, Opens, Writes, Commits, Gives_up}
use Rattle.wh_store.specs.Pages.{Contents, is_page}
use Rattle.wh_store.specs.Versions.{Versions, after, versions_from, versions_of, opened, is_active, may_come, opens, is_well_formed_from, table_in, written_over, number}
use Rattle.wh_store.proofs.FormLaws.{open_after}
use Rattle.wh_store.proofs.Lists.{tables_set}
use Rattle.wh_store.proofs.Sets.{none_there, page_counts, with_counts_table}
use Rattle.wh_store.proofs.WriteLaws.{first_true, second_true}

record Have (v : Versions) : Type 0 where
  newest : AreTables v.newest
  older : AllByRecursion AreTables v.older
  draft : (contents : Contents) → v.draft ≡ Some contents → AreTables contents

empty_table : IsTable empty
empty_table row = let P : ℤ → Type 0 = λ z. pos 0 ≤ℤ z in subst P (sym (none_there row)) least
  where
    least : pos 0 ≤ℤ pos 0
    least = omega (arith, ints)

table_there : (contents : Contents) (view : ℕ) → AreTables contents → IsTable (table_in contents view)
table_there [] view all = empty_table
table_there (t ∷ ts) zero all = all.0
table_there (t ∷ ts) (suc view) all = table_there ts view all.1

written_tables : (view : ℕ) (rows : Counted) (draft : Option Contents) → IsTrue (is_page rows) → ((contents : Contents) → draft ≡ Some contents → AreTables contents)
    → (contents : Contents) → option_map (written_over view rows) draft ≡ Some contents → AreTables contents
written_tables view rows None page all contents e = cc e
written_tables view rows (Some d) page all contents e =
    let are = all d refl in
    subst AreTables (same_Some _ _ e) (tables_set d view _ are (with_counts_table (table_in d view) rows (table_there d view are) (page_counts rows page)))

committed : (newest : Contents) (draft : Option Contents) → AreTables newest → ((contents : Contents) → draft ≡ Some contents → AreTables contents) → AreTables (unwrap_or draft newest)
committed newest None are all = are
committed newest (Some d) are all = all d refl

have_after : (views : ℕ) (v : Versions) (op : Operation) → Have v → IsTrue (may_come views (is_active v) op) → Have (after v op)
have_after views v Opens have h = record { newest = have.newest; older = have.older; draft = λ contents e. subst AreTables (same_Some _ _ e) have.newest }
have_after views v (Writes view rows) have h =
    let page = second_true (is_active v && nat_lt view views) (is_page rows) (last (is_active v) (nat_lt view views) (is_page rows) h) in
    record { newest = have.newest; older = have.older; draft = written_tables view rows v.draft page have.draft }
  where
    last : (a b c : Bool) → IsTrue (a && b && c) → IsTrue ((a && b) && c)
    last true b c h = h
    last false b c h = h
have_after views v Commits have h = record { newest = committed v.newest v.draft have.newest have.draft; older = (have.newest, have.older); draft = λ contents e. cc e }
have_after views v Gives_up have h = record { newest = have.newest; older = (have.newest, have.older); draft = λ contents e. cc e }

have_from : (views : ℕ) (v : Versions) (ops : List Operation) → Have v → IsTrue (is_well_formed_from views (is_active v) ops) → Have (versions_from v ops)
have_from views v [] have h = have
have_from views v (op ∷ ops) have h =
    let P : Bool → Type 0 = λ active. IsTrue (is_well_formed_from views active ops) in
    let comes = first_true (may_come views (is_active v) op) (is_well_formed_from views (opens (is_active v) op) ops) h in
    let later = second_true (may_come views (is_active v) op) (is_well_formed_from views (opens (is_active v) op) ops) h in
    have_from views (after v op) ops (have_after views v op have comes) (subst P (open_after v op) later)

contents_at : (lists : List Contents) (k : ℕ) → AllByRecursion AreTables lists → AreTables (slice_index_or lists k [])
contents_at [] k all = tt
contents_at (c ∷ cs) zero all = all.0
contents_at (c ∷ cs) (suc k) all = contents_at cs k all.1

pub tables_stay : TablesStay
tables_stay opening ops are h =
    let v = versions_of opening ops in
    let have = have_from (length opening) (opened opening) ops (record { newest = are; older = tt; draft = λ contents e. cc e }) h in
    record { in_versions = λ s. contents_at (v.newest ∷ v.older) (number v - s) (have.newest, have.older); in_night = have.draft }
