use Rattle.std.proofs.Common.{◌≡◌, ◌∙◌, ap, sym, subst, List, [], map, false}
use Rattle.wh_versions.specs.Tables.{ViewRows}
use Rattle.wh_store.specs.Windows.{Shows, current}
use Rattle.wh_store.specs.Inner.Kept.{IsHeld, opened_rows, window_held}
use Rattle.wh_store.proofs.KeptLaws.{opened_current, opened_held, opened_shows, rows_opened}
use Rattle.wh_store.proofs.held.Held.new.Goals as goal

pub invariant_of-result : goal.invariant_of-result
invariant_of-result g c = subst (λ (ts : List ViewRows). IsHeld g.row.N 0 false ts) (sym c.in_ok-tables.ensures) (opened_held g.row.N c.args.tables.now c.requires.versions c.requires.few)

pub returns-clause-shows : goal.returns-clause-shows
returns-clause-shows g c = subst (λ (ts : List ViewRows). Shows (window_held g.row.N 0 false ts) c.args.tables.now []) (sym c.in_ok-tables.ensures) (opened_shows g.row.N c.args.tables.now c.requires.versions)

pub returns-clause-current : goal.returns-clause-current
returns-clause-current g c = ap (λ (ts : List ViewRows). current (window_held g.row.N 0 false ts)) c.in_ok-tables.ensures ∙ opened_current g.row.N c.args.tables.now c.requires.versions

pub returns-clause-rows : goal.returns-clause-rows
returns-clause-rows g c = ap (λ (ts : List ViewRows). (window_held g.row.N 0 false ts).rows) c.in_ok-tables.ensures ∙ rows_opened c.args.tables.now
