use Rattle.std.proofs.Common.{◌≡◌, ◌≢◌, ◌∙◌, ◌<◌, ap, sym, subst, List, [], length, take, option_map, rules}
use Rattle.std.specs.Prelude.{IsTrue, nat_le}
use Rattle.wh_row.specs.Bag.{empty}
use Rattle.wh_row.specs.Weigh.{Counted}
use Rattle.wh_versions.specs.Tables.{ViewRows, table_at}
use Rattle.wh_versions.proofs.PageLaws.{told}
use Rattle.wh_store.specs.Pages.{rows_after}
use Rattle.wh_store.specs.Versions.{table_in}
use Rattle.wh_store.specs.Windows.{Window, kept_version, unexpired}
use Rattle.wh_store.proofs.KeptLaws.{at_map, contents_length, kept_contents}
use Rattle.wh_store.proofs.Pages.{shown_after}
use Rattle.wh_store.proofs.held.Held.visible.Goals as goal

pub index-table-requires : goal.index-table-requires
index-table-requires g c =
    let items = c.self.inside.tables.items in
    let readable = subst (λ (w : Window). IsTrue (unexpired w c.args.version)) (sym c.self.view_is) c.requires.unexpired in
    let contents = ap (λ (w : Window). kept_version w c.args.version) (sym c.self.view_is) ∙ kept_contents g.row.N c.self.inside.number c.self.inside.active items c.args.version readable in
    let whole : length items ≡ c.self.inside.tables.len = search rules in
    subst (λ n. c.args.view < n) (ap length contents ∙ contents_length items c.args.version ∙ whole) c.requires.view

pub returns-in_err-rows-clause-memory : goal.returns-in_err-rows-clause-memory
returns-in_err-rows-clause-memory g c =
    let items = c.self.inside.tables.items in
    let readable = subst (λ (w : Window). IsTrue (unexpired w c.args.version)) (sym c.self.view_is) c.requires.unexpired in
    let contents = ap (λ (w : Window). kept_version w c.args.version) (sym c.self.view_is) ∙ kept_contents g.row.N c.self.inside.number c.self.inside.active items c.args.version readable in
    let here = subst (λ n. c.args.view < n) (ap length contents ∙ contents_length items c.args.version) c.requires.view in
    let table = ap (λ cs. table_in cs c.args.view) contents ∙ at_map (λ (x : ViewRows). table_at x c.args.version) empty items c.args.view c.index-table.result.now here c.index-table.ensures in
    let after = option_map (λ row. row.now) c.args.after in
    let rows = shown_after c.index-table.result.now c.args.version after c.are_in_form.ensures.rising ∙ ap (λ b. rows_after b after) (sym table) in
    told (subst (λ (es : Counted). take c.args.limit es ≢ []) rows c.in_err-rows.ensures.memory) c.from_residual.result

pub returns-clause-page : goal.returns-clause-page
returns-clause-page g c =
    let items = c.self.inside.tables.items in
    let readable = subst (λ (w : Window). IsTrue (unexpired w c.args.version)) (sym c.self.view_is) c.requires.unexpired in
    let contents = ap (λ (w : Window). kept_version w c.args.version) (sym c.self.view_is) ∙ kept_contents g.row.N c.self.inside.number c.self.inside.active items c.args.version readable in
    let here = subst (λ n. c.args.view < n) (ap length contents ∙ contents_length items c.args.version) c.requires.view in
    let table = ap (λ cs. table_in cs c.args.view) contents ∙ at_map (λ (x : ViewRows). table_at x c.args.version) empty items c.args.view c.index-table.result.now here c.index-table.ensures in
    let after = option_map (λ row. row.now) c.args.after in
    let rows = shown_after c.index-table.result.now c.args.version after c.are_in_form.ensures.rising ∙ ap (λ b. rows_after b after) (sym table) in
    λ i. record {
      rows = (c.in_ok-rows.ensures.rows ∙ ap (take c.args.limit) rows) i;
      last = (c.in_ok-rows.ensures.last ∙ ap (λ (es : Counted). nat_le (length es) c.args.limit) rows) i;
    }
