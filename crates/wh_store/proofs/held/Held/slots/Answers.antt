use Rattle.std.proofs.Common.{◌≡◌, ◌∙◌, ◌<◌, ap, sym, [], length, rules}
use Rattle.wh_pieces.specs.Pieces.{found}
use Rattle.wh_versions.specs.Tables.{ViewRows, pairs_in}
use Rattle.wh_store.specs.Slots.{pairs_at, with_pairs}
use Rattle.wh_store.specs.Windows.{Window}
use Rattle.wh_store.proofs.KeptLaws.{at_map}
use Rattle.wh_store.proofs.SlotLaws.{pairs_kept}
use Rattle.wh_store.proofs.held.Held.slots.Goals as goal

pub returns : goal.returns
returns g c =
    let items = c.self.inside.tables.items in
    let row = c.args.row.now in
    let here : c.args.view < length items = search rules in
    let rows = sym (at_map (λ (x : ViewRows). with_pairs x.rows) [] items c.args.view c.index-table.result.now here c.index-table.ensures) in
    ap pairs_in c.slots.ensures
    ∙ sym (pairs_kept c.index-table.result.now.rows row c.are_in_form.ensures.rising)
    ∙ ap (λ rs. pairs_in (found row rs)) rows
    ∙ ap (λ (w : Window). pairs_at w.rows c.args.view row) c.self.view_is
