use Rattle.std.proofs.Common.{◌≡◌, ◌∙◌, ◌+◌, ◌<◌, ap, sym, subst, length, Some}
use Rattle.std.specs.Prelude.{IsTrue}
use Rattle.wh_store.specs.Windows.{Window, CountsAreRead, current, kept_version, unexpired}
use Rattle.wh_store.proofs.KeptLaws.{contents_length, current_contents}
use Rattle.wh_store.proofs.ReadLaws.{draft_read, kept_read}
use Rattle.wh_store.proofs.held.Held.slots_are_read.Goals as goal

pub returns-clause-kept : goal.returns-clause-kept
returns-clause-kept g c version h =
    let items = c.self.inside.tables.items in
    let number = c.self.inside.number in
    let active = c.self.inside.active in
    let contents = ap (λ (w : Window). length (current w)) (sym c.self.view_is) ∙ ap length (current_contents g.row.N number active items c.self.invariant.enough) ∙ contents_length items number in
    let here = subst (λ n. c.args.view < n) contents c.requires in
    let readable = subst (λ (w : Window). IsTrue (unexpired w version)) (sym c.self.view_is) h in
    subst (λ (w : Window). CountsAreRead w c.args.view version (kept_version w version)) c.self.view_is
    (kept_read g.row.N number items c.args.view c.index-table.result.now here c.index-table.ensures c.are_in_form.ensures.rising active version readable)

pub returns-clause-night : goal.returns-clause-night
returns-clause-night g c contents e =
    let items = c.self.inside.tables.items in
    let number = c.self.inside.number in
    let active = c.self.inside.active in
    let all = ap (λ (w : Window). length (current w)) (sym c.self.view_is) ∙ ap length (current_contents g.row.N number active items c.self.invariant.enough) ∙ contents_length items number in
    let here = subst (λ n. c.args.view < n) all c.requires in
    let written = ap (λ (w : Window). w.draft) c.self.view_is ∙ e in
    subst (λ (w : Window). CountsAreRead w c.args.view (w.number + 1) contents) c.self.view_is
    (draft_read g.row.N number items c.args.view c.index-table.result.now here c.index-table.ensures c.are_in_form.ensures.rising active contents written)
