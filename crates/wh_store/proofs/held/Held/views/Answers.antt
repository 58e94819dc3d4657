use Rattle.std.proofs.Common.{◌≡◌, ◌∙◌, ap, sym, subst, length, rules}
use Rattle.std.specs.Prelude.{IsTrue}
use Rattle.wh_store.specs.Windows.{Window, kept_version, unexpired}
use Rattle.wh_store.proofs.KeptLaws.{contents_length, kept_contents}
use Rattle.wh_store.proofs.held.Held.views.Goals as goal

pub returns-clause-kept : goal.returns-clause-kept
returns-clause-kept g c version h =
    let items = c.self.inside.tables.items in
    let readable = subst (λ (w : Window). IsTrue (unexpired w version)) (sym c.self.view_is) h in
    let contents = ap (λ (w : Window). kept_version w version) (sym c.self.view_is) ∙ kept_contents g.row.N c.self.inside.number c.self.inside.active items version readable in
    let all : c.len.result ≡ length items = search rules in
    all ∙ sym (ap length contents ∙ contents_length items version)
