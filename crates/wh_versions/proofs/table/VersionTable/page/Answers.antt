use Rattle.std.proofs.Common.{◌≡◌, ◌≢◌, ◌∙◌, ap, sym, subst, Bor, IfOk, OnErr, List, ℤ, [], Option, length, nat_le, option_map, take}
use Rattle.wh_row.specs.Weigh.{Counted, above}
use Rattle.wh_versions.specs.Pages.{rows_after, shown_at, shown_of}
use Rattle.wh_versions.specs.Tables.{ViewRows}
use Rattle.wh_versions.proofs.PageLaws.{above_shown}
use Rattle.wh_versions.proofs.table.VersionTable.page.Goals as goal

pub returns-in-Some : goal.returns-in-Some
returns-in-Some g c =
    let s = c.args.version in
    let limit = c.args.limit in
    let row = c.in-Some.row.now in
    let after : Option (Bor (List ℤ)) → Counted = λ o. rows_after (option_map (λ (b : Bor (List ℤ)). b.now) o) (shown_at c.args.self.now s) in
    let rows : shown_of s c.entries_after.result ≡ after c.args.after =
    ap (shown_of s) c.entries_after.ensures.entries
    ∙ above_shown row s c.self.inside.rows
    ∙ ap (λ (t : ViewRows). above row (shown_at t s)) c.self.view_is
    ∙ ap after (sym c.in-Some.is) in
    record {
      rows = subst (λ (es : Counted). IfOk c.first_shown.result (λ page. page.0 ≡ take limit es)) rows c.first_shown.ensures.rows;
      last = subst (λ (es : Counted). IfOk c.first_shown.result (λ page. page.1 ≡ nat_le (length es) limit)) rows c.first_shown.ensures.last;
      memory = subst (λ (es : Counted). OnErr c.first_shown.result (take limit es ≢ [])) rows c.first_shown.ensures.memory;
    }
