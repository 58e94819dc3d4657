use Rattle.std.proofs.Common.{All, IfSome, map}
use Rattle.wh_text_catalogue.specs.Definitions.{shown_view}
use Rattle.wh_threads.proofs.Answers.{each-answers}
use Rattle.wh_load.specs.Inner.ReadingRows.{IsAheadOf, shown_rows}
use Rattle.wh_load.proofs.ReadingAhead.{all-answers}
use Rattle.wh_load.proofs.reading.ahead.read_beside.Goals as goal

pub returns : goal.returns
returns g c =
    let kind = shown_rows c.args.rows in
    let parts = c.args.bundle.now in
    let names = c.args.known.now.names.now in
    let views = map shown_view c.args.known.now.views.now in
    let groups = c.deref.result.now in
    let answers = c.in-Ok.answers.items in
    let each = each-answers _ _ (λ group answer. IfSome answer (λ all. All (IsAheadOf kind parts names views) all.items)) (λ lent answer met. met) groups answers c.in-Ok.ensures.answers in
    c.together.ensures kind parts names views (all-answers (λ answer. IfSome answer (λ all. All (IsAheadOf kind parts names views) all.items)) groups answers each)
