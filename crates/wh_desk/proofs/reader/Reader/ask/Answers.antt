use Rattle.std.specs.Prelude.{IfErr, IfOk, option_map}
use Rattle.std.proofs.Common.{ap, refl, subst, sym, ◌∙◌, ◌≡◌, Result}
use Rattle.wh_store.specs.Pages.{Shown}
use Rattle.wh_desk.specs.declared.asks.Ask.{Ask}
use Rattle.wh_desk.specs.declared.asks.Answer.TheVariants as answer
use Rattle.wh_desk.specs.declared.asks.Ask.TheVariants as ask
use Rattle.wh_desk.specs.declared.chair.DeskFault.{DeskFault}
use Rattle.wh_desk.specs.Reading.{IsCall, IsTurn, stand_of}
use Rattle.wh_desk.proofs.Turns.{refused_turn, shown_turn}
use Rattle.wh_desk.proofs.reader.Reader.ask.Goals as goal

pub returns-in-Ok : goal.returns-in-Ok
returns-in-Ok c =
    let t = c.args.self.now.desk in
    let at = option_map stand_of c.args.self.now.place in
    let u = c.page.new.self.desk in
    let end = option_map stand_of c.page.new.self.place in
    subst (λ (a : Ask). IsTurn t at a (answer.Page c.in-Ok.page) u end) (sym c.in-Page.is)
    (shown_turn t u at end c.in-Page.view c.in-Page.limit c.in-Ok.page
    (subst (λ (r : Result Shown DeskFault). IfOk r (λ page. IsCall t at (ask.Page c.in-Page.view c.in-Page.limit) (answer.Page page) u end)) c.in-Ok.is c.in_ok-page-in-Page.ensures.page))

pub returns-in-Err : goal.returns-in-Err
returns-in-Err c =
    let t = c.args.self.now.desk in
    let at = option_map stand_of c.args.self.now.place in
    let u = c.page.new.self.desk in
    let end = option_map stand_of c.page.new.self.place in
    subst (λ (a : Ask). IsTurn t at a (answer.Refused c.in-Err.fault) u end) (sym c.in-Page.is)
    (refused_turn t u at end c.in-Page.view c.in-Page.limit c.in-Err.fault
    (subst (λ (r : Result Shown DeskFault). IfErr r (λ fault. IsCall t at (ask.Page c.in-Page.view c.in-Page.limit) (answer.Refused fault) u end)) c.in-Err.is c.in_ok-page-in-Page.ensures.refused))
