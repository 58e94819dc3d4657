use Rattle.std.specs.Prelude.{IfErr, IfOk, option_map}
use Rattle.std.proofs.Common.{ap, refl, subst, sym, ◌∙◌, ◌+◌, ◌≡◌, length, Result}
use Rattle.wh_store.specs.Pages.{Shown}
use Rattle.wh_desk.specs.declared.asks.Answer.TheVariants as answer
use Rattle.wh_desk.specs.declared.asks.Ask.TheVariants as ask
use Rattle.wh_desk.specs.declared.chair.DeskFault.{DeskFault}
use Rattle.wh_desk.specs.Reading.{IsCall, stand_of}
use Rattle.wh_desk.proofs.Turns.{cut_short, none_yet, page_more, read_out}
use Rattle.wh_desk.proofs.reader.Reader.rest.Goals as goal

pub loop-init : goal.loop-init
loop-init c = none_yet c.args.self.now.desk (option_map stand_of c.args.self.now.place) c.args.view c.args.limit

pub returns-in-Err : goal.returns-in-Err
returns-in-Err c =
    let t = c.loop.self.desk in
    let at = option_map stand_of c.loop.self.place in
    let u = c.page.new.self.desk in
    let end = option_map stand_of c.page.new.self.place in
    cut_short c.args.self.now.desk t u (option_map stand_of c.args.self.now.place) at end c.args.view c.args.limit c.loop.rows c.loop.invariant c.in-Err.fault
    (subst (λ (r : Result Shown DeskFault). IfErr r (λ fault. IsCall t at (ask.Page c.args.view c.args.limit) (answer.Refused fault) u end)) c.in-Err.is c.in_ok-page.ensures.refused)

pub returns-then-is_last : goal.returns-then-is_last
returns-then-is_last c =
    let t = c.loop.self.desk in
    let at = option_map stand_of c.loop.self.place in
    let u = c.page.new.self.desk in
    let end = option_map stand_of c.page.new.self.place in
    read_out c.args.self.now.desk t u (option_map stand_of c.args.self.now.place) at end c.args.view c.args.limit c.loop.rows c.loop.invariant c.in-Ok.page c.in-Some.more
    (subst (λ (r : Result Shown DeskFault). IfOk r (λ page. IsCall t at (ask.Page c.args.view c.args.limit) (answer.Page page) u end)) c.in-Ok.is c.in_ok-page.ensures.page)
    (sym c.is_last.ensures ∙ c.if-is_last.true)
    (c.in-Some.ensures.1 ∙ ap (λ n. c.loop.rows + n) c.count_of.ensures)

pub loop-preserved : goal.loop-preserved
loop-preserved c =
    let t = c.loop.self.desk in
    let at = option_map stand_of c.loop.self.place in
    let u = c.page.new.self.desk in
    let end = option_map stand_of c.page.new.self.place in
    page_more c.args.self.now.desk t u (option_map stand_of c.args.self.now.place) at end c.args.view c.args.limit c.loop.rows c.loop.invariant c.in-Ok.page c.in-Some.more
    (subst (λ (r : Result Shown DeskFault). IfOk r (λ page. IsCall t at (ask.Page c.args.view c.args.limit) (answer.Page page) u end)) c.in-Ok.is c.in_ok-page.ensures.page)
    (sym c.is_last.ensures ∙ c.if-is_last.false)
    (c.in-Some.ensures.1 ∙ ap (λ n. c.loop.rows + n) c.count_of.ensures)
