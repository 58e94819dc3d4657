use Rattle.std.specs.Prelude.{option_map}
use Rattle.wh_desk.specs.declared.asks.Ask.TheVariants as ask
use Rattle.std.proofs.Common.{◌+◌, List, [], arith, subst, sym, take}
use Rattle.wh_desk.specs.declared.asks.Answer.{Answer}
use Rattle.wh_desk.specs.Reading.{AreTurns, stand_of}
use Rattle.wh_desk.proofs.Turns.{nothing_asked, one_asked, turns_grow}
use Rattle.wh_desk.proofs.reader.Reader.ask_all.Goals as goal

pub loop-number-init : goal.loop-number-init
loop-number-init c =
    let t = c.args.self.now.desk in
    let at = option_map stand_of c.args.self.now.place in
    subst (λ (answers : List Answer). AreTurns t at [] answers t at) (sym c.in_ok-answers.ensures.items) (nothing_asked t at)

pub returns-clause-grows : goal.returns-clause-grows
returns-clause-grows c =
    turns_grow c.args.self.now.desk c.loop-number.self.desk (option_map stand_of c.args.self.now.place) (option_map stand_of c.loop-number.self.place) _ c.loop-number.answers.items c.loop-number.invariant

pub loop-number-preserved : goal.loop-number-preserved
loop-number-preserved c =
    let t = c.args.self.now.desk in
    let at = option_map stand_of c.args.self.now.place in
    let u = c.ask.new.self.desk in
    let end = option_map stand_of c.ask.new.self.place in
    subst (λ (answers : List Answer). AreTurns t at (take (c.loop-number.number + 1) c.args.asks.now) answers u end) (sym c.in_ok-push.ensures.items)
    (one_asked t c.loop-number.self.desk u at (option_map stand_of c.loop-number.self.place) end c.args.asks.now c.loop-number.number ask.Open c.loop-number.answers.items c.in_ok-said.said c.loop-number.invariant (omega (arith, c.loop-number-test.true)) c.in_ok-said.ensures)
