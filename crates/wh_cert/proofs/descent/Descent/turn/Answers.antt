use Rattle.std.proofs.Common.{◌≡◌, [], sym, ap, ◌∙◌, drop, arith}
use Rattle.std.proofs.lemmas.List.{drop_all}
use Rattle.wh_cert.specs.Inner.Descent.{turned}
use Rattle.wh_cert.proofs.descent.Descent.turn.Goals as goal

pub returns : goal.returns
returns c =
    let top = c.loop-self.self-inside.top in
    let table = c.loop-self.self-inside.table in
    let e : drop top table ≡ [] = drop_all top table (omega (arith, c.loop-self.invariant.long, c.loop-self-test.false)) in
    e ∙ ap turned (sym e) ∙ c.loop-self.invariant.same
