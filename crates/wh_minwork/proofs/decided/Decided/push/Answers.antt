use Rattle.std.proofs.Common.{◌≡◌, false, sym, subst}
use Rattle.wh_cert.specs.Graph.{decides}
use Rattle.wh_minwork.proofs.Decisions.{decisions_more}
use Rattle.wh_minwork.proofs.decided.Decided.push.Goals as goal

pub invariant_of-self-2 : goal.invariant_of-self-2
invariant_of-self-2 c =
    let is = sym c.self.view_is in
    rw c.in_ok-push.ensures.items
    (decisions_more c.self.inside.couples.items c.args.first c.args.second c.self.invariant c.requires.two
    (subst (λ z. decides z c.args.first c.args.second ≡ false) is c.requires.open)
    (subst (λ z. decides z c.args.second c.args.first ≡ false) is c.requires.open_too))
