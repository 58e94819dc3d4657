use Rattle.std.proofs.Common.{◌≡◌, MatchResult, None, subst}
use Rattle.wh_store.specs.Ledgers.{gone_out, ledger}
use Rattle.wh_desk.specs.Writers.{Written, written, written_of}
use Rattle.wh_desk.proofs.writer.publish_held.Goals as goal

pub returns-clause-list : goal.returns-clause-list
returns-clause-list g c =
    subst (λ (l : Written). MatchResult c.publish_rest.result (λ _. written_of c.publish_rest.new.inner ≡ written l.book (ledger l.ledger.of (gone_out l.ledger) None)) (λ _. written_of c.publish_rest.new.inner ≡ l))
    c.hand_over.ensures.same c.publish_rest.ensures.list
