use Rattle.std.proofs.Common.{◌≡◌, refl, sym, ap, inl, ◌∙◌, [], Some, true, arith}
use Rattle.std.proofs.lemmas.List.{append-nil}
use Rattle.wh_store.specs.Operations.{Opens}
use Rattle.wh_store.specs.Faults.{refused}
use Rattle.wh_store.specs.Ledgers.{ledger}
use Rattle.wh_store.specs.declared.publish_fault.PublishFault.TheVariants.{Memory}
use Rattle.wh_night.proofs.Puts.{opening_out}
use Rattle.wh_night.proofs.running.begin.Goals as goal

pub returns-in-Err-Memory-true-clause-leaves : goal.returns-in-Err-Memory-true-clause-leaves
returns-in-Err-Memory-true-clause-leaves g c = λ n allowed.
    let l = g.P.Publish.kept c.args.writer.now in
    let m = g.P.Publish.kept c.publish.new.self in
    let e : m ≡ refused l Opens (Memory true) = c.in-Err-Memory-true.ensures.err ∙ ap (refused l Opens) c.in-Err-Memory-true.field-0-is ∙ ap (λ b. refused l Opens (Memory b)) c.in-Err-Memory-true.field-0-0-test in
    c.given_up.ensures.leaves n l allowed (record {
      ops = [];
      held = Some Opens;
      now = e ∙ (λ i. ledger l.of (sym (append-nil l.list) i) (Some Opens));
      begun = λ e. cc;
      place = 0;
      within = omega arith;
      passed = λ q e l at. absurd (omega arith);
      rest = [];
      begins = opening_out n;
      why = inl refl;
    })
