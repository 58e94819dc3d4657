use Rattle.std.proofs.Common.{sym, subst}
use Rattle.wh_core.specs.declared.event.Event.TheVariants as event
use Rattle.wh_core.specs.Log.{logged}
use Rattle.wh_core.specs.Replies.{IsReply}
use Rattle.wh_core.specs.Standing.{StandsWith}
use Rattle.wh_core.proofs.Waiting.{stands_on}
use Rattle.wh_core.proofs.warehouse.Core.answer.Goals as goal

pub page_in-requires : goal.page_in-requires
page_in-requires g c = let r = c.requires in record { setup = r.setup; log = r.log; is_setup = r.is_setup; stands = r.stands.stands }

pub returns-in-Done : goal.returns-in-Done
returns-in-Done g c = record {
  reply = λ s log is h.
      let core = c.args.self.now in
      let both = c.done.ensures s log h.stands in
      subst (λ e. StandsWith s (logged log e c.done.result) (record core { machine = c.done.new.self }) × IsReply s log e c.done.result) (sym c.in-Done.is)
      (stands_on s log core c.done.new.self (event.Done c.in-Done.worker) c.done.result (λ e. cc) h both.0, both.1);
}
