use Rattle.std.proofs.Common.{[]}
use Rattle.std.specs.Prelude.{Result, Ok, Err, IfOk}
use Rattle.wh_core.specs.Headline.{ComesTrue}
use Rattle.wh_core.specs.Laws.{IsSetup, log_after}
use Rattle.wh_core.specs.Nights.{Setup, setup_of}
use Rattle.wh_core.specs.Replies.{IsLegalRun}
use Rattle.wh_core.specs.Standing.{StandsWith, nights_of}
use Rattle.wh_headline.proofs.events.carry_out.Goals as goal

if_ok : {T E : Type 0} (r : Result T E) (P Q : T → Type 0) → IfOk r P → ((x : T) → P x → Q x) → IfOk r Q
if_ok (Ok x) P Q p f = f x p
if_ok (Err e) P Q p f = tt

pub returns : goal.returns
returns g c =
    let setup : Setup = setup_of c.args.catalog c.args.options c.args.tables.items (nights_of c.args.nights.items) in
    record {
      legal = if_ok c.run.result (λ replies. (s : Setup) → IsSetup s → StandsWith s [] c.in_ok-core.core → IsLegalRun s c.args.events.now replies.items × StandsWith s (log_after [] c.args.events.now replies.items) c.run.new.self)
          (λ replies. IsLegalRun setup c.args.events.now replies.items) c.run.ensures.replies (λ replies run. (run setup c.requires.setup c.in_ok-core.ensures.stands).0);
      comes_true = if_ok c.run.result (λ replies. (s : Setup) → IsSetup s → StandsWith s [] c.in_ok-core.core → ComesTrue s c.args.events.now replies.items)
          (λ replies. ComesTrue setup c.args.events.now replies.items) c.run.ensures.comes_true (λ replies come. come setup c.requires.setup c.in_ok-core.ensures.stands);
    }
