use Rattle.std.proofs.Common.{refl, sym, subst}
use Rattle.wh_text.specs.Dict.{with_texts}
use Rattle.wh_text.specs.Inner.Dict.{BeginsWith}
use Rattle.wh_text.proofs.DictGrowth.{begins-texts, begins-trans}
use Rattle.wh_text_tables.specs.declared.table.renumbered.Numbered.{Numbered}
use Rattle.wh_text_tables.proofs.PieceLaws.{numbered-next, texts-next}
use Rattle.wh_text_tables.proofs.table.renumbered.number_texts.Goals as goal

pub loop-piece-init : goal.loop-piece-init
unfolding with_texts
loop-piece-init c = record { texts = refl; numbers = rw c.new-all.ensures.items tt }

pub returns-in_err-numbers-clause-begins : goal.returns-in_err-numbers-clause-begins
returns-in_err-numbers-clause-begins c =
    let so_far : BeginsWith c.args.dict.now c.loop-piece.dict = subst (BeginsWith c.args.dict.now) (sym c.loop-piece.invariant.texts) (begins-texts c.args.dict.now _) in
    begins-trans c.args.dict.now c.loop-piece.dict c.numbers_of.new.dict so_far c.numbers_of.ensures.begins

pub returns-in_err-push-clause-begins : goal.returns-in_err-push-clause-begins
returns-in_err-push-clause-begins c =
    let so_far : BeginsWith c.args.dict.now c.loop-piece.dict = subst (BeginsWith c.args.dict.now) (sym c.loop-piece.invariant.texts) (begins-texts c.args.dict.now _) in
    begins-trans c.args.dict.now c.loop-piece.dict c.numbers_of.new.dict so_far c.numbers_of.ensures.begins

pub loop-piece-preserved : goal.loop-piece-preserved
loop-piece-preserved c =
    let piece = c.in-Some.piece in
    let own : Numbered = record { records = piece.counted; numbers = c.in_ok-numbers.numbers } in
    let grown = c.in_ok-numbers.ensures.texts in
    record {
      texts = texts-next c.args.dict.now c.loop-piece.dict c.numbers_of.new.dict c.loop-piece.yielded piece c.loop-piece.invariant.texts grown;
      numbers = rw c.in_ok-push.ensures.items
          (numbered-next c.args.dict.now c.loop-piece.dict c.numbers_of.new.dict c.loop-piece.yielded c.loop-piece.all.items piece own c.loop-piece.invariant.texts grown c.loop-piece.invariant.numbers (refl, c.in_ok-numbers.ensures.numbers));
    }

pub returns-clause-begins : goal.returns-clause-begins
returns-clause-begins c = subst (BeginsWith c.args.dict.now) (sym c.loop-piece.invariant.texts) (begins-texts c.args.dict.now _)
