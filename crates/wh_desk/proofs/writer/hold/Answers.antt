use Rattle.std.proofs.Common.{◌∷◌, ◌++◌, [], sym, subst}
use Rattle.wh_store.specs.Operations.{operation}
use Rattle.wh_desk.specs.Known.{IsStory, Known, known}
use Rattle.wh_desk.specs.Writers.{copy_of}
use Rattle.wh_desk.proofs.Keeps.{story_next}
use Rattle.wh_desk.proofs.Waiting.{history_of}
use Rattle.wh_desk.proofs.writer.hold.Goals as goal

pub add-requires : goal.add-requires
add-requires c =
    let w = c.args.inner.now in
    subst (λ (k : Known). IsStory (known k.book k.of (k.list ++ (operation c.args.op) ∷ []))) (sym (history_of w c.requires.none c.requires.writer))
    (story_next c.well_formed_goes_on_law.ensures (copy_of w) (operation c.args.op) c.requires.writer.0 c.requires.free)
