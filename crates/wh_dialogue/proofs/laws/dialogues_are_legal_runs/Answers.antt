use Rattle.wh_dialogue.proofs.Legal.{dialogues_are_legal}
use Rattle.wh_dialogue.proofs.laws.dialogues_are_legal_runs.Goals as goal

pub returns : goal.returns
returns c = dialogues_are_legal c.lives_are_legal_runs.ensures
