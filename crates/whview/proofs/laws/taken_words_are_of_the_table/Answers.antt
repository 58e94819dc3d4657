use Rattle.whview.proofs.TakenWords.{taken_words}
use Rattle.whview.proofs.laws.taken_words_are_of_the_table.Goals as goal

pub returns : goal.returns
returns c = taken_words
