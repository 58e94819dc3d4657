use Rattle.whview.proofs.GivenWords.{all_words_taken}
use Rattle.whview.proofs.laws.words_of_the_table_are_taken.Goals as goal

pub returns : goal.returns
returns c = all_words_taken
