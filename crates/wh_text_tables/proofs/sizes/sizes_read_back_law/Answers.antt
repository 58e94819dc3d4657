use Rattle.wh_text_tables.proofs.SizesReadingBack.{sizes-read-back}
use Rattle.wh_text_tables.proofs.sizes.sizes_read_back_law.Goals as goal

pub returns : goal.returns
returns c = sizes-read-back
