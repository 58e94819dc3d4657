use Rattle.wh_maint.proofs.Products.{products_are_linear}
use Rattle.wh_maint.proofs.laws.products_are_linear.Goals as goal

pub returns : goal.returns
returns c = products_are_linear
