use Rattle.test_stay.proofs.Contents.{all_tables, opened_are_contents}
use Rattle.test_stay.proofs.given.contents_over.Goals as goal

pub returns-in-Ok-clause-contents : goal.returns-in-Ok-clause-contents
returns-in-Ok-clause-contents g c =
    opened_are_contents c.args.catalog.now c.shape-shape.ensures.catalog c.args.base.items c.in-Ok.tables.items
    (all_tables c.args.base.items c.requires.tables) c.in-Ok.ensures.contents c.in-Ok.ensures.valued
