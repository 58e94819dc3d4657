use Rattle.std.proofs.Common.{true, false, sym}
use Rattle.wh_text_catalogue.proofs.Document.{tables_of-seen}
use Rattle.wh_text_catalogue.proofs.catalogue.views_of.Goals as goal

pub returns-then-are_tables : goal.returns-then-are_tables
returns-then-are_tables c =
    rw (← c.in_ok-member.ensures, ← c.in_ok-views.ensures) (sym (tables_of-seen c.in_ok-views.views.now.items true (cc)))

pub returns-else-are_tables : goal.returns-else-are_tables
returns-else-are_tables c =
    rw (← c.in_ok-member.ensures, ← c.in_ok-views.ensures) (sym (tables_of-seen c.in_ok-views.views.now.items false (cc)))
