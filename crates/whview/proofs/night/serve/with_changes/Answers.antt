use Rattle.std.proofs.Common.{◌≡◌, ◌≢◌, ◌∙◌, List, Option, None, Some, ap, map, subst, sym}
use Rattle.std.specs.Prelude.{IfSome, slice_get}
use Rattle.wh_maint.specs.Comp.{bag_at}
use Rattle.wh_row.specs.Bag.{Bag, IsTable}
use Rattle.wh_text_catalogue.specs.Definitions.{ViewOf, shown_view}
use Rattle.wh_row.specs.Bag.{difference_of}
use Rattle.whview.proofs.DerivedBags.{copies_count}
use Rattle.whview.proofs.ServedTables.{new_tables, old_tables}
use Rattle.whview.proofs.night.serve.with_changes.Goals as goal

pub changes-requires-clause-new : goal.changes-requires-clause-new
changes-requires-clause-new g c κs within v =
    subst (λ (bags : List Bag). IsTable (bag_at bags v)) (sym c.deref-2.ensures.value)
    (new_tables c.args.asked.now.catalog.now c.args.asked.now.correct.now.list c.args.tables.items c.args.asked.now.changes.now c.in_ok-served.served.tables.items c.in_ok-served.served.report
    c.requires.tables c.requires.changes c.requires.fit c.in_ok-served.ensures.carried v)

pub changes-requires-clause-old : goal.changes-requires-clause-old
changes-requires-clause-old g c κs within v =
    subst (λ (bags : List Bag). IfSome (slice_get (map shown_view c.args.views.now) v) (λ view. view.definition ≢ None → IsTable (bag_at bags v))) (sym c.deref-3.ensures.value)
    (copies_count (slice_get (map shown_view c.args.views.now) v) (bag_at c.in-Ok.old.items v) (bag_at c.deref.result.now v)
    (subst (λ (bags : List Bag). IsTable (bag_at bags v)) (sym c.deref.ensures.value)
    (old_tables c.args.asked.now.catalog.now c.args.asked.now.correct.now.list c.args.tables.items (bag_at c.args.asked.now.changes.now) c.requires.fit v))
    (c.in-Ok.ensures.copies v))

-- a change from one table to another is one from its copy
from_copy : (o : Option ViewOf) (change n m d a b t : Bag) → n ≡ m → d ≡ a → b ≡ t → IfSome o (λ view. view.definition ≢ None → change ≡ difference_of n d)
    → IfSome o (λ view. view.definition ≢ None → a ≡ b) → IfSome o (λ view. view.definition ≢ None → change ≡ difference_of m t)
from_copy None change n m d a b t new old was f g = tt
from_copy (Some v) change n m d a b t new old was f g = λ some. f some ∙ (λ i. difference_of (new i) ((old ∙ g some ∙ was) i))

pub returns-in-Ok-changes-clause-shown : goal.returns-in-Ok-changes-clause-shown
returns-in-Ok-changes-clause-shown g c v =
    from_copy (slice_get (map shown_view c.args.views.now) v) (bag_at c.in-Ok-changes.changes.items v) (bag_at c.deref-2.result.now v) (bag_at c.in_ok-served.served.tables.items v)
    (bag_at c.deref-3.result.now v) (bag_at c.in-Ok.old.items v) (bag_at c.deref.result.now v) (bag_at c.args.tables.items v)
    (ap (λ (bags : List Bag). bag_at bags v) c.deref-2.ensures.value) (ap (λ (bags : List Bag). bag_at bags v) c.deref-3.ensures.value)
    (ap (λ (bags : List Bag). bag_at bags v) c.deref.ensures.value) (c.in-Ok-changes.ensures.changes v) (c.in-Ok.ensures.copies v)
