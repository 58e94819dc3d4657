use Rattle.std.proofs.Common.{◌≡◌, refl, ◌∙◌, List, [], None, ap, length, replicate, subst, sym}
use Rattle.std.specs.Prelude.{IfSome}
use Rattle.std.specs.List.{All}
use Rattle.wh_maint.specs.Asked.{AreBags}
use Rattle.wh_maint.specs.Comp.{bag_at}
use Rattle.wh_row.specs.Bag.{Bag}
use Rattle.wh_store.specs.Ledgers.{Ledger, ledger}
use Rattle.wh_store.specs.Windows.{Shows, Window, current}
use Rattle.wh_carry.specs.Fit.{AreFitFor}
use Rattle.wh_desk.specs.Known.{Known}
use Rattle.wh_desk.specs.Writers.{Writing, published}
use Rattle.wh_night.specs.Serving.{newly, rows_of}
use Rattle.wh_night.specs.Tonight.{newest_in}
use Rattle.wh_night.specs.Serving.{IsSeated}
use Rattle.wh_night.proofs.Serves.{all_at, can_ask, refused_of, rows_served, served_of, were_served}
use Rattle.wh_night.proofs.serving.serve_some.Goals as goal

-- the stores show what they were filled with
pub open_with_copy-requires-clause-new : goal.open_with_copy-requires-clause-new
open_with_copy-requires-clause-new g c = subst (λ (w : Window). Shows w (current w) []) (sym c.requires.first) refl

pub open_with_copy-requires-clause-same : goal.open_with_copy-requires-clause-same
open_with_copy-requires-clause-same g c = c.requires.second ∙ sym c.requires.first

-- the writer of a new store has published nothing, and each desk is at its warehouse
pub night_beside-night-requires-clause-askers : goal.night_beside-night-requires-clause-askers
night_beside-night-requires-clause-askers g c κs within =
    let w : Writing = c.in-Ok.writer in
    can_ask (published w) c.len.result c.in-Some.askers.items (c.in-Some.ensures.seated (published w) (all_at w c.in-Ok.desks.items c.in-Ok.ensures.alike))

pub night_beside-night-requires-clause-tables : goal.night_beside-night-requires-clause-tables
night_beside-night-requires-clause-tables g c κs within =
    let w : Ledger = c.in-Ok.writer.ledger in
    let same : w ≡ newly c.args.tables.items = c.in-Ok.ensures.writer ∙ (λ i. ledger (record { limit = (c.requires.first i).limit; opening = current (c.requires.first i) }) [] None) in
    subst (λ (l : Ledger). AreBags c.args.asked.now.catalog.now (newest_in l)) (sym same) c.requires.ready.wide

pub night_beside-night-requires-clause-current : goal.night_beside-night-requires-clause-current
night_beside-night-requires-clause-current g c κs within =
    let w : Ledger = c.in-Ok.writer.ledger in
    let same : w ≡ newly c.args.tables.items = c.in-Ok.ensures.writer ∙ (λ i. ledger (record { limit = (c.requires.first i).limit; opening = current (c.requires.first i) }) [] None) in
    ap newest_in (sym same)

pub night_beside-night-requires-clause-fit : goal.night_beside-night-requires-clause-fit
night_beside-night-requires-clause-fit g c κs within =
    let w : Ledger = c.in-Ok.writer.ledger in
    let same : w ≡ newly c.args.tables.items = c.in-Ok.ensures.writer ∙ (λ i. ledger (record { limit = (c.requires.first i).limit; opening = current (c.requires.first i) }) [] None) in
    subst (λ (l : Ledger). AreFitFor c.args.asked.now.catalog.now (bag_at c.args.asked.now.changes.now) c.args.asked.now.correct.now.list (bag_at (newest_in l))) (sym same) c.requires.ready.fit

pub returns-clause-run : goal.returns-clause-run
returns-clause-run g c =
    let w : Writing = c.in-Ok.writer in
    let after : Writing = c.night_beside-night.new.writer in
    let same : w.ledger ≡ newly c.args.tables.items = c.in-Ok.ensures.writer ∙ (λ i. ledger (record { limit = (c.requires.first i).limit; opening = current (c.requires.first i) }) [] None) in
    served_of c.args.asked.now.catalog.now c.args.asked.now.correct.now.list w after (newly c.args.tables.items) c.args.asked.now.changes.now c.args.asked.now.page_keys c.answer_of.result c.night_beside-night.result.night c.given_by.result c.tell-told.result
    same c.tell-told.ensures c.answer_of.ensures.ok c.answer_of.ensures.told c.night_beside-night.ensures.night

pub returns-clause-rows : goal.returns-clause-rows
returns-clause-rows g c =
    let w : Writing = c.in-Ok.writer in
    let tables : List Bag = c.args.tables.items in
    let told : Known = published w in
    let same : w.ledger ≡ newly tables = c.in-Ok.ensures.writer ∙ (λ i. ledger (record { limit = (c.requires.first i).limit; opening = current (c.requires.first i) }) [] None) in
    let opening : told.of.opening ≡ tables = ap (λ (l : Ledger). l.of.opening) same in
    let views : c.len.result ≡ length tables = c.len.ensures ∙ c.args.tables.ok.0 in
    let seated : All (IsSeated told c.len.result) c.in-Some.askers.items = c.in-Some.ensures.seated told (all_at w c.in-Ok.desks.items c.in-Ok.ensures.alike) in
    let each = subst (λ n. All (IsSeated told n) c.in-Some.askers.items) (views ∙ ap length (sym opening)) seated in
    let given = c.given_by.ensures.table told c.in-Some.askers.items each c.night_beside-night.ensures.answered in
    let count : length c.in-Some.askers.items ≡ c.args.readers = c.in-Some.ensures.len ∙ c.in-Ok.ensures.desks in
    let rows = subst (λ n. IfSome c.given_by.result (λ given. given.rows.items ≡ replicate n (rows_of tables))) count (subst (λ ts. IfSome c.given_by.result (λ given. given.rows.items ≡ replicate (length c.in-Some.askers.items) (rows_of ts))) opening given) in
    rows_served (replicate c.args.readers (rows_of tables)) c.answer_of.result c.night_beside-night.result.night c.given_by.result c.answer_of.ensures.ok rows

pub returns-clause-served : goal.returns-clause-served
returns-clause-served g c =
    let w : Writing = c.in-Ok.writer in
    let tables : List Bag = c.args.tables.items in
    let told : Known = published w in
    let same : w.ledger ≡ newly tables = c.in-Ok.ensures.writer ∙ (λ i. ledger (record { limit = (c.requires.first i).limit; opening = current (c.requires.first i) }) [] None) in
    let views : c.len.result ≡ length tables = c.len.ensures ∙ c.args.tables.ok.0 in
    let seated : All (IsSeated told c.len.result) c.in-Some.askers.items = c.in-Some.ensures.seated told (all_at w c.in-Ok.desks.items c.in-Ok.ensures.alike) in
    were_served tables c.args.readers told c.in-Some.askers.items c.answer_of.result c.night_beside-night.result.night c.given_by.result c.night_beside-night.result.answered
    (ap (λ (l : Ledger). l.of.opening) same) (c.in-Some.ensures.len ∙ c.in-Ok.ensures.desks) (subst (λ n. All (IsSeated told n) c.in-Some.askers.items) views seated)
    c.night_beside-night.ensures.answered c.given_by.ensures.same c.given_by.ensures.given c.answer_of.ensures.ok

pub returns-clause-refused : goal.returns-clause-refused
returns-clause-refused g c =
    let w : Writing = c.in-Ok.writer in
    let after : Writing = c.night_beside-night.new.writer in
    let same : w.ledger ≡ newly c.args.tables.items = c.in-Ok.ensures.writer ∙ (λ i. ledger (record { limit = (c.requires.first i).limit; opening = current (c.requires.first i) }) [] None) in
    refused_of c.args.asked.now.catalog.now c.args.asked.now.correct.now.list w after c.args.tables.items c.args.asked.now.changes.now c.args.asked.now.page_keys c.answer_of.result c.night_beside-night.result.night
    same c.answer_of.ensures.err c.night_beside-night.ensures.night
