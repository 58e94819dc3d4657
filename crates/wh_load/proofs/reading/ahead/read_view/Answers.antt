use Rattle.std.proofs.Common.{length, refl}
use Rattle.std.proofs.lemmas.Option.{slice_get_read}
use Rattle.wh_load.specs.Inner.ReadingRows.{shown_rows}
use Rattle.wh_load.proofs.ReadingAhead.{ahead-of}
use Rattle.wh_load.proofs.reading.ahead.read_view.Goals as goal

pub returns : goal.returns
returns c =
    let is = rw (c.content.ensures, c.deref.ensures.value, c.deref-2.ensures.value, c.in-Ok.ensures.text) at c.in_ok-own.ensures in
    let views = c.args.known.now.views.now in
    let lookup = c.in_ok-view.ensures.lookup in
    let got = slice_get_read views (length views) c.args.number c.in_ok-view.view.now refl lookup.3.0 lookup.1 in
    let found = rw (c.as_bytes.ensures.value, c.name.ensures) at c.in_ok-part.ensures in
    ahead-of (shown_rows c.args.rows) c.args.bundle.now c.args.known.now.names.now views c.args.number c.in_ok-view.view.now c.in_ok-part.part.now c.in_ok-own.own got found is
