use Rattle.std.proofs.Common.{rules, ◌≡◌, sym, ap, subst, ◌∙◌, suc, ◌+◌, ◌<◌, ◌^◌, ◌∷◌, Vec, drop, length, true, false, Some, None, arith}
use Rattle.std.specs.Prelude.{◌==◌, is_some, if◌then◌else◌, slice_get, slice_index_or}
use Rattle.std.specs.VecDeque.{deque_len}
use Rattle.std.proofs.lemmas.Option.{slice_get_within}
use Rattle.std.specs.declared.alloc.Global.{Global}
use Rattle.wh_strategy.specs.Rules.{Judged}
use Rattle.wh_dag.specs.Catalog.{CatalogOf}
use Rattle.wh_row.specs.Bag.{Bag}
use Rattle.wh_maint.specs.Asked.{AreBags}
use Rattle.wh_maint.specs.Comp.{bag_at}
use Rattle.wh_store.specs.declared.fault.StoreFault.TheVariants as store
use Rattle.wh_carry.specs.Fit.{AreFitTables}
use Rattle.wh_carry.specs.Laws.{ContentsAreFitForNights}
use Rattle.wh_carry.specs.Night.{Night, AreAllowed}
use Rattle.wh_carry.specs.Legs.{legs_of}
use Rattle.wh_carry.specs.Course.{AreParts, IsEnd}
use Rattle.wh_carry.specs.Refused.{IsBaseFault}
use Rattle.wh_core.specs.Laws.{IsGivenNight, IsSetup, VersionsAreContents}
use Rattle.wh_core.specs.Log.{Log, Began, is_open, nights_begun}
use Rattle.wh_core.specs.Nights.{Setup, versions}
use Rattle.wh_core.specs.declared.event.Event.TheVariants as event
use Rattle.wh_core.specs.declared.machine.Machine.{Machine}
use Rattle.wh_core.specs.declared.reply.Reply.TheVariants as reply
use Rattle.wh_core.specs.declared.warehouse.Core.{Core}
use Rattle.wh_core.specs.Replies.{IsLegalLog, IsReply}
use Rattle.wh_core.specs.Standing.{KeepsTables, Stands, StandsWith, given_of}
use Rattle.wh_core.proofs.Moves.{not_equal, number_here, open_here}
use Rattle.wh_core.proofs.Shorter.{refused_leaves}
use Rattle.wh_core.proofs.Tables.{keeps_newest, stands_with, taken_newest}
use Rattle.wh_core.proofs.Waiting.{among_rest, first_is, none_waits, waiting_first, waiting_next}
use Rattle.wh_core.proofs.Wholes.{begin_wants_memory, last_version, newest_are, night_open, none_left, not_begun, same_night}
use Rattle.wh_core.proofs.warehouse.Core.begin.Goals as goal

-- ---- the night that is next

module _ {F G : Type 0} (s : Setup) (log : Log) (core : Core F G) (given : Vec Bag Global × Judged) (is : IsSetup s) (h : StandsWith s log core) (some : 0 < deque_len core.nights)
    (at : given ≡ slice_index_or core.nights.items 0 given) where
  waits : 0 < length core.nights.items
  waits = let long : deque_len core.nights ≡ length core.nights.items = core.nights.ok.0 in omega (arith, long, some)

  there : slice_get s.nights (nights_begun log) ≡ Some (given_of given)
  there = waiting_first given_of core.nights.items s.nights (nights_begun log) given waits at h.nights

  left : nights_begun log < length s.nights
  left = slice_get_within s.nights (nights_begun log) (given_of given) there

  of_catalogue : IsGivenNight s.catalog (given_of given)
  of_catalogue = is.nights (nights_begun log) (given_of given) there

  fit_newest : VersionsAreContents → ContentsAreFitForNights → IsLegalLog s log → AreFitTables s.catalog (versions s log).newest
  fit_newest sound fit legal =
      let are = (newest_are s log sound is legal).0 in
      λ v l. (fit s.catalog (given_of given).list (bag_at (versions s log).newest) (bag_at (given_of given).changes) is.catalogue of_catalogue.list are.counts are.values).now v

  -- once it has begun, the others wait, which are the nights of another machine
  goes : (rest : Core F G) (machine : Machine) → rest.nights.items ≡ drop 1 core.nights.items → Stands s (Began ∷ log) machine
      → StandsWith s (Began ∷ log) (record core { nights = rest.nights; machine = machine })
  goes rest machine are stands = record {
    catalog = h.catalog;
    nights = waiting_next given_of core.nights.items rest.nights.items s.nights (nights_begun log) are h.nights;
    judged = λ n night e. h.judged (suc n) night (among_rest core.nights.items rest.nights.items n night are e);
    keys = h.keys;
    stands = stands;
  }

pub returns-then-is_active : goal.returns-then-is_active
returns-then-is_active g c = record {
  reply = λ s log is h.
      let active : is_some c.args.self.now.machine.store.draft ≡ true = search rules in
      (h, night_open s log c.args.self.now.machine h.stands (sym (open_here s log c.args.self.now.machine h.stands) ∙ active));
}

pub returns-in_default : goal.returns-in_default
returns-in_default g c = record {
  reply = λ s log is h.
      let m = c.args.self.now.machine in
      let idle : is_some m.store.draft ≡ false = search rules in
      let none : length c.args.self.now.nights.items ≡ 0 = search rules in
      (h, none_left s log m h.stands (sym (open_here s log m h.stands) ∙ idle) (none_waits given_of c.args.self.now.nights.items s.nights (nights_begun log) none h.nights));
}

pub returns-then-number : goal.returns-then-number
returns-then-number g c = record {
  reply = λ s log is h.
      let core = c.args.self.now in
      let m = core.machine in
      let idle : is_some m.store.draft ≡ false = search rules in
      let some : 0 < deque_len core.nights = search rules in
      let n = number_here s log m h.stands in
      (h, last_version s log m h.stands (sym (open_here s log m h.stands) ∙ idle) (left s log core c.in-Some.field-0.now is h some c.in-Some.ensures.lookup) (omega (arith, n)));
}

pub base_changes-requires-clause-tables : goal.base_changes-requires-clause-tables
base_changes-requires-clause-tables g c κs within =
    let r = c.requires in
    let m = c.args.self.now.machine in
    let idle : is_some m.store.draft ≡ false = search rules in
    let newest = taken_newest r.setup r.log m r.stands.stands (sym (open_here r.setup r.log m r.stands.stands) ∙ idle) c.in-Ok.tables c.in-Ok.ensures.tables in
    subst (λ catalog. AreBags catalog c.as_slice.result.now) (sym r.stands.catalog)
    (subst (AreBags r.setup.catalog) (sym (c.as_slice.ensures.value ∙ newest)) (newest_are r.setup r.log c.versions_are_contents.ensures r.is_setup r.stands.stands.legal).1)

pub base_changes-requires-clause-changes : goal.base_changes-requires-clause-changes
base_changes-requires-clause-changes g c κs within =
    let r = c.requires in
    let core = c.args.self.now in
    let some : 0 < deque_len core.nights = search rules in
    let given = of_catalogue r.setup r.log core c.in-Some.field-0.now r.is_setup r.stands some c.in-Some.ensures.lookup in
    subst (λ catalog. AreBags catalog c.as_slice-changes.result.now) (sym r.stands.catalog) (subst (AreBags r.setup.catalog) (sym c.as_slice-changes.ensures.value) given.changes)

pub course_of-requires-clause-judged : goal.course_of-requires-clause-judged
course_of-requires-clause-judged g c κs within =
    let core = c.args.self.now in
    let r = c.requires in
    let some : 0 < deque_len core.nights = search rules in
    r.stands.judged 0 c.in-Some.field-0.now (first_is core.nights.items c.in-Some.field-0.now (waits r.setup r.log core c.in-Some.field-0.now r.is_setup r.stands some c.in-Some.ensures.lookup) c.in-Some.ensures.lookup)

pub course_of-requires-clause-tables : goal.course_of-requires-clause-tables
course_of-requires-clause-tables g c κs within =
    let r = c.requires in
    let m = c.args.self.now.machine in
    let idle : is_some m.store.draft ≡ false = search rules in
    let newest = taken_newest r.setup r.log m r.stands.stands (sym (open_here r.setup r.log m r.stands.stands) ∙ idle) c.in-Ok.tables c.in-Ok.ensures.tables in
    subst (λ catalog. AreBags catalog c.in-Ok.tables.items) (sym r.stands.catalog)
    (subst (AreBags r.setup.catalog) (sym newest) (newest_are r.setup r.log c.versions_are_contents.ensures r.is_setup r.stands.stands.legal).1)

pub course_of-requires-clause-changes : goal.course_of-requires-clause-changes
course_of-requires-clause-changes g c κs within =
    let r = c.requires in
    let core = c.args.self.now in
    let some : 0 < deque_len core.nights = search rules in
    let given = of_catalogue r.setup r.log core c.in-Some.field-0.now r.is_setup r.stands some c.in-Some.ensures.lookup in
    subst (λ catalog. AreBags catalog c.as_slice-changes.result.now) (sym r.stands.catalog) (subst (AreBags r.setup.catalog) (sym c.as_slice-changes.ensures.value) given.changes)

pub course_of-requires-clause-fit : goal.course_of-requires-clause-fit
course_of-requires-clause-fit g c κs within =
    let r = c.requires in
    let core = c.args.self.now in
    let m = core.machine in
    let idle : is_some m.store.draft ≡ false = search rules in
    let newest = taken_newest r.setup r.log m r.stands.stands (sym (open_here r.setup r.log m r.stands.stands) ∙ idle) c.in-Ok.tables c.in-Ok.ensures.tables in
    let some : 0 < deque_len core.nights = search rules in
    let fit = fit_newest r.setup r.log core c.in-Some.field-0.now r.is_setup r.stands some c.in-Some.ensures.lookup c.versions_are_contents.ensures c.contents_are_fit_for_nights.ensures r.stands.stands.legal in
    subst (λ (catalog : CatalogOf). AreFitTables catalog c.in-Ok.tables.items) (sym r.stands.catalog) (subst (AreFitTables r.setup.catalog) (sym newest) fit)

pub start-requires : goal.start-requires
start-requires g c =
    let m = c.args.self.now.machine in
    let k = c.number.ensures in
    let no = c.if-number.false in
    let idle : is_some m.store.draft ≡ false = search rules in
    let early : (m.store.number + 1 == 2 ^ 64) ≡ false = not_equal (m.store.number + 1) (2 ^ 64) (λ f. omega (arith, f, k, no)) in
    record { free = (λ i. if idle i then Some store.NightOpen else (if m.store.number + 1 == 2 ^ 64 then Some store.LastVersion else None)) ∙ (λ i. if early i then Some store.LastVersion else None) }

-- ---- want of memory

pub returns-in_default-taken : goal.returns-in_default-taken
returns-in_default-taken g c = record {
  reply = λ s log is h.
      let core = c.args.self.now in
      let m = core.machine in
      let idle : is_some m.store.draft ≡ false = search rules in
      let closed : is_open log ≡ false = sym (open_here s log m h.stands) ∙ idle in
      let some : 0 < deque_len core.nights = search rules in
      let l = left s log core c.in-Some.field-0.now is h some c.in-Some.ensures.lookup in
      let k = c.number.ensures in
      let no = c.if-number.false in
      let n = number_here s log m h.stands in (
        record { catalog = h.catalog; nights = h.nights; judged = h.judged; keys = h.keys; stands = stands_with s log m c.taken.new.kept h.stands (subst (KeepsTables s log) (sym c.taken.ensures.none) tt) },
        begin_wants_memory s log m h.stands closed l (λ f. omega (arith, f, k, no, n)),
      );
}

pub returns-in_default-course_of : goal.returns-in_default-course_of
returns-in_default-course_of g c = record {
  reply = λ s log is h.
      let core = c.args.self.now in
      let m = core.machine in
      let idle : is_some m.store.draft ≡ false = search rules in
      let closed : is_open log ≡ false = sym (open_here s log m h.stands) ∙ idle in
      let some : 0 < deque_len core.nights = search rules in
      let l = left s log core c.in-Some.field-0.now is h some c.in-Some.ensures.lookup in
      let k = c.number.ensures in
      let no = c.if-number.false in
      let n = number_here s log m h.stands in (
        record { catalog = h.catalog; nights = h.nights; judged = h.judged; keys = h.keys; stands = stands_with s log m c.taken.new.kept h.stands (subst (KeepsTables s log) (sym c.taken.ensures.none) tt) },
        begin_wants_memory s log m h.stands closed l (λ f. omega (arith, f, k, no, n)),
      );
}

-- ---- a base change is refused: the tables are kept

pub returns-in-Err : goal.returns-in-Err
returns-in-Err g c = record {
  reply = λ s log is h.
      let core = c.args.self.now in
      let m = core.machine in
      let idle : is_some m.store.draft ≡ false = search rules in
      let closed : is_open log ≡ false = sym (open_here s log m h.stands) ∙ idle in
      let some : 0 < deque_len core.nights = search rules in
      let l = left s log core c.in-Some.field-0.now is h some c.in-Some.ensures.lookup in
      let k = c.number.ensures in
      let no = c.if-number.false in
      let n = number_here s log m h.stands in
      let newest = taken_newest s log m h.stands closed c.in-Ok.tables c.in-Ok.ensures.tables in
      let given = there s log core c.in-Some.field-0.now is h some c.in-Some.ensures.lookup in
      let same = same_night s log core.catalog (given_of c.in-Some.field-0.now) c.as_slice.result.now c.as_slice-changes.result.now core.keys h.catalog h.keys
      (c.as_slice.ensures.value ∙ newest) c.as_slice-changes.ensures.value given in (
        record { catalog = h.catalog; nights = h.nights; judged = h.judged; keys = h.keys; stands = stands_with s log m (Some c.in-Ok.tables) h.stands (keeps_newest s log c.in-Ok.tables closed newest) },
        subst (λ w. IsReply s log event.Begin (reply.Refused w)) (sym c.cause_of.ensures)
            (not_begun s log m h.stands closed l (λ f. omega (arith, f, k, no, n)) c.in-Err.fault
            (subst (λ (night : Night). IsBaseFault night.catalog night.tables night.changes c.in-Err.fault) same c.in-Err.ensures.refused)),
      );
}

-- ---- the night begins

pub returns-in-Begun : goal.returns-in-Begun
returns-in-Begun g c = record {
  reply = λ s log is h.
      let core = c.args.self.now in
      let m = core.machine in
      let idle : is_some m.store.draft ≡ false = search rules in
      let closed : is_open log ≡ false = sym (open_here s log m h.stands) ∙ idle in
      let some : 0 < deque_len core.nights = search rules in
      let l = left s log core c.in-Some.field-0.now is h some c.in-Some.ensures.lookup in
      let k = c.number.ensures in
      let no = c.if-number.false in
      let n = number_here s log m h.stands in
      let newest = taken_newest s log m h.stands closed c.in-Ok.tables c.in-Ok.ensures.tables in
      let given = there s log core c.in-Some.field-0.now is h some c.in-Some.ensures.lookup in
      let lent = same_night s log core.catalog (given_of c.in-Some.field-0.now) c.as_slice.result.now c.as_slice-changes.result.now core.keys h.catalog h.keys
      (c.as_slice.ensures.value ∙ newest) c.as_slice-changes.ensures.value given in
      let same = same_night s log core.catalog (given_of c.in-Some.field-0.now) c.in-Ok.tables.items c.as_slice-changes.result.now core.keys h.catalog h.keys
      newest c.as_slice-changes.ensures.value given in
      let made = c.in-Ok-course_of in
      let both = c.in-Begun.ensures s log (stands_with s log m c.taken.new.kept h.stands (subst (KeepsTables s log) (sym c.taken.ensures.none) tt)) closed l (λ f. omega (arith, f, k, no, n))
      (subst AreAllowed lent c.in_default-base_changes.ensures.allowed)
      (subst (λ night. AreParts night 0 (legs_of night) made.course.parts.items made.course.stop) same made.ensures.parts)
      (subst (λ night. IsEnd night made.last) same made.ensures.ends) in
      (goes s log core c.in-Some.field-0.now is h some c.in-Some.ensures.lookup (record core { nights = c.pop_front-begun.new.self }) c.start.new.self c.pop_front-begun.ensures.rest both.0, both.1);
}

-- ---- it is refused for an expression or for memory

pub returns-in_default-start : goal.returns-in_default-start
returns-in_default-start g c = record {
  reply = λ s log is h.
      let core = c.args.self.now in
      let m = core.machine in
      let idle : is_some m.store.draft ≡ false = search rules in
      let closed : is_open log ≡ false = sym (open_here s log m h.stands) ∙ idle in
      let some : 0 < deque_len core.nights = search rules in
      let l = left s log core c.in-Some.field-0.now is h some c.in-Some.ensures.lookup in
      let k = c.number.ensures in
      let no = c.if-number.false in
      let n = number_here s log m h.stands in
      let newest = taken_newest s log m h.stands closed c.in-Ok.tables c.in-Ok.ensures.tables in
      let given = there s log core c.in-Some.field-0.now is h some c.in-Some.ensures.lookup in
      let lent = same_night s log core.catalog (given_of c.in-Some.field-0.now) c.as_slice.result.now c.as_slice-changes.result.now core.keys h.catalog h.keys
      (c.as_slice.ensures.value ∙ newest) c.as_slice-changes.ensures.value given in
      let same = same_night s log core.catalog (given_of c.in-Some.field-0.now) c.in-Ok.tables.items c.as_slice-changes.result.now core.keys h.catalog h.keys
      newest c.as_slice-changes.ensures.value given in
      let made = c.in-Ok-course_of in
      let both = c.start.ensures s log (stands_with s log m c.taken.new.kept h.stands (subst (KeepsTables s log) (sym c.taken.ensures.none) tt)) closed l (λ f. omega (arith, f, k, no, n))
      (subst AreAllowed lent c.in_default-base_changes.ensures.allowed)
      (subst (λ night. AreParts night 0 (legs_of night) made.course.parts.items made.course.stop) same made.ensures.parts)
      (subst (λ night. IsEnd night made.last) same made.ensures.ends) in
      let same_log = refused_leaves log c.start.result c.in_default-start.not-Begun in (
        record { catalog = h.catalog; nights = h.nights ∙ ap (λ l. drop (nights_begun l) s.nights) (sym same_log); judged = h.judged; keys = h.keys; stands = both.0 },
        both.1,
      );
}
