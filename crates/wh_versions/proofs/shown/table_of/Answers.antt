use Rattle.std.proofs.Common.{rules, ◌≡◌, ap, sym, subst, ◌∙◌, [], ◌∷◌, List, ℤ, ◌+ℤ◌, FitsSigned, Err, to_z, of_z, to_z-of_z}
use lib.IntN.{+ℤ_idl}
use mir.Syntax.{w64}
use Rattle.wh_pieces.specs.Row.{Row}
use Rattle.wh_pieces.specs.Place.{AreRisingRows}
use Rattle.wh_row.specs.Bag.{Bag, count, plus}
use Rattle.wh_versions.specs.Rows.{Pairs, read}
use Rattle.wh_versions.proofs.TouchLaws.{rising_rest}
use Rattle.wh_versions.proofs.TableOfLaws.{IsPart, part_first, part_more, part_last, first_new, some_shown}
use Rattle.wh_versions.proofs.shown.table_of.Goals as goal

pub loop-row-init : goal.loop-row-init
loop-row-init g c =
    let entries : c.into_iter-row-iterator.result ≡ c.args.rows.now = search rules in
    let same : c.into_iter-row-iterator.result ≡ c.entries-row-items.result = search rules in
    record {
      next = search rules;
      rising = subst (λ (es : List (Row × Pairs)). AreRisingRows es) (sym same) c.entries-row-items.ensures.rising;
      part = subst (λ (es : List (Row × Pairs)). IsPart c.args.version c.args.rows.now es c.new-table.result) (sym entries) (part_first c.args.version c.args.rows.now c.new-table.result c.new-table.ensures);
    }

pub loop-row-preserved : goal.loop-row-preserved
loop-row-preserved g c =
    let s = c.args.version in
    let e : Row × Pairs = (c.in-Some.row.now, c.in-Some.pairs) in
    let rest = c.next.new.self in
    let steps : c.loop-row.row-iterator ≡ e ∷ rest = c.in-Some.ensures.steps in
    let rising = subst (λ (es : List (Row × Pairs)). AreRisingRows es) steps c.loop-row.invariant.rising in
    let part = subst (λ (es : List (Row × Pairs)). IsPart s c.args.rows.now es c.loop-row.table) steps c.loop-row.invariant.part in
    let fits : FitsSigned w64 c.read.result = search rules in
    let count : to_z w64 (of_z w64 c.read.result) ≡ read s e.1 = to_z-of_z fits ∙ c.read.ensures in
    let now : c.add.new.self ≡ plus c.loop-row.table e.0 (read s e.1) = subst (λ (z : ℤ). c.add.new.self ≡ plus c.loop-row.table e.0 z) count c.in-Ok.ensures.ok in
    record {
      next = search rules;
      rising = rising_rest e rest rising;
      part = subst (λ (b : Bag). IsPart s c.args.rows.now rest b) (sym now) (part_more s c.args.rows.now rest e c.loop-row.table part rising);
    }

pub returns-in-Err-Memory-clause-memory : goal.returns-in-Err-Memory-clause-memory
returns-in-Err-Memory-clause-memory g c =
    let s = c.args.version in
    let e : Row × Pairs = (c.in-Some.row.now, c.in-Some.pairs) in
    let rest = c.next.new.self in
    let steps : c.loop-row.row-iterator ≡ e ∷ rest = c.in-Some.ensures.steps in
    let part = subst (λ (es : List (Row × Pairs)). IsPart s c.args.rows.now es c.loop-row.table) steps c.loop-row.invariant.part in
    let fits : FitsSigned w64 c.read.result = search rules in
    let some = (c.in-Err-Memory.ensures.memory (ap Err c.in-Err-Memory.field-0-is)).1 in
    some_shown s c.args.rows.now rest e c.loop-row.table part (λ z. some (to_z-of_z fits ∙ c.read.ensures ∙ z))

pub unreachable-requires : goal.unreachable-requires
unreachable-requires g c =
    let s = c.args.version in
    let e : Row × Pairs = (c.in-Some.row.now, c.in-Some.pairs) in
    let rest = c.next.new.self in
    let steps : c.loop-row.row-iterator ≡ e ∷ rest = c.in-Some.ensures.steps in
    let part = subst (λ (es : List (Row × Pairs)). IsPart s c.args.rows.now es c.loop-row.table) steps c.loop-row.invariant.part in
    let fits : FitsSigned w64 c.read.result = search rules in
    let new = first_new s c.args.rows.now rest e c.loop-row.table part in
    let more = to_z w64 (of_z w64 c.read.result) in
    let sum : count c.loop-row.table e.0 +ℤ more ≡ c.read.result = ap (λ z. z +ℤ more) new ∙ +ℤ_idl more ∙ to_z-of_z fits in
    c.in-Err-Large.ensures.large.0 (ap Err c.in-Err-Large.field-0-is) (subst (FitsSigned w64) (sym sum) fits)

pub returns-clause-ok : goal.returns-clause-ok
returns-clause-ok g c =
    let none : c.loop-row.row-iterator ≡ [] = search rules in
    part_last c.args.version c.args.rows.now c.loop-row.row-iterator c.loop-row.table none c.loop-row.invariant.part
