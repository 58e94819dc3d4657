use Rattle.std.proofs.Common.{rules, ◌≡◌, ◌∷◌, ◌++◌, ◌∙◌, [], ap, ℤ, FitsSigned, w64, to_z-of_z}
use Rattle.csv.specs.Records.{fields_of}
use Rattle.wh_row.specs.Row.{Row}
use Rattle.wh_text.specs.Columns.{kinds_of}
use Rattle.wh_text_tables.proofs.TableRows.{entered-ok}
use Rattle.wh_text_tables.proofs.table.rows.add_entry.Goals as goal

pub returns-clause-ok : goal.returns-clause-ok
returns-clause-ok c =
    let whole : FitsSigned w64 c.in_ok-count.count = search rules in
    let entry : Row × ℤ = (c.read_entry.new.row.items, c.in_ok-count.count) in
    let pushed : c.push.new.self ≡ c.args.rows.now.counted ++ entry ∷ [] =
    c.in_ok-push.ensures.ok ∙ ap (λ (e : Row × ℤ). c.args.rows.now.counted ++ e ∷ []) (λ i. (c.deref.ensures.value i, to_z-of_z whole i)) in
    entered-ok (kinds_of c.args.reader.now.columns.now) c.args.counting c.args.rows.now.dict c.read_entry.new.dict c.args.rows.now.counted c.push.new.self c.args.number (fields_of c.args.cells.now) entry
    c.in_ok-count.ensures.texts c.in_ok-count.ensures.ok pushed
