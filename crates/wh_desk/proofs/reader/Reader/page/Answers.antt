use Rattle.std.specs.Prelude.{option_map}
use Rattle.std.proofs.Common.{subst, ◌≡◌, Option}
use Rattle.wh_row.specs.Row.{Row}
use Rattle.wh_desk.specs.Desks.{NotRead, Reads}
use Rattle.wh_store.specs.Readers.{goes_on}
use Rattle.wh_desk.specs.Reading.{stand_of}
use Rattle.wh_desk.proofs.Turns.{not_shown, shown}
use Rattle.wh_desk.proofs.reader.Reader.page.Goals as goal

pub returns-in-Err-clause-refused : goal.returns-in-Err-clause-refused
returns-in-Err-clause-refused c =
    let at = option_map stand_of c.args.self.now.place in
    let row : option_map (λ row. row.now) c.row_in.result ≡ goes_on c.args.view at = c.row_in.ensures in
    not_shown c.args.self.now.desk c.page.new.self at c.args.view c.args.limit c.in-Err.fault c.requires.limit
    (subst (λ (r : Option Row). NotRead c.args.self.now.desk c.page.new.self c.args.view r c.args.limit c.in-Err.fault) row c.in-Err.ensures.answer)

pub returns-clause-page : goal.returns-clause-page
returns-clause-page c =
    let at = option_map stand_of c.args.self.now.place in
    let row : option_map (λ row. row.now) c.row_in.result ≡ goes_on c.args.view at = c.row_in.ensures in
    shown c.args.self.now.desk c.page.new.self at (option_map stand_of c.in_ok-self.field-0) c.args.view c.args.limit c.in-Ok.page c.requires.limit
    (subst (λ (r : Option Row). Reads c.args.self.now.desk c.page.new.self c.args.view r c.args.limit c.in-Ok.page) row c.in-Ok.ensures.answer)
    c.in_ok-self.ensures.place
