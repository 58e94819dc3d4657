-- That rounds of what readers are asked are calls of their desks, one after another.
use Rattle.std.proofs.Common.{sym, subst, List, [], ◌++◌, Option}
use Rattle.std.specs.Prelude.{option_map}
use Rattle.std.proofs.lemmas.List.{append-nil, append_assoc}
use Rattle.wh_desk.specs.Desks.{Sitting}
use Rattle.wh_store.specs.Readers.{Bookmark}
use Rattle.wh_desk.specs.Reading.{Call, stand_of}
use Rattle.wh_headline.specs.OneLog.{HasAnswered, RoundsAreCalls, no_more, then_asked, was_told}

has_then : (t u w : Sitting) (at later end : Option Bookmark) (calls more : List Call) → HasAnswered t at calls u later → HasAnswered u later more w end → HasAnswered t at (calls ++ more) w end
has_then _ _ w _ _ end _ more (no_more t at) rest = rest
has_then _ _ w _ _ end _ more (was_told t x u at later calls grows same has) rest = was_told t x w at end (calls ++ more) grows same (has_then x u w at later end calls more has rest)
has_then _ _ w _ _ end _ more (then_asked t x u at next later calls others are has) rest =
    subst (λ cs. HasAnswered t at cs w end) (sym (append_assoc calls others more)) (then_asked t x w at next end calls (others ++ more) are (has_then x u w next later end others more has rest))

pub rounds : RoundsAreCalls
rounds first at before told asker a has is =
    let here : Sitting = asker.reader.desk in
    let stand : Option Bookmark = option_map stand_of asker.reader.place in
    let later : Option Bookmark = option_map stand_of a.reader.place in
    let calls : List Call = is.turns.calls in
    let round : HasAnswered here stand (calls ++ []) a.reader.desk later =
    was_told here is.start a.reader.desk stand later (calls ++ []) is.was_told.grows is.was_told.session (then_asked is.start a.reader.desk a.reader.desk stand later later calls [] is.turns.are (no_more a.reader.desk later)) in (
      calls,
      is.turns.come,
      has_then first here a.reader.desk at stand later before calls has (subst (λ cs. HasAnswered here stand cs a.reader.desk later) (append-nil calls) round),
    )
