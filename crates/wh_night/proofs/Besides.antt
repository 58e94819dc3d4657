-- What readers saw beside a night.
use Rattle.std.proofs.Common.{◌≡◌, ◌∙◌, ◌<◌, List, Option, Some, None, arith, length, subst, sym}
use Rattle.std.specs.Prelude.{IfSome, slice_index_or}
use Rattle.std.specs.Global.{Vec}
use Rattle.std.specs.List.{All}
use Rattle.wh_desk.specs.Askers.{AreAnswered, CanAsk, IsAnswered}
use Rattle.wh_desk.specs.Known.{Known}
use Rattle.wh_desk.specs.Writers.{Writing}
use Rattle.wh_desk.specs.declared.askers.Answered.{Answered}
use Rattle.wh_desk.specs.declared.askers.Asker.{Asker}
use Rattle.wh_night.proofs.Rests.{an_asker}

-- a reader that was answered is still at the warehouse of what it was told, which is the writer's
one_book : (w : Writing) (told : Known) (asker : Asker) (one : Option Answered) → told.book ≡ w.book → CanAsk told asker → IfSome one (IsAnswered told asker) → IfSome one (λ a. a.reader.desk.book ≡ w.book)
one_book w told asker None same can is = tt
one_book w told asker (Some a) same can is = is.grows.0 ∙ is.was_told.grows.0 ∙ sym can.0 ∙ same

pub all_books : (w : Writing) (told : Known) (askers : List Asker) (answered : Option (Vec (Option Answered))) → told.book ≡ w.book → All (CanAsk told) askers → IfSome answered (λ all. AreAnswered told askers all.items)
    → IfSome answered (λ all. All (λ one. IfSome one (λ a. a.reader.desk.book ≡ w.book)) all.items)
all_books w told askers None same can are = tt
all_books w told askers (Some all) same can are = λ k d l.
    let m : k < length askers = (let e = are.each in omega (arith, l, e)) in
    let a : Asker = an_asker askers k m in
    one_book w told (slice_index_or askers k a) (slice_index_or all.items k d) same (can k a m) (are.are k a d m)

-- what holds of all that was answered holds of what is told of it
pub if_same : (P : Vec (Option Answered) → Type 0) (answered had : Option (Vec (Option Answered))) → IfSome had (λ all. answered ≡ Some all) → IfSome answered P → IfSome had P
if_same P answered None same is = tt
if_same P answered (Some all) same is = subst (λ o. IfSome o P) same is
