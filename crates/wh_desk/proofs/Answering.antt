-- That a read is answered by the rule of readers.
use Rattle.std.proofs.Common.{◌≡◌, ◌≢◌, ◌≤◌, ◌∙◌, ℕ, Bool, true, [], MatchResult, Option, Some, Result, Ok, Err, ap, refl, subst, sym}
use Rattle.std.proofs.lemmas.Option.{same_Some}
use Rattle.wh_row.specs.Row.{Row}
use Rattle.wh_store.specs.Pages.{Shown, page_of}
use Rattle.wh_store.specs.Readers.{Is_expired, No_such_view}
use Rattle.wh_store.specs.Versions.{is_active, number, table_of, version}
use Rattle.wh_store.proofs.Answers.{expires, has_view, lacks, shown, shows}
use Rattle.wh_desk.specs.declared.chair.DeskFault.{DeskFault}
use Rattle.wh_desk.specs.declared.chair.DeskFault.TheVariants.{NoSession, SessionOpen, Expired, NoView, Memory, Away}
use Rattle.wh_desk.specs.Desks.{Sitting, answer_in, versions_seen}
use Rattle.wh_desk.specs.Inner.Desks.{IsAnswerIn, IsFaultOf, IsPage, NoPage, ShowsRows, is_readable}

module _ (t : Sitting) (v view : ℕ) (after : Option Row) (limit : ℕ) where
  rows_answer : (page : Shown) → 1 ≤ limit → limit ≤ 256 → IsPage t v view after limit page → answer_in t v view after limit ≡ Ok page
  unfolding answer_in
  rows_answer page some few p =
      shows t.of.limit (number (versions_seen t)) (is_active (versions_seen t)) (version (versions_seen t) v) v view after limit p.0 p.1 some few ∙ ap Ok (sym p.2)

  expired_answer : (of current : ℕ) (active : Bool) → NoPage t v view (Expired of current active) → answer_in t v view after limit ≡ Err (Is_expired of current active)
  unfolding answer_in
  expired_answer of current active h =
      expires t.of.limit (number (versions_seen t)) (is_active (versions_seen t)) (version (versions_seen t) v) v view after limit h.1
      ∙ (λ i. Err (Is_expired (sym h.0 i) (sym h.2 i) (sym h.3 i)))

  lacks_answer : NoPage t v view NoView → answer_in t v view after limit ≡ Err No_such_view
  unfolding answer_in
  lacks_answer h =
      lacks t.of.limit (number (versions_seen t)) (is_active (versions_seen t)) (version (versions_seen t) v) v view after limit h.0 h.1

  memory_answer : 1 ≤ limit → limit ≤ 256 → t.session ≡ Some v → ShowsRows t view after limit → IsFaultOf (answer_in t v view after limit) Memory
  memory_answer some few sits rows =
      let same : rows.0 ≡ v = same_Some rows.0 v (sym rows.1 ∙ sits) in
      let here : (page_of (table_of (versions_seen t) v view) after limit).rows ≢ [] = subst (λ n. (page_of (table_of (versions_seen t) n view) after limit).rows ≢ []) same rows.3 in (
        page_of (table_of (versions_seen t) v view) after limit,
        rows_answer (page_of (table_of (versions_seen t) v view) after limit) some few (subst (λ n. is_readable t n ≡ true) same rows.2, has_view (version (versions_seen t) v) view after limit here, refl),
        here,
      )

  -- what is answered by parts is answered by the rule
  pub by_rule : 1 ≤ limit → limit ≤ 256 → t.session ≡ Some v → (r : Result Shown DeskFault) → MatchResult r (IsPage t v view after limit) (NoPage t v view) → (r ≡ Err Memory → ShowsRows t view after limit)
      → IsAnswerIn t v view after limit r
  by_rule some few sits (Ok page) h memory = rows_answer page some few h
  by_rule some few sits (Err (Expired of current active)) h memory = expired_answer of current active h
  by_rule some few sits (Err NoView) h memory = lacks_answer h
  by_rule some few sits (Err Memory) h memory = memory_answer some few sits (memory refl)
  by_rule some few sits (Err NoSession) h memory = absurd h
  by_rule some few sits (Err SessionOpen) h memory = absurd h
  by_rule some few sits (Err Away) h memory = absurd h

  -- and by parts again
  pub by_parts : (page : Shown) → answer_in t v view after limit ≡ Ok page → IsPage t v view after limit page
  unfolding answer_in
  by_parts page e =
      let is = shown t.of.limit (number (versions_seen t)) (is_active (versions_seen t)) (version (versions_seen t) v) v view after limit page e in
      (is.readable, is.there, is.is)
