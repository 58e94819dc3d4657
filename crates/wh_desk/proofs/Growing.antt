-- What a desk knows only grows.
use Rattle.std.proofs.Common.{◌≡◌, ◌≤◌, ◌++◌, ℕ, Option, Result, Ok, Err, MatchResult, ap, sym, subst}
use mathlib.Core.List.{IsPrefix}
use Rattle.wh_row.specs.Row.{Row}
use Rattle.wh_store.specs.Laws.{VersionsStay}
use Rattle.wh_store.specs.Pages.{Shown}
use Rattle.wh_store.specs.Versions.{Versions, number, version, versions_of}
use Rattle.wh_desk.specs.declared.chair.DeskFault.{DeskFault}
use Rattle.wh_desk.specs.declared.chair.DeskFault.TheVariants.{NoSession, SessionOpen, Expired, NoView, Memory, Away}
use Rattle.wh_desk.specs.Desks.{Grows, NotOpened, NotRead, OpensAt, Reads, SeenVersionsStay, Sitting, versions_seen}
use Rattle.wh_desk.proofs.Prefixes.{prefix_self}

same_grows : (s t : Sitting) → t ≡ s → Grows s t
same_grows s t e = (ap (λ (z : Sitting). z.book) e, ap (λ (z : Sitting). z.of) e, subst (λ (z : Sitting). IsPrefix s.list z.list) (sym e) (prefix_self s.list))

pub opens_grow : (s t : Sitting) (r : Result ℕ DeskFault) → MatchResult r (OpensAt s t) (NotOpened s t) → Grows s t
opens_grow s t (Ok v) h = h.0.0
opens_grow s t (Err SessionOpen) h = same_grows s t h.0
opens_grow s t (Err Away) h = same_grows s t h.0
opens_grow s t (Err NoSession) h = absurd h
opens_grow s t (Err (Expired v n a)) h = absurd h
opens_grow s t (Err NoView) h = absurd h
opens_grow s t (Err Memory) h = absurd h

pub reads_grow : (s t : Sitting) (view : ℕ) (after : Option Row) (limit : ℕ) (r : Result Shown DeskFault) → MatchResult r (Reads s t view after limit) (NotRead s t view after limit) → Grows s t
reads_grow s t view after limit (Ok page) h = h.1.0.0
reads_grow s t view after limit (Err SessionOpen) h = absurd h
reads_grow s t view after limit (Err Away) h = same_grows s t h.0
reads_grow s t view after limit (Err NoSession) h = same_grows s t h.0
reads_grow s t view after limit (Err (Expired v n a)) h = h.1.0.0
reads_grow s t view after limit (Err NoView) h = h.1.0.0
reads_grow s t view after limit (Err Memory) h = h.1.0.0

pub seen_versions_stay : VersionsStay → SeenVersionsStay
seen_versions_stay stay s t v grows least =
    let longer : versions_of s.of.opening (s.list ++ grows.2.0) ≡ versions_seen t = (λ i. versions_of (sym grows.1 i).opening (grows.2.1 i)) in
    subst (λ (w : Versions). (v ≤ number w) × (version w v ≡ version (versions_seen s) v)) longer (stay s.of.opening s.list grows.2.0 v least)
