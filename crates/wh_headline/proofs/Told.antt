-- What a desk that is told what a writer has published knows of the pages that it was given.
use Rattle.std.proofs.Common.{◌≡◌, ◌∙◌, ◌≤◌, ◌<◌, ℕ, None, length, refl, sym, ap, subst}
use Rattle.std.specs.Prelude.{nat_le, nat_lt, ◌+◌}
use Rattle.std.proofs.lemmas.Bool.{and_parts, leb-true}
use Rattle.std.proofs.lemmas.Option.{same_Some}
use Rattle.wh_store.specs.Pages.{Contents, page_of}
use Rattle.wh_store.specs.Versions.{is_active, kept_count, number, table_in, version}
use Rattle.wh_store.specs.Ledgers.{versions_in}
use Rattle.wh_desk.specs.Known.{known}
use Rattle.wh_desk.specs.Desks.{Grows, SeenVersionsStay, Sitting, sitting, versions_seen}
use Rattle.wh_desk.specs.Inner.Desks.{IsPage}
use Rattle.wh_desk.proofs.Answering.{by_parts}
use Rattle.wh_headline.specs.Told.{ToldPagesAreOfContents}

pub told_pages : SeenVersionsStay → ToldPagesAreOfContents
told_pages stay catalog l before after told v view limit row page sound least session reads grows was =
    let writer : Sitting = sitting (known told.book l.of l.list) None in
    let on : Grows writer told = (refl, sym was.0, was.1) in
    let same : reads.0 ≡ v = same_Some reads.0 v (sym reads.1.1 ∙ session) in
    let at : IsPage after v view row limit page = subst (λ k. IsPage after k view row limit page) same (by_parts after reads.0 view row limit page reads.2) in
    let current : ℕ = number (versions_seen after) in
    let there : v ≤ current = leb-true v current (and_parts (nat_le v current) (nat_lt current (v + kept_count after.of.limit (is_active (versions_seen after)))) at.0).0 in
    let now : version (versions_seen after) v ≡ version (versions_in l.of l.list) v = sym (stay after told v grows there).1 ∙ (stay writer told v on least).1 in
    record {
      of_base = sound.contents v least;
      there = subst (λ (c : Contents). view < length c) now at.1;
      is = at.2 ∙ ap (λ (c : Contents). page_of (table_in c view) row limit) now;
    }
