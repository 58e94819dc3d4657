-- What a desk reads once it was told what is published.
use Rattle.std.proofs.Common.{◌≡◌, ◌-◌, ◌∷◌, ℕ, [], Option, length, ap, arith, sym, ◌∙◌}
use Rattle.std.specs.Prelude.{slice_index_or}
use Rattle.std.proofs.lemmas.Option.{same_Some}
use Rattle.wh_row.specs.Row.{Row}
use Rattle.wh_store.specs.Pages.{Shown, page_of}
use Rattle.wh_store.specs.Versions.{Versions, number, table_in, table_of, version}
use Rattle.wh_desk.specs.Desks.{Grows, OpensAt, Reads, SeenVersionsStay, Sitting, versions_seen}
use Rattle.wh_desk.proofs.Answering.{by_parts}
use Rattle.wh_desk.proofs.Prefixes.{prefix_trans}

pub grows_on : (s t u : Sitting) → Grows s t → Grows t u → Grows s u
grows_on s t u a b = (b.0 ∙ a.0, b.1 ∙ a.1, prefix_trans s.list t.list u.list a.2 b.2)

-- the newest contents are those of the current version
newest_is : (v : Versions) → version v (number v) ≡ v.newest
newest_is v = let e : length v.older - length v.older ≡ 0 = omega arith in ap (λ i. slice_index_or (v.newest ∷ v.older) i []) e

-- a desk that was told all of w, and enters at its current version, reads w's newest contents
pub told_page : SeenVersionsStay → (w s t u : Sitting) (v view limit : ℕ) (after : Option Row) (page : Shown) → Grows w s → OpensAt s t v → v ≡ number (versions_seen w) → Reads t u view after limit page
    → page ≡ page_of (table_in (versions_seen w).newest view) after limit
told_page stay w s t u v view limit after page grows opens current reads =
    let on : Grows w u = grows_on w t u (grows_on w s t grows opens.0.0) reads.1.0.0 in
    let k : ℕ = number (versions_seen w) in
    let at : reads.0 ≡ k = same_Some reads.0 v (sym reads.1.1 ∙ opens.2) ∙ current in
    let is : version (versions_seen u) k ≡ (versions_seen w).newest = (stay w u k on (omega arith)).1 ∙ newest_is (versions_seen w) in
    (by_parts u reads.0 view after limit page reads.2).2 ∙ ap (λ (n : ℕ). page_of (table_of (versions_seen u) n view) after limit) at ∙ ap (λ contents. page_of (table_in contents view) after limit) is
