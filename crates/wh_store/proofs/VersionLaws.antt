-- Versions in longer lists.
use Rattle.std.proofs.Common.{◌≡◌, refl, sym, ap, ◌∙◌, subst, ℕ, suc, ◌-◌, ◌≤◌, List, [], ◌∷◌, ◌++◌, arith}
use Rattle.std.specs.Prelude.{slice_index_or}
use Rattle.wh_store.specs.Laws.{VersionsStay, WindowsFollow}
use Rattle.wh_store.specs.Operations.{Operation, Opens, Writes, Commits, Gives_up}
use Rattle.wh_store.specs.Pages.{Contents}
use Rattle.wh_store.specs.Versions.{Versions, after, versions_from, versions_of, opened, number, version}
use Rattle.wh_store.specs.Windows.{applied}
use Rattle.wh_store.proofs.Shown.{shows_more}

joined : (v : Versions) (ops more : List Operation) → versions_from v (ops ++ more) ≡ versions_from (versions_from v ops) more
joined v [] more = refl
joined v (op ∷ ops) more = joined (after v op) ops more

older_at : (x : Contents) (xs : List Contents) (n s : ℕ) → s ≤ n → slice_index_or (x ∷ xs) (suc n - s) [] ≡ slice_index_or xs (n - s) []
older_at x xs n s h = let e : suc n - s ≡ suc (n - s) = omega arith in ap (λ k. slice_index_or (x ∷ xs) k []) e

number_after : (v : Versions) (op : Operation) → number v ≤ number (after v op)
number_after v Opens = omega arith
number_after v (Writes view rows) = omega arith
number_after v Commits = omega arith
number_after v Gives_up = omega arith

version-after : (v : Versions) (op : Operation) (s : ℕ) → s ≤ number v → version (after v op) s ≡ version v s
version-after v Opens s h = refl
version-after v (Writes view rows) s h = refl
version-after v Commits s h = older_at _ (v.newest ∷ v.older) (number v) s h
version-after v Gives_up s h = older_at _ (v.newest ∷ v.older) (number v) s h

stays_from : (v : Versions) (ops : List Operation) (s : ℕ) → s ≤ number v → (s ≤ number (versions_from v ops)) × (version (versions_from v ops) s ≡ version v s)
stays_from v [] s h = (h, refl)
stays_from v (op ∷ ops) s h =
    let k = number_after v op in
    let later = stays_from (after v op) ops s (omega (arith, h, k)) in
    (later.0, later.1 ∙ version-after v op s h)

pub versions_stay : VersionsStay
versions_stay opening ops more s h =
    let P : Versions → Type 0 = λ v. (s ≤ number v) × (version v s ≡ version (versions_of opening ops) s) in
    subst P (sym (joined (opened opening) ops more)) (stays_from (versions_of opening ops) more s h)

pub windows_follow : WindowsFollow
windows_follow w opening ops op enough shows free = shows_more w (applied w op) op enough free refl opening ops shows
