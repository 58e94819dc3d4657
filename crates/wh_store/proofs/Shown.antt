-- What a store shows after one operation more.
use Rattle.std.proofs.Common.{◌≡◌, refl, sym, ap, ◌∙◌, subst, ℕ, zero, suc, ◌+◌, ◌-◌, ◌≤◌, ◌<◌, List, [], ◌∷◌, ◌++◌, length, take, map, arith, Option, Some, None, add-one, OnOk, IsOkUnless, MatchOption, Result, Ok, Err}
use Rattle.std.specs.Prelude.{slice_index_or}
use Rattle.wh_row.specs.Weigh.{Counted}
use Rattle.wh_store.specs.Pages.{Contents}
use Rattle.wh_store.specs.Slots.{Paired, still_read, taken_back}
use Rattle.wh_store.specs.Operations.{Operation, Opens, Writes, Commits, Gives_up}
use Rattle.wh_store.specs.Versions.{Versions, after, versions_from, versions_of, opened, number, version, kept_count, is_active}
use Rattle.wh_store.specs.Laws.{WindowsTell}
use Rattle.wh_store.specs.Refusals.{refusal}
use Rattle.wh_store.specs.Windows.{Window, window, Shows, applied, current, unexpired, kept_version}
use Rattle.std.specs.Prelude.{IsTrue, nat_le, nat_lt, ◌&&◌}
use Rattle.std.proofs.lemmas.Bool.Decides.{nat_tests}
use Rattle.wh_store.specs.Versions.{table_in, table_of}
use Rattle.wh_store.specs.declared.fault.StoreFault.{StoreFault}
use Rattle.wh_store.specs.declared.fault.StoreFault.TheVariants.{Memory}

pub versions_from-append : (v : Versions) (ops : List Operation) (op : Operation) → versions_from v (ops ++ op ∷ []) ≡ after (versions_from v ops) op
versions_from-append v [] op = refl
versions_from-append v (o ∷ ops) op = versions_from-append (after v o) ops op

take_take : {A : Type 0} (n : ℕ) (xs : List A) → take n (take (suc n) xs) ≡ take n xs
take_take zero xs = refl
take_take (suc n) [] = refl
take_take (suc n) (x ∷ xs) = ap (λ ys. x ∷ ys) (take_take n xs)

less : (m : ℕ) → suc (suc m) - 1 ≡ suc m
less m = omega arith

-- the claim at one operation
abbrev Follows : ℕ → List Paired → Versions → Operation → Type 0
Follows n rows v op = refusal (window n rows v) op ≡ None → applied (window n rows v) op ≡ window n (applied (window n rows v) op).rows (after v op)

opens_follow : (m : ℕ) (rows : List Paired) (newest : Contents) (older : List Contents) (draft : Option Contents) → Follows (suc (suc m)) rows (record { newest = newest; older = older; draft = draft }) Opens
opens_follow m rows newest older None h =
    let P : ℕ → Type 0 = λ k. take k (take (suc (suc m)) (newest ∷ older)) ≡ take k (newest ∷ older) in
    let kept = subst P (sym (less m)) (take_take (suc m) (newest ∷ older)) in
    ap (λ ks. record { limit = suc (suc m); number = length older; kept = ks; draft = Some newest; rows = map (still_read (suc (suc m)) (length older + 1)) rows }) kept
opens_follow m rows newest older (Some d) h = cc

writes_follow : (n : ℕ) (rows : List Paired) (newest : Contents) (older : List Contents) (draft : Option Contents) (view : ℕ) (page : Counted) → Follows n rows (record { newest = newest; older = older; draft = draft }) (Writes view page)
writes_follow n rows newest older None view page h = cc
writes_follow n rows newest older (Some d) view page h = refl

commits_follow : (m : ℕ) (rows : List Paired) (newest : Contents) (older : List Contents) (draft : Option Contents) → Follows (suc (suc m)) rows (record { newest = newest; older = older; draft = draft }) Commits
commits_follow m rows newest older None h = cc
commits_follow m rows newest older (Some d) h =
    λ i. record { limit = suc (suc m); number = add-one (length older) i; kept = d ∷ take (less m i) (newest ∷ older); draft = None; rows = rows }

gives_up_follow : (m : ℕ) (rows : List Paired) (newest : Contents) (older : List Contents) (draft : Option Contents) → Follows (suc (suc m)) rows (record { newest = newest; older = older; draft = draft }) Gives_up
gives_up_follow m rows newest older None h = cc
gives_up_follow m rows newest older (Some d) h =
    let head : slice_index_or (take (suc (suc m) - 1) (newest ∷ older)) 0 [] ≡ newest = ap (λ k. slice_index_or (take k (newest ∷ older)) 0 []) (less m) in
    λ i. record { limit = suc (suc m); number = add-one (length older) i; kept = head i ∷ take (less m i) (newest ∷ older); draft = None; rows = map (taken_back (length older + 1)) rows }

-- a window of the versions, where at least two are kept
applied_by : (m : ℕ) (rows : List Paired) (v : Versions) (op : Operation) → Follows (suc (suc m)) rows v op
applied_by m rows v Opens = opens_follow m rows v.newest v.older v.draft
applied_by m rows v (Writes view page) = writes_follow (suc (suc m)) rows v.newest v.older v.draft view page
applied_by m rows v Commits = commits_follow m rows v.newest v.older v.draft
applied_by m rows v Gives_up = gives_up_follow m rows v.newest v.older v.draft

two : (n : ℕ) → 2 ≤ n → (m : ℕ) × (n ≡ suc (suc m))
two zero h = absurd (omega arith)
two (suc zero) h = absurd (omega arith)
two (suc (suc m)) h = (m, refl)

pub applied-window : (n : ℕ) (rows : List Paired) (v : Versions) (op : Operation) → 2 ≤ n → Follows n rows v op
applied-window n rows v op h =
    let t = two n h in
    let P : ℕ → Type 0 = λ k. Follows k rows v op in
    subst P (sym t.1) (applied_by t.0 rows v op)

-- applied keeps the limit
limit_stays : (w : Window) (op : Operation) → (applied w op).limit ≡ w.limit
limit_stays w Opens = refl
limit_stays w (Writes view rows) = refl
limit_stays w Commits = refl
limit_stays w Gives_up = refl

pub shows_more : (old new : Window) (op : Operation) → 2 ≤ old.limit → refusal old op ≡ None → new ≡ applied old op → (opening : Contents) (ops : List Operation) → Shows old opening ops → Shows new opening (ops ++ op ∷ [])
shows_more old new op enough ok is opening ops shows =
    let v = versions_of opening ops in
    let free : refusal (window old.limit old.rows v) op ≡ None = ap (λ w. refusal w op) (sym shows) ∙ ok in
    let e = applied-window old.limit old.rows v op enough free in
    let made : new ≡ applied (window old.limit old.rows v) op = is ∙ ap (λ w. applied w op) shows in
    let f : window old.limit (applied (window old.limit old.rows v) op).rows (after v op) ≡ window old.limit new.rows (versions_of opening (ops ++ op ∷ [])) =
    λ i. window old.limit (sym made i).rows (sym (versions_from-append (opened opening) ops op) i) in
    let l : new.limit ≡ old.limit = ap (λ w. w.limit) is ∙ limit_stays old op in
    made ∙ e ∙ f ∙ ap (λ n. window n new.rows (versions_of opening (ops ++ op ∷ []))) (sym l)

none_of : (x : Unit {0}) (o : Option StoreFault) → MatchOption o (IsOkUnless {T = Unit {0}} (Ok x) Memory) (λ fault. Ok x ≡ Err fault) → o ≡ None
none_of x None h = refl
none_of x (Some e) h = cc

-- the same of a call's answer
pub applied_shows : (r : Result (Unit {0}) StoreFault) (old new : Window) (op : Operation) → 2 ≤ old.limit → OnOk r (new ≡ applied old op) → MatchOption (refusal old op) (IsOkUnless r Memory) (λ fault. r ≡ Err fault)
    → OnOk r ((opening : Contents) (ops : List Operation) → Shows old opening ops → Shows new opening (ops ++ op ∷ []))
applied_shows (Ok x) old new op enough is free = shows_more old new op enough (none_of x _ free) is
applied_shows (Err e) old new op enough is free = tt

-- a kept version is the list's
get_or-take : {A : Type 0} (k i : ℕ) (xs : List A) (d : A) → i < k → slice_index_or (take k xs) i d ≡ slice_index_or xs i d
get_or-take zero i xs d h = absurd (omega arith)
get_or-take (suc k) i [] d h = refl
get_or-take (suc k) zero (x ∷ xs) d h = refl
get_or-take (suc k) (suc i) (x ∷ xs) d h = get_or-take k i xs d (omega arith)

pub kept_version-window : (n : ℕ) (rows : List Paired) (v : Versions) (s : ℕ) → number v - s < kept_count n (is_active v) → kept_version (window n rows v) s ≡ version v s
kept_version-window n rows v s h = get_or-take (kept_count n (is_active v)) (number v - s) (v.newest ∷ v.older) [] h

pub table_shown : (w : Window) (opening : Contents) (ops : List Operation) (s view : ℕ) → Shows w opening ops → IsTrue (unexpired w s) → table_in (kept_version w s) view ≡ table_of (versions_of opening ops) s view
table_shown w opening ops s view shows h =
    let v = versions_of opening ops in
    let u : IsTrue (unexpired (window w.limit w.rows v) s) = let P : Window → Type 0 = λ x. IsTrue (unexpired x s) in subst P shows h in
    let near = unexpired_near (number v) s (kept_count w.limit (is_active v)) u in
    ap (λ x. table_in (kept_version x s) view) shows ∙ ap (λ c. table_in c view) (kept_version-window w.limit w.rows v s near)
  where
    unexpired_near : (n s k : ℕ) → IsTrue (nat_le s n && nat_lt n (s + k)) → n - s < k
    unexpired_near n s k h = grind (arith, nat_tests)

unexpired_near : (n s k : ℕ) → IsTrue (nat_le s n && nat_lt n (s + k)) → n - s < k
unexpired_near n s k h = grind (arith, nat_tests)

pub views_shown : (w : Window) (opening : Contents) (ops : List Operation) (s : ℕ) → Shows w opening ops → IsTrue (unexpired w s) → length (kept_version w s) ≡ length (version (versions_of opening ops) s)
views_shown w opening ops s shows h =
    let v = versions_of opening ops in
    let P : Window → Type 0 = λ x. IsTrue (unexpired x s) in
    let u : IsTrue (unexpired (window w.limit w.rows v) s) = subst P shows h in
    ap (λ x. length (kept_version x s)) shows ∙ ap length (kept_version-window w.limit w.rows v s (unexpired_near (number v) s (kept_count w.limit (is_active v)) u))

-- the current contents of what shows a list are its newest
pub current_shown : (w : Window) (opening : Contents) (ops : List Operation) → 2 ≤ w.limit → Shows w opening ops → current w ≡ (versions_of opening ops).newest
current_shown w opening ops enough shows =
    let v = versions_of opening ops in
    let t = two w.limit enough in
    let P : ℕ → Type 0 = λ n. current (window n w.rows v) ≡ v.newest in
    ap current shows ∙ subst P (sym t.1) (newest_first t.0 w.rows v.newest v.older v.draft)
  where
    newest_first : (m : ℕ) (rows : List Paired) (newest : Contents) (older : List Contents) (draft : Option Contents) → current (window (suc (suc m)) rows (record { newest = newest; older = older; draft = draft })) ≡ newest
    newest_first m rows newest older None = refl
    newest_first m rows newest older (Some d) = ap (λ k. slice_index_or (take k (newest ∷ older)) 0 []) (less m)

kept_shown : (w : Window) (opening : Contents) (ops : List Operation) (s : ℕ) → Shows w opening ops → IsTrue (unexpired w s) → kept_version w s ≡ version (versions_of opening ops) s
kept_shown w opening ops s shows h =
    let v = versions_of opening ops in
    let P : Window → Type 0 = λ x. IsTrue (unexpired x s) in
    ap (λ x. kept_version x s) shows ∙ kept_version-window w.limit w.rows v s (unexpired_near (number v) s (kept_count w.limit (is_active v)) (subst P shows h))

pub windows_tell : WindowsTell
windows_tell w opening ops shows =
    record {
      numbered = ap (λ x. x.number) shows;
      written = ap (λ x. x.draft) shows;
      readable = λ s. ap (λ x. unexpired x s) shows;
      contents = λ s h. kept_shown w opening ops s shows h;
      newest = λ enough. current_shown w opening ops enough shows;
    }
