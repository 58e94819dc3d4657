-- Every version has as many tables as the warehouse began with.
use Rattle.std.proofs.Common.{◌≡◌, ◌∙◌, ap, refl, sym, ℕ, List, [], ◌∷◌, length, Option, Some, None}
use Rattle.std.specs.Prelude.{option_map, unwrap_or}
use Rattle.std.proofs.lemmas.List.{length-set}
use Rattle.std.proofs.lemmas.Option.{same_Some}
use Rattle.wh_row.specs.Weigh.{Counted}
use Rattle.wh_store.specs.Operations.{Operation, Opens, Writes, Commits, Gives_up}
use Rattle.wh_store.specs.Pages.{Contents}
use Rattle.wh_store.specs.Versions.{Versions, after, opened, versions_from, written_over}
use Rattle.wh_store.specs.Ledgers.{Warehouse, versions_in}

-- what is being written has so many tables
abbrev IsWide : ℕ → Option Contents → Type 0
IsWide views draft = (contents : Contents) → draft ≡ Some contents → length contents ≡ views

-- and so has the newest version
record AreWide (views : ℕ) (v : Versions) : Type 0 where
  newest : length v.newest ≡ views
  draft : IsWide views v.draft

written : (views view : ℕ) (rows : Counted) (draft : Option Contents) → IsWide views draft → IsWide views (option_map (written_over view rows) draft)
written views view rows None wide contents e = cc e
written views view rows (Some d) wide contents e = ap length (sym (same_Some _ _ e)) ∙ length-set d view _ ∙ wide d refl

committed : (views : ℕ) (newest : Contents) (draft : Option Contents) → length newest ≡ views → IsWide views draft → length (unwrap_or draft newest) ≡ views
committed views newest None e wide = e
committed views newest (Some d) e wide = wide d refl

wide_after : (views : ℕ) (v : Versions) (op : Operation) → AreWide views v → AreWide views (after v op)
wide_after views v Opens are = record { newest = are.newest; draft = λ contents e. ap length (sym (same_Some _ _ e)) ∙ are.newest }
wide_after views v (Writes view rows) are = record { newest = are.newest; draft = written views view rows v.draft are.draft }
wide_after views v Commits are = record { newest = committed views v.newest v.draft are.newest are.draft; draft = λ contents e. cc e }
wide_after views v Gives_up are = record { newest = are.newest; draft = λ contents e. cc e }

wide_from : (views : ℕ) (v : Versions) (ops : List Operation) → AreWide views v → AreWide views (versions_from v ops)
wide_from views v [] are = are
wide_from views v (op ∷ ops) are = wide_from views (after v op) ops (wide_after views v op are)

-- the newest version has a table for each view
pub newest_tables : (of : Warehouse) (list : List Operation) → length (versions_in of list).newest ≡ length of.opening
newest_tables of list = (wide_from (length of.opening) (opened of.opening) list (record { newest = refl; draft = λ contents e. cc e })).newest
