-- Versions that readers see alike, and what a night makes of them.
use Rattle.std.proofs.Common.{◌≡◌, refl, sym, ap, ◌∙◌, subst, ℕ, suc, ◌+◌, List, [], ◌∷◌, ◌++◌, length, false, arith, Option, Some, None}
use Rattle.std.specs.Prelude.{is_some, map, option_map, take}
use Rattle.wh_row.specs.Bag.{Bag}
use Rattle.wh_row.specs.Weigh.{Counted}
use Rattle.wh_maint.specs.Definition.{graph_of}
use Rattle.wh_maint.specs.View.{ViewGraph}
use Rattle.wh_strategy.specs.declared.expression.Expression.{Expression}
use Rattle.wh_strategy.specs.declared.expression.Expression.TheVariants.{Comp, Inst}
use Rattle.wh_store.specs.Operations.{Operation, Opens, Writes, Commits, Gives_up}
use Rattle.wh_store.specs.Pages.{Contents}
use Rattle.wh_store.specs.Versions.{Versions, after, is_active, number, versions_from, written_over}
use Rattle.wh_carry.specs.Carry.{State, at_first, step}
use Rattle.wh_carry.specs.NightList.{IsBeginning, IsCutNight, IsNightList, inst_pages, night_below, puts_of, ends_before, whole}
use Rattle.wh_carry.specs.Refused.{ArePassedBelow}
use Rattle.wh_carry.proofs.NewValues.{passed_have_values}
use Rattle.wh_carry.proofs.Prefixes.{place_within, take_whole}
use Rattle.wh_carry.specs.Legs.{Leg, Wave, Page}
use Rattle.wh_carry.specs.Night.{Night}
use Rattle.wh_core.proofs.NightLogs.{night_ops}
use Rattle.wh_core.proofs.Underway.{ops_of, versions_from-append}
use Rattle.wh_headline.specs.Alike.{AreSeenAlike}

pub same_alike : (v w : Versions) → v ≡ w → AreSeenAlike v w
same_alike v w e = record { newest = ap (λ (x : Versions). x.newest) e; older = ap (λ (x : Versions). x.older) e; active = ap is_active e }

pub alike_then : (u v w : Versions) → AreSeenAlike u v → AreSeenAlike v w → AreSeenAlike u w
alike_then u v w a b = record { newest = a.newest ∙ b.newest; older = a.older ∙ b.older; active = a.active ∙ b.active }

pub alike_back : (v w : Versions) → AreSeenAlike v w → AreSeenAlike w v
alike_back v w a = record { newest = sym a.newest; older = sym a.older; active = sym a.active }

pub number_alike : (v w : Versions) → AreSeenAlike v w → number v ≡ number w
number_alike v w a = ap length a.older

-- a night begins from what is newest, so nothing of what was written before is left
pub opened_alike : (v w : Versions) → AreSeenAlike v w → after v Opens ≡ after w Opens
opened_alike v w a = λ i. record { newest = a.newest i; older = a.older i; draft = Some (a.newest i) }

pub given_up_alike : (v w : Versions) → AreSeenAlike v w → AreSeenAlike (after v Gives_up) (after w Gives_up)
given_up_alike v w a = record { newest = a.newest; older = λ i. a.newest i ∷ a.older i; active = refl }

-- ---- puts

-- only pages are put
ArePuts : List Operation → Type 0
ArePuts [] = Unit {0}
ArePuts (Opens ∷ ops) = ⊥
ArePuts (Writes view rows ∷ ops) = ArePuts ops
ArePuts (Commits ∷ ops) = ⊥
ArePuts (Gives_up ∷ ops) = ⊥

pages_are_puts : (v : ℕ) (pages : List Counted) (ops : List Operation) → ArePuts ops → ArePuts (map (Writes v) pages ++ ops)
unfolding ArePuts
pages_are_puts v [] ops h = h
pages_are_puts v (p ∷ pages) ops h = pages_are_puts v pages ops h

puts_are_puts : (g : ViewGraph) (changes : ℕ → Bag) (keys : ℕ) (list : List Expression) (s : State) → ArePuts (puts_of g changes keys list s)
unfolding ArePuts puts_of
puts_are_puts g changes keys [] s = tt
puts_are_puts g changes keys (Comp v ys ∷ list) s = puts_are_puts g changes keys list (step g changes (Comp v ys) s)
puts_are_puts g changes keys (Inst v ∷ list) s = pages_are_puts v (inst_pages g changes keys s v) _ (puts_are_puts g changes keys list (step g changes (Inst v) s))

first_puts : (ops rest : List Operation) → ArePuts (ops ++ rest) → ArePuts ops
unfolding ArePuts
first_puts [] rest h = tt
first_puts (Opens ∷ ops) rest h = absurd h
first_puts (Writes view rows ∷ ops) rest h = first_puts ops rest h
first_puts (Commits ∷ ops) rest h = absurd h
first_puts (Gives_up ∷ ops) rest h = absurd h

still_active : (view : ℕ) (rows : Counted) (draft : Option Contents) → is_some (option_map (written_over view rows) draft) ≡ is_some draft
still_active view rows None = refl
still_active view rows (Some contents) = refl

-- no reader sees a page that is put
puts_alike : (v : Versions) (ops : List Operation) → ArePuts ops → AreSeenAlike (versions_from v ops) v
unfolding ArePuts
puts_alike v [] h = same_alike v v refl
puts_alike v (Opens ∷ ops) h = absurd h
puts_alike v (Writes view rows ∷ ops) h =
    let next : Versions = after v (Writes view rows) in
    alike_then (versions_from next ops) next v (puts_alike next ops h) (record { newest = refl; older = refl; active = still_active view rows v.draft })
puts_alike v (Commits ∷ ops) h = absurd h
puts_alike v (Gives_up ∷ ops) h = absurd h

legs_put : (legs : List Leg) → ArePuts (ops_of legs)
unfolding ArePuts
legs_put [] = tt
legs_put (Wave place jobs ∷ legs) = legs_put legs
legs_put (Page place view rows ∷ legs) = legs_put legs

-- so no reader sees the pages of a night's legs
pub legs_alike : (v : Versions) (legs : List Leg) → AreSeenAlike (versions_from v (ops_of legs)) v
legs_alike v legs = puts_alike v (ops_of legs) (legs_put legs)

-- ---- a beginning of a night

begun_puts : (n : Night) (puts : List Operation) → IsBeginning n.catalog n.list n.tables n.changes n.keys (Opens ∷ puts) → ArePuts puts
begun_puts n puts b =
    let g : ViewGraph = graph_of n.catalog in
    let all : List Operation = puts_of g n.changes n.keys (take b.place n.list) (at_first n.tables) in
    let split : all ≡ puts ++ b.rest = behind all (puts ++ b.rest) b.begins in
    first_puts puts b.rest (subst ArePuts split (puts_are_puts g n.changes n.keys (take b.place n.list) (at_first n.tables)))
  where
    behind : (a b : List Operation) → Opens ∷ a ≡ Opens ∷ b → a ≡ b
    behind a b e = cc

pub beginning_alike : (n : Night) (v w : Versions) (puts : List Operation) → AreSeenAlike v w → IsBeginning n.catalog n.list n.tables n.changes n.keys (Opens ∷ puts)
    → AreSeenAlike (versions_from v (Opens ∷ puts)) (versions_from w (Opens ∷ []))
beginning_alike n v w puts a b =
    alike_then (versions_from v (Opens ∷ puts)) (after v Opens) (after w Opens) (puts_alike (after v Opens) puts (begun_puts n puts b)) (same_alike (after v Opens) (after w Opens) (opened_alike v w a))

pub cut_alike : (n : Night) (v w : Versions) (ops : List Operation) → AreSeenAlike v w → IsCutNight n.catalog n.list n.tables n.changes n.keys ops
    → AreSeenAlike (versions_from v ops) (versions_from w (Opens ∷ Gives_up ∷ []))
cut_alike n v w ops a c =
    let begun : Versions = versions_from v (Opens ∷ c.puts) in
    let now : versions_from v ops ≡ after begun Gives_up = ap (versions_from v) c.cut ∙ versions_from-append v (Opens ∷ c.puts) (Gives_up ∷ []) in
    alike_then (versions_from v ops) (after begun Gives_up) (versions_from w (Opens ∷ Gives_up ∷ []))
    (same_alike (versions_from v ops) (after begun Gives_up) now)
    (given_up_alike begun (versions_from w (Opens ∷ [])) (beginning_alike n v w c.puts a c.beginning))

pub cut_number : (v : Versions) → number (versions_from v (Opens ∷ Gives_up ∷ [])) ≡ number v + 1
cut_number v = let one : suc (number v) ≡ number v + 1 = omega arith in one

-- ---- a whole night

pub whole_list : (n : Night) (ops : List Operation) → ArePassedBelow n.catalog n.list n.tables n.changes (length n.list) → IsNightList n.catalog n.list n.tables n.changes n.keys ops
    → ops ≡ night_below (graph_of n.catalog) n.changes n.keys n.list n.tables (length n.list) ++ Commits ∷ []
whole_list n _ passed (whole values) = refl
whole_list n _ passed (ends_before place e at values none) = absurd (none (passed_have_values n.catalog n.changes _ e (passed place e (place_within n.list place e at) at)))

pub whole_ops : (n : Night) (ops : List Operation) → ArePassedBelow n.catalog n.list n.tables n.changes (length n.list) → IsNightList n.catalog n.list n.tables n.changes n.keys ops → ops ≡ night_ops n
whole_ops n ops passed list =
    whole_list n ops passed list ∙ ap (λ es. Opens ∷ puts_of (graph_of n.catalog) n.changes n.keys es (at_first n.tables) ++ Commits ∷ []) (take_whole n.list)

pub whole_alike : (n : Night) (v w : Versions) → AreSeenAlike v w → AreSeenAlike (versions_from v (night_ops n)) (versions_from w (night_ops n))
whole_alike n v w a =
    same_alike (versions_from v (night_ops n)) (versions_from w (night_ops n))
    (ap (λ x. versions_from x (puts_of (graph_of n.catalog) n.changes n.keys n.list (at_first n.tables) ++ Commits ∷ [])) (opened_alike v w a))

pub whole_number : (n : Night) (v : Versions) → number (versions_from v (night_ops n)) ≡ number v + 1
whole_number n v =
    let puts : List Operation = puts_of (graph_of n.catalog) n.changes n.keys n.list (at_first n.tables) in
    let written : Versions = versions_from (after v Opens) puts in
    let same : number written ≡ number v = number_alike written (after v Opens) (puts_alike (after v Opens) puts (puts_are_puts (graph_of n.catalog) n.changes n.keys n.list (at_first n.tables))) in
    ap number (versions_from-append (after v Opens) puts (Commits ∷ [])) ∙ (let one : suc (number written) ≡ number v + 1 = omega (arith, same) in one)

-- no night is open behind one that has ended
pub whole_ends : (n : Night) (v : Versions) → is_active (versions_from v (night_ops n)) ≡ false
whole_ends n v = ap is_active (versions_from-append (after v Opens) (puts_of (graph_of n.catalog) n.changes n.keys n.list (at_first n.tables)) (Commits ∷ []))
