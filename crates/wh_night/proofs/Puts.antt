-- What a night publishes up to a place, and up to the next.
use Rattle.std.proofs.Common.{◌≡◌, ◌≢◌, refl, sym, ap, subst, ◌∙◌, ℕ, zero, suc, ◌+◌, ◌<◌, ◌≤◌, List, [], ◌∷◌, ◌++◌, map, length, take, Some, Bool, true, false, arith}
use Rattle.std.specs.Prelude.{slice_get}
use Rattle.std.specs.List.{list_all}
use Rattle.std.proofs.lemmas.Bool.{and_from, and_parts}
use Rattle.std.proofs.lemmas.List.{append-nil, append_assoc}
use Rattle.wh_row.specs.Bag.{Bag}
use Rattle.wh_row.specs.Weigh.{Counted}
use Rattle.wh_maint.specs.Definition.{graph_of}
use Rattle.wh_maint.specs.View.{ViewGraph}
use Rattle.wh_strategy.specs.declared.expression.Expression.{Expression}
use Rattle.wh_strategy.specs.declared.expression.Expression.TheVariants.{Comp, Inst}
use Rattle.wh_strategy.specs.Expression.{At}
use Rattle.wh_store.specs.Operations.{Operation, Opens, Writes, Commits, Gives_up}
use Rattle.wh_carry.specs.declared.stages.Job.{Job}
use Rattle.wh_carry.specs.Carry.{State, at_first, carried, step}
use Rattle.wh_carry.specs.NightList.{inst_pages, puts_at, puts_of, whole as whole_list}
use Rattle.wh_carry.specs.Refused.{ArePassedBelow, HaveValuesBelow}
use Rattle.wh_carry.specs.Waves.{comp_of}
use Rattle.wh_carry.proofs.Prefixes.{take_next}
use Rattle.wh_carry.proofs.NewValues.{passed_have_values}
use Rattle.wh_carry.proofs.Sources.{job_at}
use Rattle.wh_carry.specs.Night.{Night, IsWhole, state_at}
use Rattle.wh_carry.specs.Inner.Standing.{IsWaveAt}
use Rattle.wh_night.specs.Tonight.{Begin_it, out_below}

module _ (g : ViewGraph) (changes : ℕ → Bag) (keys : ℕ) where
  puts_append : (a b : List Expression) (s : State) → puts_of g changes keys (a ++ b) s ≡ puts_of g changes keys a s ++ puts_of g changes keys b (carried g changes a s)
  unfolding puts_of carried
  puts_append [] b s = refl
  puts_append (e ∷ a) b s = ap (λ l. puts_at g changes keys s e ++ l) (puts_append a b (step g changes e s)) ∙ sym (append_assoc (puts_at g changes keys s e) _ _)

  one_put : (e : Expression) (s : State) → puts_of g changes keys (e ∷ []) s ≡ puts_at g changes keys s e
  unfolding puts_of
  one_put e s = append-nil (puts_at g changes keys s e)

-- the next expression publishes its own behind
pub out_next : (n : Night) (p : ℕ) (e : Expression) → At n.list p e → out_below n (p + 1) ≡ out_below n p ++ puts_at (graph_of n.catalog) n.changes n.keys (state_at n p) e
out_next n p e at =
    let g : ViewGraph = graph_of n.catalog in
    let s : suc p ≡ p + 1 = omega arith in
    ap (λ q. out_below n q) (sym s)
    ∙ ap (λ es. Opens ∷ puts_of g n.changes n.keys es (at_first n.tables)) (take_next n.list p e at)
    ∙ ap (λ ops. Opens ∷ ops) (puts_append g n.changes n.keys (take p n.list) (e ∷ []) (at_first n.tables) ∙ ap (λ ops. puts_of g n.changes n.keys (take p n.list) (at_first n.tables) ++ ops) (one_put g n.changes n.keys e (state_at n p)))

pub item : {A : Type 0} (xs : List A) (j : ℕ) → j < length xs → (x : A) × (slice_get xs j ≡ Some x)
item [] j l = absurd (omega arith)
item (x ∷ xs) zero l = (x, refl)
item (x ∷ xs) (suc j) l = item xs j (omega arith)

-- a wave publishes nothing
pub wave_out : (n : Night) (p : ℕ) (jobs : List Job) → IsWaveAt n.catalog jobs n p → (j : ℕ) → j ≤ length jobs → out_below n (p + j) ≡ out_below n p
wave_out n p jobs wave zero l = let e : p + 0 ≡ p = omega arith in ap (out_below n) e
wave_out n p jobs wave (suc j) l =
    let e : p + suc j ≡ (p + j) + 1 = omega arith in
    let job = item jobs j (omega arith) in
    ap (out_below n) e ∙ out_next n (p + j) (comp_of job.0) (job_at n.list p jobs wave.are j job.0 job.1) ∙ append-nil (out_below n (p + j)) ∙ wave_out n p jobs wave j (omega arith)

values : (n : Night) (p : ℕ) → ArePassedBelow n.catalog n.list n.tables n.changes p → HaveValuesBelow n.catalog n.list n.tables n.changes p
values n p passed q e l at = passed_have_values n.catalog n.changes _ e (passed q e l at)

-- where the expressions before a place are passed, what is published up to there begins the night list, and so does each beginning of it
pub front_begins : (n : Night) (p : ℕ) (ops rest : List Operation) → p ≤ length n.list → ArePassedBelow n.catalog n.list n.tables n.changes p → out_below n p ≡ ops ++ rest → Begin_it n ops
front_begins n p ops rest l passed e = record { place = p; within = l; values = values n p passed; rest = rest; begins = e }

pub begins_at : (n : Night) (p : ℕ) → p ≤ length n.list → ArePassedBelow n.catalog n.list n.tables n.changes p → Begin_it n (out_below n p)
begins_at n p l passed = front_begins n p (out_below n p) [] l passed (sym (append-nil (out_below n p)))

pub begins_shorter : (n : Night) (a b : List Operation) → Begin_it n (a ++ b) → Begin_it n a
begins_shorter n a b r = record { place = r.place; within = r.within; values = r.values; rest = b ++ r.rest; begins = r.begins ∙ append_assoc a b r.rest }

-- all of it is the whole night list
pub whole_out : (n : Night) → ArePassedBelow n.catalog n.list n.tables n.changes (length n.list) → IsWhole n (out_below n (length n.list) ++ Commits ∷ [])
whole_out n passed = record { puts = out_below n (length n.list); night_list = whole_list (values n (length n.list) passed); commits = refl }

-- ---- behind its Begin a night only writes

abbrev pub is_write : Operation → Bool
is_write Opens = false
is_write (Writes v rows) = true
is_write Commits = false
is_write Gives_up = false

pages_write : (v : ℕ) (pages : List Counted) → list_all is_write (map (Writes v) pages) ≡ true
pages_write v [] = refl
pages_write v (x ∷ pages) = pages_write v pages

both_write : (a b : List Operation) → list_all is_write a ≡ true → list_all is_write b ≡ true → list_all is_write (a ++ b) ≡ true
both_write [] b h k = k
both_write (x ∷ a) b h k = let parts = and_parts (is_write x) (list_all is_write a) h in and_from (is_write x) (list_all is_write (a ++ b)) parts.0 (both_write a b parts.1 k)

front_writes : (a b : List Operation) → list_all is_write (a ++ b) ≡ true → list_all is_write a ≡ true
front_writes [] b h = refl
front_writes (x ∷ a) b h = let parts = and_parts (is_write x) (list_all is_write (a ++ b)) h in and_from (is_write x) (list_all is_write a) parts.0 (front_writes a b parts.1)

pub puts_write : (g : ViewGraph) (changes : ℕ → Bag) (keys : ℕ) (list : List Expression) (s : State) → list_all is_write (puts_of g changes keys list s) ≡ true
unfolding puts_of
puts_write g changes keys [] s = refl
puts_write g changes keys (Comp v ys ∷ list) s = puts_write g changes keys list (step g changes (Comp v ys) s)
puts_write g changes keys (Inst v ∷ list) s =
    both_write (map (Writes v) (inst_pages g changes keys s v)) (puts_of g changes keys list (step g changes (Inst v) s)) (pages_write v (inst_pages g changes keys s v)) (puts_write g changes keys list (step g changes (Inst v) s))

-- a beginning that is not empty opens, and then writes
pub record Opens_it (ops : List Operation) : Type 0 where
  pub puts : List Operation
  pub is : ops ≡ Opens ∷ puts
  pub write : list_all is_write puts ≡ true

pub begins_open : (n : Night) (ops : List Operation) → ops ≢ [] → Begin_it n ops → Opens_it ops
begins_open n [] some r = absurd (some refl)
begins_open n (x ∷ ops) some r =
    let own : List Operation = puts_of (graph_of n.catalog) n.changes n.keys (take r.place n.list) (at_first n.tables) in
    let e : Opens ∷ own ≡ x ∷ (ops ++ r.rest) = r.begins in
    let head : x ≡ Opens = cc in
    let tail : own ≡ ops ++ r.rest = cc in
    record {
      puts = ops;
      is = ap (λ y. y ∷ ops) head;
      write = front_writes ops r.rest (subst (λ l. list_all is_write l ≡ true) tail (puts_write (graph_of n.catalog) n.changes n.keys (take r.place n.list) (at_first n.tables)));
    }

-- before the first expression a night has only begun
pub opening_out : (n : Night) → out_below n 0 ≡ Opens ∷ []
unfolding puts_of
opening_out n = refl
