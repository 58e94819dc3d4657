-- What a night whose parts came leaves, from what its steps answer.
use Rattle.std.proofs.Common.{◌≡◌, ◌≢◌, ◌⊎◌, ⊎_elim, true, false, ℕ, zero, suc, ◌<◌, List, [], ◌∷◌, length, Ok, Err, refl, sym, ap, subst, ◌∙◌, arith}
use mathlib.Core.Logic.{inl, inr}
use Rattle.std.specs.Prelude.{slice_index}
use Rattle.wh_dag.specs.Catalog.{CatalogOf, IsCatalog}
use Rattle.wh_row.specs.Bag.{Bag, HasWidth}
use Rattle.wh_maint.specs.Asked.{AreBags}
use Rattle.wh_maint.specs.Comp.{bag_at}
use Rattle.wh_core.specs.Beginning.{IsBeginOf}
use Rattle.wh_core.specs.Laws.{IsSetup}
use Rattle.wh_core.specs.Log.{Log, Began}
use Rattle.wh_core.specs.Nights.{GivenNight as NightOfMachine, Setup, with_nights}
use Rattle.wh_core.specs.Replies.{IsReply}
use Rattle.wh_core.specs.Standing.{StandsWith}
use Rattle.wh_core.specs.declared.event.Event.TheVariants as event
use Rattle.wh_core.specs.declared.reply.Cause.TheVariants as cause
use Rattle.wh_core.specs.declared.reply.Reply.{Reply}
use Rattle.wh_core.specs.declared.reply.Reply.TheVariants as reply
use Rattle.wh_core.specs.declared.warehouse.Core.{Core}
use Rattle.wh_load.specs.ReadingNight.{AreReadRows, GivenNight, Rows}
use Rattle.wh_strategy.specs.Rules.{IsCorrect, IsFirstBroken}
use Rattle.wh_strategy.specs.declared.rule.Rule.{Rule}
use Rattle.wh_text.specs.declared.fault.LoadFault.{LoadFault}
use Rattle.wh_text_catalogue.specs.Definitions.{ViewOf}
use Rattle.wh_text_catalogue.specs.FormulaKinds.{Texts}
use Rattle.wh_stay.specs.Inner.After.{standing_after}
use Rattle.wh_stay.specs.Standing.{StandingOf, widths_of, with_texts}
use Rattle.wh_stay.specs.Told.{IsNightTold, IsTold, breaks_a_rule, has_a_fault, has_begun, is_refused, night_in, night_of_machine, wants_memory, with_night}
use Rattle.wh_stay.specs.declared.told.NightTold.{NightTold}
use Rattle.wh_stay.specs.declared.told.NightTold.TheVariants as told

-- ---- rows

rows_length : (kind : Rows) (views : List ViewOf) (rows : List Bag) → AreReadRows kind views rows → length rows ≡ length (widths_of views)
rows_length kind [] [] a = refl
rows_length kind [] (bag ∷ bags) a = absurd a
rows_length kind (view ∷ views) [] a = absurd a
rows_length kind (view ∷ views) (bag ∷ bags) a = ap suc (rows_length kind views bags a.1)

rows_wide : (kind : Rows) (views : List ViewOf) (rows : List Bag) → AreReadRows kind views rows → (u : ℕ) → u < length rows → HasWidth (bag_at rows u) (slice_index (widths_of views) u)
rows_wide kind [] [] a u l = absurd (omega arith)
rows_wide kind [] (bag ∷ bags) a u l = absurd a
rows_wide kind (view ∷ views) [] a u l = absurd a
rows_wide kind (view ∷ views) (bag ∷ bags) a zero l = a.0.0
rows_wide kind (view ∷ views) (bag ∷ bags) a (suc u) l = rows_wide kind views bags a.1 u (omega arith)

-- rows that were read for views of a catalogue's widths are for the catalogue
pub read_bags : (kind : Rows) (catalog : CatalogOf) (views : List ViewOf) (rows : List Bag) → IsCatalog catalog → widths_of views ≡ catalog.widths
    → AreReadRows kind views rows → AreBags catalog rows
read_bags kind catalog views rows is widths a =
    let same : length rows ≡ length catalog.views.children = rows_length kind views rows a ∙ ap length widths ∙ is.each_width in
    record { each = same; widths = λ u l. subst (λ ws. HasWidth (bag_at rows u) (slice_index ws u)) widths (rows_wide kind views rows a u (omega (arith, same))) }

-- ---- what stands then

begun_or_not : (r : Reply) → (r ≡ reply.Begun) ⊎ (r ≢ reply.Begun)
begun_or_not reply.Begun = inl refl
begun_or_not r = inr (λ e. cc)

pub left_after : (w : StandingOf) (said : NightTold) (texts : Texts) → said ≢ told.Replied reply.Begun → standing_after w said texts ≡ w
left_after w (told.Replied reply.Begun) texts other = absurd (other refl)
left_after w said texts other = refl

pub begun_after : (w : StandingOf) (said : NightTold) (texts : Texts) → said ≡ told.Replied reply.Begun → standing_after w said texts ≡ with_texts w texts
begun_after w said texts is = ap (λ x. standing_after w x texts) is

-- ---- what is told

module _ {F G : Type 0} (s : Setup) (log : Log) (w : StandingOf) (parts : List ℕ) (core : Core F G) (is : IsSetup s) where
  -- where the machine stands as before
  as_before : (said : NightTold) (texts : Texts) → said ≢ told.Replied reply.Begun → IsNightTold s log w parts said w s log → StandsWith s log core
      → IsTold s log w parts said (standing_after w said texts) core
  as_before said texts other so h =
      subst (λ stands. IsTold s log w parts said stands core) (sym (left_after w said texts other))
      (record { setup = s; log_then = log; told_so = so; is_setup = is; core_stands = h })

  pub told_fault : (f : LoadFault) (texts : Texts) → night_in w parts ≡ Err f → StandsWith s log core → IsTold s log w parts (told.Fault f) (standing_after w (told.Fault f) texts) core
  told_fault f texts read h = as_before (told.Fault f) texts (λ e. cc) (has_a_fault f read) h

  pub told_memory : (texts : Texts) → StandsWith s log core
      → IsTold s log w parts (told.Replied (reply.Refused cause.Memory)) (standing_after w (told.Replied (reply.Refused cause.Memory)) texts) core
  told_memory texts h = as_before (told.Replied (reply.Refused cause.Memory)) texts (λ e. cc) wants_memory h

  -- what is told of parts that were not read
  memory_or_not : (f : LoadFault) → (f ≡ LoadFault.Memory) ⊎ (f ≢ LoadFault.Memory)
  memory_or_not LoadFault.Memory = inl refl
  memory_or_not f = inr (λ e. cc)

  pub told_not_read : (f : LoadFault) (said : NightTold) (texts : Texts) → (f ≡ LoadFault.Memory) ⊎ (night_in w parts ≡ Err f)
      → (f ≡ LoadFault.Memory → said ≡ told.Replied (reply.Refused cause.Memory)) → (f ≢ LoadFault.Memory → said ≡ told.Fault f) → StandsWith s log core
      → IsTold s log w parts said (standing_after w said texts) core
  told_not_read f said texts why memory fault h =
      ⊎_elim
      (λ m. subst (λ q. IsTold s log w parts q (standing_after w q texts) core) (sym (memory m)) (told_memory texts h))
      (λ other. subst (λ q. IsTold s log w parts q (standing_after w q texts) core) (sym (fault other)) (told_fault f texts (⊎_elim (λ m. absurd (other m)) (λ r. r) why) h))
      (memory_or_not f)

  pub told_broken : (night : GivenNight) (texts : Texts) (rule : Rule) (place : ℕ) → night_in w parts ≡ Ok (night, texts)
      → IsFirstBroken s.catalog.views.children night.list rule place → StandsWith s log core
      → IsTold s log w parts (told.Broken rule place) (standing_after w (told.Broken rule place) texts) core
  told_broken night texts rule place read broken h = as_before (told.Broken rule place) texts (λ e. cc) (breaks_a_rule night texts rule place read broken) h

  module _ (night : GivenNight) (texts : Texts) (read : night_in w parts ≡ Ok (night, texts)) (ok : IsCorrect s.catalog.views.children night.list) where
    so_refused : (r : Reply) → r ≢ reply.Begun → IsBeginOf s log (night_of_machine night) r → IsNightTold s log w parts (told.Replied r) w s log
    so_refused r other said =
        ⊎_elim (λ h. is_refused night texts r read ok other h)
        (λ m. subst (λ q. IsNightTold s log w parts (told.Replied q) w s log) (sym m) wants_memory) said

    so_begun : IsBeginOf s log (night_of_machine night) reply.Begun → IsReply (with_night s night) log event.Begin reply.Begun
    so_begun said = ⊎_elim (λ h. h) (λ m. cc) said

    has_replied : (r : Reply) → IsBeginOf s log (night_of_machine night) r
        → (r ≡ reply.Begun → IsSetup (with_night s night) × StandsWith (with_night s night) (Began ∷ log) core) → (r ≢ reply.Begun → StandsWith s log core)
        → IsTold s log w parts (told.Replied r) (standing_after w (told.Replied r) texts) core
    has_replied r said begun refused =
        ⊎_elim
        (λ e. subst (λ q. IsTold s log w parts (told.Replied q) (standing_after w (told.Replied q) texts) core) (sym e)
        (record {
          setup = with_night s night;
          log_then = Began ∷ log;
          told_so = has_begun night texts read ok (so_begun (subst (λ q. IsBeginOf s log (night_of_machine night) q) e said));
          is_setup = (begun e).0;
          core_stands = (begun e).1;
        }))
        (λ other. as_before (told.Replied r) texts (λ e. other (same_reply r reply.Begun e)) (so_refused r other said) (refused other))
        (begun_or_not r)
      where
        same_reply : (a b : Reply) → told.Replied a ≡ told.Replied b → a ≡ b
        same_reply a b e = cc

    -- the machine's answer to a night that was given it so
    pub told_replied : (given : NightOfMachine) (r : Reply) → given ≡ night_of_machine night → IsBeginOf s log given r
        → (r ≡ reply.Begun → IsSetup (with_nights s (given ∷ [])) × StandsWith (with_nights s (given ∷ [])) (Began ∷ log) core) → (r ≢ reply.Begun → StandsWith s log core)
        → IsTold s log w parts (told.Replied r) (standing_after w (told.Replied r) texts) core
    told_replied given r same said begun refused =
        has_replied r (subst (λ g. IsBeginOf s log g r) same said)
        (λ e. (subst (λ g. IsSetup (with_nights s (g ∷ []))) same (begun e).0, subst (λ g. StandsWith (with_nights s (g ∷ [])) (Began ∷ log) core) same (begun e).1))
        refused

-- ---- truths

pub false_true : false ≡ true → ⊥
false_true e = cc
