-- Lines are read as the commands that they say.
use Rattle.std.proofs.Common.{◌≡◌, refl, sym, ap, subst, ◌∙◌, ℕ, suc, Bool, true, false, List, [], ◌∷◌, ◌++◌, Option, Some, None, All, append_assoc, append-nil, arith}
use Rattle.std.specs.Prelude.{if◌then◌else◌}
use Rattle.std.specs.List.{cons_option}
use Rattle.std.proofs.lemmas.Grind.{flat_map-append}
use Rattle.std.proofs.lemmas.List.Elements.{All-append, All-cons, All-nil}
use Rattle.wh_live.specs.Requests.{asked_by, cells_in, is_end}
use Rattle.wh_live.specs.Commands.{Changes, Command, CommandGrammar, Event, IsLone, Night, Page, Quit, SayCommands, Tables, Unknown, a_night, a_page, a_page_after, all_changes, all_tables, alone, an_event, begun_by, blank, commands_below, commands_of, line_in_full, no_end_yet, not_known, nothing, parts_in, the_end}
use Rattle.wh_live.specs.declared.request.Request.{Request}
use Rattle.wh_live.specs.declared.request.Request.TheVariants as request

-- no line of these ends the parts of a night
abbrev AreInner : List (List ℕ) → Type 0
AreInner body = All (λ inner. is_end inner ≡ false) body

-- the parts with one line more
parts_more : (body : List (List ℕ)) (line : List ℕ) → parts_in (body ++ line ∷ []) ≡ parts_in body ++ line_in_full line
parts_more body line = flat_map-append line_in_full body (line ∷ []) ∙ ap (λ text. parts_in body ++ text) (append-nil (line_in_full line))

-- ---- what is read is what the lines say

module _ (names : List (List ℕ)) where
  -- what these lines say below the beginning of a night, and where none has begun
  record Say (lines : List (List ℕ)) : Type 0 where
    fresh : SayCommands names lines (commands_below names None lines)
    amid : (line : List ℕ) (body : List (List ℕ)) → asked_by names line ≡ Some request.Night → AreInner body
        → SayCommands names (line ∷ body ++ lines) (commands_below names (Some (parts_in body)) lines)

  module _ (line : List ℕ) (lines : List (List ℕ)) (below : Say lines) where
    says_by : (asked : Option Request) → asked_by names line ≡ asked → SayCommands names (line ∷ lines) (cons_option (begun_by line asked).1 (commands_below names (begun_by line asked).0 lines))
    says_by None e = blank line lines _ e below.fresh
    says_by (Some request.Night) e = below.amid line [] e (All-nil (λ inner. is_end inner ≡ false))
    says_by (Some (request.Event event)) e = alone line lines (Event event) _ (an_event event e) below.fresh
    says_by (Some (request.Page desk view limit)) e = alone line lines (Page desk view limit None) _ (a_page desk view limit e) below.fresh
    says_by (Some (request.PageAfter desk view limit)) e = alone line lines (Page desk view limit (Some (cells_in line))) _ (a_page_after desk view limit e) below.fresh
    says_by (Some request.Tables) e = alone line lines Tables _ (all_tables e) below.fresh
    says_by (Some request.Changes) e = alone line lines Changes _ (all_changes e) below.fresh
    says_by (Some request.Quit) e = alone line lines Quit _ (the_end e) below.fresh
    says_by (Some request.Unknown) e = alone line lines Unknown _ (not_known e) below.fresh

    says_amid : (first : List ℕ) (body : List (List ℕ)) → asked_by names first ≡ Some request.Night → AreInner body → (ends : Bool) → is_end line ≡ ends
        → (let after : Option (List ℕ) × Option Command = if ends then (None, Some (Night (parts_in body))) else (Some (parts_in body ++ line_in_full line), None) in
        SayCommands names (first ∷ body ++ line ∷ lines) (cons_option after.1 (commands_below names after.0 lines)))
    says_amid first body asked each true e = a_night first body line lines _ asked each e below.fresh
    says_amid first body asked each false e =
        let more = All-append (λ inner. is_end inner ≡ false) body (line ∷ []) each (All-cons (λ inner. is_end inner ≡ false) line [] e (All-nil (λ inner. is_end inner ≡ false))) in
        subst (λ parts. SayCommands names (first ∷ body ++ line ∷ lines) (commands_below names (Some parts) lines)) (parts_more body line)
        (subst (λ all. SayCommands names (first ∷ all) (commands_below names (Some (parts_in (body ++ line ∷ []))) lines)) (append_assoc body (line ∷ []) lines)
        (below.amid first (body ++ line ∷ []) asked more))

  say : (lines : List (List ℕ)) → Say lines
  say [] = record {
    fresh = nothing;
    amid = λ line body asked each. subst (λ all. SayCommands names (line ∷ all) []) (sym (append-nil body)) (no_end_yet line body asked each);
  }
  say (line ∷ lines) =
      let below = say lines in
      record {
        fresh = says_by line lines below (asked_by names line) refl;
        amid = λ first body asked each. says_amid line lines below first body asked each (is_end line) refl;
      }

  -- ---- and nothing else

  -- lines of a night below its first parts
  amid_same : (parts : List ℕ) (body : List (List ℕ)) (last : List ℕ) (lines : List (List ℕ)) → AreInner body → is_end last ≡ true
      → commands_below names (Some parts) (body ++ last ∷ lines) ≡ Night (parts ++ parts_in body) ∷ commands_of names lines
  amid_same parts [] last lines each e =
      (λ i. let after : Option (List ℕ) × Option Command = if e i then (None, Some (Night parts)) else (Some (parts ++ line_in_full last), None) in cons_option after.1 (commands_below names after.0 lines))
      ∙ ap (λ all. Night all ∷ commands_of names lines) (sym (append-nil parts))
  amid_same parts (inner ∷ body) last lines each e =
      let not : is_end inner ≡ false = each 0 inner (omega arith) in
      (λ i. let after : Option (List ℕ) × Option Command = if not i then (None, Some (Night parts)) else (Some (parts ++ line_in_full inner), None) in cons_option after.1 (commands_below names after.0 (body ++ last ∷ lines)))
      ∙ amid_same (parts ++ line_in_full inner) body last lines (λ k d l. each (suc k) d (omega arith)) e
      ∙ ap (λ all. Night all ∷ commands_of names lines) (append_assoc parts (line_in_full inner) (parts_in body))

  amid_none : (parts : List ℕ) (body : List (List ℕ)) → AreInner body → commands_below names (Some parts) body ≡ []
  amid_none parts [] each = refl
  amid_none parts (inner ∷ body) each =
      let not : is_end inner ≡ false = each 0 inner (omega arith) in
      (λ i. let after : Option (List ℕ) × Option Command = if not i then (None, Some (Night parts)) else (Some (parts ++ line_in_full inner), None) in cons_option after.1 (commands_below names after.0 body))
      ∙ amid_none (parts ++ line_in_full inner) body (λ k d l. each (suc k) d (omega arith))

  by_line : (line : List ℕ) (lines : List (List ℕ)) (asked : Option Request) → asked_by names line ≡ asked
      → commands_of names (line ∷ lines) ≡ cons_option (begun_by line asked).1 (commands_below names (begun_by line asked).0 lines)
  by_line line lines asked e i = cons_option (begun_by line (e i)).1 (commands_below names (begun_by line (e i)).0 lines)

  lone_same : (line : List ℕ) (lines : List (List ℕ)) (command : Command) → IsLone names line command → commands_of names (line ∷ lines) ≡ command ∷ commands_of names lines
  lone_same line lines _ (an_event event e) = by_line line lines (Some (request.Event event)) e
  lone_same line lines _ (a_page desk view limit e) = by_line line lines (Some (request.Page desk view limit)) e
  lone_same line lines _ (a_page_after desk view limit e) = by_line line lines (Some (request.PageAfter desk view limit)) e
  lone_same line lines _ (all_tables e) = by_line line lines (Some request.Tables) e
  lone_same line lines _ (all_changes e) = by_line line lines (Some request.Changes) e
  lone_same line lines _ (the_end e) = by_line line lines (Some request.Quit) e
  lone_same line lines _ (not_known e) = by_line line lines (Some request.Unknown) e

  said_same : (lines : List (List ℕ)) (commands : List Command) → SayCommands names lines commands → commands_of names lines ≡ commands
  said_same _ _ nothing = refl
  said_same _ _ (blank line lines commands e rest) = by_line line lines None e ∙ said_same lines commands rest
  said_same _ _ (alone line lines command commands one rest) = lone_same line lines command one ∙ ap (λ cs. command ∷ cs) (said_same lines commands rest)
  said_same _ _ (a_night line body last lines commands e each ends rest) =
      by_line line (body ++ last ∷ lines) (Some request.Night) e ∙ amid_same [] body last lines each ends ∙ ap (λ cs. Night (parts_in body) ∷ cs) (said_same lines commands rest)
  said_same _ _ (no_end_yet line body e each) = by_line line body (Some request.Night) e ∙ amid_none [] body each

pub command_grammar : CommandGrammar
command_grammar names lines commands = (
  λ e. subst (SayCommands names lines) e (say names lines).fresh,
  λ is. said_same names lines commands is,
)
