-- What the line that opens a part says.
use Rattle.std.specs.Prelude.{◌-◌, ◌&&◌, ◌++◌, ℕ, Bool, true, false, List, [], ◌∷◌, length, take, drop, find, Option, Some, None, option_map, codes, if◌then◌else◌, nat_eq, nat_lt}
use Rattle.std.specs.Option.{option_or}
use Rattle.std.specs.List.{starts_with, suffix_len, prefix_len, before_first}
use Rattle.std.specs.Str.{bytes_eq}
use Rattle.wh_text.specs.Line.{is_blank}
use Rattle.wh_text_bundle.specs.PartLine.{without_end}
use Rattle.wh_text_bundle.specs.declared.bundle.heading.Heading.{Heading}
use Rattle.wh_text_bundle.specs.declared.bundle.heading.Heading.TheVariants.{Catalogue, Sizes, Strategy, Plan, Schedule, Night, Data, Changes}
use Rattle.wh_text_bundle.specs.declared.bundle.heading.Scope.{Scope}
use Rattle.wh_text_bundle.specs.declared.bundle.heading.Scope.TheVariants as scope

-- a text without the blanks at its end
abbrev pub without_blank_end : List ℕ → List ℕ
without_blank_end text = take (length text - suffix_len is_blank text) text

-- a heading's text: the line that opens the part, without its `@`, its end and the blanks before that
abbrev pub heading_text : List ℕ → List ℕ
heading_text opening = without_blank_end (drop 1 (without_end opening))

-- the word that a heading begins with
abbrev pub word_of : Heading → List ℕ
word_of Catalogue = codes "catalogue"
word_of Sizes = codes "sizes"
word_of Strategy = codes "strategy"
word_of Plan = codes "plan"
word_of Schedule = codes "schedule"
word_of Night = codes "night"
word_of (Data name) = codes "data"
word_of (Changes name) = codes "changes"

-- the heading that is a single word, where the text is one
abbrev pub single_heading : List ℕ → Option Heading
single_heading text = find (λ heading. bytes_eq text (word_of heading)) (Catalogue ∷ Sizes ∷ Strategy ∷ Plan ∷ Schedule ∷ Night ∷ [])

-- what stands after a front, where there is anything
abbrev pub rest_after : List ℕ → List ℕ → Option (List ℕ)
rest_after front text =
    if starts_with nat_eq text front && nat_lt (length front) (length text) then Some (drop (length front) text) else None

-- what stands after a word and a blank, where there is anything
abbrev pub name_after : List ℕ → List ℕ → Option (List ℕ)
name_after word text = rest_after (word ++ codes " ") text

-- the heading that a text spells, if any: a single word, `data NAME` or `changes NAME`
abbrev pub heading_of : List ℕ → Option Heading
heading_of text =
    option_or (single_heading text) (option_or (option_map Data (name_after (word_of (Data [])) text)) (option_map Changes (name_after (word_of (Changes [])) text)))

-- how often a heading may stand
abbrev pub scope_of : Heading → Scope
scope_of Strategy = scope.Night
scope_of (Changes name) = scope.Night
scope_of Night = scope.Any
scope_of _ = scope.Bundle

-- the heading opens a night
abbrev pub is_night : Heading → Bool
is_night Night = true
is_night _ = false

-- two headings are the same: their words, and their names where they have one
abbrev pub same_heading : Heading → Heading → Bool
same_heading Catalogue Catalogue = true
same_heading Sizes Sizes = true
same_heading Strategy Strategy = true
same_heading Plan Plan = true
same_heading Schedule Schedule = true
same_heading Night Night = true
same_heading (Data name) (Data other) = bytes_eq name other
same_heading (Changes name) (Changes other) = bytes_eq name other
same_heading _ _ = false

-- whether the part is read as CSV, which keeps its CRs
abbrev pub is_csv : Heading → Bool
is_csv Sizes = true
is_csv (Data name) = true
is_csv (Changes name) = true
is_csv _ = false

-- the first word of a text, which blanks part from the next
abbrev pub first_word : List ℕ → List ℕ
first_word text = before_first is_blank (drop (prefix_len is_blank text) text)

-- a word, or `text` in place of none
abbrev pub word_or_text : List ℕ → List ℕ
word_or_text [] = codes "text"
word_or_text (b ∷ bs) = b ∷ bs

-- how a fault names a heading: by its first word, or by `text` where it has none
abbrev pub fault_word : List ℕ → List ℕ
fault_word text = word_or_text (first_word text)
