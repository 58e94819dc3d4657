-- The line that is printed of a reply.
use Rattle.std.specs.Prelude.{ℕ, ℤ, List, [], ◌∷◌, ◌++◌, codes, cond, decimal, flat_map, Bool, true, false}
use Rattle.std.specs.Fmt.{signed_decimal}
use Rattle.wh_core.specs.declared.reply.Cause.{Cause}
use Rattle.wh_core.specs.declared.reply.Cause.TheVariants as cause
use Rattle.wh_core.specs.declared.reply.Reply.{Reply}
use Rattle.wh_core.specs.declared.reply.Reply.TheVariants as reply
use Rattle.wh_row.specs.Row.{Row}
use Rattle.wh_store.specs.Pages.{Shown}

-- a text and the LF that ends its line
abbrev pub line : List ℕ → List ℕ
line text = text ++ 10 ∷ []

-- ---- pages

-- the text of a cell, as a number
abbrev pub cell_text : ℤ → List ℕ
cell_text cell = codes " " ++ signed_decimal cell

-- the text of a row: its count, and its cells
abbrev pub entry_text : Row × ℤ → List ℕ
entry_text entry = codes " [" ++ signed_decimal entry.1 ++ flat_map cell_text entry.0 ++ codes "]"

-- the text of a page: its rows, and whether none follows
abbrev pub page_text : Shown → List ℕ
page_text page = codes "page" ++ flat_map entry_text page.rows ++ cond page.last (codes " end") (codes " more")

-- ---- refusals

-- the name of a cause
abbrev pub cause_name : Cause → List ℕ
cause_name cause.NoSession = codes "NoSession"
cause_name cause.SessionOpen = codes "SessionOpen"
cause_name (cause.Expired session current active) = codes "Expired"
cause_name cause.NoView = codes "NoView"
cause_name cause.Memory = codes "Memory"
cause_name cause.NoDesk = codes "NoDesk"
cause_name cause.NoWorker = codes "NoWorker"
cause_name cause.Limit = codes "Limit"
cause_name cause.NightOpen = codes "NightOpen"
cause_name cause.NoNight = codes "NoNight"
cause_name cause.NotReady = codes "NotReady"
cause_name cause.NoJob = codes "NoJob"
cause_name cause.Busy = codes "Busy"
cause_name cause.Idle = codes "Idle"
cause_name cause.Large = codes "Large"
cause_name cause.Range = codes "Range"
cause_name cause.Absent = codes "Absent"
cause_name cause.LastVersion = codes "LastVersion"

-- the text of an expired session: its version, the current version, and whether a night is open
abbrev pub expired_text : ℕ → ℕ → Bool → List ℕ
expired_text session current active =
    codes "expired " ++ decimal session ++ codes " current " ++ decimal current ++ cond active (codes " active") (codes " idle")

-- the text of a refusal: of an expired session with its fields, of any other by its name
abbrev pub refusal_text : Cause → List ℕ
refusal_text (cause.Expired session current active) = expired_text session current active
refusal_text why = codes "refused " ++ cause_name why

-- ---- replies

abbrev pub reply_text : Reply → List ℕ
reply_text reply.Begun = codes "begun"
reply_text (reply.Job job) = codes "job " ++ decimal job
reply_text reply.Done = codes "done"
reply_text (reply.Paged keys) = codes "paged " ++ decimal keys
reply_text (reply.Version number) = codes "version " ++ decimal number
reply_text (reply.Session number) = codes "session " ++ decimal number
reply_text (reply.Page page) = page_text page
reply_text reply.Closed = codes "closed"
reply_text (reply.Refused why) = refusal_text why

abbrev pub reply_line : Reply → List ℕ
reply_line reply = line (reply_text reply)

-- the lines of some replies, one for each
abbrev pub replies_text : List Reply → List ℕ
replies_text replies = flat_map reply_line replies
