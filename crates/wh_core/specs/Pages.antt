-- What a page without a bookmark shows.
use Rattle.std.specs.Prelude.{◌≡◌, ℕ, ◌≤◌, Option, Some}
use Rattle.wh_row.specs.Row.{Row}
use Rattle.wh_maint.specs.Asked.{AreBags}
use Rattle.wh_maint.specs.Comp.{bag_at}
use Rattle.wh_maint.specs.Contents.{AreContents}
use Rattle.wh_maint.specs.Definition.{graph_of}
use Rattle.wh_store.specs.Pages.{Shown, page_of}
use Rattle.wh_store.specs.Versions.{number, table_of, version}
use Rattle.wh_core.specs.declared.reply.Reply.TheVariants as reply
use Rattle.wh_core.specs.Laws.{IsSetup}
use Rattle.wh_core.specs.Log.{Log, SessionOf, session}
use Rattle.wh_core.specs.Nights.{Setup, versions}
use Rattle.wh_core.specs.Replies.{IsLegalLog, IsPageReply}

-- The page is the first rows of the view behind this one, in the version of the desk's session, which is one that was made; its contents
-- are those of a base
pub record ShowsRows (s : Setup) (log : Log) (desk view limit : ℕ) (after : Option Row) (page : Shown) : Type 0 where
  pub of : SessionOf
  pub sits : session log desk ≡ Some of
  pub there : of.version ≤ number (versions s log)
  pub contents : AreContents (graph_of s.catalog) (bag_at (version (versions s log) of.version)) × AreBags s.catalog (version (versions s log) of.version)
  pub rows : page ≡ page_of (table_of (versions s log) of.version view) after limit

-- so it is of every page that is shown after what was done in a legal run
abbrev pub PagesShowRows : Type 0
PagesShowRows =
    (s : Setup) (log : Log) (desk view limit : ℕ) (after : Option Row) (page : Shown) → IsSetup s → IsLegalLog s log
    → IsPageReply s log desk view limit after (reply.Page page) → ShowsRows s log desk view limit after page
