use Rattle.std.proofs.Common.{rules, [], ◌∷◌, ◌≡◌, ◌≢◌, refl, sym, ap, subst, ◌∙◌, ℕ, ◌<◌, length, not, Bool, true, false, Option, Some, None, inl, inr, arith}
use Rattle.std.specs.Prelude.{is_none, option_map, ◌==◌, ◌||◌, nat_lt}
use Rattle.wh_store.specs.Pages.{Shown, page_of}
use Rattle.wh_store.specs.Versions.{table_in, table_of, version}
use Rattle.wh_store.specs.Windows.{kept_version, unexpired}
use Rattle.wh_store.specs.Readers.{bookmark_after, goes_on}
use Rattle.wh_core.specs.declared.event.Event.TheVariants as event
use Rattle.wh_core.specs.declared.reply.Cause.TheVariants as cause
use Rattle.wh_core.specs.declared.reply.Reply.TheVariants as reply
use Rattle.wh_core.specs.declared.session.Seat.{Seat}
use Rattle.wh_core.specs.Log.{SessionOf, session}
use Rattle.wh_core.specs.Nights.{published, versions}
use Rattle.wh_core.specs.Replies.{IsReply, more}
use Rattle.wh_core.specs.Standing.{session_of}
use Rattle.wh_core.proofs.Seats.{seat_set, seated, shown, turned, wrong_limit}
use Rattle.wh_core.proofs.machine.Machine.read.Goals as goal

pub returns-then-not-is_limit : goal.returns-then-not-is_limit
returns-then-not-is_limit c = λ s log h.
    let m = c.args.self.now in
    let seat = seated s log m h c.args.desk (omega arith) c.index.result.now c.index.ensures ∙ ap (option_map session_of) c.in-Some.is in
    let alive : unexpired m.store c.in-Some.seat.version ≡ true = search rules in
    let views = c.views.ensures.of_list s.opening (published s log) h.shows in
    let wrong : (c.args.limit == 0) || nat_lt 256 c.args.limit ≡ true = search rules in
    (h, wrong_limit s log m h c.args.desk c.args.view c.args.limit (session_of c.in-Some.seat) (omega arith) seat alive (omega (arith, views)) wrong)

pub returns-in_default-visible : goal.returns-in_default-visible
returns-in_default-visible c = λ s log h.
    let m = c.args.self.now in
    let seat = seated s log m h c.args.desk (omega arith) c.index.result.now c.index.ensures ∙ ap (option_map session_of) c.in-Some.is in
    let alive : unexpired m.store c.in-Some.seat.version ≡ true = search rules in
    let views = c.views.ensures.of_list s.opening (published s log) h.shows in
    let right : (c.args.limit == 0) || nat_lt 256 c.args.limit ≡ false = search rules in
    let kept : kept_version m.store c.in-Some.seat.version ≡ version (versions s log) c.in-Some.seat.version = (c.told_law.ensures m.store s.opening (published s log) h.shows).contents c.in-Some.seat.version alive in
    let same : page_of (table_in (kept_version m.store c.in-Some.seat.version) c.args.view) (option_map (λ row. row.now) c.goes_on-after.result) c.args.limit
    ≡ page_of (table_of (versions s log) c.in-Some.seat.version c.args.view) (goes_on c.args.view (session_of c.in-Some.seat).bookmark) c.args.limit =
    ap (λ contents. page_of (table_in contents c.args.view) (option_map (λ row. row.now) c.goes_on-after.result) c.args.limit) kept
    ∙ ap (λ a. page_of (table_of (versions s log) c.in-Some.seat.version c.args.view) a c.args.limit) c.goes_on-after.ensures in (
      h,
      shown s log m h c.args.desk c.args.view c.args.limit (session_of c.in-Some.seat) (omega arith) seat alive (omega (arith, views)) (reply.Refused cause.Memory) right
          (inr (subst (λ (page : Shown). page.rows ≢ []) same c.in_default-visible.ensures.memory, refl)),
    )

pub returns-in_default-mark_after : goal.returns-in_default-mark_after
returns-in_default-mark_after c = λ s log h.
    let m = c.args.self.now in
    let seat = seated s log m h c.args.desk (omega arith) c.index.result.now c.index.ensures ∙ ap (option_map session_of) c.in-Some.is in
    let alive : unexpired m.store c.in-Some.seat.version ≡ true = search rules in
    let views = c.views.ensures.of_list s.opening (published s log) h.shows in
    let right : (c.args.limit == 0) || nat_lt 256 c.args.limit ≡ false = search rules in
    let page = c.in-Ok.ensures.of_list s.opening (published s log) h.shows ∙ ap (λ a. page_of (table_of (versions s log) c.in-Some.seat.version c.args.view) a c.args.limit) c.goes_on-after.ensures in (
      h,
      shown s log m h c.args.desk c.args.view c.args.limit (session_of c.in-Some.seat) (omega arith) seat alive (omega (arith, views)) (reply.Refused cause.Memory) right
          (inr (subst (λ (page : Shown). page.rows ≢ []) page c.in_default-mark_after.ensures.memory, refl)),
    )

pub returns : goal.returns
unfolding published
returns c = λ s log h.
    let m = c.args.self.now in
    let of : SessionOf = session_of c.in-Some.seat in
    let seat = seated s log m h c.args.desk (omega arith) c.index.result.now c.index.ensures ∙ ap (option_map session_of) c.in-Some.is in
    let alive : unexpired m.store c.in-Some.seat.version ≡ true = search rules in
    let views = c.views.ensures.of_list s.opening (published s log) h.shows in
    let right : (c.args.limit == 0) || nat_lt 256 c.args.limit ≡ false = search rules in
    let page = c.in-Ok.ensures.of_list s.opening (published s log) h.shows ∙ ap (λ a. page_of (table_of (versions s log) of.version c.args.view) a c.args.limit) c.goes_on-after.ensures in
    let r : IsReply s log (event.Read c.args.desk c.args.view c.args.limit) (reply.Page c.in-Ok.page) =
    shown s log m h c.args.desk c.args.view c.args.limit of (omega arith) seat alive (omega (arith, views)) (reply.Page c.in-Ok.page) right (inl (ap reply.Page page)) in
    let new : Seat = record { version = c.in-Some.seat.version; mark = c.in-Ok-mark_after.mark } in
    let left : session_of new ≡ record { version = of.version; bookmark = bookmark_after c.args.view c.in-Ok.page } = ap (λ b. record { version = of.version; bookmark = b }) c.in-Ok-mark_after.ensures.mark in (
      record {
        legal = more log (event.Read c.args.desk c.args.view c.args.limit) (reply.Page c.in-Ok.page) h.legal r;
        shows = h.shows;
        versions = h.versions;
        tables = h.tables;
        desks = search rules;
        sessions = λ w k. seat_set m.seats.items s.desks c.args.desk (Some new) (session log) (omega arith) h.sessions w k ∙ ap Some (turned log c.args.desk w c.args.view c.in-Ok.page of (session_of new) seat left);
        workers = h.workers;
        holders = h.holders;
        night = h.night;
        put = h.put;
      },
      r,
    )
