use Rattle.std.proofs.Common.{rules, [], ◌≡◌, ◌≢◌, ap, subst, ◌∙◌, refl, true, false, inl, inr, arith}
use Rattle.std.specs.Prelude.{option_map, ◌==◌, ◌||◌, nat_lt}
use Rattle.wh_store.specs.Pages.{Shown, page_of}
use Rattle.wh_store.specs.Versions.{table_in, table_of, version}
use Rattle.wh_store.specs.Windows.{kept_version, unexpired}
use Rattle.wh_core.specs.declared.reply.Cause.TheVariants as cause
use Rattle.wh_core.specs.declared.reply.Reply.TheVariants as reply
use Rattle.wh_core.specs.Nights.{published, versions}
use Rattle.wh_core.specs.Standing.{session_of}
use Rattle.wh_core.proofs.Seats.{seated}
use Rattle.wh_core.proofs.Pages.{page_of_no_size, page_shown}
use Rattle.wh_core.proofs.machine.Machine.page.Goals as goal

pub returns-then-not-is_limit : goal.returns-then-not-is_limit
returns-then-not-is_limit c = λ s log h.
    let m = c.args.self.now in
    let seat = seated s log m h c.args.desk (omega arith) c.index.result.now c.index.ensures ∙ ap (option_map session_of) c.in-Some.is in
    let alive : unexpired m.store c.in-Some.seat.version ≡ true = search rules in
    let views = c.views.ensures.of_list s.opening (published s log) h.shows in
    let wrong : (c.args.limit == 0) || nat_lt 256 c.args.limit ≡ true = search rules in
    page_of_no_size s log m h c.args.desk c.args.view c.args.limit (option_map (λ row. row.now) c.args.after) (omega arith) (session_of c.in-Some.seat) seat alive (omega (arith, views)) wrong

pub returns-in-Err : goal.returns-in-Err
returns-in-Err c = λ s log h.
    let m = c.args.self.now in
    let after = option_map (λ row. row.now) c.args.after in
    let seat = seated s log m h c.args.desk (omega arith) c.index.result.now c.index.ensures ∙ ap (option_map session_of) c.in-Some.is in
    let alive : unexpired m.store c.in-Some.seat.version ≡ true = search rules in
    let views = c.views.ensures.of_list s.opening (published s log) h.shows in
    let right : (c.args.limit == 0) || nat_lt 256 c.args.limit ≡ false = search rules in
    let kept : kept_version m.store c.in-Some.seat.version ≡ version (versions s log) c.in-Some.seat.version = (c.told_law.ensures m.store s.opening (published s log) h.shows).contents c.in-Some.seat.version alive in
    let same : page_of (table_in (kept_version m.store c.in-Some.seat.version) c.args.view) after c.args.limit ≡ page_of (table_of (versions s log) c.in-Some.seat.version c.args.view) after c.args.limit =
    ap (λ contents. page_of (table_in contents c.args.view) after c.args.limit) kept in
    page_shown s log m h c.args.desk c.args.view c.args.limit after (omega arith) (session_of c.in-Some.seat) seat alive (omega (arith, views)) (reply.Refused cause.Memory) right
    (inr (subst (λ (page : Shown). page.rows ≢ []) same c.in-Err.ensures.memory, refl))

pub returns-in-Ok : goal.returns-in-Ok
returns-in-Ok c = λ s log h.
    let m = c.args.self.now in
    let after = option_map (λ row. row.now) c.args.after in
    let seat = seated s log m h c.args.desk (omega arith) c.index.result.now c.index.ensures ∙ ap (option_map session_of) c.in-Some.is in
    let alive : unexpired m.store c.in-Some.seat.version ≡ true = search rules in
    let views = c.views.ensures.of_list s.opening (published s log) h.shows in
    let right : (c.args.limit == 0) || nat_lt 256 c.args.limit ≡ false = search rules in
    page_shown s log m h c.args.desk c.args.view c.args.limit after (omega arith) (session_of c.in-Some.seat) seat alive (omega (arith, views)) (reply.Page c.in-Ok.page) right
    (inl (ap reply.Page (c.in-Ok.ensures.of_list s.opening (published s log) h.shows)))
