use Rattle.std.proofs.Common.{rules, ◌+◌, ◌<◌, ◌^◌, length}
use Rattle.wh_row.proofs.FlatLaws.{ends_within}
use Rattle.wh_row.proofs.records.put_with_all_ends.Goals as goal

pub note_ends_behind-requires : goal.note_ends_behind-requires
note_ends_behind-requires c =
    let small : c.len.result + length c.args.more.now < 2 ^ 64 = search rules in
    ends_within 0 c.args.until.now (length c.args.more.now) (2 ^ 64) c.len.result c.requires small
