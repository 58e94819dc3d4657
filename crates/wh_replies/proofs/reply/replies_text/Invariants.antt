use Rattle.std.proofs.Common.{◌≡◌, take}
use Rattle.std.specs.Prelude.{flat_map}
use Rattle.wh_replies.specs.ReplyText.{reply_line}
use Rattle.wh_replies.proofs.reply.replies_text.Given as goal

abbrev pub invariant-loop-reply : goal.invariant-loop-reply
invariant-loop-reply l = l.text.items ≡ flat_map reply_line (take l.reply-index l.replies)
