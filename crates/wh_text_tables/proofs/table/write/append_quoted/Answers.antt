use Rattle.std.proofs.Common.{◌++◌, arith}
use Rattle.csv.specs.Writing.{default_writer, quoted}
use Rattle.wh_text_tables.proofs.TableLines.{quoted-end, quoted-next}
use Rattle.wh_text_tables.proofs.table.write.append_quoted.Goals as goal

pub loop-byte-preserved : goal.loop-byte-preserved
loop-byte-preserved c =
    quoted-next c.loop-byte.out.items c.append_byte.new.out.items (c.args.out.now.items ++ quoted default_writer c.args.text.now) c.args.text.now c.loop-byte.byte-index (omega (arith, c.loop-byte-test.true)) c.in_ok-append_byte.ensures c.loop-byte.invariant

pub returns : goal.returns
returns c =
    quoted-end c.loop-byte.out.items c.push-2.new.self.items (c.args.out.now.items ++ quoted default_writer c.args.text.now) c.args.text.now c.loop-byte.byte-index (omega (arith, c.loop-byte-test.false)) c.in_ok-push-2.ensures.items c.loop-byte.invariant
