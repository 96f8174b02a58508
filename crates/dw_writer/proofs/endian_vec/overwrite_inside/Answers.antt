use Rattle.std.proofs.Common.{◌+◌, ◌-◌, ◌∙◌, ap, length, arith}
use borrow.Rule.Slice.PartMut.{put_mid}
use Rattle.dw_writer.proofs.Places.{overwrite-put}
use Rattle.dw_writer.proofs.endian_vec.overwrite_inside.Goals as goal

pub returns : goal.returns
returns c =
    ap (put_mid c.args.offset ((c.args.offset + length c.args.bytes.now) - c.args.offset) c.args.s.now) c.copy_from_slice.ensures.after
    ∙ overwrite-put c.args.offset ((c.args.offset + length c.args.bytes.now) - c.args.offset) c.args.bytes.now c.args.s.now (omega arith) (omega arith)
