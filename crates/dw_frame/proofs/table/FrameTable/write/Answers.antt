use Rattle.dw_frame.proofs.TableReading.{table_read}
use Rattle.dw_frame.proofs.TableWhole.{table_whole}
use Rattle.dw_frame.proofs.table.FrameTable.write.Goals as goal

pub returns-clause-read : goal.returns-clause-read
returns-clause-read g c =
    let cies = c.as_slice.ensures.keys in
    let fdes = c.as_slice-2.ensures.value in
    let x = rw (cies, fdes) at c.write_frames.ensures in
    table_read c.write_frames.result (g.W.Writer.meaning c.args.w.now) (g.W.Writer.meaning c.write_frames.new.w) c.args.kind c.args.self.now.cies.keys c.args.self.now.fdes.items (g.met.W.Writer.plain_records_nothing c.write_frames.new.w) x.part x.told

pub returns-clause-whole : goal.returns-clause-whole
returns-clause-whole g c =
    let cies = c.as_slice.ensures.keys in
    let fdes = c.as_slice-2.ensures.value in
    let x = rw (cies, fdes) at c.write_frames.ensures in
    table_whole c.write_frames.result (g.W.Writer.meaning c.args.w.now) (g.W.Writer.meaning c.write_frames.new.w) c.args.kind c.args.self.now.cies.keys c.args.self.now.fdes.items (g.met.W.Writer.plain_records_nothing c.write_frames.new.w) x.part x.told

pub returns-clause-told : goal.returns-clause-told
returns-clause-told g c =
    let cies = c.as_slice.ensures.keys in
    let fdes = c.as_slice-2.ensures.value in
    (rw (cies, fdes) at c.write_frames.ensures).told
