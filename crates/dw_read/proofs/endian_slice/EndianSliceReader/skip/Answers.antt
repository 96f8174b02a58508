use Rattle.dw_read.proofs.Reasoned.{refuses_end}
use Rattle.dw_read.proofs.endian_slice.EndianSliceReader.skip.Goals as goal

pub returns-then-n-self-clause-err : goal.returns-then-n-self-clause-err
returns-then-n-self-clause-err g c = refuses_end c.args.n _ (record { place = c.args.self.now.place_within; end = c.args.self.now.end_within; small = c.args.self.now.small }) c.if-n-self.true
