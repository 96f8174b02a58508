use Rattle.std.specs.Prelude.{refl}
use Rattle.dw_frame_instructions.specs.Causes.{never}
use Rattle.dw_frame_instructions.proofs.Steps.{Writes-then, Writes-as, Writes-bytes, Writes-field, bytes_written}
use Rattle.dw_frame_instructions.proofs.AdvanceSteps.{delta_small, delta_one, delta_two, delta_four}
use Rattle.dw_frame_instructions.proofs.advance.write_delta.Goals as goal

pub returns-then-delta-lt64 : goal.returns-then-delta-lt64
returns-then-delta-lt64 g c =
    Writes-as c.write.result _ _ _ _ never never (Writes-bytes c.write.result _ _ _ c.write.ensures.ok c.write.ensures.err) (delta_small c.args.delta c.if-delta-lt64.true) refl

pub returns-then-delta-lt256 : goal.returns-then-delta-lt256
returns-then-delta-lt256 g c =
    let rest = Writes-field c.write_u8.result _ _ 1 c.args.delta c.write_u8.ensures.ok c.write_u8.ensures.err in
    Writes-as c.write_u8.result _ _ _ _ never never (Writes-then c.write_u8.result _ _ _ _ _ never never (bytes_written c.in_ok-write.ensures.ok) rest) (delta_one c.args.delta c.if-delta-lt64.false c.if-delta-lt256.true) refl

pub returns-then-delta-lt65536 : goal.returns-then-delta-lt65536
returns-then-delta-lt65536 g c =
    let rest = Writes-field c.write_u16.result _ _ 2 c.args.delta c.write_u16.ensures.ok c.write_u16.ensures.err in
    Writes-as c.write_u16.result _ _ _ _ never never (Writes-then c.write_u16.result _ _ _ _ _ never never (bytes_written c.in_ok-write-2.ensures.ok) rest) (delta_two c.args.delta c.if-delta-lt256.false c.if-delta-lt65536.true) refl

pub returns : goal.returns
returns g c =
    let rest = Writes-field c.write_u32.result _ _ 4 c.args.delta c.write_u32.ensures.ok c.write_u32.ensures.err in
    Writes-as c.write_u32.result _ _ _ _ never never (Writes-then c.write_u32.result _ _ _ _ _ never never (bytes_written c.in_ok-write-3.ensures.ok) rest) (delta_four c.args.delta c.if-delta-lt65536.false) refl
