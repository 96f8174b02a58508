use Rattle.std.proofs.Common.{◌∙◌, sym, ap, subst, inl, inr, refl, ℕ, List, None}
use Rattle.dw_base.specs.declared.common.LineEncoding.{LineEncoding}
use Rattle.dw_base.specs.LineMachine.{Registers}
use Rattle.dw_line.specs.LinePrograms.{is_in_sequence}
use Rattle.dw_read.specs.Reading.{Reading, left}
use Rattle.dw_read.specs.declared.error.ReadError.{ReadError}
use Rattle.dw_read_lines.specs.LineHeaderViews.{machine_of}
use Rattle.dw_sources.specs.ConvertErrors.{from_read}
use Rattle.dw_sources.specs.declared.convert_error.ConvertError.{ConvertError}
use Rattle.dw_convert_lines.specs.RegisterViews.{registers_of}
use Rattle.dw_convert_lines.specs.RowOutcomes.{Reached}
use Rattle.dw_convert_lines.proofs.NextLaws.{not_known, refused, defines, passed, at_end, is_next, order_kept, next_reached, next_refused}
use Rattle.dw_convert_lines.proofs.ReachedLaws.{reached_none, all_added}
use Rattle.dw_convert_lines.proofs.Reasons.{is_err}
use Rattle.dw_convert_lines.proofs.rows.convert_rows.Goals as goal

pub instructions-init : goal.instructions-init
instructions-init g c =
    let reading = g.R.Reader.reading in
    let big = (reading c.args.header.now.program).is_big in
    let h = machine_of reading big c.args.header.now.parameters in
    let fresh = c.requires.fresh in
    let e = c.begin.ensures h (sym (ap (λ (x : LineEncoding). x.default_is_stmt) c.line_encoding.ensures)) in
    let first = reached_none h c.args.header.now.encoding.encoding.version c.args.files.now (goal.F-post g c.args.convert_address.now) (left (reading c.args.header.now.program)) fresh.program fresh.closed fresh.rows in
    record {
      before = fresh.program;
      was = fresh.is;
      closed = fresh.closed;
      empty = fresh.rows;
      after = fresh.program;
      is = fresh.is;
      reached = subst (λ (xs : List ℕ). Reached h c.args.header.now.encoding.encoding.version c.args.files.now (goal.F-post g c.args.convert_address.now) (left (reading c.args.header.now.program)) fresh.program xs (registers_of c.begin.result) None fresh.program) (sym (ap left c.instructions-instructions.ensures.input))
          (subst (λ (r : Registers). Reached h c.args.header.now.encoding.encoding.version c.args.files.now (goal.F-post g c.args.convert_address.now) (left (reading c.args.header.now.program)) fresh.program (left (reading c.args.header.now.program)) r None fresh.program) (sym e) first);
      order = ap (λ (r : Reading). r.is_big) c.instructions-instructions.ensures.input;
      open_yet = c.instructions-instructions.ensures.begun;
    }

pub instructions-preserved : goal.instructions-preserved
instructions-preserved g c =
    let reading = g.R.Reader.reading in
    let big = (reading c.args.header.now.program).is_big in
    let h = machine_of reading big c.args.header.now.parameters in
    let i = c.instructions.invariant in
    let p = passed _ _ reading c.args.header.now c.instructions.instructions c.next_instruction.new.self _ c.in-Some.instruction c.in_ok-instruction.ensures c.in-Some.is in
    let n = is_next _ _ reading c.args.header.now c.instructions.instructions c.next_instruction.new.self big i.order c.in-Some.instruction (g.met.R.Reader.is_reading c.instructions.instructions.input) (g.met.R.Reader.is_reading c.next_instruction.new.self.input) p (not_known _ _ c.defines_file.ensures c.if-defines_file.false) in
    let ch = c.in_ok-machine.ensures.ok big in
    record {
      before = i.before;
      was = i.was;
      closed = i.closed;
      empty = i.empty;
      after = ch.after;
      is = ch.is;
      reached = next_reached h c.args.header.now.encoding.encoding.version c.args.files.now (goal.F-post g c.args.convert_address.now) _ _ _ _ _ _ _ i.reached i.is _ _ _ _ _ n ch;
      order = order_kept _ _ reading c.args.header.now c.instructions.instructions c.next_instruction.new.self big i.order c.in-Some.instruction p;
      open_yet = p.went_on.1;
    }

pub instructions-smaller : goal.instructions-smaller
instructions-smaller g c =
    let reading = g.R.Reader.reading in
    let big = (reading c.args.header.now.program).is_big in
    let h = machine_of reading big c.args.header.now.parameters in
    let i = c.instructions.invariant in
    let p = passed _ _ reading c.args.header.now c.instructions.instructions c.next_instruction.new.self _ c.in-Some.instruction c.in_ok-instruction.ensures c.in-Some.is in
    let n = is_next _ _ reading c.args.header.now c.instructions.instructions c.next_instruction.new.self big i.order c.in-Some.instruction (g.met.R.Reader.is_reading c.instructions.instructions.input) (g.met.R.Reader.is_reading c.next_instruction.new.self.input) p (not_known _ _ c.defines_file.ensures c.if-defines_file.false) in
    n.shorter

pub returns-in_err-machine-clause-err : goal.returns-in_err-machine-clause-err
returns-in_err-machine-clause-err g c =
    let reading = g.R.Reader.reading in
    let big = (reading c.args.header.now.program).is_big in
    let h = machine_of reading big c.args.header.now.parameters in
    let i = c.instructions.invariant in
    let p = passed _ _ reading c.args.header.now c.instructions.instructions c.next_instruction.new.self _ c.in-Some.instruction c.in_ok-instruction.ensures c.in-Some.is in
    let n = is_next _ _ reading c.args.header.now c.instructions.instructions c.next_instruction.new.self big i.order c.in-Some.instruction (g.met.R.Reader.is_reading c.instructions.instructions.input) (g.met.R.Reader.is_reading c.next_instruction.new.self.input) p (not_known _ _ c.defines_file.ensures c.if-defines_file.false) in
    let why : ConvertError = c.in_err-machine.field-0.0 in
    let e = is_err _ why c.from_residual-in_err-machine.ensures in
    rw e (elim c.in_err-machine.ensures.err [
      | inl k ↦ inl k
      | inr k ↦ inr (record {
        before = i.before;
        was = i.was;
        fails = record {
          rest = left (reading c.instructions.instructions.input);
          registers = registers_of c.instructions.machine.registers;
          base = c.instructions.machine.base;
          new = i.after;
          reached = i.reached;
          cause = inr (inr (next_refused h c.args.header.now.encoding.encoding.version c.args.files.now (goal.F-post g c.args.convert_address.now) _ _ _ _ _ _ _ i.reached i.is _ _ why n (k big)));
        };
      })
    ])

pub returns-then-in_sequence-clause-err : goal.returns-then-in_sequence-clause-err
returns-then-in_sequence-clause-err g c =
    let reading = g.R.Reader.reading in
    let i = c.instructions.invariant in
    let z = at_end _ _ reading c.args.header.now c.instructions.instructions c.next_instruction.new.self _ c.in_ok-instruction.ensures c.in_default.is i.open_yet in
    inr (record {
      before = i.before;
      was = i.was;
      fails = record {
        rest = left (reading c.instructions.instructions.input);
        registers = registers_of c.instructions.machine.registers;
        base = c.instructions.machine.base;
        new = i.after;
        reached = i.reached;
        cause = inr (inl (record { fault = inr (z, sym (ap is_in_sequence i.is) ∙ sym c.in_sequence.ensures ∙ c.if-in_sequence.true); is = refl }));
      };
    })

pub returns-clause-ok : goal.returns-clause-ok
returns-clause-ok g c =
    let reading = g.R.Reader.reading in
    let big = (reading c.args.header.now.program).is_big in
    let h = machine_of reading big c.args.header.now.parameters in
    let i = c.instructions.invariant in
    let z = at_end _ _ reading c.args.header.now c.instructions.instructions c.next_instruction.new.self _ c.in_ok-instruction.ensures c.in_default.is i.open_yet in
    record {
      before = i.before;
      was = i.was;
      after = i.after;
      is = i.is;
      does = all_added h c.args.header.now.encoding.encoding.version c.args.files.now (goal.F-post g c.args.convert_address.now) (left (reading c.args.header.now.program)) i.before _ _ _ i.after i.reached z
          (sym (ap is_in_sequence i.is) ∙ sym c.in_sequence.ensures ∙ c.if-in_sequence.false) i.closed i.empty;
    }

pub returns-in_err-instruction-clause-ok : goal.returns-in_err-instruction-clause-ok
returns-in_err-instruction-clause-ok g c = rw (is_err _ _ c.from_residual.ensures) tt

pub returns-in_err-machine-clause-ok : goal.returns-in_err-machine-clause-ok
returns-in_err-machine-clause-ok g c = rw (is_err _ _ c.from_residual-in_err-machine.ensures) tt

pub returns-then-defines_file-clause-ok : goal.returns-then-defines_file-clause-ok
returns-then-defines_file-clause-ok g c = tt

pub returns-then-in_sequence-clause-ok : goal.returns-then-in_sequence-clause-ok
returns-then-in_sequence-clause-ok g c = tt

pub returns-clause-err : goal.returns-clause-err
returns-clause-err g c = tt

pub returns-in_err-instruction-clause-err : goal.returns-in_err-instruction-clause-err
returns-in_err-instruction-clause-err g c =
    let reading = g.R.Reader.reading in
    let big = (reading c.args.header.now.program).is_big in
    let i = c.instructions.invariant in
    let why : ReadError = c.in_err-instruction.field-0.0 in
    let e = is_err _ (from_read why) c.from_residual.ensures in
    rw e (inr (record {
      before = i.before;
      was = i.was;
      fails = record {
        rest = left (reading c.instructions.instructions.input);
        registers = registers_of c.instructions.machine.registers;
        base = c.instructions.machine.base;
        new = i.after;
        reached = i.reached;
        cause = inl (record { error = why; reason = refused _ _ reading c.args.header.now c.instructions.instructions c.next_instruction.new.self big i.order why c.in_err-instruction.ensures; is = refl });
      };
    }))

pub returns-then-defines_file-clause-err : goal.returns-then-defines_file-clause-err
returns-then-defines_file-clause-err g c =
    let reading = g.R.Reader.reading in
    let big = (reading c.args.header.now.program).is_big in
    let i = c.instructions.invariant in
    let p = passed _ _ reading c.args.header.now c.instructions.instructions c.next_instruction.new.self _ c.in-Some.instruction c.in_ok-instruction.ensures c.in-Some.is in
    inr (record {
      before = i.before;
      was = i.was;
      fails = record {
        rest = left (reading c.instructions.instructions.input);
        registers = registers_of c.instructions.machine.registers;
        base = c.instructions.machine.base;
        new = i.after;
        reached = i.reached;
        cause = inr (inl (record { fault = inl (defines _ _ reading c.args.header.now c.instructions.instructions c.next_instruction.new.self big i.order c.in-Some.instruction p (c.defines_file.ensures.0 c.if-defines_file.true)); is = refl }));
      };
    })
