use Rattle.std.proofs.Common.{◌∙◌, subst, Bool, Ok, inl, inr, refl}
use Rattle.dw_read.specs.Rows.{ReadsRow}
use Rattle.dw_dwarf.proofs.Setting.{is_err}
use Rattle.dw_dwarf.proofs.convert.unit_entry.ConvertUnitEntry.read.Goals as goal

pub returns-in_err-read_entry-clause-err : goal.returns-in_err-read_entry-clause-err
returns-in_err-read_entry-clause-err g c =
    rw (is_err _ _ c.from_residual-in_err-read_entry.ensures) (inr (record {
      before = c.in_ok-rows.rows;
      begins = c.in_ok-rows.ensures.ok;
      after = c.read_entry.new.self;
      blank = c.null-entry.result.read_entry;
      as_read = c.read_entry.new.entry;
      why = inr (c.in_err-read_entry.field-0.0, c.in_err-read_entry.ensures, refl);
    }))

pub returns-then-not-branch-clause-err : goal.returns-then-not-branch-clause-err
returns-then-not-branch-clause-err g c =
    rw c.into.ensures (inr (record {
      before = c.in_ok-rows.rows;
      begins = c.in_ok-rows.ensures.ok;
      after = c.read_entry.new.self;
      blank = c.null-entry.result.read_entry;
      as_read = c.read_entry.new.entry;
      why = inl (subst (λ (b : Bool). ReadsRow g.R.Reader.reading c.in_ok-rows.rows c.read_entry.new.self c.null-entry.result.read_entry c.read_entry.new.entry (Ok b)) c.if-not-branch.true c.in_ok-read_entry.ensures, refl);
    }))

pub returns-clause-ok : goal.returns-clause-ok
returns-clause-ok g c = record {
  before = c.in_ok-rows.rows;
  begins = c.in_ok-rows.ensures.ok;
  after = c.read_entry.new.self;
  blank = c.null-entry.result.read_entry;
  as_read = c.read_entry.new.entry;
  passes = subst (λ (b : Bool). ReadsRow g.R.Reader.reading c.in_ok-rows.rows c.read_entry.new.self c.null-entry.result.read_entry c.read_entry.new.entry (Ok b)) c.if-not-branch.false c.in_ok-read_entry.ensures;
  less = c.filter_attributes.ensures.less;
  read_unit = c.filter_attributes.ensures.read_unit ∙ c.null-entry.ensures.read_unit;
  parent = c.filter_attributes.ensures.parent ∙ c.null-entry.ensures.parent;
}

pub returns-in_err-rows-clause-ok : goal.returns-in_err-rows-clause-ok
returns-in_err-rows-clause-ok g c = rw (is_err _ _ c.from_residual.ensures) tt

pub returns-in_err-read_entry-clause-ok : goal.returns-in_err-read_entry-clause-ok
returns-in_err-read_entry-clause-ok g c = rw (is_err _ _ c.from_residual-in_err-read_entry.ensures) tt

pub returns-clause-err : goal.returns-clause-err
returns-clause-err g c = tt

pub returns-then-not-branch-clause-ok : goal.returns-then-not-branch-clause-ok
returns-then-not-branch-clause-ok g c = tt
