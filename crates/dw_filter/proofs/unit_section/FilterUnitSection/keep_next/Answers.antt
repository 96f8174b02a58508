use Rattle.std.proofs.Common.{sym, subst, Option, Ok, inl, inr, refl}
use Rattle.dw_read.specs.UnitHeaders.{ReadsHeader, PassesUnit}
use Rattle.dw_read.specs.declared.unit_header.UnitHeader.{UnitHeader}
use Rattle.dw_read_units.specs.UnitReads.{IsUnit}
use Rattle.dw_sources.specs.ConvertErrors.{from_read}
use Rattle.dw_filter.proofs.Handing.{is_err}
use Rattle.dw_filter.proofs.unit_section.FilterUnitSection.keep_next.Goals as goal

pub returns-in_err-header : goal.returns-in_err-header
returns-in_err-header g c =
    let error = c.in_err-header.field-0.0 in
    rw (is_err _ (from_read error) c.from_residual.ensures) (c.requires, inr (inl (record { after = c.next.new.self; error = error; refused = c.in_err-header.ensures; is = refl })))

pub returns-in_err-unit : goal.returns-in_err-unit
returns-in_err-unit g c =
    let error = c.in_err-unit.field-0.0 in
    rw (is_err _ (from_read error) c.from_residual-in_err-unit.ensures) (
      c.requires,
      inr (inr (record {
        after = c.next.new.self;
        header = c.in-Some.header;
        passes = subst (λ (o : Option (UnitHeader _ _)). ReadsHeader g.R.Reader.reading c.args.self.now.headers c.next.new.self (Ok o)) c.in-Some.is c.in_ok-header.ensures;
        error = error;
        misses = c.in_err-unit.ensures.err;
        is = refl;
      })),
    )

pub returns : goal.returns
returns g c =
    let reading = g.R.Reader.reading in
    let i = c.in_ok-unit.ensures.ok in
    record {
      unit = c.relocate.new.unit;
      next = record {
        going = c.requires;
        after = c.next.new.self;
        as_read = c.in_ok-unit.unit;
        passes = subst (λ (h : UnitHeader _ _). PassesUnit reading c.args.self.now.headers c.next.new.self h) (sym i.header)
            (subst (λ (o : Option (UnitHeader _ _)). ReadsHeader reading c.args.self.now.headers c.next.new.self (Ok o)) c.in-Some.is c.in_ok-header.ensures);
        unit = subst (λ (h : UnitHeader _ _). IsUnit reading c.args.self.now.dwarf.now h c.in_ok-unit.unit) (sym i.header) i;
        is = c.relocate.ensures;
      };
      headers = refl;
      units = c.in_ok-push.ensures.items;
      counts = c.in_ok-push-2.ensures.items;
      others = refl;
    }
