use Rattle.std.proofs.Common.{refl}
use Rattle.std.proofs.lemmas.Result.{err_from_is_err_and}
use Rattle.dw_read.specs.Reading.{left}
use Rattle.dw_read.specs.Fields.{header_of}
use Rattle.dw_read.proofs.HeaderParts.{header_no_length, refused_cut, refused_fields, has_header}
use Rattle.dw_read.proofs.unit_header.read_header.Goals as goal

pub returns-in_err-length-clause-err : goal.returns-in_err-length-clause-err
returns-in_err-length-clause-err g c =
    let p = err_from_is_err_and c.from_residual.result c.from_residual.ensures.1 in
    rw (p.1, p.2) (header_no_length (g.R.Reader.reading c.args.input.now).is_big _ _ c.in_err-length.ensures.err.reason)

pub returns-in_err-body-clause-err : goal.returns-in_err-body-clause-err
returns-in_err-body-clause-err g c =
    let p = err_from_is_err_and c.from_residual-in_err-body.result c.from_residual-in_err-body.ensures.1 in
    rw (p.1, p.2) (refused_cut (g.R.Reader.reading c.args.input.now) _ _ _ _ c.in_ok-length.ensures.ok c.in_err-body.ensures.err.reason)

pub returns-in_err-fields-clause-err : goal.returns-in_err-fields-clause-err
returns-in_err-fields-clause-err g c =
    let p = err_from_is_err_and c.from_residual-in_err-fields.result c.from_residual-in_err-fields.ensures.1 in
    rw (p.1, p.2) (refused_fields (g.R.Reader.reading c.args.input.now) _ _ _ _ _ _ c.in_ok-length.ensures.ok (g.met.R.Reader.is_reading c.read_initial_length.new.self) c.in_ok-body.ensures.part c.in_ok-body.ensures.ok c.in_err-fields.ensures.err)

pub returns-clause-ok : goal.returns-clause-ok
returns-clause-ok g c =
    let is = g.met.R.Reader.is_reading in
    let h = has_header (g.R.Reader.reading c.args.input.now) _ _ _ _ _ _ _ c.in_ok-length.ensures.passes c.in_ok-length.ensures.ok (is c.read_initial_length.new.self) (is c.in_ok-body.body) (is c.read_fields.new.input) c.in_ok-body.ensures.part c.in_ok-body.ensures.ok c.in_ok-fields.ensures.ok in
    record {
      count = h.count;
      passes = h.passes;
      read = record { header = header_of c.in_ok-fields.fields; size = h.size; body = left (g.R.Reader.reading c.read_fields.new.input); rest = left (g.R.Reader.reading c.split.new.self) };
      is = h.is;
      header = refl;
      offset = c.place.ensures;
      body = h.body;
      entries = refl;
      rest = refl;
    }

pub returns-in_err-length-clause-ok : goal.returns-in_err-length-clause-ok
returns-in_err-length-clause-ok g c = rw (err_from_is_err_and c.from_residual.result c.from_residual.ensures.1).1 tt

pub returns-in_err-body-clause-ok : goal.returns-in_err-body-clause-ok
returns-in_err-body-clause-ok g c = rw (err_from_is_err_and c.from_residual-in_err-body.result c.from_residual-in_err-body.ensures.1).1 tt

pub returns-in_err-fields-clause-ok : goal.returns-in_err-fields-clause-ok
returns-in_err-fields-clause-ok g c = rw (err_from_is_err_and c.from_residual-in_err-fields.result c.from_residual-in_err-fields.ensures.1).1 tt

pub returns-clause-err : goal.returns-clause-err
returns-clause-err g c = tt
