use Rattle.std.proofs.Common.{◌∙◌, ap, subst, ℕ, List, map, refl, inr}
use Rattle.std.proofs.lemmas.Result.{err_from_is_err_and}
use Rattle.dw_base.specs.Abbreviations.{Declaration, table_at}
use Rattle.dw_base.specs.declared.common.Encoding.{Encoding}
use Rattle.dw_base.specs.declared.constants.TheConstants.{DW_AT_low_pc, DW_AT_name, DW_AT_comp_dir}
use Rattle.dw_read.specs.Rows.{entry_of}
use Rattle.dw_read_units.specs.Lookups.{IsFrom}
use Rattle.dw_read_units.specs.Roots.{named_in, last_value}
use Rattle.dw_read_units.specs.RootFields.{IsLowPc}
use Rattle.dw_read_units.specs.Texts.{root_text}
use Rattle.dw_read_units.proofs.LookupLaws.{stands}
use Rattle.dw_read_units.proofs.UnitLaws.{named_are, low_pc_missed, fields_moved}
use Rattle.dw_read_units.proofs.dwarf.Dwarf.unit.Goals as goal

pub returns-in_err-low_pc-clause-err : goal.returns-in_err-low_pc-clause-err
returns-in_err-low_pc-clause-err g c =
    let reading = g.R.Reader.reading in
    let h = c.args.header in
    let r = c.in_ok-root.ensures.ok in
    let table = stands (List Declaration) table_at h.fields.table_offset (reading c.args.self.now.debug_abbrev) _ _ _ (subst (λ (n : ℕ). IsFrom n (reading c.args.self.now.debug_abbrev) (reading c.section_from-tables.result)) c.debug_abbrev_offset.ensures c.section_from-tables.ensures) c.in_ok-abbreviations.ensures.ok in
    let named = ap (map (named_in reading)) c.as_slice-attrs.ensures.value ∙ named_are reading h.fields.encoding c.in_ok-root.root.attrs.items r.encoded in
    let p = err_from_is_err_and c.from_residual-in_err-low_pc.result c.from_residual-in_err-low_pc.ensures.1 in
    rw (p.1, p.2) (inr (inr (record {
      declarations = c.in_ok-abbreviations.abbreviations;
      table = table;
      misses = inr (record {
        root = entry_of reading r.code c.in_ok-root.root;
        rest = r.rest;
        row = r.row;
        misses = low_pc_missed (reading c.args.self.now.debug_addr) h _ _ _ _ _ named c.root_bases-bases.ensures c.encoding-encoding.ensures c.in_err-low_pc.ensures.err;
      });
    })))

pub returns-clause-ok : goal.returns-clause-ok
returns-clause-ok g c =
    let reading = g.R.Reader.reading in
    let h = c.args.header in
    let r = c.in_ok-root.ensures.ok in
    let table = stands (List Declaration) table_at h.fields.table_offset (reading c.args.self.now.debug_abbrev) _ _ _ (subst (λ (n : ℕ). IsFrom n (reading c.args.self.now.debug_abbrev) (reading c.section_from-tables.result)) c.debug_abbrev_offset.ensures c.section_from-tables.ensures) c.in_ok-abbreviations.ensures.ok in
    let named = ap (map (named_in reading)) c.as_slice-attrs.ensures.value ∙ named_are reading h.fields.encoding c.in_ok-root.root.attrs.items r.encoded in
    let xs = map (named_in reading) c.as_slice-attrs.result.now in
    let text = λ (name : ℕ) (e : Encoding). root_text (reading c.args.self.now.debug_str) (reading c.args.self.now.debug_line_str) (reading c.args.self.now.debug_str_offsets) c.root_bases-bases.result.str_offsets e.format (last_value name name xs) in
    record {
      header = refl;
      table = table;
      root = entry_of reading r.code c.in_ok-root.root;
      rest = r.rest;
      row = r.row;
      fields = fields_moved reading c.args.self.now h _ xs _ named (record {
        bases = c.root_bases-bases.ensures;
        low_pc = subst (λ (e : Encoding). IsLowPc (reading c.args.self.now.debug_addr) c.root_bases-bases.result.addr e.address_size (last_value DW_AT_low_pc.0 DW_AT_low_pc.0 xs) c.in_ok-low_pc.low_pc) c.encoding-encoding.ensures c.in_ok-low_pc.ensures.ok;
        name = c.root_text-name.ensures ∙ ap (text DW_AT_name.0) c.encoding-encoding.ensures;
        directory = c.root_text-directory.ensures ∙ ap (text DW_AT_comp_dir.0) c.encoding-encoding.ensures;
        program = c.line_program-line_program.ensures;
        id = c.unit_id-dwo_id.ensures;
      });
    }
