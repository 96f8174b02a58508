-- New sections of writers that record relocations.
use Rattle.std.specs.Prelude.{◌≡◌, Bool, false, refl}
use Rattle.std.proofs.Common.{sym, ◌∙◌, ap, subst}
use Rattle.dw_writer.specs.Meaning.{Meaning}
use Rattle.dw_writer.specs.New.{IsEmptyWriter}
use Rattle.dw_writer.specs.Sections.{AllMean, NoFixups}
use Rattle.dw_writer.specs.declared.sections.Sections.{Sections}
use Rattle.dw_tree.specs.Built.{Starts, at_begin}
use Rattle.dw_tree.specs.Elsewhere.{ends_of}
use Rattle.dw_tree.specs.Pending.{starts_of}
use Rattle.dw_dwarf.specs.DwarfValue.{DwarfValue}
use Rattle.dw_dwarf.specs.Valid.{IsValid, IsValidAt, empty_ends}
use Rattle.dw_dwarf.specs.Written.{AreNew}
use Rattle.dw_dwarf.proofs.Held.{ends_are}
use Rattle.dw_program.proofs.SetParts.{new_recorder}

empty_recorder : (m : Meaning) (big : Bool) → m ≡ new_recorder big → IsEmptyWriter m m.is_big
empty_recorder m big e =
    let new : IsEmptyWriter (new_recorder big) (new_recorder big).is_big = record { told = refl; size = refl; records = refl; order = refl } in
    subst (λ (x : Meaning). IsEmptyWriter x x.is_big) (sym e) new

module _ {W : Type 0} (meaning : W → Meaning) (big : Bool) (s : Sections W) (begun : AllMean meaning s (new_recorder big)) where
  kind : {m : Meaning} → m ≡ new_recorder big → m.is_plain ≡ false
  kind e = ap (λ m. m.is_plain) e

  sized : {m : Meaning} → m ≡ new_recorder big → m.size ≡ 0
  sized e = ap (λ m. m.size) e

  pub new_sets : NoFixups s → AreNew meaning s
  new_sets fixups = record {
    info = empty_recorder (meaning s.debug_info.0) big begun.debug_info;
    abbrevs = empty_recorder (meaning s.debug_abbrev.0) big begun.debug_abbrev;
    lines = empty_recorder (meaning s.debug_line.0) big begun.debug_line;
    ranges = empty_recorder (meaning s.debug_ranges.0) big begun.debug_ranges;
    range_lists = empty_recorder (meaning s.debug_rnglists.0) big begun.debug_rnglists;
    locations = empty_recorder (meaning s.debug_loc.0) big begun.debug_loc;
    location_lists = empty_recorder (meaning s.debug_loclists.0) big begun.debug_loclists;
    kind = kind begun.debug_line ∙ sym (kind begun.debug_info);
    ranges_kind = kind begun.debug_ranges ∙ sym (kind begun.debug_info);
    range_lists_kind = kind begun.debug_rnglists ∙ sym (kind begun.debug_info);
    locations_kind = kind begun.debug_loc ∙ sym (kind begun.debug_info);
    location_lists_kind = kind begun.debug_loclists ∙ sym (kind begun.debug_info);
    fixups = fixups;
  }

  pub no_plain : (meaning s.debug_info.0).is_plain ≡ false
  no_plain = kind begun.debug_info

  ends : ends_of meaning s ≡ empty_ends false
  ends =
      ends_are (meaning s.debug_line.0) (meaning s.debug_ranges.0) (meaning s.debug_rnglists.0) (meaning s.debug_loc.0) (meaning s.debug_loclists.0) false (sized begun.debug_line) (kind begun.debug_line)
      (sized begun.debug_ranges) (kind begun.debug_ranges) (sized begun.debug_rnglists) (kind begun.debug_rnglists) (sized begun.debug_loc) (kind begun.debug_loc) (sized begun.debug_loclists) (kind begun.debug_loclists)

  starts : starts_of meaning s ≡ at_begin
  starts =
      let at = λ (m n : Meaning). let x : Starts = record { info = m.size; abbrevs = n.size } in x in
      ap (λ m. at m (meaning s.debug_abbrev.0)) begun.debug_info ∙ ap (at (new_recorder big)) begun.debug_abbrev

  -- what is valid there is valid
  pub valid_there : (d : DwarfValue) → IsValidAt (meaning s.debug_info.0).is_plain (starts_of meaning s) (ends_of meaning s) d → IsValid false d
  valid_there d valid =
      subst (λ b. IsValidAt b at_begin (empty_ends false) d) no_plain
      (subst (λ e. IsValidAt (meaning s.debug_info.0).is_plain at_begin e d) ends (subst (λ at. IsValidAt (meaning s.debug_info.0).is_plain at (ends_of meaning s) d) starts valid))
