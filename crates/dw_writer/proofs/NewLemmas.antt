-- New sections, from what each writer means.
use Rattle.std.proofs.Common.{◌≡◌, Bool, [], sym, subst, refl}
use Rattle.std.specs.Prelude.{IfSome}
use Rattle.dw_writer.specs.Meaning.{Meaning}
use Rattle.dw_writer.specs.Sections.{EachWriter, AllMean, NoFixups}
use Rattle.dw_writer.specs.New.{IsEmptyWriter, IsEmptyPlainWriter, IsNew, IsNewPlain}
use Rattle.dw_writer.specs.declared.sections.Sections.{Sections}

-- what follows for one writer follows for each
pub EachWriter-map : {W : Type 0} (P Q : W → Type 0) (s : Sections W) → ((w : W) → P w → Q w) → EachWriter P s → EachWriter Q s
EachWriter-map P Q s f e = record {
  debug_abbrev = f s.debug_abbrev.0 e.debug_abbrev;
  debug_str = f s.debug_str.0 e.debug_str;
  debug_line_str = f s.debug_line_str.0 e.debug_line_str;
  debug_line = f s.debug_line.0 e.debug_line;
  debug_ranges = f s.debug_ranges.0 e.debug_ranges;
  debug_rnglists = f s.debug_rnglists.0 e.debug_rnglists;
  debug_loc = f s.debug_loc.0 e.debug_loc;
  debug_loclists = f s.debug_loclists.0 e.debug_loclists;
  debug_info = f s.debug_info.0 e.debug_info;
  debug_frame = f s.debug_frame.0 e.debug_frame;
  eh_frame = f s.eh_frame.0 e.eh_frame;
}

-- an empty plain writer is an empty writer
pub IsEmptyWriter-from_plain : (m : Meaning) (big : Bool) → IsEmptyPlainWriter m big → IsEmptyWriter m big
IsEmptyWriter-from_plain m big e = record {
  told = subst (λ t. IfSome t (λ xs. xs ≡ [])) (sym e.bytes) refl;
  size = e.size;
  records = e.records;
  order = e.order;
}

pub IsNew-from_plain : {W : Type 0} (meaning : W → Meaning) (big : Bool) (s : Sections W) → IsNewPlain meaning big s → IsNew meaning big s
IsNew-from_plain meaning big s n = record {
  writers = EachWriter-map (λ w. IsEmptyPlainWriter (meaning w) big) (λ w. IsEmptyWriter (meaning w) big) s
      (λ w e. IsEmptyWriter-from_plain (meaning w) big e) n.writers;
  fixups = n.fixups;
}

-- sections that are all made of one empty writer
pub IsNew-from_all_mean : {W : Type 0} (meaning : W → Meaning) (big : Bool) (s : Sections W) (m : Meaning)
    → AllMean meaning s m → NoFixups s → IsEmptyWriter m big → IsNew meaning big s
IsNew-from_all_mean meaning big s m all fixups empty = record {
  writers = EachWriter-map (λ w. meaning w ≡ m) (λ w. IsEmptyWriter (meaning w) big) s
      (λ w e. subst (λ k. IsEmptyWriter k big) (sym e) empty) all;
  fixups = fixups;
}

pub IsNewPlain-from_all_mean : {W : Type 0} (meaning : W → Meaning) (big : Bool) (s : Sections W) (m : Meaning)
    → AllMean meaning s m → NoFixups s → IsEmptyPlainWriter m big → IsNewPlain meaning big s
IsNewPlain-from_all_mean meaning big s m all fixups empty = record {
  writers = EachWriter-map (λ w. meaning w ≡ m) (λ w. IsEmptyPlainWriter (meaning w) big) s
      (λ w e. subst (λ k. IsEmptyPlainWriter k big) (sym e) empty) all;
  fixups = fixups;
}
