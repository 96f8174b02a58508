-- The working directory, by whether the program tells it.
use Rattle.std.proofs.Common.{◌≡◌, ap, sym, ℕ, ◌-◌, Bool, true, false, List, [], Option, Some, None, Ok, Err, refl}
use Rattle.dw_line.specs.declared.line_string.LineString.{LineString}
use Rattle.dw_line.specs.declared.line_string.LineString.TheVariants.{String}
use Rattle.dw_read.specs.Reading.{Read}
use Rattle.dw_read.specs.declared.error.ReadError.{ReadError}
use Rattle.dw_read_lines.specs.LineEntries.{Entry}
use Rattle.dw_sources.specs.ConvertErrors.{from_read}
use Rattle.dw_sources.specs.declared.convert_error.ConvertError.{ConvertError}
use Rattle.dw_sources.specs.declared.convert_error.ConvertError.TheVariants.{InvalidDirectoryIndex}
use Rattle.dw_convert_lines.specs.EntryNames.{Texts, Tables, name_image}
use Rattle.dw_convert_lines.specs.HeaderImages.{Working, working_image}

module _ (refs : Bool) (texts : Texts) (reads : ℕ → Read (Option Entry)) (n : ℕ) (bytes : List ℕ) (t : Tables) where
  pub working_old : (s : LineString) (is_new : Bool) → is_new ≡ false → s ≡ String [] → working_image is_new refs texts reads n bytes t ≡ Ok (record { name = s; tables = t; count = n; bytes = bytes })
  working_old s true h e = absurd (cc)
  working_old s false h e = ap (λ (q : LineString). let w : Working = record { name = q; tables = t; count = n; bytes = bytes } in Ok w) (sym e)

  pub working_first : (x : Entry) (next : List ℕ) (s : LineString) (u : Tables) (is_new : Bool) → is_new ≡ true → reads n bytes ≡ Ok (Some x, next) → name_image refs texts t x.path ≡ Ok (s, u) → working_image is_new refs texts reads n bytes t ≡ Ok (record { name = s; tables = u; count = n - 1; bytes = next })
  working_first x next s u false h e i = absurd (cc)
  working_first x next s u true h e i = rw (e, i) refl

  pub working_refused : (x : Entry) (next : List ℕ) (why : ConvertError) (is_new : Bool) → is_new ≡ true → reads n bytes ≡ Ok (Some x, next) → name_image refs texts t x.path ≡ Err why → working_image is_new refs texts reads n bytes t ≡ Err why
  working_refused x next why false h e i = absurd (cc)
  working_refused x next why true h e i = rw (e, i) refl

  pub working_none : (next : List ℕ) (is_new : Bool) → is_new ≡ true → reads n bytes ≡ Ok (None, next) → working_image is_new refs texts reads n bytes t ≡ Err InvalidDirectoryIndex
  working_none next false h e = absurd (cc)
  working_none next true h e = rw e refl

  pub working_missed : (why : ReadError) (is_new : Bool) → is_new ≡ true → reads n bytes ≡ Err why → working_image is_new refs texts reads n bytes t ≡ Err (from_read why)
  working_missed why false h e = absurd (cc)
  working_missed why true h e = rw e refl
