-- What a file becomes, step by step.
use Rattle.std.proofs.Common.{◌≡◌, ◌∙◌, sym, ap, ap₂, ℕ, Bool, List, [], ◌∷◌, ◌++◌, Some, Result, Ok, Err}
use Rattle.dw_base.specs.declared.ids.DirectoryId.{DirectoryId}
use Rattle.dw_base.specs.declared.ids.FileId.{FileId}
use Rattle.dw_line.specs.LinePrograms.{LineProgramValue, changed, files_of}
use Rattle.dw_line.specs.Names.{no_info}
use Rattle.dw_line.specs.ProgramTexts.{entry_of, file_index, with_file}
use Rattle.dw_line.specs.declared.line_string.FileInfo.{FileInfo}
use Rattle.dw_line.specs.declared.line_string.LineString.{LineString}
use Rattle.dw_read_lines.specs.LineEntries.{Entry}
use Rattle.dw_sources.specs.declared.convert_error.ConvertError.{ConvertError}
use Rattle.dw_convert_lines.specs.EntryImages.{Converting, number_image, directory_among, info_image, file_added, file_image}
use Rattle.dw_convert_lines.specs.EntryNames.{Texts, Tables, listed_image}
use Rattle.dw_convert_lines.specs.Results.{◌=>◌}

pub stops : {A B : Type 0} (r : Result A ConvertError) (f : A → Result B ConvertError) (e : ConvertError) → r ≡ Err e → (r => f) ≡ Err e
stops r f e h = ap (λ q. q => f) h

pub goes_on : {A B : Type 0} (r : Result A ConvertError) (f : A → Result B ConvertError) (v : A) → r ≡ Ok v → (r => f) ≡ f v
goes_on r f v h = ap (λ q. q => f) h

module _ (texts : Texts) (big refs : Bool) (directories : List DirectoryId) (x : Entry) (s : Converting FileId) where
  abbrev Made : Type 0
  Made = Result (Converting FileId) ConvertError

  abbrev value : Converting FileId → Made
  value y = Ok y

  abbrev informed : LineString × Tables → DirectoryId → FileInfo × Tables → Made
  informed name directory info = Ok (file_added texts big s name.0 directory info)

  abbrev placed : LineString × Tables → DirectoryId → Made
  placed name directory = info_image texts big refs name.1 x => informed name directory

  abbrev numbered : LineString × Tables → ℕ → Made
  numbered name n = directory_among directories n => placed name

  abbrev named : LineString × Tables → Made
  named name = number_image x.directory => numbered name

  abbrev Image : Made → Type 0
  Image r = file_image texts big refs directories x s ≡ r

  pub name_refused : (e : ConvertError) → listed_image refs texts s.tables x.path ≡ Err e → Image (Err e)
  name_refused e h = stops (listed_image refs texts s.tables x.path) named e h

  module _ (name : LineString × Tables) (h : listed_image refs texts s.tables x.path ≡ Ok name) where
    pub number_refused : (e : ConvertError) → Err e ≡ number_image x.directory → Image (Err e)
    number_refused e k = goes_on (listed_image refs texts s.tables x.path) named name h ∙ stops (number_image x.directory) (numbered name) e (sym k)

    module _ (n : ℕ) (k : Ok n ≡ number_image x.directory) where
      at_number : Image (numbered name n)
      at_number = goes_on (listed_image refs texts s.tables x.path) named name h ∙ goes_on (number_image x.directory) (numbered name) n (sym k)

      pub directory_refused : (e : ConvertError) → Err e ≡ directory_among directories n → Image (Err e)
      directory_refused e l = at_number ∙ stops (directory_among directories n) (placed name) e (sym l)

      module _ (d : DirectoryId) (l : Ok d ≡ directory_among directories n) where
        at_directory : Image (placed name d)
        at_directory = at_number ∙ goes_on (directory_among directories n) (placed name) d (sym l)

        pub info_refused : (e : ConvertError) → info_image texts big refs name.1 x ≡ Err e → Image (Err e)
        info_refused e m = at_directory ∙ stops (info_image texts big refs name.1 x) (informed name d) e m

        with_info : (info : FileInfo × Tables) → info_image texts big refs name.1 x ≡ Ok info → Image (Ok (file_added texts big s name.0 d info))
        with_info info m = at_directory ∙ goes_on (info_image texts big refs name.1 x) (informed name d) info m

        pub file_made : (info : FileInfo × Tables) (new : LineProgramValue) (id : FileId) (items : List FileId) → info_image texts big refs name.1 x ≡ Ok info → new ≡ changed (with_file name.0 d (Some info.0)) s.program
            → id.0 ≡ file_index (files_of s.program.program) (entry_of name.0 d no_info) → items ≡ s.ids ++ id ∷ [] → Image (Ok (record { program = new; ids = items; tables = info.1 }))
        file_made info new id items m p e i =
            with_info info m
            ∙ ap₂ (λ (q : LineProgramValue) (ids : List FileId). value (record { program = q; ids = ids; tables = info.1 })) (sym p) (ap (λ (n : ℕ). s.ids ++ record { 0 = n } ∷ []) (sym e) ∙ sym i)
