-- Files are the same where their names and directories are, whatever else is known of them.
use Rattle.std.specs.Prelude.{◌≡◌, ◌==◌, ◌&&◌, ◌++◌, Bool, true}
use Rattle.std.specs.Cmp.{IsEquivalence, IsPartialEquivalence, partial_equiv_from_equiv, nat_eq_equiv, on_equiv, and_equiv, unsigned_Decides}
use Rattle.std.specs.Hash as fed
use Rattle.std.proofs.Common.{ap₂}
use Rattle.std.proofs.lemmas.Bool.{and_parts}
use Rattle.dw_line.specs.LineStrings.{line_string_eq, line_string_fed, line_string_Decides, line_string_equiv}
use Rattle.dw_line.specs.declared.file.FileEntry.{FileEntry}

abbrev pub file_eq : FileEntry → FileEntry → Bool
file_eq a b = line_string_eq a.name b.name && a.directory.0 == b.directory.0

abbrev pub file_fed : FileEntry → fed.HashWrites
file_fed f = line_string_fed f.name ++ fed.usize f.directory.0

pub file_equiv : IsEquivalence file_eq
file_equiv = and_equiv (on_equiv (λ (f : FileEntry). f.name) line_string_equiv) (on_equiv (λ (f : FileEntry). f.directory.0) nat_eq_equiv)

pub file_per : IsPartialEquivalence file_eq
file_per = partial_equiv_from_equiv file_equiv

-- the same files are fed alike
pub file-fed : (a b : FileEntry) → file_eq a b ≡ true → file_fed a ≡ file_fed b
file-fed a b e =
    let p = and_parts (line_string_eq a.name b.name) (a.directory.0 == b.directory.0) e in
    ap₂ (λ n d. line_string_fed n ++ fed.usize d) ((line_string_Decides a.name b.name).0 p.0) ((unsigned_Decides a.directory.0 b.directory.0).0 p.1)
