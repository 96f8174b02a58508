use Rattle.std.proofs.Common.{refl}
use Rattle.dw_read_lines.proofs.PartLaws.{holds_no_directories, holds_no_files}
use Rattle.dw_read_lines.proofs.file_entries.FileEntryIter.formats.Goals as goal

pub returns-in-Directories-clause-parts : goal.returns-in-Directories-clause-parts
returns-in-Directories-clause-parts g c = holds_no_directories g.R.Reader.reading c.args.self.now.layout c.new-in-Directories.result c.in-Directories.is (rw c.new-in-Directories.ensures.fields refl)

pub returns-in-Files-clause-parts : goal.returns-in-Files-clause-parts
returns-in-Files-clause-parts g c = holds_no_files g.R.Reader.reading c.args.self.now.layout c.new-in-Files.result c.in-Files.is (rw c.new-in-Files.ensures.fields refl)
