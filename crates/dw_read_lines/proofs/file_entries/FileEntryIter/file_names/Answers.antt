use Rattle.std.proofs.Common.{◌∙◌, ap}
use Rattle.std.proofs.lemmas.Result.{IfOk-weaker, IfErr-weaker}
use Rattle.dw_read.specs.Reading.{Reading}
use Rattle.dw_read_lines.proofs.TakenLaws.{behind_directories, behind_files, behind_described, misses_behind}
use Rattle.dw_read_lines.proofs.file_entries.FileEntryIter.file_names.Goals as goal

pub returns-in-Described-clause-err : goal.returns-in-Described-clause-err
returns-in-Described-clause-err g c =
    IfErr-weaker c.begin_described.result _ _ (λ e h. misses_behind g.R.Reader.reading c.args.self.now.layout (g.R.Reader.reading c.args.self.now.input) _ c.duplicate.ensures _ e c.in-Described.is h) c.begin_described.ensures.err

pub returns-in-Described-clause-ok : goal.returns-in-Described-clause-ok
returns-in-Described-clause-ok g c =
    IfOk-weaker c.begin_described.result _ _ (λ i h. behind_described g.R.Reader.reading c.args.self.now.layout (g.R.Reader.reading c.args.self.now.input) _ c.duplicate.ensures _ i c.in-Described.is h) c.begin_described.ensures.ok

pub returns-in-Directories-clause-ok : goal.returns-in-Directories-clause-ok
returns-in-Directories-clause-ok g c =
    behind_directories g.R.Reader.reading c.args.self.now.layout (g.R.Reader.reading c.args.self.now.input) _ c.duplicate-in-Directories.ensures _ c.in-Directories.is c.old_files.ensures.begins

pub returns-in-Files-clause-ok : goal.returns-in-Files-clause-ok
returns-in-Files-clause-ok g c =
    behind_files g.R.Reader.reading c.args.self.now.layout (g.R.Reader.reading c.args.self.now.input) _ c.duplicate-in-Files.ensures _ c.in-Files.is c.old_files-in-Files.ensures.begins

pub returns-in-Described-clause-order : goal.returns-in-Described-clause-order
returns-in-Described-clause-order g c = IfOk-weaker c.begin_described.result _ _ (λ i h. h ∙ ap (λ (r : Reading). r.is_big) c.duplicate.ensures) c.begin_described.ensures.order

pub returns-in-Directories-clause-order : goal.returns-in-Directories-clause-order
returns-in-Directories-clause-order g c = c.old_files.ensures.order ∙ ap (λ (r : Reading). r.is_big) c.duplicate-in-Directories.ensures

pub returns-in-Files-clause-order : goal.returns-in-Files-clause-order
returns-in-Files-clause-order g c = c.old_files-in-Files.ensures.order ∙ ap (λ (r : Reading). r.is_big) c.duplicate-in-Files.ensures
