use Rattle.std.proofs.Common.{◌≡◌, take}
use Rattle.dw_line.specs.Files.{first_source, has_timestamp, has_size, has_md5}
use Rattle.dw_line.proofs.file.Columns.of.Given as goal

abbrev pub invariant-loop-file : goal.invariant-loop-file
invariant-loop-file l = record {
  timestamp : l.columns.timestamp ≡ has_timestamp (take l.file-index l.files);
  size : l.columns.size ≡ has_size (take l.file-index l.files);
  md5 : l.columns.md5 ≡ has_md5 (take l.file-index l.files);
  source : l.columns.source ≡ first_source l.files;
}
