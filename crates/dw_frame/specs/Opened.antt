-- Entries and blocks that were begun: room for their lengths was left.
use Rattle.std.specs.Prelude.{◌≡◌, ◌+◌, [], ◌∷◌, ◌++◌, length}
use Rattle.dw_base.specs.Numbers.{word_of, escape_of}
use Rattle.dw_writer.specs.Texts.{zeros}
use Rattle.dw_writer.specs.Meaning.{Meaning, Adds}
use Rattle.dw_frame.specs.declared.entry.OpenEntry.{OpenEntry}
use Rattle.dw_frame.specs.declared.entry.OpenBlock.{OpenBlock}

pub record IsOpened (old new : Meaning) (o : OpenEntry) : Type 0 where
  pub adds : Adds old new (escape_of o.encoding.format ++ zeros (word_of o.encoding.format))
  pub length_at : o.length_at ≡ old.size + length (escape_of o.encoding.format)
  pub begin : o.begin ≡ new.size

pub record IsOpenBlock (old new : Meaning) (o : OpenBlock) : Type 0 where
  pub adds : Adds old new (0 ∷ [])
  pub at : o.at ≡ old.size
