-- What a writer holds.
use Rattle.std.specs.Prelude.{ℕ, Bool, List, Option}
use Rattle.dw_writer.specs.declared.relocate.Relocation.{Relocation}

pub record Meaning : Type 0 where
  -- the bytes, where the writer tells them
  pub bytes : Option (List ℕ)
  -- how many they are
  pub size : ℕ
  -- it puts the highest byte of a number first
  pub is_big : Bool
  -- it puts offsets as they are, and refuses symbols
  pub is_plain : Bool
  -- what a linker is to do to the bytes
  pub records : List Relocation
  -- how often it failed so far
  pub faults : ℕ
