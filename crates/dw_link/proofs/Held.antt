-- What vectors hold, as their contracts see it.
use Rattle.std.specs.Prelude.{Bool, true, false, [], Some}
use Rattle.std.specs.Vec.{vec_len}
use Rattle.dw_writer.specs.Meaning.{Meaning}
use Rattle.dw_writer.specs.declared.endian_vec.EndianVec.{EndianVec}
use Rattle.dw_writer.specs.declared.reloc_vec.RelocVec.{RelocVec}

-- a vector in the order of a byte order's value
abbrev pub held : {E : Type 0} → (E → Bool) → EndianVec E → Meaning
held is_big w = record {
  bytes = Some w.bytes.items;
  size = vec_len w.bytes;
  is_big = is_big w.endian;
  is_plain = true;
  records = [];
  faults = 0;
}

-- the same beside its relocations
abbrev pub held_beside : {E : Type 0} → (E → Bool) → RelocVec E → Meaning
held_beside is_big w = record {
  bytes = Some w.writer.bytes.items;
  size = vec_len w.writer.bytes;
  is_big = is_big w.writer.endian;
  is_plain = false;
  records = w.relocations.items;
  faults = 0;
}
