-- How pointers are read back by the writer's definition and by the reader's: they are one.
use Rattle.std.specs.Prelude.{◌≡◌, ℕ, Bool, List}
use Rattle.std.specs.Result.{result_ok}
use Rattle.dw_base.specs.Pointers.{format_of}
use Rattle.dw_base.specs.declared.constants.DwEhPe.{DwEhPe}
use Rattle.dw_frame.specs.ReadPointers.{data_at, pointer_at}
use Rattle.dw_read_frames.specs.Pointers.{data_read, pointer_read}

-- Where addresses have a width, both read the same number, or both read none.
pub record PointersAreOne (big : Bool) (size : ℕ) (encoding : DwEhPe) : Type 0 where
  pub number : (bytes : List ℕ) → result_ok (data_read big size encoding bytes) ≡ data_at big size (format_of encoding.0) bytes
  pub address : (place : ℕ) (bytes : List ℕ) → result_ok (pointer_read big size encoding place bytes) ≡ pointer_at big size encoding.0 place bytes
