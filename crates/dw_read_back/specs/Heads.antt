-- What tells a CIE from an FDE, by the writer's definition and by the reader's: they are one.
use Rattle.std.specs.Prelude.{◌≡◌, ℕ, Bool, true, false, List, Option, Some, None, if◌then◌else◌}
use Rattle.std.specs.Result.{result_ok}
use Rattle.dw_base.specs.Numbers.{Parser, ◌>>=◌}
use Rattle.dw_base.specs.declared.common.Format.{Format}
use Rattle.dw_frame.specs.declared.kind.FrameKind.{FrameKind}
use Rattle.dw_frame.specs.declared.kind.FrameKind.TheVariants.{Debug, Eh}
use Rattle.dw_frame.specs.ReadCies.{id_at}
use Rattle.dw_frame.specs.Reading.{cie_field_at}
use Rattle.dw_read_frames.specs.Heads.{owner_read}

abbrev pub is_eh : FrameKind → Bool
is_eh Debug = false
is_eh Eh = true

-- none for a CIE, and the place of an FDE's CIE
abbrev pub owner_at : FrameKind → Bool → Format → ℕ → Parser (Option ℕ)
owner_at kind big format place bytes =
    id_at kind big format bytes >>= λ i. if i.0 then Some (None, i.1) else (cie_field_at kind big format place bytes >>= λ c. Some (Some c.0, c.1))

-- Both read the same, or both read none.
abbrev pub OwnersAreOne : FrameKind → Bool → Format → Type 0
OwnersAreOne kind big format = (place : ℕ) (bytes : List ℕ) → result_ok (owner_read (is_eh kind) big format place bytes) ≡ owner_at kind big format place bytes
