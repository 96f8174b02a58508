-- FDEs and the CIEs that they are built with.
use Rattle.std.specs.Prelude.{ℕ, Bool, nat_lt, List}
use Rattle.std.specs.List.{list_all}
use Rattle.dw_base.specs.declared.ids.CieId.{CieId}
use Rattle.dw_frame.specs.declared.fde.FrameDescriptionEntry.{FrameDescriptionEntry}

-- each FDE has its CIE among so many
abbrev pub have_cies : ℕ → List (CieId × FrameDescriptionEntry) → Bool
have_cies n fdes = list_all (λ x. nat_lt x.0.0 n) fdes
