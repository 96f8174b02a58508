-- By what the instructions of entries that are held are read and converted.
use Rattle.dw_read.specs.Reading.{Reading}
use Rattle.dw_read_frames.specs.declared.cie.CommonInformationEntry.{CommonInformationEntry as ReadCie}
use Rattle.dw_read_frames.specs.declared.fde.FrameDescriptionEntry.{FrameDescriptionEntry as ReadFde}
use Rattle.dw_frame.specs.ConvertPrograms.{Terms}

abbrev pub cie_terms : {R E : Type 0} → (R → Reading) → ReadCie R E → Terms
cie_terms reading c = record { is_big = (reading c.instructions).is_big; end = (reading c.instructions).end; cie = c.fields }

abbrev pub fde_terms : {R E : Type 0} → (R → Reading) → ReadFde R E → Terms
fde_terms reading f = record { is_big = (reading f.instructions).is_big; end = (reading f.instructions).end; cie = f.cie.fields }
