use Rattle.dw_read_back.proofs.SectionReading.{section_back, section_walked}
use Rattle.dw_read_back.proofs.SectionFinding.{section_finds}
use Rattle.dw_read_back.proofs.sections.sections_read_back.Goals as goal

pub returns-clause-frames : goal.returns-clause-frames
returns-clause-frames c = section_back

pub returns-clause-walked : goal.returns-clause-walked
returns-clause-walked c = section_walked

pub returns-clause-found : goal.returns-clause-found
returns-clause-found c = section_finds
