use Rattle.std.specs.Prelude.{◌≡◌, List}
use Rattle.std.specs.List.{each_same}
use Rattle.std.proofs.Common.{ap, ◌∙◌}
use Rattle.dw_writer.specs.Contents.{Meaning}
use Rattle.dw_writer.specs.Relocating.{relocating}
use Rattle.dw_writer.specs.declared.relocate.Relocation.{Relocation}
use Rattle.dw_writer.proofs.reloc_vec.RelocVecClone.clone.Goals as goal

-- a copy of the writer beside a copy of the records
copied : (a b : Meaning) (rs qs : List Relocation) → b ≡ a → qs ≡ rs → relocating b qs ≡ relocating a rs
copied a b rs qs e h = ap (λ m. relocating m qs) e ∙ ap (relocating a) h

pub returns : goal.returns
returns g c = record { cases = copied _ _ _ _ c.in_ok-clone.ensures.cases (each_same c.args.self.now.relocations.items c.in_ok-clone-2.field-0.items c.in_ok-clone-2.ensures.cases.0) }
