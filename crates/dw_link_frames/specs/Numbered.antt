-- Call frames in which the addresses of symbols are numbers: a symbol's value plus the addend.
use Rattle.std.specs.Prelude.{ℕ, List, Vec, map}
use Rattle.std.specs.Option.{option_map}
use Rattle.std.proofs.Common.{sym, ◌∙◌}
use Rattle.std.proofs.lemmas.List.{length-map}
use Rattle.dw_base.specs.declared.ids.CieId.{CieId}
use Rattle.dw_frame.specs.declared.cie.CommonInformationEntry.{CommonInformationEntry}
use Rattle.dw_frame.specs.declared.fde.FrameDescriptionEntry.{FrameDescriptionEntry}
use Rattle.dw_frame_instructions.specs.declared.instruction.CallFrameInstruction.{CallFrameInstruction}
use Rattle.dw_frame_instructions.specs.declared.instruction.CallFrameInstruction.TheVariants.{CfaExpression, Expression, ValExpression}
use Rattle.dw_frame_instructions.specs.declared.program.Step.{Step}
pub use Rattle.dw_dwarf_laws.specs.Addresses.{known_or, value_at, numbered_address as numbered, numbered_plain, numbered_node, numbered_tree, numbered_expression as numbered_nodes}

-- the same list with each item changed
abbrev pub with_each : {X Z : Type 0} → (X → X) → Vec X Z → Vec X Z
with_each f v = record {
  ptr = v.ptr;
  len = v.len;
  cap = v.cap;
  alloc = v.alloc;
  items = map f v.items;
  ok = (v.ok.0 ∙ sym (length-map v.items f), v.ok.1);
  small = v.small;
}

module _ (symbols : List ℕ) where
  abbrev pub numbered_instruction : CallFrameInstruction → CallFrameInstruction
  numbered_instruction (CfaExpression x) = CfaExpression (numbered_nodes symbols x)
  numbered_instruction (Expression r x) = Expression r (numbered_nodes symbols x)
  numbered_instruction (ValExpression r x) = ValExpression r (numbered_nodes symbols x)
  numbered_instruction i = i

  abbrev pub numbered_step : Step → Step
  numbered_step s = record s { instruction = numbered_instruction s.instruction }

  abbrev pub numbered_cie : CommonInformationEntry → CommonInformationEntry
  numbered_cie c = record c {
    personality = option_map (λ p. (p.0, numbered symbols p.1)) c.personality;
    instructions = with_each numbered_instruction c.instructions;
  }

  abbrev pub numbered_fde : FrameDescriptionEntry → FrameDescriptionEntry
  numbered_fde f = record f {
    address = numbered symbols f.address;
    lsda = option_map (numbered symbols) f.lsda;
    steps = with_each numbered_step f.steps;
  }

  abbrev pub numbered_cies : List CommonInformationEntry → List CommonInformationEntry
  numbered_cies cies = map numbered_cie cies

  abbrev pub numbered_fdes : List (CieId × FrameDescriptionEntry) → List (CieId × FrameDescriptionEntry)
  numbered_fdes fdes = map (λ x. (x.0, numbered_fde x.1)) fdes
