use Rattle.std.specs.Prelude.{◌≡◌, ◌&&◌, Option, refl}
use Rattle.std.specs.Option.{option_eq}
use Rattle.std.specs.Bool.{Decides}
use Rattle.std.specs.Cmp.{unsigned_Decides, signed_Decides, booleans_Decides}
use Rattle.std.proofs.Common.{rules, ap}
use Rattle.std.proofs.lemmas.Bool.Decides.{Decides-like, Decides-and}
use Rattle.std.proofs.lemmas.Slice.Eq.{slice_eq-Decides}
use Rattle.dw_base.specs.contracts.common.EncodingPartialEq.TheImpl as encoding
use Rattle.dw_base.specs.contracts.common.RegisterPartialEq.TheImpl as register
use Rattle.dw_base.specs.contracts.constants.DwEhPePartialEq.TheImpl as pointer
use Rattle.dw_base.specs.contracts.address.AddressPartialEq.TheImpl as address
use Rattle.dw_base.specs.declared.address.Address.{Address}
use Rattle.dw_base.specs.declared.common.Encoding.{Encoding}
use Rattle.dw_base.specs.declared.common.Register.{Register}
use Rattle.dw_base.specs.declared.constants.DwEhPe.{DwEhPe}
use Rattle.dw_frame_instructions.specs.contracts.instruction.CallFrameInstructionPartialEq.TheImpl as instruction
use Rattle.dw_frame_instructions.proofs.EqualSteps.{instruction_Decides}
use Rattle.dw_frame.proofs.cie.CommonInformationEntry.is_same.Goals as goal

encoding_Decides : (a b : Encoding) → Decides (encoding.ghosts.eq a b) (a ≡ b)
encoding_Decides a b = search rules

register_Decides : (a b : Register) → Decides (register.ghosts.eq a b) (a ≡ b)
register_Decides a b = search rules

pointer_Decides : (a b : DwEhPe) → Decides (pointer.ghosts.eq a b) (a ≡ b)
pointer_Decides a b = search rules

lsda_Decides : (a b : Option DwEhPe) → Decides (option_eq pointer.ghosts.eq a b) (a ≡ b)
lsda_Decides a b = search rules

personality_Decides : (a b : Option (DwEhPe × Address)) → Decides (option_eq (λ p q. pointer.ghosts.eq p.0 q.0 && address.ghosts.eq p.1 q.1) a b) (a ≡ b)
personality_Decides a b = search rules

pub returns-clause-value : goal.returns-clause-value
returns-clause-value c =
    let x = c.args.self.now in
    let y = c.args.other.now in
    let list = slice_eq-Decides {E = instruction.ghosts.eq} instruction_Decides x.instructions.items y.instructions.items _ refl in
    rw c.eq.ensures (Decides-like _
    (λ e. record {
      fields = λ i. record {
        encoding = e.0 i;
        code_alignment_factor = e.1.0 i;
        data_alignment_factor = e.1.1.0 i;
        return_address_register = e.1.1.1.0 i;
        personality = e.1.1.1.1.0 i;
        lsda_encoding = e.1.1.1.1.1.0 i;
        fde_address_encoding = e.1.1.1.1.1.1.0 i;
        signal_trampoline = e.1.1.1.1.1.1.1.0 i;
        instructions = x.instructions;
      };
      instructions = e.1.1.1.1.1.1.1.1;
    })
    (λ s. (
      ap (λ q. q.encoding) s.fields,
      (
        ap (λ q. q.code_alignment_factor) s.fields,
        (
          ap (λ q. q.data_alignment_factor) s.fields,
          (
            ap (λ q. q.return_address_register) s.fields,
            (
              ap (λ q. q.personality) s.fields,
              (
                ap (λ q. q.lsda_encoding) s.fields,
                (
                  ap (λ q. q.fde_address_encoding) s.fields,
                  (ap (λ q. q.signal_trampoline) s.fields, s.instructions),
                ),
              ),
            ),
          ),
        ),
      ),
    ))
    (Decides-and _ _ (encoding_Decides x.encoding y.encoding)
    (Decides-and _ _ (unsigned_Decides x.code_alignment_factor y.code_alignment_factor)
    (Decides-and _ _ (signed_Decides x.data_alignment_factor y.data_alignment_factor)
    (Decides-and _ _ (register_Decides x.return_address_register y.return_address_register)
    (Decides-and _ _ (personality_Decides x.personality y.personality)
    (Decides-and _ _ (lsda_Decides x.lsda_encoding y.lsda_encoding)
    (Decides-and _ _ (pointer_Decides x.fde_address_encoding y.fde_address_encoding)
    (Decides-and _ _ (booleans_Decides x.signal_trampoline y.signal_trampoline) list)))))))))
