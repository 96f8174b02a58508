-- Instructions that are read and converted, one after the other.
use Rattle.std.proofs.Common.{◌≡◌, ◌∙◌, sym, ap, subst, inr, ℕ, ◌+◌, ◌<◌, ◌^◌, nat_lt, List, [], ◌∷◌, ◌++◌, length, Option, Some, None, Result, Ok, Err, Bool, true, false, ℤ, refl, ⊎_elim}
use Rattle.std.specs.Prelude.{option_to_list, if◌then◌else◌}
use Rattle.std.proofs.lemmas.Bool.{ltb-true}
use Rattle.std.proofs.lemmas.List.{map-append, append-nil, append_assoc}
use Rattle.std.proofs.lemmas.List.Elements.{All-nil, All-push}
use Rattle.dw_base.specs.declared.address.Address.{Address}
use Rattle.dw_base.specs.declared.common.Encoding.{Encoding}
use Rattle.dw_base.specs.declared.constants.DwEhPe.{DwEhPe}
use Rattle.dw_read.specs.Reading.{Reading, left}
use Rattle.dw_read.specs.declared.error.ReadError.{ReadError}
use Rattle.dw_read_frames.specs.Fdes.{address_encoding}
use Rattle.dw_read_frames.specs.InstructionIters.{BeginsInstructions, PassesInstruction, RefusesInstruction, ReadsInstruction, IsOver}
use Rattle.dw_read_frames.specs.InstructionViews.{instruction_of, HoldsParts}
use Rattle.dw_read_frames.specs.Instructions.{Instruction, instruction_at, instruction_read}
use Rattle.dw_read_frames.specs.declared.cie.CieFields.{CieFields}
use Rattle.dw_read_frames.specs.declared.fde.FdeFields.{FdeFields}
use Rattle.dw_read_frames.specs.declared.instruction.CallFrameInstruction.{CallFrameInstruction as Held}
use Rattle.dw_read_frames.specs.declared.instruction.CallFrameInstruction.TheVariants as held
use Rattle.dw_read_frames.specs.declared.instructions.CallFrameInstructionIter.{CallFrameInstructionIter}
use Rattle.dw_sources.specs.ConvertErrors.{from_read}
use Rattle.dw_sources.specs.declared.convert_error.ConvertError.{ConvertError}
use Rattle.dw_sources.specs.declared.convert_error.ConvertError.TheVariants.{IntegerOverflow}
use Rattle.dw_convert.specs.Lists.{First}
use Rattle.dw_frame.proofs.ConvertLaws.{first_more}
use Rattle.dw_frame_instructions.specs.declared.instruction.CallFrameInstruction.{CallFrameInstruction}
use Rattle.dw_frame_instructions.specs.declared.program.Step.{Step}
use Rattle.dw_frame.specs.declared.cie.CommonInformationEntry.{CommonInformationEntry}
use Rattle.dw_frame.specs.declared.fde.FrameDescriptionEntry.{FrameDescriptionEntry}
use Rattle.dw_frame.specs.ConvertInstructions.{InstructionOutcome, in_u32}
use Rattle.dw_frame.specs.ConvertEntries.{IsCieHead, IsFdeHead}
use Rattle.dw_frame.specs.ConvertOrders.{order_of}
use Rattle.dw_frame.specs.ConvertPrograms.{Terms, Image, Begun, MissesInstruction, FailsInstruction, Becomes, grammar, read_ones, kept_ones, advance, behind, steps_at, kept_steps}

pub kept_more : (xs : List Image) (x : Image) → kept_ones (xs ++ x ∷ []) ≡ kept_ones xs ++ option_to_list x.kept
kept_more [] x = append-nil (option_to_list x.kept)
kept_more (y ∷ ys) x = ap (λ (zs : List CallFrameInstruction). option_to_list y.kept ++ zs) (kept_more ys x) ∙ sym (append_assoc (option_to_list y.kept) (kept_ones ys) (option_to_list x.kept))

pub behind_more : (factor from : ℕ) (xs : List Image) (x : Image) → behind factor from (xs ++ x ∷ []) ≡ behind factor from xs + advance factor x.read
behind_more factor from [] x = refl
behind_more factor from (y ∷ ys) x = behind_more factor (from + advance factor y.read) ys x

pub steps_more : (factor from : ℕ) (xs : List Image) (x : Image) → kept_steps factor from (xs ++ x ∷ []) ≡ kept_steps factor from xs ++ steps_at (behind factor from xs + advance factor x.read) x.kept
steps_more factor from [] x = append-nil (steps_at (from + advance factor x.read) x.kept)
steps_more factor from (y ∷ ys) x =
    ap (λ (zs : List Step). steps_at (from + advance factor y.read) y.kept ++ zs) (steps_more factor (from + advance factor y.read) ys x) ∙ sym (append_assoc (steps_at (from + advance factor y.read) y.kept) (kept_steps factor (from + advance factor y.read) ys) (steps_at (behind factor (from + advance factor y.read) ys + advance factor x.read) x.kept))

-- a number that was found to have 32 bits
ok_same : (r : Result ℕ ConvertError) (m n : ℕ) → r ≡ Ok m → r ≡ Ok n → m ≡ n
ok_same r m n p q = cc

ok_err : (r : Result ℕ ConvertError) (m : ℕ) → r ≡ Ok m → r ≡ Err IntegerOverflow → ⊥
ok_err r m p q = cc

same_if : (b : Bool) (n m : ℕ) → Ok m ≡ (if b then Ok n else Err IntegerOverflow) → (m ≡ n) × (b ≡ true)
same_if true n m h = (ok_same (Ok n) m n (sym h) refl, refl)
same_if false n m h = absurd (ok_err (Ok m) m refl h)

pub the_number : (n m : ℕ) → Ok m ≡ in_u32 n → m ≡ n
the_number n m h = (same_if (nat_lt n (2 ^ 32)) n m h).0

pub below_32 : (n m : ℕ) → Ok m ≡ in_u32 n → m < 2 ^ 32
below_32 n m h = subst (λ (k : ℕ). k < 2 ^ 32) (sym (the_number n m h)) (ltb-true n (2 ^ 32) (same_if (nat_lt n (2 ^ 32)) n m h).1)

nothing_left : (bytes : List ℕ) → length bytes ≡ 0 → bytes ≡ []
nothing_left [] h = refl
nothing_left (b ∷ bytes) h = absurd (let e : length (b ∷ bytes) ≡ 0 = h in cc)

-- what is read by the same terms
read_so : (b d : Bool) (n m : ℕ) (e f : DwEhPe) (i j : ℕ) (bytes next : List ℕ) (x : Instruction) → b ≡ d → n ≡ m → e ≡ f → i ≡ j → instruction_at b n e i bytes ≡ Some (x, next) → instruction_at d m f j bytes ≡ Some (x, next)
read_so b d n m e f i j bytes next x p q r s h = cc

refused_so : (b d : Bool) (n m : ℕ) (e f : DwEhPe) (i j : ℕ) (bytes : List ℕ) (why : ReadError) → b ≡ d → n ≡ m → e ≡ f → i ≡ j → instruction_read b n e i bytes ≡ Err why → instruction_read d m f j bytes ≡ Err why
refused_so b d n m e f i j bytes why p q r s h = cc

-- what an instruction becomes by the same terms
pub by_terms : (answers : ℕ → Option Address → Type 0) (big : Bool) (e f : Encoding) (x y : ℤ) (i : Instruction) (r : Result (Option CallFrameInstruction) ConvertError) → e ≡ f → x ≡ y → InstructionOutcome answers big e x i r → InstructionOutcome answers big f y i r
by_terms answers big e f x y i r p q h = subst (λ (z : ℤ). InstructionOutcome answers big f z i r) q (subst (λ (n : Encoding). InstructionOutcome answers big n x i r) p h)

-- a CIE with further instructions, and an FDE
pub same_cie_head : (answers : ℕ → Option Address → Type 0) (f : CieFields) (c d : CommonInformationEntry) → d ≡ record c { instructions = d.instructions } → IsCieHead answers f c → IsCieHead answers f d
same_cie_head answers f c d e h = subst (λ (x : CommonInformationEntry). IsCieHead answers f x) (sym e) (record {
  encoding = h.encoding;
  code_factor = h.code_factor;
  data_factor = h.data_factor;
  register = h.register;
  personality = h.personality;
  lsda = h.lsda;
  addresses = h.addresses;
  signal = h.signal;
})

pub same_fde_head : (answers : ℕ → Option Address → Type 0) (f : FdeFields) (c d : FrameDescriptionEntry) → d ≡ record c { steps = d.steps } → IsFdeHead answers f c → IsFdeHead answers f d
same_fde_head answers f c d e h = subst (λ (x : FrameDescriptionEntry). IsFdeHead answers f x) (sym e) (record { address = h.address; length = h.length; lsda = h.lsda })

module _ (R E : Type 0) (reading : R → Reading) where
  module _ (old new : CallFrameInstructionIter R E) where
    pub passes_one : (o : Option (Held R E)) (x : Held R E) → ReadsInstruction reading old new (Ok o) → o ≡ Some x → PassesInstruction reading old new x
    passes_one o x h e = subst (λ p. ReadsInstruction reading old new (Ok p)) e h

    pub is_over : (o : Option (Held R E)) → ReadsInstruction reading old new (Ok o) → o ≡ None → IsOver reading old new
    is_over o h e = let k : ReadsInstruction reading old new (Ok None) = subst (λ p. ReadsInstruction reading old new (Ok p)) e h in k.1

  module _ (answers : ℕ → Option Address → Type 0) where
    -- an expression in an instruction has the order of what the instruction is read from
    reordered : (big : Bool) (e : Encoding) (factor : ℤ) (old : Reading) (o : Held R E) (r : Result (Option CallFrameInstruction) ConvertError) → old.is_big ≡ big → HoldsParts reading old o
        → InstructionOutcome answers (order_of reading o) e factor (instruction_of reading o) r → InstructionOutcome answers big e factor (instruction_of reading o) r
    reordered big e factor old (held.DefCfaExpression x) r b h k = subst (λ (c : Bool). InstructionOutcome answers c e factor (instruction_of reading (held.DefCfaExpression x)) r) (h.order ∙ b) k
    reordered big e factor old (held.Expression n x) r b h k = subst (λ (c : Bool). InstructionOutcome answers c e factor (instruction_of reading (held.Expression n x)) r) (h.order ∙ b) k
    reordered big e factor old (held.ValExpression n x) r b h k = subst (λ (c : Bool). InstructionOutcome answers c e factor (instruction_of reading (held.ValExpression n x)) r) (h.order ∙ b) k
    reordered big e factor old o r b h k = k

    module _ (t : Terms) (bytes : List ℕ) where
      -- what is known where the first instructions of an entry were read and converted
      pub record Stands (i : CallFrameInstructionIter R E) (images : List Image) : Type 0 where
        pub order : (reading i.input).is_big ≡ t.is_big
        pub end : (reading i.input).end ≡ t.end
        pub size : i.address_size ≡ t.cie.encoding.address_size
        pub encoding : i.address_encoding ≡ address_encoding t.cie.augmentation
        pub working : i.has_failed ≡ false
        pub begun : Begun answers t bytes (left (reading i.input)) images

      pub stands_first : (rest : R) (i : CallFrameInstructionIter R E) → t.is_big ≡ (reading rest).is_big → t.end ≡ (reading rest).end → bytes ≡ left (reading rest)
          → BeginsInstructions reading rest t.cie.encoding.address_size (address_encoding t.cie.augmentation) i → Stands i []
      stands_first rest i b n l h = record {
        order = ap (λ (r : Reading). r.is_big) h.input ∙ sym b;
        end = ap (λ (r : Reading). r.end) h.input ∙ sym n;
        size = h.address_size;
        encoding = h.address_encoding;
        working = h.not_failed;
        begun = record { read = ap left h.input ∙ sym l; are = All-nil (λ x. Becomes answers t x.read (Ok x.kept)) };
      }

      module _ (old new : CallFrameInstructionIter R E) (images : List Image) (s : Stands old images) where
        module _ (o : Held R E) (p : PassesInstruction reading old new o) where
          pub read_here : grammar t (left (reading old.input)) ≡ Some (instruction_of reading o, left (reading new.input))
          read_here = read_so _ _ _ _ _ _ _ _ _ _ _ s.order s.size s.encoding s.end p.instruction.value

          becomes : (r : Result (Option CallFrameInstruction) ConvertError) → InstructionOutcome answers (order_of reading o) t.cie.encoding t.cie.data_alignment_factor (instruction_of reading o) r → Becomes answers t (instruction_of reading o) r
          becomes r h = reordered t.is_big t.cie.encoding t.cie.data_alignment_factor (reading old.input) o r s.order p.parts h

          pub stands_more : (kept : Option CallFrameInstruction) → InstructionOutcome answers (order_of reading o) t.cie.encoding t.cie.data_alignment_factor (instruction_of reading o) (Ok kept)
              → Stands new (images ++ record { read = instruction_of reading o; kept = kept } ∷ [])
          stands_more kept h =
              let x : Image = record { read = instruction_of reading o; kept = kept } in
              let all : read_ones (images ++ x ∷ []) ≡ read_ones images ++ x.read ∷ [] = map-append (λ (y : Image). y.read) images (x ∷ []) in
              record {
                order = ap (λ (r : Reading). r.is_big) p.instruction.passes.is ∙ s.order;
                end = ap (λ (r : Reading). r.end) p.instruction.passes.is ∙ s.end;
                size = p.size ∙ s.size;
                encoding = p.encoding ∙ s.encoding;
                working = p.went_on.1;
                begun = record {
                  read = subst (λ (xs : List Instruction). First (grammar t) bytes xs (left (reading new.input))) (sym all) (first_more (grammar t) bytes (read_ones images) (left (reading old.input)) x.read (left (reading new.input)) s.begun.read read_here);
                  are = All-push (λ y. Becomes answers t y.read (Ok y.kept)) images x s.begun.are (becomes (Ok kept) h);
                };
              }

          pub stands_failing : (why : ConvertError) → InstructionOutcome answers (order_of reading o) t.cie.encoding t.cie.data_alignment_factor (instruction_of reading o) (Err why) → FailsInstruction answers t (left (reading old.input)) why
          stands_failing why h = record { instruction = instruction_of reading o; next = left (reading new.input); read = read_here; refused = becomes (Err why) h }

        pub stands_last : IsOver reading old new → Begun answers t bytes [] images
        stands_last over =
            let none : left (reading old.input) ≡ [] = ⊎_elim (λ (f : old.has_failed ≡ true). let w : old.has_failed ≡ false = s.working in absurd (cc)) (λ (z : length (left (reading old.input)) ≡ 0). nothing_left (left (reading old.input)) z) over in
            subst (λ (rest : List ℕ). Begun answers t bytes rest images) none s.begun

        pub stands_missing : (why : ReadError) → RefusesInstruction reading old new why → MissesInstruction answers t (left (reading old.input)) (from_read why)
        stands_missing why h = record {
          more = λ z. h.not_over (inr z);
          error = why;
          refused = refused_so _ _ _ _ _ _ _ _ _ _ s.order s.size s.encoding s.end h.refused.reason;
          is = refl;
        }
