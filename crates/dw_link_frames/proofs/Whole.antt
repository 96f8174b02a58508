-- Tables that no writer has a cause to refuse, one behind another, are there.
use Rattle.std.specs.Prelude.{◌≡◌, ℕ, ◌+◌, ◌-◌, ◌≤◌, ◌==◌, ◌||◌, Bool, true, false, [], ◌∷◌, Option, Some, None, is_some, refl, IsFalse, if◌then◌else◌}
use Rattle.std.specs.Option.{option_map}
use Rattle.std.proofs.Common.{sym, ◌∙◌, ap, subst, arith}
use Rattle.std.proofs.lemmas.Bool.{eq-eqb}
use Rattle.dw_base.specs.Leb128.{uleb, sleb}
use Rattle.dw_base.specs.Numbers.{word_of, length_size}
use Rattle.dw_base.specs.Pointers.{format_of}
use Rattle.dw_base.specs.declared.address.Address.{Address}
use Rattle.dw_base.specs.declared.common.Format.{Format}
use Rattle.dw_base.specs.declared.constants.DwEhPe.{DwEhPe}
use Rattle.dw_base.specs.declared.error.Error.TheVariants as errors
use Rattle.dw_base.specs.declared.section_id.SectionId.TheVariants.{DebugFrame}
use Rattle.dw_writer.specs.Layout.{Layout, start_of}
use Rattle.dw_writer.specs.SectionTexts.{offset_text}
use Rattle.dw_writer.specs.Texts.{num_text}
use Rattle.dw_frame.specs.declared.cie.CommonInformationEntry.{CommonInformationEntry}
use Rattle.dw_frame.specs.declared.fde.FrameDescriptionEntry.{FrameDescriptionEntry}
use Rattle.dw_frame.specs.declared.kind.FrameKind.{FrameKind}
use Rattle.dw_frame.specs.declared.kind.FrameKind.TheVariants.{Debug, Eh}
use Rattle.dw_frame_instructions.specs.Causes.{IsNone}
use Rattle.dw_frame.specs.Cies.{cie_id, cie_number, is_known, version_fails, version_part, has_encoding, is_augmented, byte_if, letters, sizes, has_byte_register, register_part, encoding_if, personality_part, cie_data, first_instructions, cie_head, cie_measures, cie_contents, cie_part}
use Rattle.dw_frame.specs.Entries.{entry, counted}
use Rattle.dw_frame.specs.Fdes.{too_large, cie_pointer, encoded_range, plain_range, range_part, lsda_part, disagree, mismatch, instructions, fde_contents, fde_part}
use Rattle.dw_frame.specs.Parts.{Placed, free, caused, refused_if, only_if, number_fails, numbered as number_part}
use Rattle.dw_frame_instructions.specs.Pieces.{missing, bytes}
use Rattle.dw_frame.specs.PointerParts.{pointer, address, pointer_data, frame_offset, offset_fails}
use Rattle.dw_link_frames.specs.Numbered.{numbered, numbered_cie, numbered_fde}
use Rattle.dw_link_frames.specs.Placed.{is_fixed, personality_fixed, lsda_fixed, entry_fixed}
use Rattle.dw_link_frames.proofs.Accepted.{instructions_there, program_there, entry_known, counted_known, only_known}
use Rattle.dw_link_frames.proofs.Entering.{first_false, second_false, IsBegun, IsOther, augmented_same, head_moves, measures_moves, data_moves, block_moves, personality_moves, encoding_turn, letters_turn, version_moves, field_moves, range_by, lsda_moves, refused_turn, disagree_same}
use Rattle.dw_link_frames.proofs.Pointing.{pointer_moves, address_moves}
use Rattle.dw_link_frames.proofs.Sound.{not_both, number_there, data_there, There, Known, both_there, turn_known, pointer_known, address_known}
use Rattle.dw_link_frames.proofs.Turning.{Moves, bytes_turn}

module _ (big : Bool) (l : Layout) where
  byte_there : (b : Bool) (n : ℕ) → There big l (byte_if b n)
  byte_there true n = (n ∷ [], refl)
  byte_there false n = ([], refl)

  letters_there : (c : CommonInformationEntry) → There big l (letters c)
  letters_there c =
      both_there big l _ _ (byte_there (is_augmented c) 0x7a) (both_there big l _ _ (byte_there (is_some c.lsda_encoding) 0x4c) (both_there big l _ _ (byte_there (is_some c.personality) 0x50)
      (both_there big l _ _ (byte_there (has_encoding c) 0x52) (both_there big l _ _ (byte_there c.signal_trampoline 0x53) (0 ∷ [], refl)))))

  version_by : (b : Bool) (kind : FrameKind) (v at : ℕ) → (b ≡ false → IsFalse (version_fails kind v (errors.UnsupportedVersion v)) → ⊥) → IsNone (((if b then free (bytes (v ∷ [])) else caused missing (version_fails kind v)) at).fails false) →
      There big l ((if b then free (bytes (v ∷ [])) else caused missing (version_fails kind v)) at).piece
  version_by true kind v at h none = (v ∷ [], refl)
  version_by false kind v at h none = absurd (h refl (none (errors.UnsupportedVersion v)))

  unknown_version : (kind : FrameKind) (v : ℕ) → is_known kind v ≡ false → IsFalse (version_fails kind v (errors.UnsupportedVersion v)) → ⊥
  unknown_version kind v h k = let x : true ≡ false = sym (not_both (v == v) (is_known kind v) (eq-eqb v v refl) k) ∙ h in cc

  version_there : (kind : FrameKind) (v : ℕ) (q : Placed) (at : ℕ) → Known big l (version_part kind v) q at
  version_there kind v q at none other = version_by (is_known kind v) kind v at (unknown_version kind v) none

  sizes_there : (b : Bool) (w : ℕ) → There big l (if b then bytes (w ∷ 0 ∷ []) else bytes [])
  sizes_there true w = (w ∷ 0 ∷ [], refl)
  sizes_there false w = ([], refl)

  head_known : (kind : FrameKind) (c : CommonInformationEntry) (at : ℕ) → Known big l (cie_head kind c) (cie_head kind (numbered_cie l.symbols c)) at
  head_known kind c at =
      let v = c.encoding.version in
      let id = free (bytes (cie_id kind c.encoding.format)) in
      let last = free (sizes v c.encoding.address_size) in
      turn_known big l id id _ _ at (bytes_turn big l (cie_id kind c.encoding.format)) (λ none other. (cie_id kind c.encoding.format, refl))
      (turn_known big l (version_part kind v) (version_part kind v) _ _ _ (version_moves big l kind v _) (version_there kind v (version_part kind v) _)
      (turn_known big l (free (letters c)) (free (letters (numbered_cie l.symbols c))) last last _ (letters_turn big l c) (λ none other. letters_there c) (λ none other. sizes_there (v == 4) c.encoding.address_size)))

  register_by : (b : Bool) (r at : ℕ) → IsNone (((if b then number_part 1 r else free (bytes (uleb r))) at).fails false) → There big l ((if b then number_part 1 r else free (bytes (uleb r))) at).piece
  register_by true r at none = number_there big 1 r none
  register_by false r at none = (uleb r, refl)

  measures_known : (kind : FrameKind) (c : CommonInformationEntry) (at : ℕ) → Known big l (cie_measures kind c) (cie_measures kind (numbered_cie l.symbols c)) at
  measures_known kind c at =
      let code = free (bytes (uleb c.code_alignment_factor)) in
      let factor = free (bytes (sleb c.data_alignment_factor)) in
      let last = register_part kind c.encoding.version c.return_address_register.0 in
      turn_known big l code code _ _ at (bytes_turn big l (uleb c.code_alignment_factor)) (λ none other. (uleb c.code_alignment_factor, refl))
      (turn_known big l factor factor last last _ (bytes_turn big l (sleb c.data_alignment_factor)) (λ none other. (sleb c.data_alignment_factor, refl))
      (λ none other. register_by (has_byte_register kind c.encoding.version) c.return_address_register.0 _ none))

  encoding_there : (o : Option DwEhPe) → There big l (encoding_if o)
  encoding_there None = ([], refl)
  encoding_there (Some e) = (e.0 ∷ [], refl)

  personality_known : (w : ℕ) (o : Option (DwEhPe × Address)) (at : ℕ) → IsFalse (personality_fixed o) → Known big l (personality_part w o) (personality_part w (option_map (λ p. (p.0, numbered l.symbols p.1)) o)) at
  personality_known w None at h = λ none other. ([], refl)
  personality_known w (Some p) at h =
      let id = free (bytes (p.0.0 ∷ [])) in
      turn_known big l id id (pointer w p.0.0 p.1) (pointer w p.0.0 (numbered l.symbols p.1)) at (bytes_turn big l (p.0.0 ∷ [])) (λ none other. (p.0.0 ∷ [], refl)) (pointer_known big l w p.0 p.1 (at + 1))

  data_known : (c : CommonInformationEntry) (at : ℕ) → IsFalse (personality_fixed c.personality) → Known big l (cie_data c) (cie_data (numbered_cie l.symbols c)) at
  data_known c at h =
      let w = c.encoding.address_size in
      let first = free (encoding_if c.lsda_encoding) in
      let last = free (byte_if (has_encoding c) c.fde_address_encoding.0) in
      let n = at + (encoding_if c.lsda_encoding).size in
      turn_known big l first first _ _ at (encoding_turn big l c.lsda_encoding) (λ none other. encoding_there c.lsda_encoding)
      (turn_known big l (personality_part w c.personality) (personality_part w (numbered_cie l.symbols c).personality) last last n (personality_moves big l w c.personality n h) (personality_known w c.personality n h)
      (λ none other. byte_there (has_encoding c) c.fde_address_encoding.0))

  block_known : (b : Bool) (p q : Placed) (at : ℕ) → Known big l p q (at + 1) → Known big l (only_if b (counted p)) (only_if b (counted q)) at
  block_known b p q at h = only_known big l b (counted p) (counted q) at (counted_known big l p q at h)

  contents_known : (kind : FrameKind) (c : CommonInformationEntry) (at : ℕ) → IsFalse (personality_fixed c.personality) → Known big l (cie_contents kind c) (cie_contents kind (numbered_cie l.symbols c)) at
  contents_known kind c at h =
      let more = numbered_cie l.symbols c in
      let own : Placed = only_if (is_augmented c) (counted (cie_data c)) in
      let block : Bool → Placed = λ b. only_if b (counted (cie_data more)) in
      let n = at + (cie_head kind c at).piece.size in
      let m = n + (cie_measures kind c n).piece.size in
      turn_known big l (cie_head kind c) (cie_head kind more) _ _ at (head_moves big l kind c at) (head_known kind c at)
      (turn_known big l (cie_measures kind c) (cie_measures kind more) _ _ n (measures_moves big l kind c n) (measures_known kind c n)
      (turn_known big l own (block (is_augmented more)) (first_instructions c) (first_instructions more) m
      (subst (λ b. Moves big l own (block b) m) (sym (augmented_same big l c)) (block_moves big l (is_augmented c) (cie_data c) (cie_data more) m (data_moves big l c (m + 1) h)))
      (subst (λ b. Known big l own (block b) m) (sym (augmented_same big l c)) (block_known (is_augmented c) (cie_data c) (cie_data more) m (data_known c (m + 1) h)))
      (λ none other. instructions_there big l c.encoding c.data_alignment_factor c.instructions.items none other)))

  pub cie_known : (kind : FrameKind) (c : CommonInformationEntry) (at : ℕ) → IsFalse (personality_fixed c.personality) → Known big l (cie_part kind c) (cie_part kind (numbered_cie l.symbols c)) at
  cie_known kind c at h = entry_known big l c.encoding (cie_contents kind c) (cie_contents kind (numbered_cie l.symbols c)) at (contents_known kind c (at + length_size c.encoding.format) h)

  -- FDEs

  offset_number : (w n : ℕ) → IsNone (offset_fails true w n) → IsNone (number_fails w n)
  offset_number w n h (errors.UnsupportedWordSize k) = h (errors.UnsupportedWordSize k)
  offset_number w n h errors.ValueTooLarge = h errors.ValueTooLarge
  offset_number w n h e = refl

  offset_known : (b d : Bool) (w cie at there : ℕ) → start_of l DebugFrame ≡ l.own_start → IsNone (((if b then caused missing too_large else frame_offset w cie) at).fails false) →
      IsNone (((if d then caused missing too_large else frame_offset w (l.own_start + cie)) there).fails true) → There big l ((if b then caused missing too_large else frame_offset w cie) at).piece
  unfolding offset_text
  offset_known true d w cie at there begun none other = let x : true ≡ false = none errors.ValueTooLarge in cc
  offset_known false true w cie at there begun none other = let x : true ≡ false = other errors.ValueTooLarge in cc
  offset_known false false w cie at there begun none other =
      let text = number_there big w (l.own_start + cie) (offset_number w (l.own_start + cie) other) in
      let same : cie + start_of l DebugFrame ≡ l.own_start + cie = omega (arith, begun) in
      (text.0, ap (num_text big w) same ∙ text.1)

  field_known : (kind : FrameKind) (format : Format) (cie at : ℕ) → IsBegun l kind → Known big l (cie_pointer kind format cie) (cie_pointer kind format (l.own_start + cie)) at
  field_known Debug format cie at begun =
      λ none other. offset_known (cie == cie_number Debug format) (l.own_start + cie == cie_number Debug format) (word_of format) cie at (l.own_start + at) begun none other
  field_known Eh format cie at begun = λ none other. number_there big 4 (at - cie) none

  range_known : (b : Bool) (w : ℕ) (encoding : DwEhPe) (f : FrameDescriptionEntry) (at : ℕ) → IsFalse (is_fixed encoding f.address) →
      Known big l (if b then encoded_range w encoding.0 f else plain_range w f) (if b then encoded_range w encoding.0 (numbered_fde l.symbols f) else plain_range w (numbered_fde l.symbols f)) at
  range_known true w encoding f at h =
      let last = pointer_data w (format_of encoding.0) f.length in
      turn_known big l (pointer w encoding.0 f.address) (pointer w encoding.0 (numbered l.symbols f.address)) last last at (pointer_moves big l w encoding f.address at h) (pointer_known big l w encoding f.address at)
      (λ none other. data_there big w (format_of encoding.0) f.length none)
  range_known false w encoding f at h =
      let last = number_part w f.length in
      turn_known big l (address w f.address) (address w (numbered l.symbols f.address)) last last at (address_moves big l w f.address at) (address_known big l w f.address at) (λ none other. number_there big w f.length none)

  lsda_known : (w : ℕ) (e : Option DwEhPe) (a : Option Address) (at : ℕ) → Known big l (lsda_part w e a) (lsda_part w e (option_map (numbered l.symbols) a)) at
  lsda_known w None None at = λ none other. ([], refl)
  lsda_known w None (Some a) at = λ none other. ([], refl)
  lsda_known w (Some e) None at = λ none other. ([], refl)
  lsda_known w (Some e) (Some a) at = pointer_known big l w e a at

  fde_contents_known : (kind : FrameKind) (cie : ℕ) (c : CommonInformationEntry) (f : FrameDescriptionEntry) (at : ℕ) → IsBegun l kind → IsOther kind c.encoding.format (l.own_start + cie) → cie ≤ at → IsFalse (entry_fixed (Some c) f) →
      Known big l (fde_contents kind cie c f) (fde_contents kind (l.own_start + cie) (numbered_cie l.symbols c) (numbered_fde l.symbols f)) at
  fde_contents_known kind cie c f at begun differs before h =
      let d = numbered_cie l.symbols c in
      let g = numbered_fde l.symbols f in
      let w = c.encoding.address_size in
      let behind = second_false (personality_fixed c.personality) (is_fixed c.fde_address_encoding f.address || lsda_fixed c.lsda_encoding f.lsda) h in
      let here = first_false (is_fixed c.fde_address_encoding f.address) (lsda_fixed c.lsda_encoding f.lsda) behind in
      let there = second_false (is_fixed c.fde_address_encoding f.address) (lsda_fixed c.lsda_encoding f.lsda) behind in
      let own = lsda_part w c.lsda_encoding f.lsda in
      let new = lsda_part w c.lsda_encoding g.lsda in
      let block : Bool → Placed = λ b. only_if b (counted new) in
      let n = at + (cie_pointer kind c.encoding.format cie at).piece.size in
      let m = n + (range_part c f n).piece.size in
      turn_known big l (cie_pointer kind c.encoding.format cie) (cie_pointer kind c.encoding.format (l.own_start + cie)) _ _ at (field_moves big l kind c.encoding.format cie at begun differs before) (field_known kind c.encoding.format cie at begun)
      (turn_known big l (range_part c f) (range_part d g) _ _ n (range_by big l (has_encoding c) w c.fde_address_encoding f n here) (range_known (has_encoding c) w c.fde_address_encoding f n here)
      (turn_known big l (only_if (is_augmented c) (counted own)) (block (is_augmented d)) (instructions c f) (instructions d g) m
      (subst (λ b. Moves big l (only_if (is_augmented c) (counted own)) (block b) m) (sym (augmented_same big l c)) (block_moves big l (is_augmented c) own new m (lsda_moves big l w c.lsda_encoding f.lsda (m + 1) there)))
      (subst (λ b. Known big l (only_if (is_augmented c) (counted own)) (block b) m) (sym (augmented_same big l c)) (block_known (is_augmented c) own new m (lsda_known w c.lsda_encoding f.lsda (m + 1))))
      (λ none other. program_there big l c.encoding c.code_alignment_factor c.data_alignment_factor 0 f.steps.items none other)))

  refused_known : (b : Bool) (q : Placed) (at : ℕ) → Known big l (refused_if b mismatch) q at
  refused_known true q at = λ none other. let x : true ≡ false = none errors.LsdaMismatch in cc
  refused_known false q at = λ none other. ([], refl)

  pub fde_known : (kind : FrameKind) (cie : ℕ) (c : CommonInformationEntry) (f : FrameDescriptionEntry) (at : ℕ) → IsBegun l kind → IsOther kind c.encoding.format (l.own_start + cie) → cie ≤ at → IsFalse (entry_fixed (Some c) f) →
      Known big l (fde_part kind cie c f) (fde_part kind (l.own_start + cie) (numbered_cie l.symbols c) (numbered_fde l.symbols f)) at
  fde_known kind cie c f at begun differs before h =
      let d = numbered_cie l.symbols c in
      let g = numbered_fde l.symbols f in
      let first : Bool → Placed = λ b. refused_if b mismatch in
      let p = disagree c.lsda_encoding f.lsda in
      let n = (first p at).piece.size in
      let behind : cie ≤ at + n + length_size c.encoding.format = omega (arith, before) in
      turn_known big l (first p) (first (disagree c.lsda_encoding g.lsda)) (entry c.encoding (fde_contents kind cie c f)) (entry c.encoding (fde_contents kind (l.own_start + cie) d g)) at
      (subst (λ b. Moves big l (first p) (first b) at) (sym (disagree_same big l c.lsda_encoding f.lsda)) (refused_turn big l p at (l.own_start + at))) (refused_known p (first (disagree c.lsda_encoding g.lsda)) at)
      (entry_known big l c.encoding (fde_contents kind cie c f) (fde_contents kind (l.own_start + cie) d g) (at + n) (fde_contents_known kind cie c f (at + n + length_size c.encoding.format) begun differs behind h))
