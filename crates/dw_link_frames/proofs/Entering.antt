-- CIEs and FDEs, once symbols have values and the places of sections are known.
use Rattle.std.specs.Prelude.{◌≡◌, ℕ, ◌+◌, ◌-◌, ◌≤◌, ◌==◌, Bool, true, false, ◌||◌, [], ◌∷◌, Option, Some, None, is_some, refl, IsFalse, if◌then◌else◌}
use Rattle.std.specs.Option.{option_map}
use Rattle.std.proofs.Common.{sym, ◌∙◌, ap, subst, arith}
use Rattle.dw_base.specs.Leb128.{uleb, sleb}
use Rattle.dw_base.specs.Numbers.{word_of, length_size}
use Rattle.dw_base.specs.Pointers.{format_of}
use Rattle.dw_base.specs.declared.address.Address.{Address}
use Rattle.dw_base.specs.declared.common.Format.{Format}
use Rattle.dw_base.specs.declared.constants.DwEhPe.{DwEhPe}
use Rattle.dw_base.specs.declared.section_id.SectionId.TheVariants.{DebugFrame}
use Rattle.dw_writer.specs.Layout.{Layout, start_of}
use Rattle.dw_writer.specs.Texts.{num_text}
use Rattle.dw_writer.specs.SectionTexts.{offset_text}
use Rattle.dw_frame.specs.declared.cie.CommonInformationEntry.{CommonInformationEntry}
use Rattle.dw_frame.specs.declared.fde.FrameDescriptionEntry.{FrameDescriptionEntry}
use Rattle.dw_frame.specs.declared.kind.FrameKind.{FrameKind}
use Rattle.dw_frame.specs.declared.kind.FrameKind.TheVariants.{Debug, Eh}
use Rattle.dw_frame_instructions.specs.Pieces.{Piece, missing, bytes, both}
use Rattle.dw_frame.specs.Parts.{Placed, free, caused, refused_if, only_if, numbered as number_part}
use Rattle.dw_frame.specs.PointerParts.{pointer, address, pointer_data, frame_offset}
use Rattle.dw_frame.specs.Cies.{cie_id, cie_number, is_known, version_fails, version_part, has_encoding, is_augmented, byte_if, letters, sizes, has_byte_register, register_part, encoding_if, personality_part, cie_data, first_instructions, cie_head, cie_measures, cie_contents, cie_part}
use Rattle.dw_frame.specs.Entries.{entry, counted}
use Rattle.dw_frame.specs.Fdes.{too_large, cie_pointer, encoded_range, plain_range, range_part, lsda_part, disagree, mismatch, instructions, fde_contents, fde_part}
use Rattle.dw_link_frames.specs.Numbered.{numbered, numbered_cie, numbered_fde}
use Rattle.dw_link_frames.specs.Placed.{is_fixed, personality_fixed, lsda_fixed, entry_fixed}
use Rattle.dw_link_frames.proofs.Turning.{Turns, Moves, bytes_turn, missing_turn, number_turn, both_turn, if_turn, turn_moves, if_moves, only_moves, counted_moves, entry_moves}
use Rattle.dw_link_frames.proofs.Pointing.{pointer_moves, address_moves}
use Rattle.dw_link_frames.proofs.Instructing.{instructions_turn, program_turn}

pub some_mapped : {A B : Type 0} (f : A → B) (o : Option A) → is_some (option_map f o) ≡ is_some o
some_mapped f None = refl
some_mapped f (Some x) = refl

-- where a place of the writer's own part comes to stand
abbrev pub IsBegun : Layout → FrameKind → Type 0
IsBegun l Debug = start_of l DebugFrame ≡ l.own_start
IsBegun l Eh = Unit {0}

-- the place of a CIE in the section isn't the id of CIEs
abbrev pub IsOther : FrameKind → Format → ℕ → Type 0
IsOther Debug format cie = (cie == cie_number Debug format) ≡ false
IsOther Eh format cie = Unit {0}

pub first_false : (a b : Bool) → IsFalse (a || b) → IsFalse a
first_false false b h = refl
first_false true b h = h

pub second_false : (a b : Bool) → IsFalse (a || b) → IsFalse b
second_false false b h = h
second_false true b h = absurd (let k : true ≡ false = h in cc)

module _ (big : Bool) (l : Layout) where
  free_moves : (p q : Piece) (at : ℕ) → Turns big l p q → Moves big l (free p) (free q) at
  free_moves p q at h = h

  pub byte_turn : (b : Bool) (n : ℕ) → Turns big l (byte_if b n) (byte_if b n)
  byte_turn true n = bytes_turn big l (n ∷ [])
  byte_turn false n = bytes_turn big l []

  -- CIEs

  -- what of letters hangs on whether there is a personality
  abbrev pub letters_by : CommonInformationEntry → Bool → Piece
  letters_by c b =
      both (byte_if (is_some c.lsda_encoding || (b || (has_encoding c || c.signal_trampoline))) 0x7a)
      (both (byte_if (is_some c.lsda_encoding) 0x4c) (both (byte_if b 0x50)
      (both (byte_if (has_encoding c) 0x52) (both (byte_if c.signal_trampoline 0x53) (bytes (0 ∷ []))))))

  letters_by_turn : (c : CommonInformationEntry) (b : Bool) → Turns big l (letters_by c b) (letters_by c b)
  letters_by_turn c b =
      both_turn big l _ _ _ _ (byte_turn (is_some c.lsda_encoding || (b || (has_encoding c || c.signal_trampoline))) 0x7a)
      (both_turn big l _ _ _ _ (byte_turn (is_some c.lsda_encoding) 0x4c) (both_turn big l _ _ _ _ (byte_turn b 0x50)
      (both_turn big l _ _ _ _ (byte_turn (has_encoding c) 0x52) (both_turn big l _ _ _ _ (byte_turn c.signal_trampoline 0x53) (bytes_turn big l (0 ∷ []))))))

  pub letters_turn : (c : CommonInformationEntry) → Turns big l (letters c) (letters (numbered_cie l.symbols c))
  letters_turn c =
      subst (λ b. Turns big l (letters c) (letters_by c b)) (sym (some_mapped (λ (p : DwEhPe × Address). (p.0, numbered l.symbols p.1)) c.personality))
      (letters_by_turn c (is_some c.personality))

  pub augmented_same : (c : CommonInformationEntry) → is_augmented (numbered_cie l.symbols c) ≡ is_augmented c
  augmented_same c =
      ap (λ b. is_some c.lsda_encoding || (b || (has_encoding c || c.signal_trampoline))) (some_mapped (λ (p : DwEhPe × Address). (p.0, numbered l.symbols p.1)) c.personality)

  pub version_moves : (kind : FrameKind) (v at : ℕ) → Moves big l (version_part kind v) (version_part kind v) at
  version_moves kind v at =
      if_moves big l (is_known kind v) (free (bytes (v ∷ []))) (caused missing (version_fails kind v)) (free (bytes (v ∷ []))) (caused missing (version_fails kind v)) at (bytes_turn big l (v ∷ [])) (missing_turn big l missing)

  sizes_turn : (v w : ℕ) → Turns big l (sizes v w) (sizes v w)
  sizes_turn v w = if_turn big l (v == 4) (bytes (w ∷ 0 ∷ [])) (bytes []) (bytes (w ∷ 0 ∷ [])) (bytes []) (bytes_turn big l (w ∷ 0 ∷ [])) (bytes_turn big l [])

  pub head_moves : (kind : FrameKind) (c : CommonInformationEntry) (at : ℕ) → Moves big l (cie_head kind c) (cie_head kind (numbered_cie l.symbols c)) at
  head_moves kind c at =
      let v = c.encoding.version in
      let more = numbered_cie l.symbols c in
      let last = free (sizes v c.encoding.address_size) in
      turn_moves big l (free (bytes (cie_id kind c.encoding.format))) (free (bytes (cie_id kind c.encoding.format))) _ _ at (bytes_turn big l (cie_id kind c.encoding.format))
      (turn_moves big l (version_part kind v) (version_part kind v) _ _ _ (version_moves kind v _)
      (turn_moves big l (free (letters c)) (free (letters more)) last last _ (letters_turn c) (sizes_turn v c.encoding.address_size)))

  pub register_moves : (kind : FrameKind) (v r at : ℕ) → Moves big l (register_part kind v r) (register_part kind v r) at
  register_moves kind v r at =
      if_moves big l (has_byte_register kind v) (number_part 1 r) (free (bytes (uleb r))) (number_part 1 r) (free (bytes (uleb r))) at (number_turn big l 1 r) (bytes_turn big l (uleb r))

  pub measures_moves : (kind : FrameKind) (c : CommonInformationEntry) (at : ℕ) → Moves big l (cie_measures kind c) (cie_measures kind (numbered_cie l.symbols c)) at
  measures_moves kind c at =
      let last = register_part kind c.encoding.version c.return_address_register.0 in
      turn_moves big l (free (bytes (uleb c.code_alignment_factor))) (free (bytes (uleb c.code_alignment_factor))) _ _ at (bytes_turn big l (uleb c.code_alignment_factor))
      (turn_moves big l (free (bytes (sleb c.data_alignment_factor))) (free (bytes (sleb c.data_alignment_factor))) last last _ (bytes_turn big l (sleb c.data_alignment_factor))
      (register_moves kind c.encoding.version c.return_address_register.0 _))

  pub encoding_turn : (o : Option DwEhPe) → Turns big l (encoding_if o) (encoding_if o)
  encoding_turn None = bytes_turn big l []
  encoding_turn (Some e) = bytes_turn big l (e.0 ∷ [])

  pub personality_moves : (w : ℕ) (o : Option (DwEhPe × Address)) (at : ℕ) → IsFalse (personality_fixed o) →
      Moves big l (personality_part w o) (personality_part w (option_map (λ p. (p.0, numbered l.symbols p.1)) o)) at
  personality_moves w None at h = bytes_turn big l []
  personality_moves w (Some p) at h =
      turn_moves big l (free (bytes (p.0.0 ∷ []))) (free (bytes (p.0.0 ∷ []))) (pointer w p.0.0 p.1) (pointer w p.0.0 (numbered l.symbols p.1)) at (bytes_turn big l (p.0.0 ∷ [])) (pointer_moves big l w p.0 p.1 (at + 1) h)

  pub data_moves : (c : CommonInformationEntry) (at : ℕ) → IsFalse (personality_fixed c.personality) → Moves big l (cie_data c) (cie_data (numbered_cie l.symbols c)) at
  data_moves c at h =
      let last = free (byte_if (has_encoding c) c.fde_address_encoding.0) in
      turn_moves big l (free (encoding_if c.lsda_encoding)) (free (encoding_if c.lsda_encoding)) _ _ at (encoding_turn c.lsda_encoding)
      (turn_moves big l (personality_part c.encoding.address_size c.personality) (personality_part c.encoding.address_size (numbered_cie l.symbols c).personality) last last _
      (personality_moves c.encoding.address_size c.personality _ h) (byte_turn (has_encoding c) c.fde_address_encoding.0))

  pub block_moves : (b : Bool) (p q : Placed) (at : ℕ) → Moves big l p q (at + 1) → Moves big l (only_if b (counted p)) (only_if b (counted q)) at
  block_moves b p q at h = only_moves big l b (counted p) (counted q) at (counted_moves big l p q at h)

  pub contents_move : (kind : FrameKind) (c : CommonInformationEntry) (at : ℕ) → IsFalse (personality_fixed c.personality) → Moves big l (cie_contents kind c) (cie_contents kind (numbered_cie l.symbols c)) at
  contents_move kind c at h =
      let more = numbered_cie l.symbols c in
      let block : Bool → Placed = λ b. only_if b (counted (cie_data more)) in
      let n = at + (cie_head kind c at).piece.size in
      let m = n + (cie_measures kind c n).piece.size in
      turn_moves big l (cie_head kind c) (cie_head kind more) _ _ at (head_moves kind c at)
      (turn_moves big l (cie_measures kind c) (cie_measures kind more) _ _ _ (measures_moves kind c _)
      (turn_moves big l (only_if (is_augmented c) (counted (cie_data c))) (only_if (is_augmented more) (counted (cie_data more))) (first_instructions c) (first_instructions more) m
      (subst (λ b. Moves big l (only_if (is_augmented c) (counted (cie_data c))) (block b) m) (sym (augmented_same c)) (block_moves (is_augmented c) (cie_data c) (cie_data more) m (data_moves c (m + 1) h)))
      (instructions_turn big l c.encoding c.data_alignment_factor c.instructions.items)))

  pub cie_moves : (kind : FrameKind) (c : CommonInformationEntry) (at : ℕ) → IsFalse (personality_fixed c.personality) → Moves big l (cie_part kind c) (cie_part kind (numbered_cie l.symbols c)) at
  cie_moves kind c at h = entry_moves big l c.encoding (cie_contents kind c) (cie_contents kind (numbered_cie l.symbols c)) at (contents_move kind c (at + length_size c.encoding.format) h)

  -- FDEs

  offset_by : (b d : Bool) (w cie at there : ℕ) → start_of l DebugFrame ≡ l.own_start → d ≡ false →
      Turns big l ((if b then caused missing too_large else frame_offset w cie) at).piece ((if d then caused missing too_large else frame_offset w (l.own_start + cie)) there).piece
  unfolding offset_text
  offset_by true d w cie at there begun other = missing_turn big l _
  offset_by false true w cie at there begun other = cc
  offset_by false false w cie at there begun other =
      let same : l.own_start + cie + 0 ≡ cie + start_of l DebugFrame = omega (arith, begun) in
      λ xs e. record { size = refl; text = ap (λ n. num_text big w n) same ∙ e }

  pub field_moves : (kind : FrameKind) (format : Format) (cie at : ℕ) → IsBegun l kind → IsOther kind format (l.own_start + cie) → cie ≤ at → Moves big l (cie_pointer kind format cie) (cie_pointer kind format (l.own_start + cie)) at
  field_moves Debug format cie at begun other before =
      offset_by (cie == cie_number Debug format) (l.own_start + cie == cie_number Debug format) (word_of format) cie at (l.own_start + at) begun other
  field_moves Eh format cie at begun other before =
      let same : l.own_start + at - (l.own_start + cie) ≡ at - cie = omega (arith, before) in
      λ xs e. record { size = refl; text = ap (λ n. num_text big 4 n) same ∙ e }

  pub data_number_moves : (w format n at : ℕ) → Moves big l (pointer_data w format n) (pointer_data w format n) at
  data_number_moves w format n at xs e = record { size = refl; text = e }

  pub range_by : (b : Bool) (w : ℕ) (encoding : DwEhPe) (f : FrameDescriptionEntry) (at : ℕ) → IsFalse (is_fixed encoding f.address) →
      Moves big l (if b then encoded_range w encoding.0 f else plain_range w f) (if b then encoded_range w encoding.0 (numbered_fde l.symbols f) else plain_range w (numbered_fde l.symbols f)) at
  range_by true w encoding f at h =
      let last = pointer_data w (format_of encoding.0) f.length in
      turn_moves big l (pointer w encoding.0 f.address) (pointer w encoding.0 (numbered l.symbols f.address)) last last at (pointer_moves big l w encoding f.address at h)
      (data_number_moves w (format_of encoding.0) f.length (at + (pointer w encoding.0 f.address at).piece.size))
  range_by false w encoding f at h =
      let last = number_part w f.length in
      turn_moves big l (address w f.address) (address w (numbered l.symbols f.address)) last last at (address_moves big l w f.address at) (number_turn big l w f.length)

  pub lsda_moves : (w : ℕ) (e : Option DwEhPe) (a : Option Address) (at : ℕ) → IsFalse (lsda_fixed e a) → Moves big l (lsda_part w e a) (lsda_part w e (option_map (numbered l.symbols) a)) at
  lsda_moves w None None at h = bytes_turn big l []
  lsda_moves w None (Some a) at h = bytes_turn big l []
  lsda_moves w (Some e) None at h = bytes_turn big l []
  lsda_moves w (Some e) (Some a) at h = pointer_moves big l w e a at h

  pub fde_contents_move : (kind : FrameKind) (cie : ℕ) (c : CommonInformationEntry) (f : FrameDescriptionEntry) (at : ℕ) → IsBegun l kind → IsOther kind c.encoding.format (l.own_start + cie) → cie ≤ at → IsFalse (entry_fixed (Some c) f) →
      Moves big l (fde_contents kind cie c f) (fde_contents kind (l.own_start + cie) (numbered_cie l.symbols c) (numbered_fde l.symbols f)) at
  fde_contents_move kind cie c f at begun other before h =
      let d = numbered_cie l.symbols c in
      let g = numbered_fde l.symbols f in
      let w = c.encoding.address_size in
      let behind = second_false (personality_fixed c.personality) (is_fixed c.fde_address_encoding f.address || lsda_fixed c.lsda_encoding f.lsda) h in
      let here = first_false (is_fixed c.fde_address_encoding f.address) (lsda_fixed c.lsda_encoding f.lsda) behind in
      let there = second_false (is_fixed c.fde_address_encoding f.address) (lsda_fixed c.lsda_encoding f.lsda) behind in
      let own = lsda_part w c.lsda_encoding f.lsda in
      let new = lsda_part w c.lsda_encoding g.lsda in
      let block : Bool → Placed = λ b. only_if b (counted new) in
      let n = at + (cie_pointer kind c.encoding.format cie at).piece.size in
      let m = n + (range_part c f n).piece.size in
      turn_moves big l (cie_pointer kind c.encoding.format cie) (cie_pointer kind c.encoding.format (l.own_start + cie)) _ _ at (field_moves kind c.encoding.format cie at begun other before)
      (turn_moves big l (range_part c f) (range_part d g) _ _ _ (range_by (has_encoding c) w c.fde_address_encoding f n here)
      (turn_moves big l (only_if (is_augmented c) (counted own)) (only_if (is_augmented d) (counted new)) (instructions c f) (instructions d g) m
      (subst (λ b. Moves big l (only_if (is_augmented c) (counted own)) (block b) m) (sym (augmented_same c)) (block_moves (is_augmented c) own new m (lsda_moves w c.lsda_encoding f.lsda (m + 1) there)))
      (program_turn big l c.encoding c.code_alignment_factor c.data_alignment_factor 0 f.steps.items)))

  pub disagree_same : (e : Option DwEhPe) (a : Option Address) → disagree e (option_map (numbered l.symbols) a) ≡ disagree e a
  disagree_same None None = refl
  disagree_same None (Some a) = refl
  disagree_same (Some e) None = refl
  disagree_same (Some e) (Some a) = refl

  pub refused_turn : (b : Bool) (at there : ℕ) → Turns big l (refused_if b mismatch at).piece (refused_if b mismatch there).piece
  refused_turn true at there = missing_turn big l missing
  refused_turn false at there = λ xs e. record { size = refl; text = e }

  no_size : (b : Bool) (at : ℕ) → (refused_if b mismatch at).piece.size ≡ 0
  no_size true at = refl
  no_size false at = refl

  pub fde_moves : (kind : FrameKind) (cie : ℕ) (c : CommonInformationEntry) (f : FrameDescriptionEntry) (at : ℕ) → IsBegun l kind → IsOther kind c.encoding.format (l.own_start + cie) → cie ≤ at → IsFalse (entry_fixed (Some c) f) →
      Moves big l (fde_part kind cie c f) (fde_part kind (l.own_start + cie) (numbered_cie l.symbols c) (numbered_fde l.symbols f)) at
  fde_moves kind cie c f at begun other before h =
      let d = numbered_cie l.symbols c in
      let g = numbered_fde l.symbols f in
      let first : Bool → Placed = λ b. refused_if b mismatch in
      let p = disagree c.lsda_encoding f.lsda in
      let n = (first p at).piece.size in
      let behind : cie ≤ at + n + length_size c.encoding.format = omega (arith, before) in
      turn_moves big l (first p) (first (disagree c.lsda_encoding g.lsda)) (entry c.encoding (fde_contents kind cie c f)) (entry c.encoding (fde_contents kind (l.own_start + cie) d g)) at
      (subst (λ b. Moves big l (first p) (first b) at) (sym (disagree_same c.lsda_encoding f.lsda)) (refused_turn p at (l.own_start + at)))
      (entry_moves big l c.encoding (fde_contents kind cie c f) (fde_contents kind (l.own_start + cie) d g) (at + n) (fde_contents_move kind cie c f (at + n + length_size c.encoding.format) begun other behind h))
