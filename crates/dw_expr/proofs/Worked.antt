-- Expressions with their bytes, which were put down by hand.
use Rattle.std.proofs.Common.{◌≡◌, ℕ, List, [], ◌∷◌, Option, Some, None, false, refl}
use Rattle.std.specs.Prelude.{◌==◌, if◌then◌else◌}
use Rattle.dw_base.specs.Numbers.{num}
use Rattle.dw_base.specs.Leb128.{uleb, uleb_groups}
use Rattle.dw_base.specs.declared.address.DebugInfoRef.TheVariants as refs
use Rattle.dw_base.specs.declared.common.Encoding.{Encoding}
use Rattle.dw_base.specs.declared.common.Format.TheVariants.{Dwarf32}
use Rattle.dw_writer.specs.SignedNumbers.{signed_num}
use Rattle.dw_writer.specs.SectionTexts.{bytes_text}
use Rattle.dw_writer.specs.Texts.{Text, num_text, followed}
use Rattle.dw_writer.specs.Drafts.{then_draft, open_text}
use Rattle.dw_expr.specs.Trees.{Node, plain, entry_value, tree_of, Simple, UnsignedConstant, Skip, Branch, CallRef, Convert, Register}
use Rattle.dw_expr.specs.Spelling.{expression_draft}

abbrev version_5 : Encoding
version_5 = record { address_size = 4; format = Dwarf32; version = 5 }

abbrev version_4 : Encoding
version_4 = record { address_size = 4; format = Dwarf32; version = 4 }

-- the first entry stands at 11, the second at 128
abbrev places : ℕ → Option ℕ
places i = if i == 0 then Some 11 else if i == 1 then Some 128 else None

abbrev text_of : Encoding → List Node → Text
text_of e ns = open_text (expression_draft e places ns) false (record { starts = []; own_start = 0; symbols = [] })

-- two branches: one forward, one back, each from behind its operand
branches : text_of version_5 (plain (Simple (record { 0 = 0x96 })) ∷ plain (Skip (Some 3)) ∷ plain (UnsignedConstant 300) ∷ plain (Branch (Some 1)) ∷ [])
    ≡ Some (0x96 ∷ 0x2f ∷ 3 ∷ 0 ∷ 0x10 ∷ 0xac ∷ 2 ∷ 0x28 ∷ 0xf7 ∷ 0xff ∷ [])
unfolding then_draft num uleb uleb_groups num_text followed bytes_text signed_num
branches = refl

-- a branch to the end, one without a target, and one past the end
to_the_end : text_of version_5 (plain (Branch (Some 1)) ∷ []) ≡ Some (0x28 ∷ 0 ∷ 0 ∷ [])
unfolding then_draft num uleb uleb_groups num_text followed bytes_text signed_num
to_the_end = refl

nowhere : text_of version_5 (plain (Skip None) ∷ []) ≡ None
unfolding then_draft num uleb uleb_groups num_text followed bytes_text signed_num
nowhere = refl

past_the_end : text_of version_5 (plain (Skip (Some 2)) ∷ []) ≡ None
unfolding then_draft num uleb uleb_groups num_text followed bytes_text signed_num
past_the_end = refl

-- a base type by its place in ULEB128, and one that has no place
converted : text_of version_5 (plain (Convert (Some (record { 0 = 1 }))) ∷ []) ≡ Some (0xa8 ∷ 0x80 ∷ 1 ∷ [])
unfolding then_draft num uleb uleb_groups num_text followed bytes_text signed_num
converted = refl

unplaced : text_of version_5 (plain (Convert (Some (record { 0 = 2 }))) ∷ []) ≡ None
unfolding then_draft num uleb uleb_groups num_text followed bytes_text signed_num
unplaced = refl

-- an expression within another, with the code of the extension; its branches stay in it
within : text_of version_4 (plain (Register (record { 0 = 32 })) ∷ entry_value (tree_of (plain (Register (record { 0 = 31 })) ∷ plain (Branch (Some 0)) ∷ [])) ∷ [])
    ≡ Some (0x90 ∷ 0x20 ∷ 0xf3 ∷ 4 ∷ 0x6f ∷ 0x28 ∷ 0xfc ∷ 0xff ∷ [])
unfolding then_draft num uleb uleb_groups num_text followed bytes_text signed_num
within = refl

-- a place in .debug_info is left open, and tells where it stands
left_open : text_of version_5 (plain (Simple (record { 0 = 0x96 })) ∷ plain (CallRef (refs.Entry (record { 0 = 7 }) (record { 0 = 9 }))) ∷ []) ≡ Some (0x96 ∷ 0x9a ∷ 0 ∷ 0 ∷ 0 ∷ 0 ∷ [])
unfolding then_draft num uleb uleb_groups num_text followed bytes_text signed_num
left_open = refl

with_fixup : (expression_draft version_5 places (plain (Simple (record { 0 = 0x96 })) ∷ plain (CallRef (refs.Entry (record { 0 = 7 }) (record { 0 = 9 }))) ∷ [])).holes
    ≡ record { offset = 2; size = 4; unit = record { 0 = 7 }; entry = record { 0 = 9 } } ∷ []
unfolding then_draft num uleb uleb_groups num_text followed bytes_text signed_num
with_fixup = refl
