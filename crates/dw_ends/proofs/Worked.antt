-- Listings, read on the definition.
use Rattle.std.proofs.Common.{◌≡◌, ◌∷◌, [], Some, Ok, Err, codes, refl}
use Rattle.dw_base.specs.declared.endianity.RunTimeEndian.TheVariants.{Big}
use Rattle.dw_ends.specs.declared.line.Line.TheVariants as line
use Rattle.dw_ends.specs.declared.reason.Reason.TheVariants.{BadHex, OrderNotFirst, Twice, UnknownWord, WrongFields, WrongLength}
use Rattle.dw_ends.specs.Lines.{parsed_line}
use Rattle.dw_ends.specs.Sections.{after_line, empty_listing, sections_of, with_order}
use Rattle.hex.specs.Hex.{decode_pairs}

-- the three bytes of a section, which is the first of those that a listing may have
section : parsed_line (codes ".debug_abbrev 3 011100") ≡ Ok (Some (line.Section 0 3 (1 ∷ 17 ∷ 0 ∷ [])))
unfolding parsed_line decode_pairs
section = refl

-- an empty one, with its bytes left out, and spelled
empty : parsed_line (codes ".debug_info 0") ≡ Ok (Some (line.Section 8 0 []))
unfolding parsed_line
empty = refl

dash : parsed_line (codes ".debug_info 0 -") ≡ Ok (Some (line.Section 8 0 []))
unfolding parsed_line
dash = refl

-- the bytes of another may not be left out
missing : parsed_line (codes ".debug_info 1") ≡ Err WrongFields
unfolding parsed_line
missing = refl

odd : parsed_line (codes ".debug_info 1 0") ≡ Err BadHex
unfolding parsed_line decode_pairs
odd = refl

-- a section that no listing has
unlisted : parsed_line (codes ".debug_aranges 0") ≡ Err UnknownWord
unfolding parsed_line
unlisted = refl

-- a length that the bytes don't have
short : after_line empty_listing (codes ".debug_info 2 00") ≡ Err WrongLength
unfolding parsed_line decode_pairs
short = refl

-- a second line of a section, though the first has no bytes
twice : sections_of (codes ".debug_info 0\n.debug_info 0\n") ≡ Err (2, Twice)
unfolding sections_of parsed_line
twice = refl

-- the byte order stands before all lines but remarks and empty ones
order : sections_of (codes "# big\n\norder big") ≡ Ok (with_order empty_listing Big)
unfolding sections_of parsed_line
order = refl

late : sections_of (codes ".debug_str 0\norder big") ≡ Err (2, OrderNotFirst)
unfolding sections_of parsed_line
late = refl
