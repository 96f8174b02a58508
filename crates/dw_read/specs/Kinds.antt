-- Layouts of operands, as the grammar has them.
use Rattle.std.specs.Prelude.{ℕ}
use Rattle.dw_base.specs.Forms.{Kind, Empty, Fixed, Uleb, Sleb, Block, UlebBlock, Zeroed, Indirect}
use Rattle.dw_read.specs.declared.kind.Kind.{Kind as ReadKind}
use Rattle.dw_read.specs.declared.kind.Kind.TheVariants.{Empty as KEmpty, Fixed as KFixed, Uleb as KUleb, Wide as KWide, Sleb as KSleb, Block as KBlock, UlebBlock as KUlebBlock, Zeroed as KZeroed, Indirect as KIndirect}

abbrev pub kind_in_grammar : ReadKind → Kind
kind_in_grammar KEmpty = Empty
kind_in_grammar (KFixed w) = Fixed w
kind_in_grammar KWide = Fixed 16
kind_in_grammar KUleb = Uleb
kind_in_grammar KSleb = Sleb
kind_in_grammar (KBlock w) = Block w
kind_in_grammar KUlebBlock = UlebBlock
kind_in_grammar KZeroed = Zeroed
kind_in_grammar KIndirect = Indirect

-- the bytes of a number, or of a length, that is laid out so; a number in ULEB is one of 8 bytes too
abbrev pub width_of : ReadKind → ℕ
width_of (KFixed w) = w
width_of (KBlock w) = w
width_of k = 8
