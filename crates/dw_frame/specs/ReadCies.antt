-- What a reader sees of a CIE (DWARF 5, 6.4.1; Linux Standard Base Core 5.0, 10.6.1.1).
use Rattle.std.specs.Prelude.{◌≡◌, ℕ, ◌+◌, ◌-◌, ◌^◌, ◌<◌, ◌==◌, IfSome, IsTrue, Bool, true, false, List, [], ◌∷◌, length, Option, Some, None, ℤ, if◌then◌else◌}
use Rattle.std.specs.Option.{option_map}
use Rattle.dw_base.specs.Leb128.{uleb_at, sleb_at, fits_i64}
use Rattle.dw_base.specs.Numbers.{Parser, ◌>>=◌, when, bytes_at, number_at, initial_length_at}
use Rattle.dw_base.specs.declared.address.Address.{Address}
use Rattle.dw_base.specs.declared.address.Address.TheVariants.{Constant, Symbol}
use Rattle.dw_base.specs.declared.common.Format.{Format}
use Rattle.dw_base.specs.declared.constants.DwEhPe.{DwEhPe}
use Rattle.dw_frame.specs.declared.cie.CommonInformationEntry.{CommonInformationEntry}
use Rattle.dw_frame.specs.declared.kind.FrameKind.{FrameKind}
use Rattle.dw_frame.specs.Cies.{cie_id, cie_number, has_byte_register, has_encoding}
use Rattle.dw_frame.specs.ReadPointers.{pointer_at}

-- where the rest of bytes stands, which themselves stand at a place
abbrev pub place_of : ℕ → List ℕ → List ℕ → ℕ
place_of at bytes rest = at + (length bytes - length rest)

-- what stands first behind the length: whether it is the id of a CIE, and what follows
abbrev pub id_at : FrameKind → Bool → Format → Parser Bool
id_at kind big format bytes = number_at big (length (cie_id kind format)) bytes >>= λ i. Some (i.0 == cie_number kind format, i.1)

-- what follows the id of a CIE
abbrev pub behind_id_at : FrameKind → Bool → Format → List ℕ → Option (List ℕ)
behind_id_at kind big format bytes = id_at kind big format bytes >>= λ i. when i.0 (Some i.1)

-- bytes up to a zero
abbrev pub string_at : Parser (List ℕ)
string_at [] = None
string_at (b ∷ bs) = if b == 0 then Some ([], bs) else (string_at bs >>= λ x. Some (b ∷ x.0, x.1))

-- what an augmentation announces: encodings, the pointer to the function that handles exceptions, and trampolines
pub record Announced : Type 0 where
  pub lsda : Option ℕ
  pub personality : Option (ℕ × ℕ)
  pub addresses : Option ℕ
  pub signal : Bool

abbrev pub nothing_announced : Announced
nothing_announced = record { lsda = None; personality = None; addresses = None; signal = false }

-- the data of letters in turn, in bytes that stand at a place and of which some are left
abbrev pub letters_at : Bool → ℕ → ℕ → List ℕ → List ℕ → Announced → List ℕ → Option Announced
letters_at big w at bytes [] d rest = Some d
letters_at big w at bytes (a ∷ more) d rest =
    if a == 0x4c then (number_at big 1 rest >>= λ x. letters_at big w at bytes more (record d { lsda = Some x.0 }) x.1)
    else (if a == 0x50 then (number_at big 1 rest >>= λ x. pointer_at big w x.0 (place_of at bytes x.1) x.1 >>= λ y. letters_at big w at bytes more (record d { personality = Some (x.0, y.0) }) y.1)
    else (if a == 0x52 then (number_at big 1 rest >>= λ x. letters_at big w at bytes more (record d { addresses = Some x.0 }) x.1)
    else (if a == 0x53 then letters_at big w at bytes more (record d { signal = true }) rest else None)))

-- the data of an augmentation string, behind its length
abbrev pub announced_at : Bool → ℕ → ℕ → List ℕ → List ℕ → List ℕ → Option Announced
announced_at big w at bytes [] rest = Some nothing_announced
announced_at big w at bytes (z ∷ more) rest = when (z == 0x7a) (number_at big 1 rest >>= λ n. letters_at big w at bytes more nothing_announced n.1)

-- a CIE but for its instructions
pub record CieRead : Type 0 where
  pub version : ℕ
  pub code_factor : ℕ
  pub data_factor : ℤ
  pub register : ℕ
  pub announced : Announced

abbrev pub register_at : FrameKind → Bool → ℕ → Parser ℕ
register_at kind big v bytes = if has_byte_register kind v then number_at big 1 bytes else uleb_at bytes

-- bytes at a place as a CIE, where addresses have so many bytes
abbrev pub cie_at : FrameKind → Bool → ℕ → ℕ → List ℕ → Option CieRead
cie_at kind big w at bytes =
    initial_length_at big bytes >>= λ n.
    behind_id_at kind big n.0.0 n.1 >>= λ b.
    number_at big 1 b >>= λ v.
    string_at v.1 >>= λ s.
    bytes_at (if v.0 == 4 then 2 else 0) s.1 >>= λ z.
    uleb_at z.1 >>= λ c.
    sleb_at c.1 >>= λ d.
    register_at kind big v.0 d.1 >>= λ r.
    announced_at big w at bytes s.0 r.1 >>= λ a.
    Some (record { version = v.0; code_factor = c.0; data_factor = d.0; register = r.0; announced = a })

-- an announced pointer is the built one
abbrev pub IsPointer : Option (DwEhPe × Address) → Option (ℕ × ℕ) → Type 0
IsPointer None None = Unit {0}
IsPointer (Some p) (Some q) = (q.0 ≡ p.0.0) × (p.1 ≡ Constant q.1)
IsPointer o r = ⊥

-- a CIE is read at a place as it was built
pub record ReadsCie (kind : FrameKind) (big : Bool) (c : CommonInformationEntry) (at : ℕ) (bytes : List ℕ) : Type 0 where
  pub seen : CieRead
  pub read : cie_at kind big c.encoding.address_size at bytes ≡ Some seen
  pub version : seen.version ≡ c.encoding.version
  pub code_factor : seen.code_factor ≡ c.code_alignment_factor
  pub data_factor : seen.data_factor ≡ c.data_alignment_factor
  pub register : seen.register ≡ c.return_address_register.0
  pub lsda : seen.announced.lsda ≡ option_map (λ e. e.0) c.lsda_encoding
  pub personality : IsPointer c.personality seen.announced.personality
  pub addresses : seen.announced.addresses ≡ (if has_encoding c then Some c.fde_address_encoding.0 else None)
  pub signal : seen.announced.signal ≡ c.signal_trampoline

-- an address of 64 bits
abbrev pub IsShort : Address → Type 0
IsShort (Constant n) = n < 2 ^ 64
IsShort (Symbol s a) = Unit {0}

-- the numbers of a CIE have the widths of their types
pub record IsRangedCie (c : CommonInformationEntry) : Type 0 where
  pub code_factor : c.code_alignment_factor < 2 ^ 64
  pub data_factor : IsTrue (fits_i64 c.data_alignment_factor)
  pub register : c.return_address_register.0 < 2 ^ 64
  pub personality : IfSome c.personality (λ q. IsShort q.1)
