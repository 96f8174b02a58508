-- The parts of entries, handed out one after the other.
use Rattle.std.proofs.Common.{◌≡◌, ◌∙◌, sym, ap, ap₂, subst, ℕ, zero, suc, List, [], ◌∷◌, Result, Ok, Err}
use Rattle.dw_read.specs.Reading.{Reading, left}
use Rattle.dw_read.specs.declared.error.ReadError.{ReadError}
use Rattle.dw_read.proofs.Items.{then_parts}
use Rattle.dw_read_lines.specs.FileEntryFormatIters.{parts_in, HasFormats}
use Rattle.dw_read_lines.specs.FileEntryIters.{layout_of, HasParts}
use Rattle.dw_read_lines.specs.LineEntries.{format_read, formats_read}
use Rattle.dw_read_lines.specs.declared.description.Description.{Description}
use Rattle.dw_read_lines.specs.declared.file_entries.Layout.{Layout as HeldLayout}
use Rattle.dw_read_lines.specs.declared.file_entries.Layout.TheVariants as held
use Rattle.dw_read_lines.specs.declared.file_entry_formats.FileEntryFormatIter.{FileEntryFormatIter}

abbrev Part : Type 0
Part = ℕ × ℕ

abbrev parts_of : List Part → List ℕ → Result (List Part × List ℕ) ReadError
parts_of parts rest = Ok (parts, rest)

abbrev part_of : Part → List ℕ → Result (Part × List ℕ) ReadError
part_of part rest = Ok (part, rest)

parts_are : (l m : List Part) (r s : List ℕ) → parts_of l r ≡ parts_of m s → (l ≡ m) × (r ≡ s)
parts_are l m r s h = let q : (l, r) ≡ (m, s) = cc in (ap (λ (y : List Part × List ℕ). y.0) q, ap (λ (y : List Part × List ℕ). y.1) q)

pub no_parts : (n : ℕ) (bytes rest : List ℕ) (parts : List Part) → n ≡ 0 → formats_read n bytes ≡ Ok (parts, rest) → parts ≡ []
unfolding formats_read
no_parts zero bytes rest parts z h = sym (parts_are [] parts bytes rest h).0
no_parts (suc n) bytes rest parts z h = absurd (cc)

-- the first of the parts, and those behind it
pub record First (m : ℕ) (after rest : List ℕ) (parts : List Part) (part : Part) : Type 0 where
  pub others : List Part
  pub first : parts ≡ part ∷ others
  pub behind : formats_read m after ≡ Ok (others, rest)

pub first_part : (n m : ℕ) (bytes after rest : List ℕ) (parts : List Part) (part : Part) → n ≡ suc m → formats_read n bytes ≡ Ok (parts, rest) → format_read bytes ≡ Ok (part, after) → First m after rest parts part
unfolding formats_read
first_part n m bytes after rest parts part z h k =
    let t : formats_read (suc m) bytes ≡ Ok (parts, rest) = subst (λ (i : ℕ). formats_read i bytes ≡ Ok (parts, rest)) z h in
    let a = then_parts (format_read bytes) _ (parts, rest) t in
    let b = then_parts (formats_read m a.0.1) _ (parts, rest) a.2 in
    let q : (a.0.0, a.0.1) ≡ (part, after) = cc in
    let same : a.0.0 ≡ part = ap (λ (y : Part × List ℕ). y.0) q in
    let next : a.0.1 ≡ after = ap (λ (y : Part × List ℕ). y.1) q in
    let w = parts_are (a.0.0 ∷ b.0.0) parts b.0.1 rest b.2 in
    record {
      others = b.0.0;
      first = sym w.0 ∙ ap (λ (p : Part). p ∷ b.0.0) same;
      behind = subst (λ (bs : List ℕ). formats_read m bs ≡ Ok (b.0.0, rest)) next (b.1 ∙ ap (parts_of b.0.0) w.1);
    }

pub not_missing : (n m : ℕ) (bytes rest : List ℕ) (parts : List Part) (e : ReadError) → n ≡ suc m → formats_read n bytes ≡ Ok (parts, rest) → format_read bytes ≡ Err e → ⊥
unfolding formats_read
not_missing n m bytes rest parts e z h k =
    let t : formats_read (suc m) bytes ≡ Ok (parts, rest) = subst (λ (i : ℕ). formats_read i bytes ≡ Ok (parts, rest)) z h in
    let a = then_parts (format_read bytes) _ (parts, rest) t in
    let r : format_read bytes ≡ part_of a.0.0 a.0.1 = a.1 in
    cc

-- the parts of a layout, in an iterator that begins with them
module _ {R E : Type 0} (reading : R → Reading) (l : HeldLayout R E) (i : FileEntryFormatIter R E) where
  abbrev HoldsParts : HeldLayout R E → Type 0
  HoldsParts k = (parts : List Part) → HasParts reading k parts → HasFormats reading i (parts_in (layout_of reading k parts))

  pub holds_described : (d : Description R E) → l ≡ held.Described d → reading i.input ≡ reading d.formats → i.remaining ≡ d.format_count → HoldsParts l
  holds_described d e input count = subst HoldsParts (sym e) (λ parts has. record {
    rest = has.rest;
    is = ap₂ (λ (n : ℕ) (r : Reading). formats_read n (left r)) count input ∙ has.is;
  })

  none_left : i.remaining ≡ 0 → HasFormats reading i []
  unfolding formats_read
  none_left z = record { rest = left (reading i.input); is = ap (λ (n : ℕ). formats_read n (left (reading i.input))) z }

  pub holds_no_directories : l ≡ held.Directories → i.remaining ≡ 0 → HoldsParts l
  holds_no_directories e z = subst HoldsParts (sym e) (λ parts has. none_left z)

  pub holds_no_files : l ≡ held.Files → i.remaining ≡ 0 → HoldsParts l
  holds_no_files e z = subst HoldsParts (sym e) (λ parts has. none_left z)
