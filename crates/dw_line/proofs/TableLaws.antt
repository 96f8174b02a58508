-- The directories and files of a header are read again, in version 5 by what the header says of them and below it up to the
-- empty names that close them.
use Rattle.std.proofs.Common.{◌≡◌, ◌∙◌, sym, ap, ap₂, ℕ, suc, zero, ◌^◌, ◌<◌, ◌≤◌, Bool, true, false, ◌==◌, List, [], ◌∷◌, ◌++◌, length, map, Option, Some, None, refl, arith, is_some, if◌then◌else◌, append_assoc, append-nil, length-append}
use Rattle.std.specs.List.{All, flat_map}
use Rattle.std.proofs.lemmas.List.Concat.{flat_map-append}
use Rattle.std.proofs.lemmas.List.Elements.{All-nil, All-cons, All-head, All-tail, All-append}
use Rattle.dw_base.specs.Numbers.{Parser, ◌>>=◌}
use Rattle.dw_base.specs.Leb128.{uleb}
use Rattle.dw_base.specs.Forms.{text_at}
use Rattle.dw_base.specs.Spellable.{IsText}
use Rattle.dw_base.specs.declared.common.Encoding.{Encoding}
use Rattle.dw_base.specs.declared.constants.TheConstants.{DW_LNCT_path, DW_LNCT_directory_index, DW_LNCT_timestamp, DW_LNCT_size, DW_LNCT_MD5, DW_LNCT_LLVM_source, DW_FORM_udata, DW_FORM_data16}
use Rattle.dw_base.proofs.NumberLaws.{bind_is}
use Rattle.dw_base.proofs.Leb128Laws.{uleb-again}
use Rattle.dw_writer.specs.Meaning.{Layout, Model}
use Rattle.dw_strings.specs.Strings.{closed}
use Rattle.dw_strings.proofs.StringLaws.{text-again}
use Rattle.dw_line.specs.Headers.{flag_byte, content_bytes, directory_formats, source_content, part_count, file_formats}
use Rattle.dw_base.specs.LineTables.{ReadEntry, untold, entry_at, many_at, format_at, new_entries_at, old_entries_at}
use Rattle.dw_line.specs.Parts.{texts}
use Rattle.dw_line.specs.RowTexts.{where_needed}
use Rattle.dw_line.specs.declared.file.Columns.{Columns}
use Rattle.dw_line.proofs.SequenceLaws.{followed_parts}
use Rattle.dw_line.proofs.EntryTextLaws.{given_part, source_part, file_parts}

abbrev pub part_bytes : ℕ × ℕ → List ℕ
part_bytes p = content_bytes p.0 p.1

-- its numbers have spellings
abbrev pub IsPart : ℕ × ℕ → Type 0
IsPart p = (p.0 < 2 ^ 64) × (p.1 < 2 ^ 64)

format-again : (p : ℕ × ℕ) (rest : List ℕ) → IsPart p → format_at (part_bytes p ++ rest) ≡ Some (p, rest)
format-again p rest is =
    ap format_at (append_assoc (uleb p.0) (uleb p.1) rest)
    ∙ bind_is _ (p.0, uleb p.1 ++ rest) _ (uleb-again p.0 (uleb p.1 ++ rest) is.0)
    ∙ bind_is _ (p.1, rest) (λ form. Some ((p.0, form.0), form.1)) (uleb-again p.1 rest is.1)

formats-again : (ps : List (ℕ × ℕ)) (rest : List ℕ) → All IsPart ps → many_at (length ps) format_at (flat_map part_bytes ps ++ rest) ≡ Some (ps, rest)
unfolding many_at
formats-again [] rest all = refl
formats-again (p ∷ ps) rest all =
    ap (many_at (suc (length ps)) format_at) (append_assoc (part_bytes p) (flat_map part_bytes ps) rest)
    ∙ bind_is _ (p, flat_map part_bytes ps ++ rest) _ (format-again p (flat_map part_bytes ps ++ rest) (All-head IsPart p ps all))
    ∙ bind_is _ (ps, rest) (λ xs. Some (p ∷ xs.0, xs.1)) (formats-again ps rest (All-tail IsPart p ps all))

given_bytes : (b : Bool) (p : ℕ × ℕ) → flat_map part_bytes (given_part b p) ≡ where_needed b (part_bytes p)
given_bytes true p = append-nil (part_bytes p)
given_bytes false p = refl

source_bytes : (o : Option ℕ) → flat_map part_bytes (source_part o) ≡ source_content o
source_bytes None = refl
source_bytes (Some form) = append-nil (content_bytes DW_LNCT_LLVM_source.0 form)

given_count : (b : Bool) (p : ℕ × ℕ) → length (given_part b p) ≡ flag_byte b
given_count true p = refl
given_count false p = refl

source_count : (o : Option ℕ) → length (source_part o) ≡ flag_byte (is_some o)
source_count None = refl
source_count (Some form) = refl

given_parts : (b : Bool) (content form : ℕ) → content < 2 ^ 64 → form < 2 ^ 64 → All IsPart (given_part b (content, form))
given_parts true content form a b = All-cons IsPart (content, form) [] (a, b) (All-nil IsPart)
given_parts false content form a b = All-nil IsPart

source_parts : (o : Option ℕ) → ((k : ℕ) → o ≡ Some k → k < 2 ^ 64) → All IsPart (source_part o)
source_parts None small = All-nil IsPart
source_parts (Some form) small = All-cons IsPart (DW_LNCT_LLVM_source.0, form) [] (omega arith, small form refl) (All-nil IsPart)

pub file_parts_spelled : (c : Columns) (form count : ℕ) → file_formats c form count ≡ length (file_parts c form) ∷ (flat_map part_bytes (file_parts c form) ++ uleb count)
file_parts_spelled c form count =
    let t = given_part c.timestamp (DW_LNCT_timestamp.0, DW_FORM_udata.0) in
    let s = given_part c.size (DW_LNCT_size.0, DW_FORM_udata.0) in
    let m = given_part c.md5 (DW_LNCT_MD5.0, DW_FORM_data16.0) in
    let o = source_part c.source in
    let many : part_count c ≡ length (file_parts c form) =
    omega (
      arith,
      length-append t (s ++ (m ++ o)),
      length-append s (m ++ o),
      length-append m o,
      given_count c.timestamp (DW_LNCT_timestamp.0, DW_FORM_udata.0),
      given_count c.size (DW_LNCT_size.0, DW_FORM_udata.0),
      given_count c.md5 (DW_LNCT_MD5.0, DW_FORM_data16.0),
      source_count c.source,
    ) in
    let tail : flat_map part_bytes (t ++ (s ++ (m ++ o)))
    ≡ where_needed c.timestamp (content_bytes DW_LNCT_timestamp.0 DW_FORM_udata.0) ++ (where_needed c.size (content_bytes DW_LNCT_size.0 DW_FORM_udata.0)
    ++ (where_needed c.md5 (content_bytes DW_LNCT_MD5.0 DW_FORM_data16.0) ++ source_content c.source)) =
    flat_map-append part_bytes t (s ++ (m ++ o))
    ∙ ap₂ (λ x y. x ++ y) (given_bytes c.timestamp (DW_LNCT_timestamp.0, DW_FORM_udata.0)) (flat_map-append part_bytes s (m ++ o)
    ∙ ap₂ (λ x y. x ++ y) (given_bytes c.size (DW_LNCT_size.0, DW_FORM_udata.0)) (flat_map-append part_bytes m o
    ∙ ap₂ (λ x y. x ++ y) (given_bytes c.md5 (DW_LNCT_MD5.0, DW_FORM_data16.0)) (source_bytes c.source))) in
    let grouped : file_formats c form count ≡ part_count c ∷ ((content_bytes DW_LNCT_path.0 form ++ (content_bytes DW_LNCT_directory_index.0 DW_FORM_udata.0
    ++ (where_needed c.timestamp (content_bytes DW_LNCT_timestamp.0 DW_FORM_udata.0) ++ (where_needed c.size (content_bytes DW_LNCT_size.0 DW_FORM_udata.0)
    ++ (where_needed c.md5 (content_bytes DW_LNCT_MD5.0 DW_FORM_data16.0) ++ source_content c.source))))) ++ uleb count) = simp append_assoc in
    grouped
    ∙ ap (λ xs. part_count c ∷ ((content_bytes DW_LNCT_path.0 form ++ (content_bytes DW_LNCT_directory_index.0 DW_FORM_udata.0 ++ xs)) ++ uleb count)) (sym tail)
    ∙ ap (λ n. n ∷ (flat_map part_bytes (file_parts c form) ++ uleb count)) many

pub directory_part_spelled : (form count : ℕ) → directory_formats form count ≡ 1 ∷ (flat_map part_bytes ((DW_LNCT_path.0, form) ∷ []) ++ uleb count)
directory_part_spelled form count = ap (λ xs. 1 ∷ (xs ++ uleb count)) (sym (append-nil (content_bytes DW_LNCT_path.0 form)))

pub file_parts_fit : (c : Columns) (form : ℕ) → form < 2 ^ 64 → ((k : ℕ) → c.source ≡ Some k → k < 2 ^ 64) → All IsPart (file_parts c form)
file_parts_fit c form small sources =
    let t = given_part c.timestamp (DW_LNCT_timestamp.0, DW_FORM_udata.0) in
    let s = given_part c.size (DW_LNCT_size.0, DW_FORM_udata.0) in
    let m = given_part c.md5 (DW_LNCT_MD5.0, DW_FORM_data16.0) in
    let o = source_part c.source in
    let d : ℕ × ℕ = (DW_LNCT_directory_index.0, DW_FORM_udata.0) in
    All-cons IsPart (DW_LNCT_path.0, form) (d ∷ (t ++ (s ++ (m ++ o)))) (omega arith, small)
    (All-cons IsPart d (t ++ (s ++ (m ++ o))) (omega arith, omega arith)
    (All-append IsPart t (s ++ (m ++ o)) (given_parts c.timestamp DW_LNCT_timestamp.0 DW_FORM_udata.0 (omega arith) (omega arith))
    (All-append IsPart s (m ++ o) (given_parts c.size DW_LNCT_size.0 DW_FORM_udata.0 (omega arith) (omega arith))
    (All-append IsPart m o (given_parts c.md5 DW_LNCT_MD5.0 DW_FORM_data16.0 (omega arith) (omega arith)) (source_parts c.source sources)))))

-- entries after the description of their parts
pub described : (big : Bool) (e : Encoding) (ps : List (ℕ × ℕ)) (count : ℕ) (entries rest : List ℕ) (read : List ReadEntry) → All IsPart ps → count < 2 ^ 64 →
    many_at count (entry_at big e ps untold) entries ≡ Some (read, rest) → new_entries_at big e (length ps ∷ (flat_map part_bytes ps ++ (uleb count ++ entries))) ≡ Some (read, rest)
unfolding new_entries_at
described big e ps count entries rest read all small h =
    bind_is _ (ps, uleb count ++ entries) _ (formats-again ps (uleb count ++ entries) all)
    ∙ bind_is _ (count, entries) _ (uleb-again count entries small)
    ∙ h

-- so many things, each of which is read again from its text
module _ {X : Type 0} (P : X → Type 0) (text : X → Model) (read : X → ReadEntry) (one : Parser ReadEntry) (big : Bool) (l : Layout)
    (law : (x : X) (bytes rest : List ℕ) → P x → text x big l ≡ Some bytes → one (bytes ++ rest) ≡ Some (read x, rest)) where
  pub many-again : (xs : List X) (bytes rest : List ℕ) → All P xs → texts text xs big l ≡ Some bytes → many_at (length xs) one (bytes ++ rest) ≡ Some (map read xs, rest)
  unfolding many_at
  many-again [] bytes rest all t =
      let same : [] ≡ bytes = cc in
      ap (λ ys. Some ([], ys ++ rest)) (sym same)
  many-again (x ∷ xs) bytes rest all t =
      let p = followed_parts (text x big l) (texts text xs big l) bytes t in
      ap (λ ys. many_at (suc (length xs)) one (ys ++ rest)) p.4
      ∙ ap (many_at (suc (length xs)) one) (append_assoc p.0 p.1 rest)
      ∙ bind_is _ (read x, p.1 ++ rest) (λ y. many_at (length xs) one y.1 >>= λ ys. Some (y.0 ∷ ys.0, ys.1)) (law x p.0 (p.1 ++ rest) (All-head P x xs all) p.2)
      ∙ bind_is _ (map read xs, rest) (λ ys. Some (read x ∷ ys.0, ys.1)) (many-again xs p.1 rest (All-tail P x xs all) p.3)

-- an entry of a list that an empty name closes
pub record IsOldEntry (rest_at : List ℕ → Parser ReadEntry) (x : ReadEntry) (bytes : List ℕ) : Type 0 where
  pub name : List ℕ
  pub after : List ℕ
  pub is : bytes ≡ closed name ++ after
  pub text : IsText name
  pub full : length name == 0 ≡ false
  pub again : (rest : List ℕ) → rest_at name (after ++ rest) ≡ Some (x, rest)

-- a name that isn't empty goes on
full_step : (rest_at : List ℕ → Parser ReadEntry) (name bytes : List ℕ) (more : Parser (List ReadEntry)) (x : ReadEntry × List ℕ) (xs : List ReadEntry × List ℕ) → length name == 0 ≡ false →
    rest_at name bytes ≡ Some x → more x.1 ≡ Some xs →
    if◌then◌else◌ {A = Option (List ReadEntry × List ℕ)} (length name == 0) (Some ([], bytes)) (rest_at name bytes >>= λ y. more y.1 >>= λ ys. Some (y.0 ∷ ys.0, ys.1)) ≡ Some (x.0 ∷ xs.0, xs.1)
full_step rest_at name bytes more x xs full one rest =
    rw full (bind_is _ x (λ y. more y.1 >>= λ ys. Some (y.0 ∷ ys.0, ys.1)) one ∙ bind_is _ xs (λ ys. Some (x.0 ∷ ys.0, ys.1)) rest)

module _ {X : Type 0} (P : X → Type 0) (text : X → Model) (read : X → ReadEntry) (rest_at : List ℕ → Parser ReadEntry) (big : Bool) (l : Layout)
    (law : (x : X) (bytes : List ℕ) → P x → text x big l ≡ Some bytes → IsOldEntry rest_at (read x) bytes) where
  entry_long : (x : X) (bytes : List ℕ) → IsOldEntry rest_at (read x) bytes → 0 < length bytes
  entry_long x bytes o = omega (arith, ap length o.is, length-append (closed o.name) o.after, length-append o.name (0 ∷ []))

  texts_long : (xs : List X) (bytes : List ℕ) → All P xs → texts text xs big l ≡ Some bytes → length xs ≤ length bytes
  texts_long [] bytes all t = omega arith
  texts_long (x ∷ xs) bytes all t =
      let p = followed_parts (text x big l) (texts text xs big l) bytes t in
      omega (arith, ap length p.4, length-append p.0 p.1, entry_long x p.0 (law x p.0 (All-head P x xs all) p.2), texts_long xs p.1 (All-tail P x xs all) p.3)

  listed-again : (fuel : ℕ) (xs : List X) (bytes rest : List ℕ) → All P xs → texts text xs big l ≡ Some bytes → length xs < fuel → old_entries_at fuel rest_at (bytes ++ 0 ∷ rest) ≡ Some (map read xs, rest)
  unfolding old_entries_at text_at
  listed-again zero xs bytes rest all t more = absurd (omega arith)
  listed-again (suc fuel) [] bytes rest all t more =
      let same : [] ≡ bytes = cc in
      ap (λ ys. old_entries_at (suc fuel) rest_at (ys ++ 0 ∷ rest)) (sym same)
  listed-again (suc fuel) (x ∷ xs) bytes rest all t more =
      let p = followed_parts (text x big l) (texts text xs big l) bytes t in
      let o = law x p.0 (All-head P x xs all) p.2 in
      let last : List ℕ = p.1 ++ 0 ∷ rest in
      let grouped : ((o.name ++ 0 ∷ []) ++ o.after ++ p.1) ++ 0 ∷ rest ≡ o.name ++ 0 ∷ (o.after ++ last) = simp append_assoc in
      ap (λ ys. old_entries_at (suc fuel) rest_at (ys ++ 0 ∷ rest)) (p.4 ∙ ap (λ ys. ys ++ p.1) o.is)
      ∙ ap (old_entries_at (suc fuel) rest_at) grouped
      ∙ bind_is _ (o.name, o.after ++ last) _ (text-again o.name (o.after ++ last) o.text)
      ∙ full_step rest_at o.name (o.after ++ last) (old_entries_at fuel rest_at) (read x, last) (map read xs, rest) o.full (o.again last) (listed-again fuel xs p.1 rest (All-tail P x xs all) p.3 (omega arith))

  pub old-again : (xs : List X) (bytes rest : List ℕ) → All P xs → texts text xs big l ≡ Some bytes → old_entries_at (length (bytes ++ 0 ∷ rest)) rest_at (bytes ++ 0 ∷ rest) ≡ Some (map read xs, rest)
  old-again xs bytes rest all t = listed-again (length (bytes ++ 0 ∷ rest)) xs bytes rest all t (omega (arith, texts_long xs bytes all t, length-append bytes (0 ∷ rest)))
