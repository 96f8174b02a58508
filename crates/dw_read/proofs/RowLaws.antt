-- Rows, from their codes and their attributes.
use Rattle.std.proofs.Common.{◌≡◌, ◌∙◌, sym, ap, subst, ℕ, ◌<◌, ◌≤◌, length, ⊎_elim, Bool, List, Some, None, Ok, Err, ◌⊎◌, inl, inr, refl}
use borrow.Author.Tests.{ne_eqb}
use Rattle.std.proofs.lemmas.Bool.{cases_lt}
use Rattle.dw_base.specs.Numbers.{bytes_at}
use Rattle.dw_base.specs.Abbreviations.{Specification, Shape, Declaration, shape_of_code}
use Rattle.dw_base.specs.Entries.{ReadAttribute, ReadEntry, Mark, Open, Null, attributes_at, mark_at}
use Rattle.dw_base.specs.declared.common.Encoding.{Encoding}
use Rattle.dw_read.specs.Reading.{Reading, Reads, Refuses, left}
use Rattle.dw_read.specs.Took.{Took, RefusesOrFull}
use Rattle.dw_read.specs.Reasons.{bytes_read, uleb_read}
use Rattle.dw_read.specs.FormReasons.{attributes_read, mark_read}
use Rattle.dw_read.specs.Rows.{NoCode}
use Rattle.dw_read.specs.declared.error.ReadError.{ReadError}
use Rattle.dw_read.specs.declared.error.ReadError.TheVariants.{NoMemory, UnknownAbbreviation}
use Rattle.dw_read.proofs.Laws.{refuses}
use Rattle.dw_read.proofs.Reasoned.{enough}
use Rattle.dw_read.proofs.Chain.{took, went, went_then, went_order, reads_of}
use Rattle.dw_read.proofs.FormLaws.{attributes_law, mark_law}

-- so many bytes aren't there
pub too_short : (n : ℕ) (old : Reading) (e : ReadError) → Refuses (List ℕ) (bytes_at n) (bytes_read n) old e → length (left old) < n
too_short n old e h = ⊎_elim (λ (l : length (left old) < n). l) (λ (g : n ≤ length (left old)). absurd (enough n old e g h)) (cases_lt (length (left old)) n)

-- a code that can't be read
pub no_code_read : (table : List Declaration) (old : Reading) (e : ReadError) → uleb_read (left old) ≡ Err e → NoCode table old e
unfolding mark_read
no_code_read table old e h = λ big encoding. rw h refl

-- a code that isn't in the table
pub no_declaration : (table : List Declaration) (old : Reading) (code : ℕ) (rest : List ℕ) → uleb_read (left old) ≡ Ok (code, rest) → (code ≡ 0 → ⊥) → shape_of_code table code ≡ None → NoCode table old (UnknownAbbreviation code)
unfolding mark_read
no_declaration table old code rest h n s = λ big encoding. rw (h, ne_eqb code 0 n, s) refl

module _ (big : Bool) (e : Encoding) (table : List Declaration) where
  null_read : (bytes rest : List ℕ) → uleb_read bytes ≡ Ok (0, rest) → mark_read big e table bytes ≡ Ok (Null, rest)
  unfolding mark_read
  null_read bytes rest h = rw h refl

  open_read : (code : ℕ) (s : Shape) (bytes mid rest : List ℕ) (more : List ReadAttribute) → uleb_read bytes ≡ Ok (code, mid) → (code ≡ 0 → ⊥) → shape_of_code table code ≡ Some s → attributes_read big e s.attributes mid ≡ Ok (more, rest)
      → mark_read big e table bytes ≡ Ok (Open (record { code = code; tag = s.tag; has_children = s.has_children; attributes = more }), rest)
  unfolding mark_read
  open_read code s bytes mid rest more h n f a = rw (h, ne_eqb code 0 n, f, a) refl

  open_refused : (code : ℕ) (s : Shape) (bytes mid : List ℕ) (y : ReadError) → uleb_read bytes ≡ Ok (code, mid) → (code ≡ 0 → ⊥) → shape_of_code table code ≡ Some s → attributes_read big e s.attributes mid ≡ Err y → mark_read big e table bytes ≡ Err y
  unfolding mark_read
  open_refused code s bytes mid y h n f a = rw (h, ne_eqb code 0 n, f, a) refl

  pub reads_null : (old dup new : Reading) → dup ≡ old → Took ℕ uleb_read dup new 0 → Reads (Mark ReadEntry) (mark_at big e table) old new Null
  reads_null old dup new q h =
      let k = subst (λ (r : Reading). Took ℕ uleb_read r new 0) q h in
      reads_of (Mark ReadEntry) (mark_at big e table) (mark_read big e table) old new Null (mark_law big e table)
      (took (Mark ReadEntry) (mark_read big e table) old new Null (went ℕ uleb_read old new 0 k) (null_read (left old) (left new) k.value))

  pub reads_entry : (code : ℕ) (s : Shape) (ss : List Specification) (old dup mid new : Reading) (more : List ReadAttribute) → dup ≡ old → dup.is_big ≡ big → Took ℕ uleb_read dup mid code → (code ≡ 0 → ⊥) → shape_of_code table code ≡ Some s → ss ≡ s.attributes
      → Took (List ReadAttribute) (attributes_read mid.is_big e ss) mid new more → Reads (Mark ReadEntry) (mark_at big e table) old new (Open (record { code = code; tag = s.tag; has_children = s.has_children; attributes = more }))
  reads_entry code s ss old dup mid new more q b h n f l a =
      let k = subst (λ (r : Reading). Took ℕ uleb_read r mid code) q h in
      let w = went ℕ uleb_read old mid code k in
      let o : mid.is_big ≡ big = went_order old mid w ∙ ap (λ (r : Reading). r.is_big) (sym q) ∙ b in
      let v : attributes_read big e s.attributes (left mid) ≡ Ok (more, left new) = subst (λ (x : Bool). attributes_read x e s.attributes (left mid) ≡ Ok (more, left new)) o (subst (λ (x : List Specification). attributes_read mid.is_big e x (left mid) ≡ Ok (more, left new)) l a.value) in
      reads_of (Mark ReadEntry) (mark_at big e table) (mark_read big e table) old new _ (mark_law big e table)
      (took (Mark ReadEntry) (mark_read big e table) old new _ (went_then old mid new w (went (List ReadAttribute) (attributes_read mid.is_big e ss) mid new more a)) (open_read code s (left old) (left mid) (left new) more k.value n f v))

  pub refuses_code : (old dup : Reading) (y : ReadError) → dup ≡ old → NoCode table dup y → Refuses (Mark ReadEntry) (mark_at big e table) (mark_read big e table) old y
  refuses_code old dup y q h = refuses (Mark ReadEntry) (mark_at big e table) (mark_read big e table) old y (mark_law big e table) (subst (λ (r : Reading). mark_read big e table (left r) ≡ Err y) q (h big e))

  pub refuses_entry : (code : ℕ) (s : Shape) (ss : List Specification) (old dup mid : Reading) (y : ReadError) → dup ≡ old → dup.is_big ≡ big → Took ℕ uleb_read dup mid code → (code ≡ 0 → ⊥) → shape_of_code table code ≡ Some s → ss ≡ s.attributes
      → RefusesOrFull (List ReadAttribute) (attributes_read mid.is_big e ss) mid y → (y ≡ NoMemory) ⊎ Refuses (Mark ReadEntry) (mark_at big e table) (mark_read big e table) old y
  refuses_entry code s ss old dup mid y q b h n f l (inl m) = inl m
  refuses_entry code s ss old dup mid y q b h n f l (inr a) =
      let k = subst (λ (r : Reading). Took ℕ uleb_read r mid code) q h in
      let o : mid.is_big ≡ big = went_order old mid (went ℕ uleb_read old mid code k) ∙ ap (λ (r : Reading). r.is_big) (sym q) ∙ b in
      let v : attributes_read big e s.attributes (left mid) ≡ Err y = subst (λ (x : Bool). attributes_read x e s.attributes (left mid) ≡ Err y) o (subst (λ (x : List Specification). attributes_read mid.is_big e x (left mid) ≡ Err y) l a) in
      inr (refuses (Mark ReadEntry) (mark_at big e table) (mark_read big e table) old y (mark_law big e table) (open_refused code s (left old) (left mid) y k.value n f v))

-- attributes that are passed
pub reads_attributes : (big : Bool) (e : Encoding) (ss ts : List Specification) (old dup new : Reading) (xs : List ReadAttribute) → dup ≡ old → dup.is_big ≡ big → ss ≡ ts → Took (List ReadAttribute) (attributes_read dup.is_big e ss) dup new xs → Reads (List ReadAttribute) (attributes_at big e ts) old new xs
reads_attributes big e ss ts old dup new xs q b l h =
    let k = subst (λ (x : List Specification). Took (List ReadAttribute) (attributes_read dup.is_big e x) dup new xs) l h in
    let m = subst (λ (x : Bool). Took (List ReadAttribute) (attributes_read x e ts) dup new xs) b k in
    reads_of (List ReadAttribute) (attributes_at big e ts) (attributes_read big e ts) old new xs (attributes_law big e ts) (subst (λ (r : Reading). Took (List ReadAttribute) (attributes_read big e ts) r new xs) q m)

pub refuses_attributes : (big : Bool) (e : Encoding) (ss ts : List Specification) (old dup : Reading) (y : ReadError) → dup ≡ old → dup.is_big ≡ big → ss ≡ ts → attributes_read dup.is_big e ss (left dup) ≡ Err y
    → Refuses (List ReadAttribute) (attributes_at big e ts) (attributes_read big e ts) old y
refuses_attributes big e ss ts old dup y q b l h =
    let k = subst (λ (x : List Specification). attributes_read dup.is_big e x (left dup) ≡ Err y) l h in
    let m = subst (λ (x : Bool). attributes_read x e ts (left dup) ≡ Err y) b k in
    refuses (List ReadAttribute) (attributes_at big e ts) (attributes_read big e ts) old y (attributes_law big e ts) (subst (λ (r : Reading). attributes_read big e ts (left r) ≡ Err y) q m)
