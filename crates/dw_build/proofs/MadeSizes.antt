-- The bytes of a generated unit and of its abbreviation table, bounded: an entry has at most 28, and its shape at most 73.
use Rattle.std.proofs.Common.{◌≡◌, ◌∙◌, sym, ap, subst, refl, arith, ℕ, suc, ◌+◌, ◌*◌, ◌<◌, ◌≤◌, ◌^◌, Bool, true, false, List, [], ◌∷◌, ◌++◌, length}
use Rattle.std.specs.Prelude.{All, None, Option, not, ◌==◌}
use Rattle.std.specs.List.{flat_map}
use Rattle.std.proofs.lemmas.List.{length-append}
use Rattle.std.proofs.lemmas.List.Elements.{All-from_recursion, All-nil, All-cons, All-head, All-tail, All-weaker, All-filter}
use Rattle.std.proofs.lemmas.List.Sums.{length-filter, count_by-le-length}
use Rattle.dw_base.specs.Abbreviations.{Specification, Shape, Declaration}
use Rattle.dw_base.specs.Entries.{Mark, Open, Null}
use Rattle.dw_base.specs.Forms.{implicit_const}
use Rattle.dw_base.specs.Leb128.{uleb}
use Rattle.dw_base.specs.Spellable.{IsConstant, IsSpecification, AreDeclarations}
use Rattle.dw_base.specs.Spelling.{constant_bytes, specification_bytes, children_byte, shape_bytes, declaration_bytes}
use Rattle.dw_base.proofs.Leb128Laws.{uleb_short}
use Rattle.dw_abbrev.specs.Codes.{numbered, declarations, IsShape}
use Rattle.dw_abbrev.specs.Equal.{shape_eq}
use Rattle.dw_abbrev.proofs.Again.{declarations_are}
use Rattle.dw_entries.specs.Entries.{EntryValue, entry_at}
use Rattle.dw_entries.specs.Tree.{preorder}
use Rattle.dw_tree.specs.Coded.{code_of_entry}
use Rattle.dw_tree.specs.DistinctShapes.{entry_shapes, other_shapes, distinct_shapes}
use Rattle.dw_tree.specs.Laid.{entry_size, size_of, sizes_of, sized}
use Rattle.dw_tree.specs.Places.{found}
use Rattle.dw_tree.specs.Shapes.{shape_of_entry}
use Rattle.dw_tree.specs.Whole.{tree_shapes, tree_declared, tree_table, tree_size}
use Rattle.dw_build.specs.Generated.{generated_encoding, base_type}
use Rattle.dw_build.proofs.Drafts.{variable_that}
use Rattle.dw_build.proofs.MadeTrees.{made_root, made_entries, made_marks, IfOpen, each_mark, length-marks, made_tree}

-- Entries

-- with any code, wherever entries stand
abbrev IsShort : EntryValue → Type 0
IsShort x = (place : ℕ → Option ℕ) (code : ℕ) → entry_size generated_encoding place code x ≤ 28

root_short : (n : ℕ) → IsShort (made_root n)
root_short n place code = omega (arith, uleb_short code)

base_short : IsShort base_type
base_short place code = omega (arith, uleb_short code)

variable_short : (b : Bool) (id i : ℕ) → i < 2 ^ 64 → IsShort (variable_that b id i)
variable_short true id i small place code = omega (arith, uleb_short code, uleb_short i)
variable_short false id i small place code = omega (arith, uleb_short code, uleb_short i)

sizes_bounded : (size : ℕ → ℕ) (es : List EntryValue) (ms : List (Mark ℕ)) → All (λ m. size_of size es m ≤ 28) ms → sizes_of size es ms ≤ 28 * length ms
sizes_bounded size es [] h = omega arith
sizes_bounded size es (m ∷ ms) h =
    let here = All-head (λ m. size_of size es m ≤ 28) m ms h in
    let more = sizes_bounded size es ms (All-tail (λ m. size_of size es m ≤ 28) m ms h) in
    omega (arith, here, more)

-- Shapes

-- a shape that a table can declare, of at most three attributes, without a constant
record IsSmall (s : Shape) : Type 0 where
  is : IsShape s
  bare : All (λ (a : Specification). a.constant ≡ None) s.attributes
  few : length s.attributes ≤ 3

specification_short : (s : Specification) → s.constant ≡ None → length (specification_bytes s) ≤ 20
specification_short s none =
    let parts = length-append (uleb s.name) (uleb s.form ++ constant_bytes s.constant) in
    let rest = length-append (uleb s.form) (constant_bytes s.constant) in
    let constant : length (constant_bytes s.constant) ≡ 0 = ap (λ c. length (constant_bytes c)) none in
    omega (arith, parts, rest, constant, uleb_short s.name, uleb_short s.form)

specifications_short : (ss : List Specification) → All (λ (a : Specification). a.constant ≡ None) ss → length (flat_map specification_bytes ss) ≤ 20 * length ss
specifications_short [] h = omega arith
specifications_short (s ∷ ss) h =
    let here = specification_short s (All-head (λ (a : Specification). a.constant ≡ None) s ss h) in
    let more = specifications_short ss (All-tail (λ (a : Specification). a.constant ≡ None) s ss h) in
    omega (arith, here, more, length-append (specification_bytes s) (flat_map specification_bytes ss))

shape_short : (s : Shape) → IsSmall s → length (shape_bytes s) ≤ 73
shape_short s small =
    let specifications = flat_map specification_bytes s.attributes in
    let parts = length-append (uleb s.tag) (children_byte s.has_children ∷ (specifications ++ 0 ∷ 0 ∷ [])) in
    let rest = length-append specifications (0 ∷ 0 ∷ []) in
    omega (arith, parts, rest, uleb_short s.tag, specifications_short s.attributes small.bare, small.few)

numbered_short : (code : ℕ) (ss : List Shape) → All IsSmall ss → length (flat_map declaration_bytes (numbered code ss)) ≤ 83 * length ss
numbered_short code [] h = omega arith
numbered_short code (s ∷ ss) h =
    let here = shape_short s (All-head IsSmall s ss h) in
    let more = numbered_short (suc code) ss (All-tail IsSmall s ss h) in
    let d : Declaration = record { code = code; shape = s } in
    omega (arith, here, more, uleb_short code, length-append (uleb code) (shape_bytes s), length-append (declaration_bytes d) (flat_map declaration_bytes (numbered (suc code) ss)))

-- the different shapes of a list are no more than its shapes, and have what these have
distinct_small : (ss : List Shape) → All IsSmall ss → All IsSmall (distinct_shapes ss)
distinct_small [] h = All-nil IsSmall
distinct_small (s ∷ ss) h =
    All-cons IsSmall s (other_shapes s (distinct_shapes ss)) (All-head IsSmall s ss h)
    (All-filter (λ x. not (shape_eq x s)) IsSmall (distinct_shapes ss) (distinct_small ss (All-tail IsSmall s ss h)))

distinct_few : (ss : List Shape) → length (distinct_shapes ss) ≤ length ss
distinct_few [] = omega arith
distinct_few (s ∷ ss) =
    let kept : Shape → Bool = λ x. not (shape_eq x s) in
    omega (arith, distinct_few ss, length-filter kept (distinct_shapes ss), count_by-le-length kept (distinct_shapes ss))

abbrev IsOfSmall : EntryValue → Type 0
IsOfSmall x = IsSmall (shape_of_entry generated_encoding x)

marks_small : (es : List EntryValue) (ms : List (Mark ℕ)) → All (IfOpen IsOfSmall es) ms → All IsSmall (entry_shapes generated_encoding es ms)
marks_small es [] h = All-nil IsSmall
marks_small es (Open i ∷ ms) h =
    All-cons IsSmall (shape_of_entry generated_encoding (entry_at es i)) (entry_shapes generated_encoding es ms) (All-head (IfOpen IsOfSmall es) (Open i) ms h)
    (marks_small es ms (All-tail (IfOpen IsOfSmall es) (Open i) ms h))
marks_small es (Null ∷ ms) h = marks_small es ms (All-tail (IfOpen IsOfSmall es) Null ms h)

marks_few : (es : List EntryValue) (ms : List (Mark ℕ)) → length (entry_shapes generated_encoding es ms) ≤ length ms
marks_few es [] = omega arith
marks_few es (Open i ∷ ms) = omega (arith, marks_few es ms)
marks_few es (Null ∷ ms) = omega (arith, marks_few es ms)

bare_specification : (name form : ℕ) → 0 < name → name < 2 ^ 16 → form < 2 ^ 16 → (form == implicit_const) ≡ false → let s : Specification = record { name = name; form = form; constant = None } in IsSpecification s
bare_specification name form some name_fits form_fits plain = record {
  name = some;
  name_fits = name_fits;
  form_fits = form_fits;
  constant = subst (λ (b : Bool). IsConstant b None) (sym plain) tt;
}

-- the attributes of entries: byte size, type and specification
data1_size : IsSpecification (record { name = 0x0b; form = 0x0b; constant = None })
data1_size = bare_specification 0x0b 0x0b (omega arith) (omega arith) (omega arith) refl

udata_size : IsSpecification (record { name = 0x0b; form = 0x0f; constant = None })
udata_size = bare_specification 0x0b 0x0f (omega arith) (omega arith) (omega arith) refl

ref4_type : IsSpecification (record { name = 0x49; form = 0x13; constant = None })
ref4_type = bare_specification 0x49 0x13 (omega arith) (omega arith) (omega arith) refl

ref_addr_specification : IsSpecification (record { name = 0x47; form = 0x10; constant = None })
ref_addr_specification = bare_specification 0x47 0x10 (omega arith) (omega arith) (omega arith) refl

abbrev IsBare : Specification → Type 0
IsBare a = a.constant ≡ None

root_small : (n : ℕ) → IsOfSmall (made_root n)
root_small n = record { is = record { tag = omega arith; tag_fits = omega arith; attributes = All-nil IsSpecification }; bare = All-nil IsBare; few = omega arith }

base_small : IsOfSmall base_type
base_small = record {
  is = record { tag = omega arith; tag_fits = omega arith; attributes = All-cons IsSpecification _ [] data1_size (All-nil IsSpecification) };
  bare = All-cons IsBare _ [] refl (All-nil IsBare);
  few = omega arith;
}

variable_small : (b : Bool) (id i : ℕ) → i < 2 ^ 64 → IsOfSmall (variable_that b id i)
variable_small true id i small =
    let attributes = (shape_of_entry generated_encoding (variable_that true id i)).attributes in
    record {
      is = record {
        tag = omega arith;
        tag_fits = omega arith;
        attributes = All-from_recursion IsSpecification attributes (udata_size, (ref4_type, (ref_addr_specification, tt)));
      };
      bare = All-from_recursion IsBare attributes (refl, (refl, (refl, tt)));
      few = omega arith;
    }
variable_small false id i small =
    let attributes = (shape_of_entry generated_encoding (variable_that false id i)).attributes in
    record {
      is = record { tag = omega arith; tag_fits = omega arith; attributes = All-from_recursion IsSpecification attributes (udata_size, (ref4_type, tt)) };
      bare = All-from_recursion IsBare attributes (refl, (refl, tt));
      few = omega arith;
    }

module _ (from n : ℕ) (within : from + n ≤ 2 ^ 64) where
  abbrev es : List EntryValue
  es = made_entries from n

  pub tree_few : length (preorder es) ≡ 3 + n
  tree_few = ap length (made_tree from n) ∙ length-marks n

  -- the bytes of its entries
  pub tree_bounded : (place : ℕ → ℕ) → tree_size generated_encoding es place ≤ 28 * (3 + n)
  tree_bounded place =
      let size = sized generated_encoding es (tree_shapes generated_encoding es) place in
      let each : (m : Mark ℕ) → IfOpen IsShort es m → size_of size es m ≤ 28 = mark_short size (found place) (code_of_entry generated_encoding es (tree_shapes generated_encoding es)) (λ i. refl) in
      let all = All-weaker (IfOpen IsShort es) (λ m. size_of size es m ≤ 28) each (made_marks n) (each_mark IsShort from n within (root_short n) base_short variable_short) in
      let bound = sizes_bounded size es (made_marks n) all in
      let same : tree_size generated_encoding es place ≡ sizes_of size es (made_marks n) = ap (sizes_of size es) (made_tree from n) in
      omega (arith, bound, same, length-marks n)
    where
      mark_short : (size : ℕ → ℕ) (at : ℕ → Option ℕ) (code : ℕ → ℕ) → ((i : ℕ) → size i ≡ entry_size generated_encoding at (code i) (entry_at es i)) → (m : Mark ℕ) → IfOpen IsShort es m → size_of size es m ≤ 28
      mark_short size at code is (Open i) h = omega (arith, is i, h at (code i))
      mark_short size at code is Null h = omega arith

  shapes_small : All IsSmall (tree_shapes generated_encoding es)
  shapes_small =
      distinct_small (entry_shapes generated_encoding es (preorder es))
      (subst (λ ms. All IsSmall (entry_shapes generated_encoding es ms)) (sym (made_tree from n)) (marks_small es (made_marks n) (each_mark IsOfSmall from n within (root_small n) base_small variable_small)))

  shapes_few : length (tree_shapes generated_encoding es) ≤ 3 + n
  shapes_few = omega (arith, distinct_few (entry_shapes generated_encoding es (preorder es)), marks_few es (preorder es), tree_few)

  -- the bytes of its table
  pub table_bounded : length (tree_table generated_encoding es) ≤ 83 * (3 + n) + 1
  table_bounded =
      let shapes = tree_shapes generated_encoding es in
      omega (arith, numbered_short 1 shapes shapes_small, shapes_few, length-append (flat_map declaration_bytes (declarations shapes)) (0 ∷ []))

  pub table_declared : n < 2 ^ 32 → AreDeclarations (tree_declared generated_encoding es)
  table_declared few =
      declarations_are (tree_shapes generated_encoding es) (All-weaker IsSmall IsShape (λ s small. small.is) (tree_shapes generated_encoding es) shapes_small) (omega (arith, shapes_few))
