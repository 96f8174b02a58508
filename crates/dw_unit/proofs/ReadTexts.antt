-- What is written of a unit is what is read of it.
use Rattle.std.specs.Prelude.{◌≡◌, ℕ, Bool, true, false, ◌&&◌, List, [], ◌∷◌, ◌++◌, Option, Some, None, IsTrue, if◌then◌else◌, refl}
use Rattle.std.specs.List.{flat_map}
use Rattle.std.proofs.Common.{sym, ◌∙◌, ap}
use Rattle.dw_base.specs.Numbers.{◌>>=◌, when, num, is_width, fits, word_of}
use Rattle.dw_base.specs.Leb128.{uleb}
use Rattle.dw_base.specs.Abbreviations.{Shape}
use Rattle.dw_base.specs.Forms.{Operand, Kind, Number, Fixed, kind_of}
use Rattle.dw_base.specs.Entries.{ReadAttribute, ReadEntry, Mark, Open, Null}
use Rattle.dw_base.specs.Spelling.{operand_bytes, attribute_bytes, mark_bytes, body_bytes}
use Rattle.dw_base.specs.declared.common.Encoding.{Encoding}
use Rattle.dw_base.specs.declared.common.Format.{Format}
use Rattle.dw_base.specs.declared.common.Format.TheVariants.{Dwarf32, Dwarf64}
use Rattle.dw_writer.specs.Texts.{Text, num_text, followed}
use Rattle.dw_writer.specs.Layout.{Layout}
use Rattle.dw_writer.specs.SectionTexts.{bytes_text}
use Rattle.dw_writer.specs.Drafts.{Info, no_draft, whole, then_draft}
use Rattle.dw_entries.specs.declared.attribute.Attribute.{Attribute}
use Rattle.dw_entries.specs.Entries.{EntryValue, has_any, has_sibling, entry_at}
use Rattle.dw_entries.specs.Targets.{Targets, UnitTargets, targets_in}
use Rattle.dw_entries.specs.Tree.{preorder}
use Rattle.dw_entries.specs.Content.{number_in}
use Rattle.dw_entries.specs.Values.{form_of, constant_of, operand_of, reference_form, value_text}
use Rattle.dw_entries.proofs.ContentLaws.{kind_of-reference}
use Rattle.dw_tree.specs.Coded.{code_at}
use Rattle.dw_tree.specs.Shapes.{sibling_name}
use Rattle.dw_tree.specs.UnitText.{fitting_text, attributes_draft, sibling_draft, entry_draft, mark_draft, marks_draft, tree_draft}
use Rattle.dw_tree.specs.Read.{each, read_attribute, read_sibling, with_sibling, read_attributes, read_entry, read_mark, read_coded, read_marks, read_tree}
use Rattle.dw_tree.specs.Whole.{tree_shapes}

-- Texts of what may be missing

-- one before others
first_text : {A B : Type 0} (g : B → List ℕ) (mk : A → B) (o : Option A) (r : Option (List B)) →
    followed (o >>= λ x. Some (g (mk x))) (r >>= λ ys. Some (flat_map g ys)) ≡ (((o >>= λ x. Some (mk x)) >>= λ y. r >>= λ ys. Some (y ∷ ys)) >>= λ zs. Some (flat_map g zs))
unfolding followed
first_text g mk None r = refl
first_text g mk (Some x) None = refl
first_text g mk (Some x) (Some ys) = refl

-- bytes before others
bytes_before : {A : Type 0} (g : A → List ℕ) (xs : List ℕ) (o : Option A) → ◌≡◌ {A = Text} (followed (Some xs) (o >>= λ y. Some (g y))) (o >>= λ y. Some (xs ++ g y))
unfolding followed
bytes_before g xs None = refl
bytes_before g xs (Some y) = refl

bind_twice : {A B : Type 0} (o : Option A) (f : A → B) (g : B → List ℕ) → ◌≡◌ {A = Text} (o >>= λ x. Some (g (f x))) ((o >>= λ x. Some (f x)) >>= λ y. Some (g y))
bind_twice None f g = refl
bind_twice (Some x) f g = refl

-- The place past an entry

width-word : (format : Format) → IsTrue (is_width (word_of format))
width-word Dwarf32 = refl
width-word Dwarf64 = refl

-- a number, where it fits, as an operand of a form of its width
number_text-read : (big : Bool) (k : Option Kind) (w n : ℕ) (a b : Bool) → IsTrue a → k ≡ Some (Fixed w) →
    ◌≡◌ {A = Text} (if a && b then Some (num big w n) else None) (when b (Some (Number n)) >>= λ o. Some (operand_bytes big k o))
number_text-read big k w n true true h is = ap (λ j. let t : Text = Some (operand_bytes big j (Number n)) in t) (sym is)
number_text-read big k w n true false h is = refl
number_text-read big k w n false b h is = absurd (let x : IsTrue false = h in cc)

module _ (big : Bool) (e : Encoding) (l : Layout) where
  abbrev bytes_of : List ReadAttribute → List ℕ
  bytes_of ys = flat_map (attribute_bytes big e) ys

  abbrev sibling_of : Operand → ReadAttribute
  sibling_of o = record { name = sibling_name; form = reference_form e.format; constant = None; operand = o }

  -- it is a word
  sibling_word : (past : ℕ) → ◌≡◌ {A = Text} (fitting_text (word_of e.format) past big l) (read_sibling e past >>= λ s. Some (attribute_bytes big e s))
  unfolding fitting_text num_text
  sibling_word past =
      number_text-read big (kind_of e (reference_form e.format)) (word_of e.format) past (is_width (word_of e.format)) (fits (word_of e.format) past) (width-word e.format) (kind_of-reference e e.format)
      ∙ bind_twice (number_in (word_of e.format) past) sibling_of (attribute_bytes big e)

  -- it stands first
  sibling_first : (s : Option ReadAttribute) (o : Option (List ReadAttribute)) →
      ◌≡◌ {A = Text} (followed (s >>= λ x. Some (attribute_bytes big e x)) (o >>= λ ys. Some (bytes_of ys))) ((o >>= λ ys. s >>= λ x. Some (x ∷ ys)) >>= λ zs. Some (bytes_of zs))
  unfolding followed
  sibling_first None None = refl
  sibling_first None (Some ys) = refl
  sibling_first (Some x) None = refl
  sibling_first (Some x) (Some ys) = refl

  nothing_first : (o : Option (List ReadAttribute)) → ◌≡◌ {A = Text} (followed (Some []) (o >>= λ ys. Some (bytes_of ys))) ((o >>= λ ys. Some ys) >>= λ zs. Some (bytes_of zs))
  unfolding followed
  nothing_first None = refl
  nothing_first (Some ys) = refl

  -- where the entry names it
  sibling_text : (info : Info) (past : ℕ) (x : EntryValue) (o : Option (List ReadAttribute)) →
      ◌≡◌ {A = Text} (followed ((sibling_draft e past x).text info big l) (o >>= λ ys. Some (bytes_of ys))) ((o >>= with_sibling e past x) >>= λ zs. Some (bytes_of zs))
  sibling_text info past x o = either (has_sibling x)
    where
      either : (b : Bool) →
          ◌≡◌ {A = Text} (followed ((if b then whole (word_of e.format) (fitting_text (word_of e.format) past) else no_draft).text info big l) (o >>= λ ys. Some (bytes_of ys)))
          ((o >>= λ xs. if b then (read_sibling e past >>= λ s. Some (s ∷ xs)) else Some xs) >>= λ zs. Some (bytes_of zs))
      either true = ap (λ t. followed t (o >>= λ ys. Some (bytes_of ys))) (sibling_word past) ∙ sibling_first (read_sibling e past) o
      either false = nothing_first o

-- Attributes, entries and trees

module _ (big : Bool) (e : Encoding) (u : UnitTargets) (l : Layout) (info : Info) where
  abbrev targets : Targets
  targets = targets_in u l info

  attributes_text : (xs : List Attribute) → (attributes_draft e u xs).text info big l ≡ (each (read_attribute big e targets) xs >>= λ ys. Some (bytes_of big e l ys))
  unfolding then_draft
  attributes_text [] = refl
  attributes_text (a ∷ xs) =
      ap (followed (value_text big e targets a.value)) (attributes_text xs)
      ∙ first_text (attribute_bytes big e) (λ o. let r : ReadAttribute = record { name = a.name.0; form = form_of e a.value; constant = constant_of e a.value; operand = o } in r) (operand_of big e targets a.value) (each (read_attribute big e targets) xs)

  entry_text : (code i : ℕ) (x : EntryValue) → (entry_draft e u code i x).text info big l ≡ (read_entry big e targets code i x >>= λ r. Some (mark_bytes big e (Open r)))
  unfolding then_draft bytes_text
  entry_text code i x =
      ap (λ t. followed (Some (uleb code)) (followed ((sibling_draft e (u.past i) x).text info big l) t)) (attributes_text x.attributes)
      ∙ ap (followed (Some (uleb code))) (sibling_text big e l info (u.past i) x (each (read_attribute big e targets) x.attributes))
      ∙ bytes_before (bytes_of big e l) (uleb code) (read_attributes big e targets i x)
      ∙ bind_twice (read_attributes big e targets i x) (λ ys. let r : ReadEntry = record { code = code; tag = x.tag; has_children = has_any x.children; attributes = ys } in r) (λ r. mark_bytes big e (Open r))

  mark_text : (es : List EntryValue) (code : ℕ) (m : Mark ℕ) → (mark_draft e es u code m).text info big l ≡ (read_mark big e targets es code m >>= λ r. Some (mark_bytes big e r))
  unfolding bytes_text
  mark_text es code (Open i) = entry_text code i (entry_at es i) ∙ bind_twice (read_entry big e targets code i (entry_at es i)) (λ x. let r : Mark ReadEntry = Open x in r) (mark_bytes big e)
  mark_text es code Null = refl

  before_others : (o : Option (Mark ReadEntry)) (r : Option (List (Mark ReadEntry))) →
      ◌≡◌ {A = Text} (followed (o >>= λ m. Some (mark_bytes big e m)) (r >>= λ ms. Some (body_bytes big e ms))) ((o >>= λ m. r >>= λ ms. Some (m ∷ ms)) >>= λ ms. Some (body_bytes big e ms))
  unfolding followed
  before_others None r = refl
  before_others (Some m) None = refl
  before_others (Some m) (Some ms) = refl

  -- the text of marks spells what is read of them
  pub marks_text : (es : List EntryValue) (shapes : List Shape) (ms : List (Mark ℕ)) → (marks_draft e es u shapes ms).text info big l ≡ (read_marks big e targets es shapes ms >>= λ rs. Some (body_bytes big e rs))
  unfolding then_draft
  marks_text es shapes [] = refl
  marks_text es shapes (m ∷ ms) =
      ap (λ t. followed t ((marks_draft e es u shapes ms).text info big l)) (mark_text es (code_at e es shapes m) m)
      ∙ ap (followed (read_coded big e targets es shapes m >>= λ r. Some (mark_bytes big e r))) (marks_text es shapes ms)
      ∙ before_others (read_coded big e targets es shapes m) (read_marks big e targets es shapes ms)

  -- so does that of a unit's entries
  pub tree_text : (es : List EntryValue) → (tree_draft e es u).text info big l ≡ (read_tree big e targets es >>= λ ms. Some (body_bytes big e ms))
  tree_text es = marks_text es (tree_shapes e es) (preorder es)
