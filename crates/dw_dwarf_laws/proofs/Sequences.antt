-- What the instructions of a line program become is one thing.
use Rattle.std.proofs.Common.{◌≡◌, ◌∙◌, sym, ap, ap₂, subst, ℕ, ◌<◌, List, [], ◌∷◌, ◌++◌, length, map, Bool, true, false, Option, Some, None, Ok, refl, arith}
use Rattle.std.proofs.lemmas.Bool.{true≢false}
use Rattle.dw_base.specs.Numbers.{◌>>=◌}
use Rattle.dw_base.proofs.NumberLaws.{bind_parts}
use Rattle.dw_base.specs.declared.address.Address.{Address}
use Rattle.dw_base.specs.declared.ids.FileId.{FileId}
use Rattle.dw_line.specs.LineRows.{last_offset}
use Rattle.dw_line.specs.ProgramTexts.{ProgramValue, minimum_length}
use Rattle.dw_line.specs.Programs.{SequenceValue}
use Rattle.dw_line.specs.RawRows.{base_of}
use Rattle.dw_line.specs.declared.row.LineRow.{LineRow}
use Rattle.dw_base.specs.LineMachine.{LineHeader, Registers, Instruction, EndSequence, Shown, Row, End, begin, shows, leaves}
use Rattle.dw_convert_lines.specs.ReadRows.{ReadSequence, IsSequence, AreSequences, AreRead, stepped, walk}
use Rattle.dw_convert_lines.specs.RowImages.{AddressImage, row_image, offset_image, AreRowImages, AreSequenceImages, IsSequenceImage}
use Rattle.dw_convert_lines.specs.RowOutcomes.{AddsSequences}
use Rattle.dw_dwarf_laws.proofs.ConvertedExpressions.{AnswersOnce}
use Rattle.dw_dwarf_laws.proofs.Results.{same_ok}

-- Instructions that show rows alone end no sequence.

abbrev is_end : Instruction → Bool
is_end EndSequence = true
is_end i = false

abbrev HaveNoEnd : List Instruction → Type 0
HaveNoEnd [] = Unit {0}
HaveNoEnd (i ∷ is) = (is_end i ≡ false) × HaveNoEnd is

abbrev AreRows : List Shown → Type 0
AreRows [] = Unit {0}
AreRows (Row r ∷ xs) = AreRows xs
AreRows (End a ∷ xs) = ⊥

are_rows : (rs : List Registers) → AreRows (map Row rs)
are_rows [] = tt
are_rows (r ∷ rs) = are_rows rs

rows_after : (i : Instruction) (s : Registers) (more : List Shown) → AreRows (shows i s ++ more) → (is_end i ≡ false) × AreRows more
unfolding shows
rows_after EndSequence s more h = absurd h
rows_after i s more h = (refl, h)

abbrev walked : List Shown → Registers → Option (List Shown × Registers)
walked xs r = Some (xs, r)

same_walk : (xs ys : List Shown) (r s : Registers) → walked xs r ≡ walked ys s → ◌≡◌ {A = List Shown × Registers} (xs, r) (ys, s)
same_walk xs ys r s e = cc

module _ (h : LineHeader) where
  walk_no_end : (is : List Instruction) (r : Registers) (xs : List Shown) (last : Registers) → walk h is r ≡ Some (xs, last) → AreRows xs → HaveNoEnd is
  walk_no_end [] r xs last e a = tt
  walk_no_end (i ∷ is) r xs last e a =
      let p = bind_parts (stepped h i r) (λ s. walk h is (leaves h i s) >>= λ more. walked (shows i s ++ more.0) more.1) (xs, last) e in
      let q = bind_parts (walk h is (leaves h i p.0)) (λ (more : List Shown × Registers). walked (shows i p.0 ++ more.0) more.1) (xs, last) p.2 in
      let s = same_walk (shows i p.0 ++ q.0.0) xs q.0.1 last q.2 in
      let t = rows_after i p.0 q.0.0 (subst AreRows (sym (ap (λ (z : List Shown × Registers). z.0) s)) a) in
      (t.0, walk_no_end is (leaves h i p.0) q.0.0 q.0.1 q.1 t.1)

same_front : (i j : Instruction) (is js : List Instruction) → i ∷ is ≡ j ∷ js → (i ≡ j) × (is ≡ js)
same_front i j is js e = (cc, cc)

no_front : (i : Instruction) → is_end i ≡ false → i ≡ EndSequence → ⊥
no_front i h e = true≢false (sym (ap is_end e) ∙ h)

-- the instructions up to the first end
split_once : (f g r s : List Instruction) → HaveNoEnd f → HaveNoEnd g → f ++ EndSequence ∷ r ≡ g ++ EndSequence ∷ s → (f ≡ g) × (r ≡ s)
split_once [] [] r s h k e = (refl, (same_front EndSequence EndSequence r s e).1)
split_once [] (j ∷ g) r s h k e = absurd (no_front j k.0 (sym (same_front EndSequence j r (g ++ EndSequence ∷ s) e).0))
split_once (i ∷ f) [] r s h k e = absurd (no_front i h.0 (same_front i EndSequence (f ++ EndSequence ∷ r) s e).0)
split_once (i ∷ f) (j ∷ g) r s h k e =
    let p = same_front i j (f ++ EndSequence ∷ r) (g ++ EndSequence ∷ s) e in
    let q = split_once f g r s h.1 k.1 p.1 in
    (ap₂ (λ (a : Instruction) (as_ : List Instruction). a ∷ as_) p.0 q.0, q.1)

no_split : (f r : List Instruction) → HaveNoEnd (f ++ EndSequence ∷ r) → ⊥
no_split [] r h = true≢false h.0
no_split (i ∷ f) r h = no_split f r h.1

same_shown : (a b : Registers) (as_ bs : List Shown) → Row a ∷ as_ ≡ Row b ∷ bs → (a ≡ b) × (as_ ≡ bs)
same_shown a b as_ bs e = (cc, cc)

rows_same : (rs ss : List Registers) → map Row rs ≡ map Row ss → rs ≡ ss
rows_same [] [] e = refl
rows_same [] (s ∷ ss) e = absurd (let q : [] ≡ Row s ∷ map Row ss = e in cc)
rows_same (r ∷ rs) [] e = absurd (let q : Row r ∷ map Row rs ≡ [] = e in cc)
rows_same (r ∷ rs) (s ∷ ss) e = let p = same_shown r s (map Row rs) (map Row ss) e in ap₂ (λ (a : Registers) (as_ : List Registers). a ∷ as_) p.0 (rows_same rs ss p.1)

module _ (h : LineHeader) where
  sequence_once : (is : List Instruction) (x y : ReadSequence) → IsSequence h is x → IsSequence h is y → x ≡ y
  sequence_once is x y a b =
      let s = same_walk (map Row x.rows) (map Row y.rows) a.last b.last (sym a.shown ∙ b.shown) in
      let rows : x.rows ≡ y.rows = rows_same x.rows y.rows (ap (λ (z : List Shown × Registers). z.0) s) in
      let base : x.base ≡ y.base = a.base ∙ sym b.base in
      let end : x.end ≡ y.end = a.end ∙ ap (λ (z : List Shown × Registers). z.1.address) s ∙ sym b.end in
      λ i. record { base = base i; rows = rows i; end = end i }

  sequences_once : (is : List Instruction) (xs ys : List ReadSequence) (o p : List Instruction) → AreSequences h is xs o → AreSequences h is ys p → HaveNoEnd o → HaveNoEnd p → xs ≡ ys
  sequences_once is [] [] o p a b m n = refl
  sequences_once is [] (y ∷ ys) o p a b m n = absurd (no_split b.0 b.1 (subst HaveNoEnd (sym a ∙ b.2) m))
  sequences_once is (x ∷ xs) [] o p a b m n = absurd (no_split a.0 a.1 (subst HaveNoEnd (sym b ∙ a.2) n))
  sequences_once is (x ∷ xs) (y ∷ ys) o p a b m n =
      let clear = λ (z : ReadSequence) (f : List Instruction) (w : IsSequence h f z). walk_no_end h f (begin h) (map Row z.rows) w.last w.shown (are_rows z.rows) in
      let s = split_once a.0 b.0 a.1 b.1 (clear x a.0 a.3) (clear y b.0 b.3) (sym a.2 ∙ b.2) in
      let first = sequence_once b.0 x y (subst (λ f. IsSequence h f x) s.0 a.3) b.3 in
      let more = sequences_once b.1 xs ys o p (subst (λ r. AreSequences h r xs o) s.1 a.4) b.4 m n in
      ap₂ (λ (z : ReadSequence) (zs : List ReadSequence). z ∷ zs) first more

  -- the instructions, up to the end of the bytes
  abbrev next_of : Instruction → List ℕ → Option (Instruction × List ℕ)
  next_of i rest = Some (i, rest)

  same_next : (i j : Instruction) (m n : List ℕ) → next_of i m ≡ next_of j n → ◌≡◌ {A = Instruction × List ℕ} (i, m) (j, n)
  same_next i j m n e = cc

  read_once : (bytes : List ℕ) (is js : List Instruction) → AreRead h bytes is [] → AreRead h bytes js [] → is ≡ js
  read_once bytes [] [] a b = refl
  read_once bytes [] (j ∷ js) a b = absurd (let l : length b.0 < length bytes = b.1.shorter in let z : 0 ≡ length bytes = ap length a in omega arith)
  read_once bytes (i ∷ is) [] a b = absurd (let l : length a.0 < length bytes = a.1.shorter in let z : 0 ≡ length bytes = ap length b in omega arith)
  read_once bytes (i ∷ is) (j ∷ js) a b =
      let s = same_next i j a.0 b.0 (sym a.1.value ∙ b.1.value) in
      ap₂ (λ (z : Instruction) (zs : List Instruction). z ∷ zs) (ap (λ (z : Instruction × List ℕ). z.0) s) (read_once b.0 is js (subst (λ bs. AreRead h bs is []) (ap (λ (z : Instruction × List ℕ). z.1) s) a.2) b.2)

module _ (version : ℕ) (ids : List FileId) (minimum : ℕ) where
  rows_once : (base before : ℕ) (rs : List Registers) (xs ys : List LineRow) → AreRowImages version ids minimum base before rs xs → AreRowImages version ids minimum base before rs ys → xs ≡ ys
  rows_once base before [] [] [] a b = refl
  rows_once base before [] [] (y ∷ ys) a b = absurd b
  rows_once base before [] (x ∷ xs) ys a b = absurd a
  rows_once base before (r ∷ rs) [] ys a b = absurd a
  rows_once base before (r ∷ rs) (x ∷ xs) [] a b = absurd b
  rows_once base before (r ∷ rs) (x ∷ xs) (y ∷ ys) a b =
      let s : x ≡ y = same_ok (row_image version ids minimum base before r) x y a.0 b.0 in
      ap₂ (λ (z : LineRow) (zs : List LineRow). z ∷ zs) s (rows_once base y.address_offset rs xs ys (subst (λ (z : LineRow). AreRowImages version ids minimum base z.address_offset rs xs) s a.1) b.1)

  module _ (answers : ℕ → Option Address → Type 0) (functional : AnswersOnce answers) where
    begun_once : (base : Option ℕ) (a b : Option Address) → AddressImage answers base a → AddressImage answers base b → a ≡ b
    begun_once None None None h k = refl
    begun_once None None (Some b) h k = absurd k
    begun_once None (Some a) b h k = absurd h
    begun_once (Some n) None b h k = absurd h
    begun_once (Some n) (Some a) None h k = absurd k
    begun_once (Some n) (Some a) (Some b) h k = functional n (Some a) (Some b) h k

    image_once : (s : ReadSequence) (x y : SequenceValue) → IsSequenceImage version ids minimum answers s x → IsSequenceImage version ids minimum answers s y → x ≡ y
    image_once s x y a b =
        let address : x.address ≡ y.address = begun_once s.base x.address y.address a.address b.address in
        let rows : x.rows ≡ y.rows = rows_once (base_of s.base) 0 s.rows x.rows y.rows a.rows b.rows in
        let end : x.end ≡ y.end = same_ok (offset_image minimum (base_of s.base) (last_offset 0 y.rows) s.end) x.end y.end (subst (λ rs. offset_image minimum (base_of s.base) (last_offset 0 rs) s.end ≡ Ok x.end) rows a.end) b.end in
        λ i. record { address = address i; rows = rows i; end = end i }

    images_once : (ss : List ReadSequence) (xs ys : List SequenceValue) → AreSequenceImages version ids minimum answers ss xs → AreSequenceImages version ids minimum answers ss ys → xs ≡ ys
    images_once [] [] [] a b = refl
    images_once [] [] (y ∷ ys) a b = absurd b
    images_once [] (x ∷ xs) ys a b = absurd a
    images_once (s ∷ ss) [] ys a b = absurd a
    images_once (s ∷ ss) (x ∷ xs) [] a b = absurd b
    images_once (s ∷ ss) (x ∷ xs) (y ∷ ys) a b = ap₂ (λ (z : SequenceValue) (zs : List SequenceValue). z ∷ zs) (image_once s x y a.0 b.0) (images_once ss xs ys a.1 b.1)

-- the sequences that are added
pub added_once : (h : LineHeader) (version : ℕ) (ids : List FileId) (answers : ℕ → Option Address → Type 0) → AnswersOnce answers → (bytes : List ℕ) (old x y : ProgramValue) → AddsSequences h version ids answers bytes old x → AddsSequences h version ids answers bytes old y → x ≡ record y { address = x.address }
added_once h version ids answers functional bytes old x y a b =
    let instructions : b.instructions ≡ a.instructions = read_once h bytes b.instructions a.instructions b.read a.read in
    let clear = walk_no_end h a.opened (begin h) [] a.last a.closed tt in
    let clear_too = walk_no_end h b.opened (begin h) [] b.last b.closed tt in
    let sequences : a.sequences ≡ b.sequences = sequences_once h a.instructions a.sequences b.sequences a.opened b.opened a.are (subst (λ is. AreSequences h is b.sequences b.opened) instructions b.are) clear clear_too in
    let images : a.images ≡ b.images = images_once version ids (minimum_length old) answers functional b.sequences a.images b.images (subst (λ ss. AreSequenceImages version ids (minimum_length old) answers ss a.images) sequences a.become) b.become in
    a.is ∙ ap (λ is. record old { sequences = old.sequences ++ is; address = x.address }) images ∙ sym (ap (λ (z : ProgramValue). record z { address = x.address }) b.is)
