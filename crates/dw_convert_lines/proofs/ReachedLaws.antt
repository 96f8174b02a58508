-- How far the instructions of a line program were followed, one after another.
use Rattle.std.proofs.Common.{◌≡◌, ◌∙◌, sym, ap, subst, inl, inr, ℕ, Bool, true, false, List, [], ◌∷◌, ◌++◌, map, Option, Some, None, Ok, refl, append_assoc, append-nil}
use Rattle.std.specs.Prelude.{◌||◌, if◌then◌else◌}
use Rattle.std.proofs.lemmas.List.{map-append}
use Rattle.dw_base.specs.declared.address.Address.{Address}
use Rattle.dw_base.specs.declared.ids.FileId.{FileId}
use Rattle.dw_base.specs.LineMachine.{LineHeader, Registers, Instruction, EndSequence, Shown, Row, End, begin, changed, shows, leaves}
use Rattle.dw_line.specs.LineRows.{last_offset}
use Rattle.dw_line.specs.ProgramTexts.{ProgramValue, minimum_length, with_begin, with_row, with_end}
use Rattle.dw_line.specs.Programs.{SequenceValue}
use Rattle.dw_line.specs.RawRows.{base_of}
use Rattle.dw_line.specs.declared.row.LineRow.{LineRow}
use Rattle.dw_convert_lines.specs.declared.machine.Effect.{Effect}
use Rattle.dw_convert_lines.specs.declared.machine.Effect.TheVariants.{Nothing, SetsAddress, ShowsRow, EndsSequence}
use Rattle.dw_convert_lines.specs.Effects.{effect_of}
use Rattle.dw_convert_lines.specs.ReadRows.{walk, any_row, set_by, set_before_rows, base_behind, ReadSequence, IsSequence, AreSequences, AreRead, IsNext}
use Rattle.dw_convert_lines.specs.RowImages.{row_image, offset_image, AddressImage, AreRowImages, IsSequenceImage, AreSequenceImages}
use Rattle.dw_convert_lines.specs.RowOutcomes.{has_any, Begins, AddsRow, AddsEnd, AddsShown, Follows, Ended, Unended, Reached, AddsSequences}
use Rattle.dw_convert_lines.proofs.EffectLaws.{IsRow, IsQuiet, row_by, end_by, nothing_by, address_by, quiet_address}
use Rattle.dw_convert_lines.proofs.ReadingLaws.{read_more, open_more, ended_more, walk_more, changed_by, rows_shown, any_more, base_more}

abbrev shown_at : List Shown → Registers → Option (List Shown × Registers)
shown_at xs r = Some (xs, r)

or_false : (b : Bool) → (b || false) ≡ b
or_false true = refl
or_false false = refl

or_true : (b : Bool) → (b || true) ≡ true
or_true true = refl
or_true false = refl

has_more : (rows : List Registers) (r : Registers) → has_any (rows ++ r ∷ []) ≡ true
has_more [] r = refl
has_more (x ∷ xs) r = refl

has_none : (rows : List Registers) → has_any rows ≡ false → rows ≡ []
has_none [] h = refl
has_none (x ∷ xs) h = absurd (cc)

same_either : (x : Option ℕ) (b : Bool) → (if b then x else x) ≡ x
same_either x true = refl
same_either x false = refl

module _ (version : ℕ) (ids : List FileId) (m : ℕ) where
  rows_more : (base before : ℕ) (rs : List Registers) (xs : List LineRow) (r : Registers) (x : LineRow) → AreRowImages version ids m base before rs xs → row_image version ids m base (last_offset before xs) r ≡ Ok x → AreRowImages version ids m base before (rs ++ r ∷ []) (xs ++ x ∷ [])
  rows_more base before [] [] r x a e = (e, tt)
  rows_more base before [] (y ∷ ys) r x a e = absurd a
  rows_more base before (s ∷ ss) [] r x a e = absurd a
  rows_more base before (s ∷ ss) (y ∷ ys) r x a e = (a.0, rows_more base y.address_offset ss ys r x a.1 e)

  any_base : (from to : ℕ) (rs : List Registers) (xs : List LineRow) → has_any rs ≡ false → AreRowImages version ids m from 0 rs xs → AreRowImages version ids m to 0 rs xs
  any_base from to [] [] h a = tt
  any_base from to [] (y ∷ ys) h a = a
  any_base from to (s ∷ ss) xs h a = absurd (cc)

  no_rows : (base : ℕ) (rs : List Registers) → has_any rs ≡ false → AreRowImages version ids m base 0 rs []
  no_rows base [] h = tt
  no_rows base (s ∷ ss) h = absurd (cc)

  no_images : (base : ℕ) (rs : List Registers) (xs : List LineRow) → has_any rs ≡ false → AreRowImages version ids m base 0 rs xs → xs ≡ []
  no_images base [] [] h a = refl
  no_images base [] (y ∷ ys) h a = absurd a
  no_images base (s ∷ ss) xs h a = absurd (cc)

  sequences_more : (answers : ℕ → Option Address → Type 0) (ss : List ReadSequence) (xs : List SequenceValue) (s : ReadSequence) (x : SequenceValue) → AreSequenceImages version ids m answers ss xs → IsSequenceImage version ids m answers s x → AreSequenceImages version ids m answers (ss ++ s ∷ []) (xs ++ x ∷ [])
  sequences_more answers [] [] s x a i = (i, tt)
  sequences_more answers [] (y ∷ ys) s x a i = absurd a
  sequences_more answers (t ∷ ts) [] s x a i = absurd a
  sequences_more answers (t ∷ ts) (y ∷ ys) s x a i = (a.0, sequences_more answers ts ys s x a.1 i)

module _ (h : LineHeader) (version : ℕ) (ids : List FileId) (answers : ℕ → Option Address → Type 0) where
  -- a sequence that isn't ended, once it was begun
  record IsBegun (old : ProgramValue) (base : Option ℕ) (rows : List Registers) (sequences : List ReadSequence) (g : ProgramValue) : Type 0 where
    sequence : g.in_sequence ≡ true
    address : AddressImage answers base g.address
    are : AreRowImages version ids (minimum_length old) (base_of base) 0 rows g.rows
    ended : Ended h version ids answers old g sequences

  is_begun : (old : ProgramValue) (base : Option ℕ) (rows : List Registers) (sequences : List ReadSequence) (p g : ProgramValue)
      → Ended h version ids answers old p sequences → Unended h version ids answers base rows (minimum_length old) p → Begins answers base p g → IsBegun old base rows sequences g
  is_begun old base rows sequences p g e u (inl b) = subst (λ (x : ProgramValue). IsBegun old base rows sequences x) (sym b.1) (record { sequence = b.0; address = u.address b.0; are = u.are; ended = e })
  is_begun old base rows sequences p g e u (inr b) =
      subst (λ (x : ProgramValue). IsBegun old base rows sequences x) (sym b.3) (record {
        sequence = refl;
        address = b.2;
        are = no_rows version ids (minimum_length old) (base_of base) rows (sym u.begun ∙ b.0);
        ended = record { images = e.images; are = e.are; is = ap (with_begin b.1) e.is };
      })

  -- the base of a sequence without rows doesn't matter yet
  unended_in : (base to other : Option ℕ) (rows : List Registers) (m : ℕ) (p : ProgramValue) (b : Bool) → p.in_sequence ≡ b → to ≡ (if b then base else other) → Unended h version ids answers base rows m p → Unended h version ids answers to rows m p
  unended_in base to other rows m p true k e u = subst (λ (x : Option ℕ). Unended h version ids answers x rows m p) (sym e) u
  unended_in base to other rows m p false k e u = record {
    begun = u.begun;
    address = λ (t : p.in_sequence ≡ true). absurd (cc);
    are = any_base version ids m (base_of base) (base_of to) rows p.rows (sym u.begun ∙ k) u.are;
  }

  module _ (bytes : List ℕ) (old : ProgramValue) where
    -- before the first instruction
    pub reached_none : old.in_sequence ≡ false → old.rows ≡ [] → Reached h version ids answers bytes old bytes (begin h) None old
    reached_none closed none = record {
      instructions = [];
      read = refl;
      sequences = [];
      opened = [];
      are = refl;
      rows = [];
      shown = refl;
      base_is = refl;
      begun = closed;
      ended = record { images = []; are = tt; is = ap (λ (ss : List SequenceValue). record old { sequences = ss }) (sym (append-nil old.sequences)) };
      unended = record {
        begun = closed;
        address = λ (t : old.in_sequence ≡ true). absurd (cc);
        are = subst (λ (xs : List LineRow). AreRowImages version ids (minimum_length old) 0 0 [] xs) (sym none) tt;
      };
    }

    module _ (rest next : List ℕ) (r : Registers) (base : Option ℕ) (p : ProgramValue) (a : Reached h version ids answers bytes old rest r base p) (i : Instruction) (n : IsNext h rest i next) (left : Registers) (behind : Option ℕ) (q : ProgramValue) (f : Follows h version ids answers i r base p left behind q) where
      -- what the machine shows with one more instruction
      shown_by : (more : List Shown) → shows i f.registers ≡ more → walk h (a.opened ++ i ∷ []) (begin h) ≡ Some (map Row a.rows ++ more, left)
      shown_by more e =
          walk_more h a.opened (begin h) (map Row a.rows) r i f.registers a.shown f.step
          ∙ ap (λ (xs : List Shown). shown_at (map Row a.rows ++ xs) (leaves h i f.registers)) e
          ∙ ap (λ (x : Registers). shown_at (map Row a.rows ++ more) x) (sym f.leaves_them)

      base_by : base_behind p.in_sequence i base ≡ (if p.in_sequence then base else set_by i base) → behind ≡ set_before_rows None (a.opened ++ i ∷ [])
      base_by e =
          f.base_is ∙ e ∙ ap (λ (b : Bool). if b then base else set_by i base) a.begun
          ∙ ap (λ (x : Option ℕ). if any_row a.opened then x else set_by i x) a.base_is ∙ sym (base_more None a.opened i)

      quiet_more : IsQuiet h i f.registers → Reached h version ids answers bytes old next left behind q
      quiet_more k =
          let same : q ≡ p = subst (λ (xs : List Shown). AddsShown answers base version ids p q xs) k.shown f.adds in
          subst (λ (x : ProgramValue). Reached h version ids answers bytes old next left behind x) (sym same) (record {
            instructions = a.instructions ++ i ∷ [];
            read = read_more h bytes a.instructions rest i next a.read n;
            sequences = a.sequences;
            opened = a.opened ++ i ∷ [];
            are = open_more h a.instructions a.sequences a.opened i a.are;
            rows = a.rows;
            shown = shown_by [] k.shown ∙ ap (λ (xs : List Shown). shown_at xs left) (append-nil (map Row a.rows));
            base_is = base_by (k.base p.in_sequence base);
            begun = a.begun ∙ sym (any_more a.opened i ∙ ap (λ (b : Bool). any_row a.opened || b) k.none ∙ or_false (any_row a.opened));
            ended = a.ended;
            unended = unended_in base behind (set_by i base) a.rows (minimum_length old) p p.in_sequence refl (f.base_is ∙ k.base p.in_sequence base) a.unended;
          })

      row_more : IsRow h i f.registers → AddsRow answers base version ids f.registers p q → Reached h version ids answers bytes old next left behind q
      row_more k d =
          let to : behind ≡ base = f.base_is ∙ k.base p.in_sequence base in
          let b : IsBegun old base a.rows a.sequences d.begun = is_begun old base a.rows a.sequences p d.begun a.ended a.unended d.begins in
          let same_length : minimum_length p ≡ minimum_length old = ap minimum_length a.ended.is in
          let image : row_image version ids (minimum_length old) (base_of base) (last_offset 0 d.begun.rows) f.registers ≡ Ok d.row =
          subst (λ (m : ℕ). row_image version ids m (base_of base) (last_offset 0 d.begun.rows) f.registers ≡ Ok d.row) same_length d.image in
          subst (λ (x : ProgramValue). Reached h version ids answers bytes old next left behind x) (sym d.is) (record {
            instructions = a.instructions ++ i ∷ [];
            read = read_more h bytes a.instructions rest i next a.read n;
            sequences = a.sequences;
            opened = a.opened ++ i ∷ [];
            are = open_more h a.instructions a.sequences a.opened i a.are;
            rows = a.rows ++ f.registers ∷ [];
            shown = shown_by (Row f.registers ∷ []) k.shown ∙ ap (λ (xs : List Shown). shown_at xs left) (sym (map-append Row a.rows (f.registers ∷ [])));
            base_is = base_by (k.base p.in_sequence base ∙ sym (same_either base p.in_sequence) ∙ ap (λ (x : Option ℕ). if p.in_sequence then base else x) (sym (k.unset base)));
            begun = b.sequence ∙ sym (any_more a.opened i ∙ ap (λ (c : Bool). any_row a.opened || c) k.row ∙ or_true (any_row a.opened));
            ended = record { images = b.ended.images; are = b.ended.are; is = ap (with_row d.row) b.ended.is };
            unended = subst (λ (x : Option ℕ). Unended h version ids answers x (a.rows ++ f.registers ∷ []) (minimum_length old) (with_row d.row d.begun)) (sym to) (record {
              begun = b.sequence ∙ sym (has_more a.rows f.registers);
              address = λ (t : d.begun.in_sequence ≡ true). b.address;
              are = rows_more version ids (minimum_length old) (base_of base) 0 a.rows d.begun.rows f.registers d.row b.are image;
            });
          })

      -- an end leaves the registers as they are
      at_end : i ≡ EndSequence → (f.registers.address ≡ r.address) × (shows i f.registers ≡ End f.registers.address ∷ []) × (leaves h i f.registers ≡ begin h) × (base_behind p.in_sequence i base ≡ None)
      unfolding changed shows leaves
      at_end e =
          let k : changed h EndSequence r ≡ Some f.registers = subst (λ (j : Instruction). changed h j r ≡ Some f.registers) e (changed_by h i r f.registers f.step) in
          let l : r ≡ f.registers = cc in
          (sym (ap (λ (x : Registers). x.address) l), rw e refl, rw e refl, rw e (none_behind p.in_sequence)) where
            none_behind : (b : Bool) → base_behind b EndSequence base ≡ None
            none_behind true = refl
            none_behind false = refl

      end_more : i ≡ EndSequence → AddsEnd answers base f.registers.address p q → Reached h version ids answers bytes old next left behind q
      end_more e d =
          let k = at_end e in
          let b : IsBegun old base a.rows a.sequences d.begun = is_begun old base a.rows a.sequences p d.begun a.ended a.unended d.begins in
          let same_length : minimum_length p ≡ minimum_length old = ap minimum_length a.ended.is in
          let image : offset_image (minimum_length old) (base_of base) (last_offset 0 d.begun.rows) f.registers.address ≡ Ok d.end =
          subst (λ (m : ℕ). offset_image m (base_of base) (last_offset 0 d.begun.rows) f.registers.address ≡ Ok d.end) same_length d.image in
          let s : ReadSequence = record { base = base; rows = a.rows; end = f.registers.address } in
          let x : SequenceValue = record { address = d.begun.address; rows = d.begun.rows; end = d.end } in
          let is_one : IsSequence h a.opened s = record { last = r; shown = a.shown; base = a.base_is; end = k.0 } in
          let read_here = read_more h bytes a.instructions rest i next a.read n in
          subst (λ (y : ProgramValue). Reached h version ids answers bytes old next left behind y) (sym d.is) (record {
            instructions = a.instructions ++ i ∷ [];
            read = read_here;
            sequences = a.sequences ++ s ∷ [];
            opened = [];
            are = subst (λ (j : Instruction). AreSequences h (a.instructions ++ j ∷ []) (a.sequences ++ s ∷ []) []) (sym e) (ended_more h a.instructions a.sequences a.opened s a.are is_one);
            rows = [];
            shown = ap (λ (y : Registers). shown_at [] y) (sym (f.leaves_them ∙ k.2));
            base_is = f.base_is ∙ k.3;
            begun = refl;
            ended = record {
              images = b.ended.images ++ x ∷ [];
              are = sequences_more version ids (minimum_length old) answers a.sequences b.ended.images s x b.ended.are (record { address = b.address; rows = b.are; end = image });
              is = ap (with_end d.end) b.ended.is ∙ ap (λ (ss : List SequenceValue). record old { sequences = ss; in_sequence = false; address = d.begun.address; rows = [] }) (append_assoc old.sequences b.ended.images (x ∷ []));
            };
            unended = subst (λ (y : Option ℕ). Unended h version ids answers y [] (minimum_length old) (with_end d.end d.begun)) (sym (f.base_is ∙ k.3)) (record {
              begun = refl;
              address = λ (t : false ≡ true). absurd (cc);
              are = tt;
            });
          })

      by_effect : (e : Effect) → effect_of i ≡ e → Reached h version ids answers bytes old next left behind q
      by_effect Nothing k = quiet_more (nothing_by h i f.registers k).quiet
      by_effect SetsAddress k =
          let s = address_by i k in
          quiet_more (subst (λ (j : Instruction). IsQuiet h j f.registers) (sym s.2) (quiet_address h s.0 s.1 f.registers))
      by_effect ShowsRow k =
          let w = row_by h i f.registers k in
          row_more w (subst (λ (xs : List Shown). AddsShown answers base version ids p q xs) w.shown f.adds)
      by_effect EndsSequence k =
          let e = end_by i k in
          end_more e (subst (λ (xs : List Shown). AddsShown answers base version ids p q xs) (at_end e).1 f.adds)

      -- one more instruction was followed
      pub reached_more : Reached h version ids answers bytes old next left behind q
      reached_more = by_effect (effect_of i) refl

    -- all instructions were followed, and every sequence is ended
    pub all_added : (rest : List ℕ) (r : Registers) (base : Option ℕ) (q : ProgramValue) → Reached h version ids answers bytes old rest r base q → rest ≡ [] → q.in_sequence ≡ false → old.in_sequence ≡ false → old.rows ≡ [] → AddsSequences h version ids answers bytes old q
    all_added rest r base q a z closed was none =
        let empty : has_any a.rows ≡ false = sym a.unended.begun ∙ closed in
        let no : a.rows ≡ [] = has_none a.rows empty in
        let rows_none : q.rows ≡ [] = no_images version ids (minimum_length old) (base_of base) a.rows q.rows empty a.unended.are in
        let walked : walk h a.opened (begin h) ≡ Some ([], r) = subst (λ (xs : List Registers). walk h a.opened (begin h) ≡ Some (map Row xs, r)) no a.shown in
        let read : AreRead h bytes a.instructions [] = subst (λ (b : List ℕ). AreRead h bytes a.instructions b) z a.read in
        record {
          instructions = a.instructions;
          read = read;
          sequences = a.sequences;
          opened = a.opened;
          are = a.are;
          last = r;
          closed = walked;
          shown = rows_shown h bytes a.instructions a.sequences a.opened r read a.are walked;
          images = a.ended.images;
          become = a.ended.are;
          is = a.ended.is ∙ ap (λ (b : Bool). record old { sequences = old.sequences ++ a.ended.images; in_sequence = b; address = q.address; rows = q.rows }) (closed ∙ sym was)
              ∙ ap (λ (xs : List LineRow). record old { sequences = old.sequences ++ a.ended.images; address = q.address; rows = xs }) (rows_none ∙ sym none);
        }
