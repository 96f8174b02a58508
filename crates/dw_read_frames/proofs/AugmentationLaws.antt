-- Augmentations, from what the calls in them answered.
use Rattle.std.proofs.Common.{◌≡◌, ◌∙◌, sym, ap, ap₂, subst, Result, ℕ, suc, ◌+◌, ◌*◌, ◌<◌, ◌≤◌, List, [], ◌∷◌, length, drop, get_or, drop-cons, add-one, Option, Some, None, Ok, Err, Bool, true, false, refl, arith}
use Rattle.std.proofs.lemmas.Bool.{ne_eqb, le-leb}
use Rattle.std.proofs.Math.ListN.{drop_of_length-le}
use Rattle.dw_base.specs.Numbers.{bytes_at, number_at, value_of}
use Rattle.dw_base.specs.Leb128.{uleb_at}
use Rattle.dw_read.specs.Reading.{Reading, IsReading, Passes, Reads, left, part}
use Rattle.dw_read.specs.Reasons.{bytes_read, number_read, uleb_read}
use Rattle.dw_read.specs.Took.{Took}
use Rattle.dw_read.specs.declared.error.ReadError.{ReadError}
use Rattle.dw_read.specs.declared.error.ReadError.TheVariants.{UnknownAugmentation}
use Rattle.dw_read.proofs.Laws.{uleb_law}
use Rattle.dw_read.proofs.Chain.{Went, took, took_of, went, went_of, went_none, went_then, went_order}
use Rattle.dw_read.proofs.HeaderParts.{bytes_took}
use Rattle.dw_read_frames.specs.Pointers.{pointer_read}
use Rattle.dw_read_frames.specs.Augmentations.{standing, no_letters, encoding_of, letter_read, letters_read, augmentation_read}
use Rattle.dw_read_frames.specs.declared.augmentation.Augmentation.{Augmentation}
use Rattle.dw_read_frames.proofs.Steps.{number_took, place_stands, end_kept}

-- a letter
module _ (size letter : ℕ) (a : Augmentation) where
  pub lsda_not : (big : Bool) (end : ℕ) (bs : List ℕ) (e : ReadError) → letter ≡ 0x4c → number_read big 1 bs ≡ Err e → letter_read big size end letter a bs ≡ Err e
  unfolding letter_read
  lsda_not big end bs e l h = rw (l, h) refl

  pub lsda_took : (n : ℕ) (old new : Reading) → letter ≡ 0x4c → Reads ℕ (number_at old.is_big 1) old new n → Took Augmentation (letter_read old.is_big size old.end letter a) old new (record a { lsda = Some (encoding_of n) })
  unfolding letter_read
  lsda_took n old new l h =
      let t = number_took 1 n old new h in
      took Augmentation (letter_read old.is_big size old.end letter a) old new (record a { lsda = Some (encoding_of n) }) (went ℕ (number_read old.is_big 1) old new n t) (rw (l, t.value) refl)

  pub addresses_not : (big : Bool) (end : ℕ) (bs : List ℕ) (e : ReadError) → letter ≡ 0x52 → number_read big 1 bs ≡ Err e → letter_read big size end letter a bs ≡ Err e
  unfolding letter_read
  addresses_not big end bs e l h = rw (l, h) refl

  pub addresses_took : (n : ℕ) (old new : Reading) → letter ≡ 0x52 → Reads ℕ (number_at old.is_big 1) old new n → Took Augmentation (letter_read old.is_big size old.end letter a) old new (record a { fde_address_encoding = Some (encoding_of n) })
  unfolding letter_read
  addresses_took n old new l h =
      let t = number_took 1 n old new h in
      took Augmentation (letter_read old.is_big size old.end letter a) old new (record a { fde_address_encoding = Some (encoding_of n) }) (went ℕ (number_read old.is_big 1) old new n t) (rw (l, t.value) refl)

  pub personality_not : (big : Bool) (end : ℕ) (bs : List ℕ) (e : ReadError) → letter ≡ 0x50 → number_read big 1 bs ≡ Err e → letter_read big size end letter a bs ≡ Err e
  unfolding letter_read
  personality_not big end bs e l h = rw (l, h) refl

  pointer_not_is : (big : Bool) (end n : ℕ) (bs mid : List ℕ) (e : ReadError) → letter ≡ 0x50 → number_read big 1 bs ≡ Ok (n, mid) → pointer_read big size (encoding_of n) (standing end mid) mid ≡ Err e → letter_read big size end letter a bs ≡ Err e
  unfolding letter_read
  pointer_not_is big end n bs mid e l h k = rw (l, h, k) refl

  pointer_is : (big : Bool) (end n p : ℕ) (bs mid rest : List ℕ) → letter ≡ 0x50 → number_read big 1 bs ≡ Ok (n, mid) → pointer_read big size (encoding_of n) (standing end mid) mid ≡ Ok (p, rest) → letter_read big size end letter a bs ≡ Ok (record a { personality = Some (encoding_of n, p) }, rest)
  unfolding letter_read
  pointer_is big end n p bs mid rest l h k = rw (l, h, k) refl

  module _ (n : ℕ) (old mid : Reading) (l : letter ≡ 0x50) (h : Reads ℕ (number_at old.is_big 1) old mid n) (is : IsReading mid) where
    known : Took ℕ (number_read old.is_big 1) old mid n
    known = number_took 1 n old mid h

    gone : Went old mid
    gone = went ℕ (number_read old.is_big 1) old mid n known

    pub pointer_lost : (e : ReadError) → pointer_read mid.is_big size (encoding_of n) mid.place (left mid) ≡ Err e → letter_read old.is_big size old.end letter a (left old) ≡ Err e
    pointer_lost e k =
        pointer_not_is old.is_big old.end n (left old) (left mid) e l known.value
        (subst (λ (b : Bool). pointer_read b size (encoding_of n) (standing old.end (left mid)) (left mid) ≡ Err e) (went_order old mid gone) (subst (λ (m : ℕ). pointer_read mid.is_big size (encoding_of n) m (left mid) ≡ Err e) (place_stands old mid is gone) k))

    pub pointer_found : (p : ℕ) (new : Reading) → Took ℕ (pointer_read mid.is_big size (encoding_of n) mid.place) mid new p → Took Augmentation (letter_read old.is_big size old.end letter a) old new (record a { personality = Some (encoding_of n, p) })
    pointer_found p new k =
        took Augmentation (letter_read old.is_big size old.end letter a) old new (record a { personality = Some (encoding_of n, p) }) (went_then old mid new gone (went_of k.count mid new k.passes))
        (pointer_is old.is_big old.end n p (left old) (left mid) (left new) l known.value
        (subst (λ (b : Bool). pointer_read b size (encoding_of n) (standing old.end (left mid)) (left mid) ≡ Ok (p, left new)) (went_order old mid gone) (subst (λ (m : ℕ). pointer_read mid.is_big size (encoding_of n) m (left mid) ≡ Ok (p, left new)) (place_stands old mid is gone) k.value)))

  pub signal_took : (old : Reading) → IsReading old → letter ≡ 0x53 → Took Augmentation (letter_read old.is_big size old.end letter a) old old (record a { is_signal_trampoline = true })
  unfolding letter_read
  signal_took old is l = took Augmentation (letter_read old.is_big size old.end letter a) old old (record a { is_signal_trampoline = true }) (went_none old is) (rw l refl)

  pub unknown_letter : (big : Bool) (end : ℕ) (bs : List ℕ) → (letter ≡ 0x4c → ⊥) → (letter ≡ 0x50 → ⊥) → (letter ≡ 0x52 → ⊥) → (letter ≡ 0x53 → ⊥) → letter_read big size end letter a bs ≡ Err UnknownAugmentation
  unfolding letter_read
  unknown_letter big end bs l p r s = rw (ne_eqb letter 0x4c l, ne_eqb letter 0x50 p, ne_eqb letter 0x52 r, ne_eqb letter 0x53 s) refl

-- what is read from the beginning is what is read from here on, after the letters before
pub record LettersSo (size : ℕ) (letters : List ℕ) (i : ℕ) (a : Augmentation) (old new : Reading) : Type 0 where
  pub went : Went old new
  pub is : letters_read old.is_big size old.end letters no_letters (left old) ≡ letters_read old.is_big size old.end (drop i letters) a (left new)

pub letters_none : (size : ℕ) (letters : List ℕ) (old : Reading) → IsReading old → LettersSo size letters 0 no_letters old old
letters_none size letters old is = record { went = went_none old is; is = refl }

next_one : (xs : List ℕ) (i x : ℕ) → i < length xs → x ≡ get_or xs i 0 → drop i xs ≡ x ∷ drop (i + 1) xs
next_one xs i x l is = drop-cons xs i 0 l ∙ ap (λ (y : ℕ). y ∷ drop (suc i) xs) (sym is) ∙ ap (λ (k : ℕ). x ∷ drop k xs) (sym (add-one i))

one_letter : (big : Bool) (size end x : ℕ) (xs : List ℕ) (a b : Augmentation) (bs rest : List ℕ) → letter_read big size end x a bs ≡ Ok (b, rest) → letters_read big size end (x ∷ xs) a bs ≡ letters_read big size end xs b rest
unfolding letters_read
one_letter big size end x xs a b bs rest h = rw h refl

no_letter : (big : Bool) (size end x : ℕ) (xs : List ℕ) (a : Augmentation) (bs : List ℕ) (e : ReadError) → letter_read big size end x a bs ≡ Err e → letters_read big size end (x ∷ xs) a bs ≡ Err e
unfolding letters_read
no_letter big size end x xs a bs e h = rw h refl

module _ (size : ℕ) (letters : List ℕ) (i x : ℕ) (a : Augmentation) (old mid : Reading) (so : LettersSo size letters i a old mid) (l : i < length letters) (is : x ≡ get_or letters i 0) where
  rest_is : letters_read old.is_big size old.end letters no_letters (left old) ≡ letters_read old.is_big size old.end (x ∷ drop (i + 1) letters) a (left mid)
  rest_is = so.is ∙ ap (λ (t : List ℕ). letters_read old.is_big size old.end t a (left mid)) (next_one letters i x l is)

  pub letters_more : (b : Augmentation) (new : Reading) → Took Augmentation (letter_read mid.is_big size mid.end x a) mid new b → LettersSo size letters (i + 1) b old new
  letters_more b new h =
      let v : letter_read old.is_big size old.end x a (left mid) ≡ Ok (b, left new) = subst (λ (o : Bool). letter_read o size old.end x a (left mid) ≡ Ok (b, left new)) (went_order old mid so.went) (subst (λ (n : ℕ). letter_read mid.is_big size n x a (left mid) ≡ Ok (b, left new)) (end_kept old mid so.went) h.value) in
      record {
        went = went_then old mid new so.went (went_of h.count mid new h.passes);
        is = rest_is ∙ one_letter old.is_big size old.end x (drop (i + 1) letters) a b (left mid) (left new) v;
      }

  pub letters_not : (e : ReadError) → letter_read mid.is_big size mid.end x a (left mid) ≡ Err e → letters_read old.is_big size old.end letters no_letters (left old) ≡ Err e
  letters_not e h =
      let v : letter_read old.is_big size old.end x a (left mid) ≡ Err e = subst (λ (o : Bool). letter_read o size old.end x a (left mid) ≡ Err e) (went_order old mid so.went) (subst (λ (n : ℕ). letter_read mid.is_big size n x a (left mid) ≡ Err e) (end_kept old mid so.went) h) in
      rest_is ∙ no_letter old.is_big size old.end x (drop (i + 1) letters) a (left mid) e v

all_letters : (big : Bool) (size end : ℕ) (a : Augmentation) (bs : List ℕ) → letters_read big size end [] a bs ≡ Ok (a, bs)
unfolding letters_read
all_letters big size end a bs = refl

pub letters_end : (size : ℕ) (letters : List ℕ) (i : ℕ) (a : Augmentation) (old new : Reading) → LettersSo size letters i a old new → length letters ≤ i → Took Augmentation (letters_read old.is_big size old.end letters no_letters) old new a
letters_end size letters i a old new so l =
    took Augmentation (letters_read old.is_big size old.end letters no_letters) old new a so.went
    (so.is ∙ ap (λ (t : List ℕ). letters_read old.is_big size old.end t a (left new)) (drop_of_length-le letters l) ∙ all_letters old.is_big size old.end a (left new))

-- an augmentation
pub no_text : (size : ℕ) (text : List ℕ) (old : Reading) → IsReading old → length text ≡ 0 → Took (Option Augmentation) (augmentation_read old.is_big size old.end text) old old None
unfolding augmentation_read
no_text size [] old is h = took (Option Augmentation) (augmentation_read old.is_big size old.end []) old old None (went_none old is) refl
no_text size (z ∷ zs) old is h = absurd (omega arith)

some_pair : (a b : ℕ × List ℕ) → Some a ≡ Some b → a ≡ b
some_pair a b h = cc

one_is : (big : Bool) (x : ℕ) (xs : List ℕ) → number_at big 1 (x ∷ xs) ≡ Some (value_of big (x ∷ []), xs)
unfolding number_at bytes_at
one_is big x xs = rw (le-leb 1 (length (x ∷ xs)) (omega arith)) refl

value_is : (big : Bool) (x : ℕ) → value_of big (x ∷ []) ≡ x
value_is true x = (let e : 0 * 256 + x ≡ x = omega arith in e)
value_is false x = (let e : x + 256 * 0 ≡ x = omega arith in e)

first_of : (big : Bool) (text rest : List ℕ) (z : ℕ) → number_at big 1 text ≡ Some (z, rest) → text ≡ z ∷ rest
unfolding number_at bytes_at
first_of big [] rest z h = absurd (cc)
first_of big (x ∷ xs) rest z h =
    let q : (value_of big (x ∷ []), xs) ≡ (z, rest) = some_pair (value_of big (x ∷ []), xs) (z, rest) (sym (one_is big x xs) ∙ h) in
    ap₂ (λ (y : ℕ) (ys : List ℕ). y ∷ ys) (sym (value_is big x) ∙ ap (λ (y : ℕ × List ℕ). y.0) q) (ap (λ (y : ℕ × List ℕ). y.1) q)

abbrev gives : ℕ × List ℕ → Result (ℕ × List ℕ) ReadError
gives x = Ok x

not_refused : (x : ℕ × List ℕ) (e : ReadError) → gives x ≡ Err e → ⊥
not_refused x e h = absurd (cc)

one_read : (big : Bool) (x : ℕ) (xs : List ℕ) → number_read big 1 (x ∷ xs) ≡ gives (value_of big (x ∷ []), xs)
unfolding number_read
one_read big x xs = rw (one_is big x xs) refl

no_first : (big : Bool) (text : List ℕ) (e : ReadError) → number_read big 1 text ≡ Err e → length text ≡ 0
no_first big [] e h = refl
no_first big (x ∷ xs) e h = absurd (not_refused (value_of big (x ∷ []), xs) e (sym (one_read big x xs) ∙ h))

pub unread_first : {A : Type 0} (big : Bool) (text : List ℕ) (e : ReadError) → (length text ≡ 0 → ⊥) → number_read big 1 text ≡ Err e → A
unread_first big text e n h = absurd (n (no_first big text e h))

module _ (size z : ℕ) (text rest : Reading) (first : Reads ℕ (number_at text.is_big 1) text rest z) where
  text_is : left text ≡ z ∷ left rest
  text_is = first_of text.is_big (left text) (left rest) z first.value

  other_first : (big : Bool) (end : ℕ) (letters bs : List ℕ) → (z ≡ 0x7a → ⊥) → augmentation_read big size end (z ∷ letters) bs ≡ Err UnknownAugmentation
  unfolding augmentation_read
  other_first big end letters bs h = rw (ne_eqb z 0x7a h) refl

  pub unknown_text : (old : Reading) → (z ≡ 0x7a → ⊥) → augmentation_read old.is_big size old.end (left text) (left old) ≡ Err UnknownAugmentation
  unknown_text old h = ap (λ (t : List ℕ). augmentation_read old.is_big size old.end t (left old)) text_is ∙ other_first old.is_big old.end (left rest) (left old) h

  module _ (l : z ≡ 0x7a) where
    no_size_is : (big : Bool) (end : ℕ) (letters bs : List ℕ) (e : ReadError) → uleb_read bs ≡ Err e → augmentation_read big size end (z ∷ letters) bs ≡ Err e
    unfolding augmentation_read
    no_size_is big end letters bs e h = rw (l, h) refl

    cut_is : (big : Bool) (end n : ℕ) (letters bs mid : List ℕ) (e : ReadError) → uleb_read bs ≡ Ok (n, mid) → bytes_read n mid ≡ Err e → augmentation_read big size end (z ∷ letters) bs ≡ Err e
    unfolding augmentation_read
    cut_is big end n letters bs mid e h k = rw (l, h, k) refl

    lost_is : (big : Bool) (end n : ℕ) (letters bs mid block more : List ℕ) (e : ReadError) → uleb_read bs ≡ Ok (n, mid) → bytes_read n mid ≡ Ok (block, more) → letters_read big size (standing end more) letters no_letters block ≡ Err e → augmentation_read big size end (z ∷ letters) bs ≡ Err e
    unfolding augmentation_read
    lost_is big end n letters bs mid block more e h k i = rw (l, h, k, i) refl

    found_is : (big : Bool) (end n : ℕ) (a : Augmentation) (letters bs mid block more last : List ℕ) → uleb_read bs ≡ Ok (n, mid) → bytes_read n mid ≡ Ok (block, more) → letters_read big size (standing end more) letters no_letters block ≡ Ok (a, last) → augmentation_read big size end (z ∷ letters) bs ≡ Ok (Some a, more)
    unfolding augmentation_read
    found_is big end n a letters bs mid block more last h k i = rw (l, h, k, i) refl

    module _ (old : Reading) where
      by_text : augmentation_read old.is_big size old.end (left text) (left old) ≡ augmentation_read old.is_big size old.end (z ∷ left rest) (left old)
      by_text = ap (λ (t : List ℕ). augmentation_read old.is_big size old.end t (left old)) text_is

      pub no_size : (e : ReadError) → uleb_read (left old) ≡ Err e → augmentation_read old.is_big size old.end (left text) (left old) ≡ Err e
      no_size e h = by_text ∙ no_size_is old.is_big old.end (left rest) (left old) e h

      module _ (n : ℕ) (mid : Reading) (size_at : Reads ℕ uleb_at old mid n) where
        sized : Took ℕ uleb_read old mid n
        sized = took_of ℕ uleb_at uleb_read old mid n uleb_law size_at

        went_size : Went old mid
        went_size = went ℕ uleb_read old mid n sized

        pub data_cut : (e : ReadError) → bytes_read n (left mid) ≡ Err e → augmentation_read old.is_big size old.end (left text) (left old) ≡ Err e
        data_cut e h = by_text ∙ cut_is old.is_big old.end n (left rest) (left old) (left mid) e sized.value h

        module _ (block after : Reading) (is : IsReading mid) (ia : IsReading after) (q : block ≡ part n mid) (p : Passes n mid after) where
          went_block : Went old after
          went_block = went_then old mid after went_size (went_of n mid after p)

          split_off : bytes_read n (left mid) ≡ Ok (left block, left after)
          split_off = bytes_took n mid after block is q p

          order : block.is_big ≡ old.is_big
          order = ap (λ (r : Reading). r.is_big) q ∙ went_order old mid went_size

          block_end : block.end ≡ standing old.end (left after)
          block_end =
              let e : block.end ≡ mid.place + n = ap (λ (r : Reading). r.end) q in
              let s : after.place ≡ mid.place + n = ap (λ (r : Reading). r.place) p.is in
              e ∙ sym s ∙ place_stands old after ia went_block

          pub data_lost : (e : ReadError) → letters_read block.is_big size block.end (left rest) no_letters (left block) ≡ Err e → augmentation_read old.is_big size old.end (left text) (left old) ≡ Err e
          data_lost e h =
              by_text ∙ lost_is old.is_big old.end n (left rest) (left old) (left mid) (left block) (left after) e sized.value split_off
              (subst (λ (b : Bool). letters_read b size (standing old.end (left after)) (left rest) no_letters (left block) ≡ Err e) order (subst (λ (m : ℕ). letters_read block.is_big size m (left rest) no_letters (left block) ≡ Err e) block_end h))

          pub data_found : (a : Augmentation) (last : Reading) → Took Augmentation (letters_read block.is_big size block.end (left rest) no_letters) block last a → Took (Option Augmentation) (augmentation_read old.is_big size old.end (left text)) old after (Some a)
          data_found a last h =
              took (Option Augmentation) (augmentation_read old.is_big size old.end (left text)) old after (Some a) went_block
              (by_text ∙ found_is old.is_big old.end n a (left rest) (left old) (left mid) (left block) (left after) (left last) sized.value split_off
              (subst (λ (b : Bool). letters_read b size (standing old.end (left after)) (left rest) no_letters (left block) ≡ Ok (a, left last)) order (subst (λ (m : ℕ). letters_read block.is_big size m (left rest) no_letters (left block) ≡ Ok (a, left last)) block_end h.value)))
