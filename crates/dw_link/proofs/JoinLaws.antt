-- The join of sets is their parts, each resolved where it stands.
use Rattle.std.specs.Prelude.{◌≡◌, ℕ, suc, ◌+◌, Bool, true, false, List, [], ◌∷◌, ◌++◌, length, drop, map, Option, Some, None, slice_get, pos, ◌+ℤ◌, IsTrue, if◌then◌else◌, refl}
use Rattle.std.proofs.Common.{sym, ◌∙◌, ap, subst, arith, length-append, append_assoc}
use Rattle.std.proofs.Math.Seq.{take-append_seam}
use Rattle.std.proofs.lemmas.Bool.Decides.{nat_tests}
use Rattle.dw_base.specs.Numbers.{◌>>=◌}
use Rattle.dw_base.specs.declared.section_id.SectionId.{SectionId}
use Rattle.dw_writer.specs.Texts.{Text, followed, overwrite, patched}
use Rattle.dw_writer.specs.Layout.{Layout, target_value, is_symbol}
use Rattle.dw_writer.specs.Resolved.{number_at_place, sum_text, record_text, is_inside, put_record, put_records, resolved}
use Rattle.dw_writer.specs.Meaning.{Meaning, AllInside, spelled_text}
use Rattle.dw_writer.specs.declared.relocate.Relocation.{Relocation}
use Rattle.dw_writer.specs.declared.relocate.RelocationTarget.{RelocationTarget}
use Rattle.dw_writer.specs.declared.relocate.RelocationTarget.TheVariants.{Symbol, Section}
use Rattle.dw_writer.proofs.Laws.{put_records-wide, put_records-followed}
use Rattle.dw_link.specs.Sets.{Parts, bytes_of, relocations_of, concatenated, start_in, layout_in, joined_layout, moved, put_sets, join, linked_part, linked_from, linked_parts}
use Rattle.dw_link.proofs.Putting.{number-behind, overwrite-behind}
use Rattle.dw_link.proofs.PartSteps.{not_plain}
use Rattle.dw_link.proofs.SetSteps.{start_in-next}

drop_seam : (xs ys : List ℕ) → drop (length xs) (xs ++ ys) ≡ ys
drop_seam [] ys = refl
drop_seam (x ∷ xs) ys = drop_seam xs ys

-- One relocation behind other bytes

abbrev from_zero : Layout → Layout
from_zero l = record l { own_start = 0 }

same_value : (l : Layout) (t : RelocationTarget) → target_value (from_zero l) t ≡ target_value l t
same_value l (Symbol n) = refl
same_value l (Section s) = refl

same_text : (big : Bool) (l : Layout) (r : Relocation) (n : ℕ) → record_text big (from_zero l) (moved l.own_start r) n ≡ record_text big l r n
unfolding record_text
same_text big l r n =
    let place : 0 + (l.own_start + r.offset) ≡ l.own_start + r.offset = omega arith in
    ap (λ o. o >>= λ v. sum_text big r.size (0 + (l.own_start + r.offset)) (is_symbol r.target) r.eh_pe (pos n +ℤ r.addend +ℤ pos v)) (same_value l r.target)
    ∙ ap (λ p. target_value l r.target >>= λ v. sum_text big r.size p (is_symbol r.target) r.eh_pe (pos n +ℤ r.addend +ℤ pos v)) place

patched-behind : (o : ℕ) (t : Text) (xs ys : List ℕ) → patched (length xs + o) t (Some (xs ++ ys)) ≡ followed (Some xs) (patched o t (Some ys))
unfolding patched followed
patched-behind o None xs ys = refl
patched-behind o (Some ns) xs ys =
    ap Some (overwrite-behind (length xs) o ns (xs ++ ys) (omega (arith, length-append xs ys))
    ∙ ap (λ k. k ++ overwrite o ns (drop (length xs) (xs ++ ys))) (take-append_seam xs ys) ∙ ap (λ k. xs ++ overwrite o ns k) (drop_seam xs ys))

inside-behind : (n m start : ℕ) (r : Relocation) → m ≡ start + n → IsTrue (is_inside n r) → IsTrue (is_inside m (moved start r))
inside-behind n m start r e h = grind (arith, nat_tests)

if_true : (b : Bool) (x : Text) → IsTrue b → (if b then x else None) ≡ x
if_true true x h = refl
if_true false x h = cc

one_behind : (big : Bool) (l : Layout) (r : Relocation) (xs ys : List ℕ) → length xs ≡ l.own_start → IsTrue (is_inside (length ys) r) →
    put_record big (from_zero l) (moved l.own_start r) (Some (xs ++ ys)) ≡ followed (Some xs) (put_record big l r (Some ys))
unfolding put_record
one_behind big l r xs ys e h =
    let inside : IsTrue (is_inside (length (xs ++ ys)) (moved l.own_start r)) = inside-behind (length ys) (length (xs ++ ys)) l.own_start r (omega (arith, length-append xs ys)) h in
    let number : number_at_place big (l.own_start + r.offset) r.size (xs ++ ys) ≡ number_at_place big r.offset r.size ys =
    ap (λ p. number_at_place big (p + r.offset) r.size (xs ++ ys)) (sym e) ∙ number-behind big (length xs) r.offset r.size (xs ++ ys)
    ∙ ap (number_at_place big r.offset r.size) (drop_seam xs ys) in
    if_true (is_inside (length (xs ++ ys)) (moved l.own_start r)) _ inside
    ∙ ap (λ n. patched (l.own_start + r.offset) (record_text big (from_zero l) (moved l.own_start r) n) (Some (xs ++ ys))) number
    ∙ ap (λ t. patched (l.own_start + r.offset) t (Some (xs ++ ys))) (same_text big l r (number_at_place big r.offset r.size ys))
    ∙ ap (λ p. patched (p + r.offset) (record_text big l r (number_at_place big r.offset r.size ys)) (Some (xs ++ ys))) (sym e)
    ∙ patched-behind r.offset (record_text big l r (number_at_place big r.offset r.size ys)) xs ys
    ∙ ap (followed (Some xs)) (sym (if_true (is_inside (length ys) r) _ h))

-- All of them

none-moved : (big : Bool) (l : Layout) (start : ℕ) (rs : List Relocation) → put_records big l (map (moved start) rs) None ≡ None
unfolding put_record
none-moved big l start [] = refl
none-moved big l start (r ∷ rs) = none-moved big l start rs

put_records-none : (big : Bool) (l : Layout) (rs : List Relocation) → put_records big l rs None ≡ None
unfolding put_record
put_records-none big l [] = refl
put_records-none big l (r ∷ rs) = put_records-none big l rs

if_some : (b : Bool) (x : Text) (zs : List ℕ) → (if b then x else None) ≡ Some zs → IsTrue b
if_some true x zs e = refl
if_some false x zs e = cc

-- a record that is put in lies inside
put_inside : (big : Bool) (l : Layout) (r : Relocation) (ys zs : List ℕ) → put_record big l r (Some ys) ≡ Some zs → IsTrue (is_inside (length ys) r)
unfolding put_record
put_inside big l r ys zs e = if_some (is_inside (length ys) r) _ zs e

one_wide : (big : Bool) (l : Layout) (r : Relocation) (ys zs : List ℕ) → put_record big l r (Some ys) ≡ Some zs → length zs ≡ length ys
one_wide big l r ys zs e = put_records-wide big l (r ∷ []) (length ys) (Some ys) (λ xs f. let same : ys ≡ xs = cc in sym (ap length same)) zs e

all_inside : (big : Bool) (l : Layout) (rs : List Relocation) (ys zs : List ℕ) → put_records big l rs (Some ys) ≡ Some zs → AllInside (length ys) rs
unfolding AllInside
all_inside big l [] ys zs e = tt
all_inside big l (r ∷ rs) ys zs e = by_text (put_record big l r (Some ys)) (put_inside big l r ys) (one_wide big l r ys) e (all_inside big l rs)
  where
    by_text : (t : Text) → ((xs : List ℕ) → t ≡ Some xs → IsTrue (is_inside (length ys) r)) → ((xs : List ℕ) → t ≡ Some xs → length xs ≡ length ys) →
        put_records big l rs t ≡ Some zs → ((xs zs : List ℕ) → put_records big l rs (Some xs) ≡ Some zs → AllInside (length xs) rs) →
        IsTrue (is_inside (length ys) r) × AllInside (length ys) rs
    by_text None h w e k = let f = put_records-none big l rs in cc
    by_text (Some xs) h w e k = (h xs refl, subst (λ n. AllInside n rs) (w xs refl) (k xs zs e))

somes : (xs ks : List ℕ) → followed (Some xs) (Some ks) ≡ Some (xs ++ ks)
unfolding followed
somes xs ks = refl

all_behind : (big : Bool) (l : Layout) (rs : List Relocation) (xs ys zs : List ℕ) → length xs ≡ l.own_start → put_records big l rs (Some ys) ≡ Some zs →
    put_records big (from_zero l) (map (moved l.own_start) rs) (Some (xs ++ ys)) ≡ Some (xs ++ zs)
all_behind big l [] xs ys zs at e = let f : ys ≡ zs = cc in ap (λ k. Some (xs ++ k)) f
all_behind big l (r ∷ rs) xs ys zs at e = by_text (put_record big l r (Some ys)) refl e (λ ks. all_behind big l rs xs ks zs at)
  where
    by_text : (t : Text) → put_record big l r (Some ys) ≡ t → put_records big l rs t ≡ Some zs →
        ((ks : List ℕ) → put_records big l rs (Some ks) ≡ Some zs → put_records big (from_zero l) (map (moved l.own_start) rs) (Some (xs ++ ks)) ≡ Some (xs ++ zs)) →
        put_records big (from_zero l) (map (moved l.own_start) rs) (put_record big (from_zero l) (moved l.own_start r) (Some (xs ++ ys))) ≡ Some (xs ++ zs)
    by_text None f e k = let g = put_records-none big l rs in cc
    by_text (Some ks) f e k =
        ap (put_records big (from_zero l) (map (moved l.own_start) rs)) (one_behind big l r xs ys at (put_inside big l r ys ks f) ∙ ap (followed (Some xs)) f ∙ somes xs ks)
        ∙ k ks e

AllInside-behind : (n m start : ℕ) (rs : List Relocation) → m ≡ start + n → AllInside n rs → AllInside m (map (moved start) rs)
unfolding AllInside
AllInside-behind n m start [] e h = tt
AllInside-behind n m start (r ∷ rs) e h = (inside-behind n m start r e h.0, AllInside-behind n m start rs e h.1)

-- a part's relocations put into the joined section, between what stands before the part and behind it
part_between : (big : Bool) (l : Layout) (rs : List Relocation) (xs ys zs more : List ℕ) → length xs ≡ l.own_start → put_records big l rs (Some ys) ≡ Some zs →
    put_records big (from_zero l) (map (moved l.own_start) rs) (Some (xs ++ (ys ++ more))) ≡ Some ((xs ++ zs) ++ more)
part_between big l rs xs ys zs more at e =
    let inside : AllInside (length (xs ++ ys)) (map (moved l.own_start) rs) =
    AllInside-behind (length ys) (length (xs ++ ys)) l.own_start rs (omega (arith, length-append xs ys)) (all_inside big l rs ys zs e) in
    ap (put_records big (from_zero l) (map (moved l.own_start) rs)) (ap Some (sym (append_assoc xs ys more)) ∙ sym (somes (xs ++ ys) more))
    ∙ put_records-followed big (from_zero l) (map (moved l.own_start) rs) (length (xs ++ ys)) (Some (xs ++ ys)) more (λ k f. let same : xs ++ ys ≡ k = cc in sym (ap length same)) inside
    ∙ ap (λ t. followed t (Some more)) (all_behind big l rs xs ys zs at e)
    ∙ somes (xs ++ zs) more

-- Sets

-- a part tells its bytes, records, and has the byte order
pub record IsReady (big : Bool) (m : Meaning) : Type 0 where
  pub told : m.bytes ≡ Some (spelled_text m.bytes)
  pub records : m.is_plain ≡ false
  pub order : m.is_big ≡ big

two_somes : (t u : Text) (zs : List ℕ) → followed t u ≡ Some zs → (ps : List ℕ) × (qs : List ℕ) × (t ≡ Some ps) × (u ≡ Some qs) × (ps ++ qs ≡ zs)
unfolding followed
two_somes None u zs e = cc
two_somes (Some ps) None zs e = cc
two_somes (Some ps) (Some qs) zs e = (ps, qs, refl, refl, cc)

some_part : (o : Option Meaning) (l : Layout) (ps : List ℕ) → ◌≡◌ {A = Text} (o >>= resolved l) (Some ps) → (m : Meaning) × (o ≡ Some m) × (resolved l m ≡ Some ps)
some_part None l ps e = cc
some_part (Some m) l ps e = (m, refl, e)

resolved_as : (big : Bool) (l : Layout) (m : Meaning) (ps : List ℕ) → IsReady big m → resolved l m ≡ Some ps → put_records big l m.records (Some (spelled_text m.bytes)) ≡ Some ps
resolved_as big l m ps ready e =
    ap (λ b. put_records b l m.records (Some (spelled_text m.bytes))) (sym ready.order) ∙ ap (put_records m.is_big l m.records) (sym ready.told) ∙ sym (not_plain m l ready.records) ∙ e

sets_from : (big : Bool) (sets : List Parts) (symbols : List ℕ) (s : SectionId) (n : ℕ) (rest : List Parts) (xs zs : List ℕ) →
    ((j : ℕ) (set : Parts) → slice_get rest j ≡ Some set → slice_get sets (n + j) ≡ Some set) →
    ((j : ℕ) (set : Parts) (m : Meaning) → slice_get rest j ≡ Some set → set s ≡ Some m → IsReady big m) →
    length xs ≡ start_in sets n s → linked_from sets symbols s n rest ≡ Some zs →
    put_sets big sets symbols s n rest (Some (xs ++ concatenated s rest)) ≡ Some (xs ++ zs)
sets_from big sets symbols s n [] xs zs at ready start e = let f : [] ≡ zs = cc in ap (λ k. Some (xs ++ k)) f
sets_from big sets symbols s n (set ∷ rest) xs zs at ready start e =
    let two = two_somes (linked_part sets symbols s n set) (linked_from sets symbols s (n + 1) rest) zs e in
    let ps = two.0 in
    let qs = two.1 in
    let part = some_part (set s) (layout_in sets symbols n s) ps two.2 in
    let m = part.0 in
    let ys = spelled_text m.bytes in
    let l = layout_in sets symbols n s in
    let put = resolved_as big l m ps (ready 0 set m refl part.1) part.2 in
    let wide : length ps ≡ length ys = put_records-wide big l m.records (length ys) (Some ys) (λ k f. let same : ys ≡ k = cc in sym (ap length same)) ps put in
    let here : slice_get sets n ≡ Some set = let z : n + 0 ≡ n = omega arith in sym (ap (slice_get sets) z) ∙ at 0 set refl in
    let next : length (xs ++ ps) ≡ start_in sets (n + 1) s =
    let sized : length (bytes_of (set s)) ≡ length ys = ap (λ o. length (bytes_of o)) part.1 in
    length-append xs ps ∙ omega (arith, start_in-next sets n set s here) in
    ap (λ o. put_sets big sets symbols s (n + 1) rest (put_records big (joined_layout sets symbols n s) (map (moved (start_in sets n s)) (relocations_of o)) (Some (xs ++ (bytes_of o ++ concatenated s rest))))) part.1
    ∙ ap (put_sets big sets symbols s (n + 1) rest) (behind l m.records xs ys ps (concatenated s rest) start put)
    ∙ sets_from big sets symbols s (n + 1) rest (xs ++ ps) qs (λ j k f. let z : n + 1 + j ≡ n + suc j = omega arith in ap (slice_get sets) z ∙ at (suc j) k f) (λ j k m f. ready (suc j) k m f) next two.3
    ∙ ap Some (append_assoc xs ps qs ∙ ap (λ k. xs ++ k) two.4)
  where
    behind : (l : Layout) (rs : List Relocation) (xs ys ps more : List ℕ) → length xs ≡ l.own_start → put_records big l rs (Some ys) ≡ Some ps →
        put_records big (record l { own_start = 0 }) (map (moved l.own_start) rs) (Some (xs ++ (ys ++ more))) ≡ Some ((xs ++ ps) ++ more)
    behind l rs xs ys ps more at e = part_between big l rs xs ys ps more at e

-- the join is the linked parts
pub join-is : (big : Bool) (sets : List Parts) (symbols : List ℕ) (s : SectionId) (zs : List ℕ) →
    ((n : ℕ) (set : Parts) (m : Meaning) → slice_get sets n ≡ Some set → set s ≡ Some m → IsReady big m) → linked_parts sets symbols s ≡ Some zs → join big sets symbols s ≡ Some zs
unfolding join linked_parts
join-is big sets symbols s zs ready e =
    sets_from big sets symbols s 0 sets [] zs (λ j set f. let z : 0 + j ≡ j = omega arith in ap (slice_get sets) z ∙ f) ready refl e
