-- What stands in a unit after its header is read again.
use Rattle.std.proofs.Common.{◌≡◌, ◌∙◌, ap, ℕ, zero, suc, ◌+◌, ◌-◌, ◌<◌, ◌≤◌, Bool, false, List, [], ◌∷◌, ◌++◌, length, map, Option, Some, None, refl, arith, All, nat_eq, append_assoc, length-append}
use Rattle.std.specs.List.{flat_map}
use Rattle.std.proofs.lemmas.Bool.{ne_eqb}
use Rattle.std.proofs.lemmas.List.Elements.{All-head, All-tail}
use Rattle.dw_base.specs.Numbers.{◌>>=◌, number_at, num}
use Rattle.dw_base.specs.Leb128.{groups_at, uleb_at, uleb}
use Rattle.dw_base.specs.Forms.{Operand, Absent, Number, Signed, Bytes, Text, Kind, Empty, Fixed, Uleb, Sleb, Block, UlebBlock, Zeroed, Indirect, kind_of, text_at, number_operand, block_operand, direct_at, in_form, kind_at, form_at}
use Rattle.dw_base.specs.Abbreviations.{Declaration}
use Rattle.dw_base.specs.Entries.{ReadAttribute, ReadEntry, Mark, Open, Null, attributes_at, mark_at, next_depth, rows_at, children_of}
use Rattle.dw_base.specs.Spelling.{kind_bytes, operand_bytes, attribute_bytes, mark_bytes, body_bytes, rows_of}
use Rattle.dw_base.specs.Spellable.{IsText, KindFits, FormFits, IsAttribute, specification_of, IsEntry, IsMark}
use Rattle.dw_base.specs.declared.common.Encoding.{Encoding}
use Rattle.dw_base.proofs.NumberLaws.{bind_is, bytes_at-again, number-fits-again}
use Rattle.dw_base.proofs.Leb128Laws.{uleb-again, uleb_long, sleb-again}

text-again : (t rest : List ℕ) → IsText t → text_at (t ++ 0 ∷ rest) ≡ Some (t, rest)
unfolding text_at
text-again [] rest h = refl
text-again (zero ∷ t) rest h = absurd (omega (arith, All-head (λ b. 0 < b) zero t h))
text-again (suc b ∷ t) rest h =
    bind_is _ (t, rest) (λ x. Some (suc b ∷ x.0, x.1)) (text-again t rest (All-tail (λ b. 0 < b) (suc b) t h))

block-again : (xs rest : List ℕ) (length_read : Option (ℕ × List ℕ)) → length_read ≡ Some (length xs, xs ++ rest) → block_operand length_read ≡ Some (Bytes xs, rest)
block-again xs rest length_read e =
    bind_is _ (length xs, xs ++ rest) _ e ∙ bind_is _ (xs, rest) (λ x. Some (Bytes x.0, x.1)) (bytes_at-again xs rest)

-- an operand in a kind that leads to no other form
direct-again : (big : Bool) (k : Kind) (o : Operand) (rest : List ℕ) → KindFits k o → direct_at big k (kind_bytes big k o ++ rest) ≡ Some (o, rest)
unfolding direct_at
direct-again big Empty Absent rest h = refl
direct-again big (Fixed w) (Number n) rest h = ap number_operand (number-fits-again big w n rest h)
direct-again big Uleb (Number n) rest h = ap number_operand (uleb-again n rest h)
direct-again big Sleb (Signed z) rest h = bind_is _ (z, rest) (λ x. Some (Signed x.0, x.1)) (sleb-again z rest h)
direct-again big (Block w) (Bytes xs) rest h =
    ap (λ bs. block_operand (number_at big w bs)) (append_assoc (num big w (length xs)) xs rest)
    ∙ block-again xs rest _ (number-fits-again big w (length xs) (xs ++ rest) h)
direct-again big UlebBlock (Bytes xs) rest h =
    ap (λ bs. block_operand (uleb_at bs)) (append_assoc (uleb (length xs)) xs rest)
    ∙ block-again xs rest _ (uleb-again (length xs) (xs ++ rest) h)
direct-again big Zeroed (Text t) rest h =
    bind_is _ (t, rest) (λ x. Some (Text x.0, x.1)) (ap text_at (append_assoc t (0 ∷ []) rest) ∙ text-again t rest h)
direct-again big k o rest h = absurd h

pub kind-again : (big : Bool) (e : Encoding) (form : ℕ) (k : Kind) (o : Operand) (rest : List ℕ) → KindFits k o → kind_at big e form k (kind_bytes big k o ++ rest) ≡ Some ((form, o), rest)
kind-again big e form Indirect o rest h = absurd h
kind-again big e form Empty o rest h = ap (in_form form) (direct-again big Empty o rest h)
kind-again big e form (Fixed w) o rest h = ap (in_form form) (direct-again big (Fixed w) o rest h)
kind-again big e form Uleb o rest h = ap (in_form form) (direct-again big Uleb o rest h)
kind-again big e form Sleb o rest h = ap (in_form form) (direct-again big Sleb o rest h)
kind-again big e form (Block w) o rest h = ap (in_form form) (direct-again big (Block w) o rest h)
kind-again big e form UlebBlock o rest h = ap (in_form form) (direct-again big UlebBlock o rest h)
kind-again big e form Zeroed o rest h = ap (in_form form) (direct-again big Zeroed o rest h)

operand-again : (big : Bool) (e : Encoding) (form : ℕ) (k : Option Kind) (o : Operand) (rest : List ℕ) → FormFits k o → (k >>= λ x. kind_at big e form x (operand_bytes big k o ++ rest)) ≡ Some ((form, o), rest)
operand-again big e form None o rest h = absurd h
operand-again big e form (Some k) o rest h = kind-again big e form k o rest h

pub form-again : (big : Bool) (e : Encoding) (a : ReadAttribute) (rest : List ℕ) → IsAttribute e a → form_at big e a.form (attribute_bytes big e a ++ rest) ≡ Some ((a.form, a.operand), rest)
unfolding form_at
form-again big e a rest h = operand-again big e a.form (kind_of e a.form) a.operand rest h

attributes-again : (big : Bool) (e : Encoding) (given : List ReadAttribute) (rest : List ℕ) → All (IsAttribute e) given → attributes_at big e (map specification_of given) (flat_map (attribute_bytes big e) given ++ rest) ≡ Some (given, rest)
unfolding attributes_at
attributes-again big e [] rest h = refl
attributes-again big e (a ∷ given) rest h =
    ap (attributes_at big e (map specification_of (a ∷ given))) (append_assoc (attribute_bytes big e a) (flat_map (attribute_bytes big e) given) rest)
    ∙ bind_is _ _ _ (form-again big e a (flat_map (attribute_bytes big e) given ++ rest) (All-head (IsAttribute e) a given h))
    ∙ bind_is _ _ _ (attributes-again big e given rest (All-tail (IsAttribute e) a given h))

open_again : (big : Bool) (e : Encoding) (table : List Declaration) (x : ReadEntry) (rest : List ℕ) → IsEntry e table x → mark_at big e table (uleb x.code ++ (flat_map (attribute_bytes big e) x.attributes ++ rest)) ≡ Some (Open x, rest)
unfolding mark_at
open_again big e table x rest h =
    let e1 = uleb-again x.code (flat_map (attribute_bytes big e) x.attributes ++ rest) h.code_fits in
    let e2 : nat_eq x.code 0 ≡ false = ne_eqb x.code 0 (λ z. omega (arith, h.code)) in
    let e3 = attributes-again big e x.attributes rest h.attributes in
    bind_is _ _ _ e1 ∙ rw e2 (bind_is _ _ _ h.declared ∙ bind_is _ _ _ e3)

close_again : (big : Bool) (e : Encoding) (table : List Declaration) (rest : List ℕ) → mark_at big e table (0 ∷ rest) ≡ Some (Null, rest)
unfolding mark_at uleb_at groups_at
close_again big e table rest = refl

pub mark-again : (big : Bool) (e : Encoding) (table : List Declaration) (m : Mark ReadEntry) (rest : List ℕ) → IsMark e table m → mark_at big e table (mark_bytes big e m ++ rest) ≡ Some (m, rest)
mark-again big e table (Open x) rest h =
    ap (mark_at big e table) (append_assoc (uleb x.code) (flat_map (attribute_bytes big e) x.attributes) rest)
    ∙ open_again big e table x rest h
mark-again big e table Null rest h = close_again big e table rest

mark_long : (big : Bool) (e : Encoding) (m : Mark ReadEntry) → 0 < length (mark_bytes big e m)
mark_long big e (Open x) =
    omega (arith, uleb_long x.code, length-append (uleb x.code) (flat_map (attribute_bytes big e) x.attributes))
mark_long big e Null = omega arith

pub body_long : (big : Bool) (e : Encoding) (ms : List (Mark ReadEntry)) → length ms ≤ length (body_bytes big e ms)
body_long big e [] = omega arith
body_long big e (m ∷ ms) =
    omega (arith, body_long big e ms, mark_long big e m, length-append (mark_bytes big e m) (body_bytes big e ms))

rows_more : (fuel : ℕ) (big : Bool) (e : Encoding) (table : List Declaration) (from depth : ℕ) (bytes : List ℕ) (m : Mark ReadEntry) (rest : List ℕ) → 0 < length bytes → mark_at big e table bytes ≡ Some (m, rest) → rows_at (suc fuel) big e table from depth bytes ≡ (rows_at fuel big e table (from + (length bytes - length rest)) (next_depth m depth) rest >>= λ more. Some (record { from = from; depth = depth; mark = m; to = from + (length bytes - length rest) } ∷ more))
unfolding rows_at
rows_more fuel big e table from depth [] m rest h read = absurd (omega arith)
rows_more fuel big e table from depth (b ∷ bs) m rest h read = bind_is _ _ _ read

pub rows-again : (ms : List (Mark ReadEntry)) (fuel : ℕ) (big : Bool) (e : Encoding) (table : List Declaration) (from depth : ℕ) → All (IsMark e table) ms → length ms ≤ fuel → rows_at fuel big e table from depth (body_bytes big e ms) ≡ Some (rows_of big e from depth ms)
unfolding rows_of rows_at
rows-again [] fuel big e table from depth h le = refl
rows-again (m ∷ ms) zero big e table from depth h le = absurd (omega arith)
rows-again (m ∷ ms) (suc fuel) big e table from depth h le =
    let rest = body_bytes big e ms in
    let all = mark_bytes big e m ++ rest in
    let long : 0 < length all = omega (arith, mark_long big e m, length-append (mark_bytes big e m) rest) in
    let to : from + (length all - length rest) ≡ from + length (mark_bytes big e m) = omega (arith, length-append (mark_bytes big e m) rest) in
    let after = from + length (mark_bytes big e m) in
    rows_more fuel big e table from depth all m rest long (mark-again big e table m rest (All-head (IsMark e table) m ms h))
    ∙ ap (λ p. rows_at fuel big e table p (next_depth m depth) rest >>= λ more. Some (record { from = from; depth = depth; mark = m; to = p } ∷ more)) to
    ∙ bind_is _ _ _ (rows-again ms fuel big e table after (next_depth m depth) (All-tail (IsMark e table) m ms h) (omega arith))

-- the rows of marks are those marks
pub children-rows_of : (big : Bool) (e : Encoding) (from depth : ℕ) (ms : List (Mark ReadEntry)) → map (λ r. children_of r.mark) (rows_of big e from depth ms) ≡ map children_of ms
unfolding rows_of
children-rows_of big e from depth [] = refl
children-rows_of big e from depth (m ∷ ms) =
    ap (λ cs. children_of m ∷ cs) (children-rows_of big e (from + length (mark_bytes big e m)) (next_depth m depth) ms)
