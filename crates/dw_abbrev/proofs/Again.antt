-- What numbered shapes declare, and that a table of them is read again.
use Rattle.std.specs.Prelude.{◌≡◌, ℕ, zero, suc, ◌+◌, ◌≤◌, ◌<◌, ◌^◌, Bool, true, false, not, ◌&&◌, List, [], ◌∷◌, length, get_or, IsTrue, All, refl}
use Rattle.std.proofs.Common.{sym, ◌∙◌, ap, arith}
use Rattle.std.proofs.lemmas.Bool.{ne_eqb}
use Rattle.std.proofs.lemmas.List.Elements.{All-nil, All-cons, All-head, All-tail}
use Rattle.dw_base.specs.Abbreviations.{Shape, Declaration, is_new_code}
use Rattle.dw_base.specs.Spellable.{IsDeclaration, codes_differ, AreDeclarations}
use Rattle.dw_base.proofs.TableLaws.{table-again}
use Rattle.dw_abbrev.specs.Codes.{numbered, declarations, IsShape, IsReadAgain}

-- each shape is declared under a code
each_declares : (code : ℕ) (ss : List Shape) → 0 < code → code + length ss ≤ 2 ^ 64 → All IsShape ss → All IsDeclaration (numbered code ss)
each_declares code [] positive fits h = All-nil IsDeclaration
each_declares code (s ∷ ss) positive fits h =
    let here = All-head IsShape s ss h in
    All-cons IsDeclaration (record { code = code; shape = s }) (numbered (suc code) ss)
    (record { code = positive; code_fits = omega arith; tag = here.tag; tag_fits = here.tag_fits; attributes = here.attributes })
    (each_declares (suc code) ss (omega arith) (omega arith) (All-tail IsShape s ss h))

and_true : (a b : Bool) → IsTrue a → IsTrue b → IsTrue (a && b)
and_true true b p q = q
and_true false b p q = p

not_true : (b : Bool) → b ≡ false → IsTrue (not b)
not_true true e = cc
not_true false e = refl

-- a code is new above which numbers begin
new_below : (code low : ℕ) (ss : List Shape) → code < low → IsTrue (is_new_code code (numbered low ss))
new_below code low [] h = refl
new_below code low (s ∷ ss) h =
    and_true _ _ (not_true _ (ne_eqb low code (λ e. omega (arith, e)))) (new_below code (suc low) ss (omega arith))

-- no code is given twice
numbers_differ : (code : ℕ) (ss : List Shape) → IsTrue (codes_differ (numbered code ss))
numbers_differ code [] = refl
numbers_differ code (s ∷ ss) = and_true _ _ (new_below code (suc code) ss (omega arith)) (numbers_differ (suc code) ss)

-- what a table of these shapes declares has a spelling
pub declarations_are : (shapes : List Shape) → All IsShape shapes → length shapes < 2 ^ 64 → AreDeclarations (declarations shapes)
declarations_are shapes h fits = record { each = each_declares 1 shapes (omega arith) (omega arith) h; differ = numbers_differ 1 shapes }

-- that spelling is read again, whatever follows it
pub numbered-again : (shapes : List Shape) → All IsShape shapes → length shapes < 2 ^ 64 → IsReadAgain shapes
numbered-again shapes h fits rest = table-again (declarations shapes) rest (declarations_are shapes h fits)

-- the declaration at a place
get_or-numbered : (n : ℕ) (ss : List Shape) (i : ℕ) (d : Declaration) (e : Shape) → i < length ss → get_or (numbered n ss) i d ≡ record { code = n + i; shape = get_or ss i e }
get_or-numbered n [] i d e h = absurd (omega arith)
get_or-numbered n (s ∷ ss) zero d e h = ap (λ k. record { code = k; shape = s }) (omega arith)
get_or-numbered n (s ∷ ss) (suc i) d e h =
    get_or-numbered (suc n) ss i d e (omega arith) ∙ ap (λ k. record { code = k; shape = get_or ss i e }) (omega arith)

-- the same, of the shape at that place
pub numbered_at : (ss : List Shape) (i : ℕ) (s : Shape) → i < length ss → s ≡ get_or ss i s → let d : Declaration = record { code = i + 1; shape = s } in d ≡ get_or (declarations ss) i d
numbered_at ss i s h is =
    let d : Declaration = record { code = i + 1; shape = s } in
    let number : i + 1 ≡ 1 + i = omega arith in
    (λ k. record { code = number k; shape = is k }) ∙ sym (get_or-numbered 1 ss i d s h)

-- there are as many declarations as shapes
pub length-numbered : (n : ℕ) (ss : List Shape) → length (numbered n ss) ≡ length ss
length-numbered n [] = refl
length-numbered n (s ∷ ss) = ap suc (length-numbered (suc n) ss)
