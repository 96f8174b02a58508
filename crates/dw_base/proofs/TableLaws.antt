-- An abbreviation table that is spelled is read again, whatever follows it.
use Rattle.std.proofs.Common.{◌≡◌, ◌∙◌, ap, ℕ, zero, suc, ◌^◌, ◌<◌, ◌≤◌, Bool, true, false, List, [], ◌∷◌, ◌++◌, length, Option, Some, None, ℤ, refl, arith, IsTrue, All, nat_eq, ◌==◌, if◌then◌else◌, append_assoc, length-append}
use Rattle.std.specs.List.{flat_map}
use Rattle.std.proofs.lemmas.Bool.{ne_eqb, and_parts}
use Rattle.std.proofs.lemmas.List.Elements.{All-head, All-tail}
use Rattle.dw_base.specs.Numbers.{◌>>=◌}
use Rattle.dw_base.specs.Leb128.{groups_at, uleb_at, uleb16_at, sleb_at, uleb}
use Rattle.dw_base.specs.Forms.{implicit_const}
use Rattle.dw_base.specs.Abbreviations.{Specification, Shape, Declaration, specifications_at, children_at, shape_at, is_new_code, declarations_at, table_at}
use Rattle.dw_base.specs.Spelling.{constant_bytes, specification_bytes, children_byte, shape_bytes, declaration_bytes, table_bytes}
use Rattle.dw_base.specs.Spellable.{IsConstant, IsSpecification, IsDeclaration, codes_differ, AreDeclarations}
use Rattle.dw_base.proofs.NumberLaws.{bind_is}
use Rattle.dw_base.proofs.Leb128Laws.{uleb-again, uleb16-again, uleb_long, sleb-again}

constant_if : (asked : Bool) (c : Option ℤ) (rest : List ℕ) → IsConstant asked c → (if asked then ◌>>=◌ {B = Option ℤ × List ℕ} (sleb_at (constant_bytes c ++ rest)) (λ x. Some (Some x.0, x.1)) else Some (None, constant_bytes c ++ rest)) ≡ Some (c, rest)
constant_if true (Some z) rest h = bind_is _ (z, rest) (λ x. Some (Some x.0, x.1)) (sleb-again z rest h)
constant_if true None rest h = absurd h
constant_if false (Some z) rest h = absurd h
constant_if false None rest h = refl

specifications_end : (fuel : ℕ) (rest : List ℕ) → specifications_at (suc fuel) (0 ∷ 0 ∷ rest) ≡ Some ([], rest)
unfolding specifications_at uleb16_at uleb_at groups_at
specifications_end fuel rest = refl

specifications_more : (fuel : ℕ) (s : Specification) (bytes : List ℕ) → IsSpecification s → specifications_at (suc fuel) (uleb s.name ++ (uleb s.form ++ (constant_bytes s.constant ++ bytes))) ≡ (specifications_at fuel bytes >>= λ more. Some (s ∷ more.0, more.1))
unfolding specifications_at
specifications_more fuel s bytes h =
    let e1 = uleb16-again s.name (uleb s.form ++ (constant_bytes s.constant ++ bytes)) h.name_fits in
    let e2 = uleb16-again s.form (constant_bytes s.constant ++ bytes) h.form_fits in
    let e3 : nat_eq s.name 0 ≡ false = ne_eqb s.name 0 (λ z. omega (arith, h.name)) in
    rw (specifications_at, e1) (rw e2 (rw e3 (bind_is _ _ _ (constant_if (s.form == implicit_const) s.constant bytes h.constant))))

specifications-again : (fuel : ℕ) (ss : List Specification) (rest : List ℕ) → All IsSpecification ss → length ss < fuel → specifications_at fuel (flat_map specification_bytes ss ++ 0 ∷ 0 ∷ rest) ≡ Some (ss, rest)
specifications-again zero ss rest h le = absurd (omega arith)
specifications-again (suc fuel) [] rest h le = specifications_end fuel rest
specifications-again (suc fuel) (s ∷ ss) rest h le =
    let regrouped : flat_map specification_bytes (s ∷ ss) ++ 0 ∷ 0 ∷ rest ≡ uleb s.name ++ (uleb s.form ++ (constant_bytes s.constant ++ (flat_map specification_bytes ss ++ 0 ∷ 0 ∷ rest))) = simp append_assoc in
    ap (specifications_at (suc fuel)) regrouped
    ∙ specifications_more fuel s _ (All-head IsSpecification s ss h)
    ∙ bind_is _ (ss, rest) _ (specifications-again fuel ss rest (All-tail IsSpecification s ss h) (omega arith))

specifications_long : (ss : List Specification) → length ss ≤ length (flat_map specification_bytes ss)
specifications_long [] = omega arith
specifications_long (s ∷ ss) =
    omega (arith, specifications_long ss, uleb_long s.name, length-append (uleb s.name) (uleb s.form ++ constant_bytes s.constant), length-append (specification_bytes s) (flat_map specification_bytes ss))

children-again : (b : Bool) (rest : List ℕ) → children_at (children_byte b ∷ rest) ≡ Some (b, rest)
children-again true rest = refl
children-again false rest = refl

pub shape-again : (s : Shape) (rest : List ℕ) → 0 < s.tag → s.tag < 2 ^ 16 → All IsSpecification s.attributes → shape_at (shape_bytes s ++ rest) ≡ Some (s, rest)
unfolding shape_at
shape-again s rest positive small attributes =
    let tail : List ℕ = flat_map specification_bytes s.attributes ++ 0 ∷ 0 ∷ rest in
    let regrouped : shape_bytes s ++ rest ≡ uleb s.tag ++ children_byte s.has_children ∷ tail = simp append_assoc in
    let e1 = uleb16-again s.tag (children_byte s.has_children ∷ tail) small in
    let e2 : nat_eq s.tag 0 ≡ false = ne_eqb s.tag 0 (λ z. omega (arith, positive)) in
    let e3 = specifications-again (length tail) s.attributes rest attributes (omega (arith, specifications_long s.attributes, length-append (flat_map specification_bytes s.attributes) (0 ∷ 0 ∷ rest))) in
    ap shape_at regrouped ∙ bind_is _ _ _ e1 ∙ rw e2 (bind_is _ _ _ (children-again s.has_children tail) ∙ bind_is _ _ _ e3)

declarations_end : (fuel : ℕ) (rest : List ℕ) → declarations_at (suc fuel) (0 ∷ rest) ≡ Some ([], rest)
unfolding declarations_at uleb_at groups_at
declarations_end fuel rest = refl

declarations_more : (fuel : ℕ) (d : Declaration) (ds : List Declaration) (bytes rest : List ℕ) → IsDeclaration d → IsTrue (is_new_code d.code ds) → declarations_at fuel bytes ≡ Some (ds, rest) → declarations_at (suc fuel) (uleb d.code ++ (shape_bytes d.shape ++ bytes)) ≡ Some (d ∷ ds, rest)
unfolding declarations_at
declarations_more fuel d ds bytes rest h new e =
    let e1 = uleb-again d.code (shape_bytes d.shape ++ bytes) h.code_fits in
    let e2 : nat_eq d.code 0 ≡ false = ne_eqb d.code 0 (λ z. omega (arith, h.code)) in
    let e3 = shape-again d.shape bytes h.tag h.tag_fits h.attributes in
    rw (declarations_at, e1) (rw e2 (bind_is _ _ _ e3 ∙ bind_is _ _ _ e ∙ rw new refl))

declarations-again : (fuel : ℕ) (ds : List Declaration) (rest : List ℕ) → All IsDeclaration ds → IsTrue (codes_differ ds) → length ds < fuel → declarations_at fuel (table_bytes ds ++ rest) ≡ Some (ds, rest)
declarations-again zero ds rest h differ le = absurd (omega arith)
declarations-again (suc fuel) [] rest h differ le = declarations_end fuel rest
declarations-again (suc fuel) (d ∷ ds) rest h differ le =
    let parts = and_parts (is_new_code d.code ds) (codes_differ ds) differ in
    let regrouped : table_bytes (d ∷ ds) ++ rest ≡ uleb d.code ++ (shape_bytes d.shape ++ (table_bytes ds ++ rest)) = simp append_assoc in
    ap (declarations_at (suc fuel)) regrouped
    ∙ declarations_more fuel d ds _ rest (All-head IsDeclaration d ds h) parts.0 (declarations-again fuel ds rest (All-tail IsDeclaration d ds h) parts.1 (omega arith))

declarations_long : (ds : List Declaration) → length ds ≤ length (flat_map declaration_bytes ds)
declarations_long [] = omega arith
declarations_long (d ∷ ds) =
    omega (arith, declarations_long ds, uleb_long d.code, length-append (uleb d.code) (shape_bytes d.shape), length-append (declaration_bytes d) (flat_map declaration_bytes ds))

pub table-again : (ds : List Declaration) (rest : List ℕ) → AreDeclarations ds → table_at (table_bytes ds ++ rest) ≡ Some (ds, rest)
unfolding table_at
table-again ds rest h =
    declarations-again (length (table_bytes ds ++ rest)) ds rest h.each h.differ (omega (arith, declarations_long ds, length-append (flat_map declaration_bytes ds) (0 ∷ []), length-append (table_bytes ds) rest))
