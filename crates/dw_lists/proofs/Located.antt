-- Items with the expressions of locations: their sizes, what is written of them, and why they are refused.
use Rattle.std.specs.Prelude.{◌≡◌, ℕ, zero, suc, ◌+◌, ◌<◌, ◌^◌, Bool, true, false, List, [], ◌∷◌, length, Option, Some, None, refl, IsTrue, Result, OnOk, IfErr}
use Rattle.std.proofs.Common.{sym, ◌∙◌, ap, subst}
use Rattle.std.proofs.lemmas.Bool.{leb-false, or_left, or_right}
use Rattle.std.proofs.Math.Path.{fun_ext}
use Rattle.dw_base.specs.Numbers.{◌>>=◌, num, is_width, fits}
use Rattle.dw_base.specs.Leb128.{uleb}
use Rattle.dw_base.specs.declared.common.Encoding.{Encoding}
use Rattle.dw_base.specs.declared.error.Error.{Error}
use Rattle.dw_base.specs.declared.error.Error.TheVariants as errors
use Rattle.dw_writer.specs.Meaning.{Meaning, IsSameWriter, Adds}
use Rattle.dw_writer.specs.SectionTexts.{bytes_text}
use Rattle.dw_writer.proofs.FaultLaws.{HasRisen-from}
use Rattle.dw_writer.proofs.Outcomes.{OnOk-map, IfErr-map}
use Rattle.dw_writer.proofs.Steps.{Adds-appends}
use Rattle.dw_writer.specs.Drafts.{whole, then_draft, Drafts}
use Rattle.dw_writer.specs.declared.fixup.DebugInfoFixup.{DebugInfoFixup}
use Rattle.dw_writer.proofs.WriteLaws.{Drafts-then, Drafts-whole}
use Rattle.dw_expr.specs.Trees.{Node}
use Rattle.dw_expr.specs.Places.{place_by, Refused as expressions_refused}
use Rattle.dw_expr.specs.Spelling.{expression_draft, expression_size}
use Rattle.dw_expr.specs.Causes as expressions
use Rattle.dw_lists.specs.declared.kinds.Kinds.{Kinds}
use Rattle.dw_lists.specs.declared.range.Range.{Range}
use Rattle.dw_lists.specs.Items.{Span, is_five}
use Rattle.dw_lists.specs.Parts.{Part, part_at, ranges_parts}
use Rattle.dw_lists.specs.Pieces.{IsWritten}
use Rattle.dw_lists.specs.Texts.{count_draft, located, part_draft, span_draft, span_in, span_text, span_size}
use Rattle.dw_lists.specs.Causes.{Refused, Is, IsNone, count_of_fails, located_fails, old_span_fails, new_span_fails, old_fails, new_part_fails}
use Rattle.dw_lists.proofs.Causes.{neither_cause, first_none}
use Rattle.dw_lists.proofs.Refusals.{weaker}
use Rattle.dw_lists.proofs.Spans.{written-number}
use Rattle.dw_lists.proofs.TableCauses.{unsized_quiet}

-- Sizes

pub located_sum : (v : Encoding) (place : ℕ → Option ℕ) (x : List Node) → (located true v place (Some x)).size ≡ length (uleb (expression_size v place x)) + expression_size v place x
unfolding then_draft
located_sum v place x = refl

pub part_size_is : (v : Encoding) (place : ℕ → Option ℕ) (k : Kinds) (p : Part) (r : Option Range) (x : Option (List Node)) → r ≡ p.range → x ≡ p.expression →
    span_size true v.address_size r + (located true v place x).size ≡ (part_draft true v place k p).size
unfolding then_draft
part_size_is v place k p r x e f = ap (λ s. span_size true v.address_size s + (located true v place x).size) e ∙ ap (λ y. span_size true v.address_size p.range + (located true v place y).size) f

-- an expression that has a size has one of 64 bits
pub sized_small : (v : Encoding) (known : Option (ℕ → Option ℕ)) (x : List Node) → IsNone (expressions.size_fails v known x) → expression_size v (place_by known) x < 2 ^ 64
sized_small v known x h =
    leb-false (2 ^ 64) (expression_size v (place_by known) x)
    (first_none (expressions.length_fails (expression_size v (place_by known) x)) (expressions.nodes_unplaced v known x) h errors.ValueTooLarge)

-- What is written, and why it isn't

module _ (v : Encoding) (known : Option (ℕ → Option ℕ)) (plain : Bool) where
  -- why an expression has no size is why it can't be written
  pub size_located : (old new : Meaning) (five : Bool) (x : List Node) (e : Error) → Is (expressions.size_fails v known x) e → Refused old new (Is (located_fails v known plain five (Some x))) e
  size_located old new five x errors.NoMemory h = tt
  size_located old new five x errors.WriteFault h = absurd (unsized_quiet v known old (Some x) h)
  size_located old new five x e h = or_left _ _ (or_left _ _ h)

  pub old_part_none : (base : Bool) (r : Option Range) (x : Option (List Node)) → IsNone (old_span_fails base plain v.address_size r) → IsNone (located_fails v known plain false x) → IsNone (old_fails v known plain base (record { range = r; expression = x }))
  old_part_none base r x n h = neither_cause (old_span_fails base plain v.address_size r) (located_fails v known plain false x) n h

  pub new_part_none : (r : Option Range) (x : Option (List Node)) → IsNone (new_span_fails plain v.address_size r) → IsNone (located_fails v known plain true x) → IsNone (new_part_fails v known plain (record { range = r; expression = x }))
  new_part_none r x n h = neither_cause (new_span_fails plain v.address_size r) (located_fails v known plain true x) n h

-- a call that writes an expression behind its length, from what its last call answers
module _ (v : Encoding) (known : Option (ℕ → Option ℕ)) (five : Bool) (o : Option (List Node)) (x : List Node) (is : o ≡ Some x) where
  refused_by : (a b c : Meaning) → IsSameWriter a b → (e : Error) → expressions_refused b c (expressions.expression_fails v known true b.is_plain x) e → Refused a c (Is (located_fails v known a.is_plain five (Some x))) e
  refused_by a b c same errors.NoMemory h = tt
  refused_by a b c same errors.WriteFault h = HasRisen-from a b c same.faults h
  refused_by a b c same e h = or_left _ _ (subst (λ p. Is (expressions.expression_fails v known true p x) e) same.kind h)

  pub located_refused : {T : Type 0} (r : Result T Error) (a b c : Meaning) → IsSameWriter a b → IfErr r (expressions_refused b c (expressions.expression_fails v known true b.is_plain x)) →
      IfErr r (Refused a c (Is (located_fails v known a.is_plain five o)))
  located_refused r a b c same h =
      subst (λ y. IfErr r (Refused a c (Is (located_fails v known a.is_plain five y)))) (sym is) (IfErr-map r h (refused_by a b c same))

  pub count_located : (a b : Meaning) (n : ℕ) → n ≡ expression_size v (place_by known) x → (e : Error) → Refused a b (Is (count_of_fails five n)) e → Refused a b (Is (located_fails v known a.is_plain five o)) e
  count_located a b n size e h =
      subst (λ y. Refused a b (Is (located_fails v known a.is_plain five y)) e) (sym is)
      (weaker a b (Is (count_of_fails five n)) (Is (located_fails v known a.is_plain five (Some x)))
      (λ err k. or_right (expressions.expression_fails v known true a.is_plain x err) _ (subst (λ m. Is (count_of_fails five m) err) size k)) e h)

  pub located_sound : {T : Type 0} (r : Result T Error) (a b : Meaning) (n : ℕ) → IsSameWriter a b → n ≡ expression_size v (place_by known) x → IsNone (count_of_fails five n) →
      OnOk r (IsNone (expressions.expression_fails v known true b.is_plain x)) → OnOk r (IsNone (located_fails v known a.is_plain five o))
  located_sound r a b n same size k h =
      subst (λ y. OnOk r (IsNone (located_fails v known a.is_plain five y))) (sym is)
      (OnOk-map r h (λ none.
      neither_cause (expressions.expression_fails v known true a.is_plain x) (count_of_fails five (expression_size v (place_by known) x))
      (subst (λ p. IsNone (expressions.expression_fails v known true p x)) same.kind none)
      (subst (λ m. IsNone (count_of_fails five m)) size k)))

-- the causes of an item are those of its range and of its expression
module _ (v : Encoding) (known : Option (ℕ → Option ℕ)) (plain : Bool) (x : Option (List Node)) where
  pub in_old_span : (base : Bool) (r : Option Range) (e : Error) → Is (old_span_fails base plain v.address_size r) e → Is (old_fails v known plain base (record { range = r; expression = x })) e
  in_old_span base r e h = or_left _ (located_fails v known plain false x e) h

  pub in_old_expression : (base : Bool) (r : Option Range) (e : Error) → Is (located_fails v known plain false x) e → Is (old_fails v known plain base (record { range = r; expression = x })) e
  in_old_expression base r e h = or_right (old_span_fails base plain v.address_size r e) _ h

  pub in_new_span : (r : Option Range) (e : Error) → Is (new_span_fails plain v.address_size r) e → Is (new_part_fails v known plain (record { range = r; expression = x })) e
  in_new_span r e h = or_left _ (located_fails v known plain true x e) h

  pub in_new_expression : (r : Option Range) (e : Error) → Is (located_fails v known plain true x) e → Is (new_part_fails v known plain (record { range = r; expression = x })) e
  in_new_expression r e h = or_right (new_span_fails plain v.address_size r e) _ h

pub part_drafts : {a b c : Meaning} {x y : List DebugInfoFixup} (five is : Bool) (v : Encoding) (place : ℕ → Option ℕ) (k : Kinds) (r : Option Range) (e : Option (List Node)) → is ≡ five →
    IsWritten a b (span_draft five k v.address_size r) → Drafts b c x y (located is v place e) → Drafts a c x y (part_draft five v place k (record { range = r; expression = e }))
part_drafts {a} {b} {c} {x} {y} five is v place k r e same p q = Drafts-then (Drafts-whole x p) (subst (λ i. Drafts b c x y (located i v place e)) same q)

pub located_drafts : {a b c : Meaning} {x y : List DebugInfoFixup} (five : Bool) (v : Encoding) (place : ℕ → Option ℕ) (n : ℕ) (e : List Node) → n ≡ expression_size v place e →
    IsWritten a b (count_draft five n) → Drafts b c x y (expression_draft v place e) → Drafts a c x y (located five v place (Some e))
located_drafts {a} {b} {c} {x} {y} five v place n e same p q =
    let counted : IsWritten a b (count_draft five (expression_size v place e)) = subst (λ m. IsWritten a b (count_draft five m)) same p in
    Drafts-then (drafts_count five x (expression_size v place e) counted) q
  where
    drafts_count : {a b : Meaning} (five : Bool) (x : List DebugInfoFixup) (n : ℕ) → IsWritten a b (count_draft five n) → Drafts a b x x (count_draft five n)
    drafts_count true x n h = Drafts-whole x h
    drafts_count false x n h = Drafts-whole x h

-- range lists have no expressions
pub no_expression : (rs : List Range) (i : ℕ) → (part_at (ranges_parts rs) i).expression ≡ None
no_expression [] i = refl
no_expression (r ∷ rs) zero = refl
no_expression (r ∷ rs) (suc i) = no_expression rs i

-- up to version 4 items have no kinds
pub without_kinds : (v : Encoding) (place : ℕ → Option ℕ) (j k : Kinds) (p : Part) → part_draft false v place j p ≡ part_draft false v place k p
without_kinds v place j k p =
    ap (λ t. then_draft (whole (span_size false v.address_size p.range) t) (located false v place p.expression))
    (fun_ext (λ big. fun_ext (λ l. by big (span_in false l p.range))))
  where
    by : (big : Bool) (o : Option Span) → (o >>= span_text false j big v.address_size) ≡ (o >>= span_text false k big v.address_size)
    by big None = refl
    by big (Some s) = refl

-- Lengths of expressions

pub counted_new : {a b : Meaning} (v : Encoding) (n : ℕ) → is_five v ≡ true → Adds a b (uleb n) → IsWritten a b (count_draft (is_five v) n)
unfolding bytes_text
counted_new {a} {b} v n five p = subst (λ i. IsWritten a b (count_draft i n)) (sym five) (Adds-appends p)

pub counted_old : {a b : Meaning} (v : Encoding) (n : ℕ) → is_five v ≡ false → IsTrue (is_width 2) × IsTrue (fits 2 n) → Adds a b (num a.is_big 2 n) → IsWritten a b (count_draft (is_five v) n)
counted_old {a} {b} v n four h p = subst (λ i. IsWritten a b (count_draft i n)) (sym four) (written-number 2 n h p)
