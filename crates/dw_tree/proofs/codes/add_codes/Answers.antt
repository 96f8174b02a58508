use Rattle.std.proofs.Common.{◌≡◌, ◌∙◌, sym, ap, ℕ, ◌+◌, List, ◌++◌, ◌∷◌, [], map, drop, get_or, append_assoc, append-nil, arith}
use Rattle.std.proofs.lemmas.List.{drop_all, length-map}
use Rattle.dw_entries.specs.declared.tree.Item.TheVariants as its
use Rattle.dw_entries.specs.Tree.{mark_of, marks}
use Rattle.dw_tree.specs.Coded.{shapes_of, code_at}
use Rattle.dw_tree.proofs.Marks.{within_at, tagged_at, marks_more}
use Rattle.dw_tree.proofs.Shared.{code_given}
use Rattle.dw_tree.proofs.codes.add_codes.Goals as goal

-- the codes that were found, and one more
codes_more : {X : Type 0} (code_of : X → ℕ) (old new all : List ℕ) (n : ℕ) (x : X) (xs rest : List X) → new ≡ old ++ n ∷ [] → n ≡ code_of x → xs ≡ x ∷ rest → old ++ map code_of xs ≡ all → new ++ map code_of rest ≡ all
codes_more code_of old new all n x xs rest pushed is more before =
    ap (λ cs. cs ++ map code_of rest) pushed
    ∙ append_assoc old (n ∷ []) (map code_of rest)
    ∙ ap (λ k. old ++ k ∷ map code_of rest) is
    ∙ sym (ap (λ l. old ++ map code_of l) more)
    ∙ before

pub code_for-requires-clause-within : goal.code_for-requires-clause-within
code_for-requires-clause-within c =
    within_at _ c.args.items.now c.loop-item.item-index (its.Open 0) c.requires.within c.loop-item-test.true

pub code_for-requires-clause-tagged : goal.code_for-requires-clause-tagged
code_for-requires-clause-tagged c =
    tagged_at _ c.args.items.now c.loop-item.item-index (its.Open 0) c.requires.tagged c.loop-item-test.true

pub loop-item-preserved : goal.loop-item-preserved
loop-item-preserved c =
    let e = c.args.encoding in
    let es = c.args.entries.now in
    let ms = marks c.args.items.now in
    let i = c.loop-item.item-index in
    let m = mark_of (get_or c.args.items.now i (its.Open 0)) in
    let old = c.loop-item.codes.items in
    let shapes = shapes_of e es c.args.table.now ms in
    let code_of = code_at e es shapes in
    let more = marks_more c.args.items.now i (its.Open 0) c.loop-item-test.true in
    let given = code_given e es c.loop-item.table shapes (drop i ms) (drop (i + 1) ms) m c.loop-item.invariant.table more in
    record {
      table = ap (λ t. shapes_of e es t (drop (i + 1) ms)) c.in_ok-code.ensures.table ∙ sym (ap (shapes_of e es c.loop-item.table) more) ∙ c.loop-item.invariant.table;
      codes = codes_more code_of old c.push.new.self.items (c.args.codes.now.items ++ map code_of ms) c.in_ok-code.code m (drop i ms) (drop (i + 1) ms) c.in_ok-push.ensures.items (c.in_ok-code.ensures.code ∙ given) more c.loop-item.invariant.codes;
    }

pub returns-clause-table : goal.returns-clause-table
returns-clause-table c =
    let items = c.args.items.now in
    let done = drop_all c.loop-item.item-index (marks items) (omega (arith, c.loop-item-test.false, length-map items mark_of)) in
    sym (ap (shapes_of c.args.encoding c.args.entries.now c.loop-item.table) done) ∙ c.loop-item.invariant.table

pub returns-clause-codes : goal.returns-clause-codes
returns-clause-codes c =
    let e = c.args.encoding in
    let es = c.args.entries.now in
    let items = c.args.items.now in
    let old = c.loop-item.codes.items in
    let code_of = code_at e es (shapes_of e es c.args.table.now (marks items)) in
    let done = drop_all c.loop-item.item-index (marks items) (omega (arith, c.loop-item-test.false, length-map items mark_of)) in
    sym (append-nil old) ∙ sym (ap (λ ms. old ++ map code_of ms) done) ∙ c.loop-item.invariant.codes
