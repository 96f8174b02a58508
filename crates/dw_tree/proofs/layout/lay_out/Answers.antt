use Rattle.std.proofs.Common.{◌≡◌, ◌∙◌, refl, sym, ap, subst, ℕ, ◌+◌, ◌<◌, ◌≤◌, ◌^◌, List, [], length, take, drop, get_or, arith, Err, Result, IfErr}
use Rattle.std.proofs.lemmas.Result.{err_from_is_err_and}
use Rattle.dw_base.specs.Abbreviations.{Shape}
use Rattle.dw_base.specs.Entries.{Mark, Open, Null}
use Rattle.dw_base.specs.Spelling.{header_size}
use Rattle.dw_base.specs.declared.common.Encoding.{Encoding}
use Rattle.dw_base.specs.declared.error.Error.{Error}
use Rattle.dw_base.proofs.HeaderLaws.{header_size_pos}
use Rattle.dw_entries.specs.Entries.{EntryValue}
use Rattle.dw_entries.specs.declared.tree.Item.TheVariants as its
use Rattle.dw_entries.specs.Tree.{mark_of, marks}
use Rattle.dw_tree.specs.Causes.{LayoutRefused}
use Rattle.dw_tree.specs.Early.{mark_unplaced, is_forward}
use Rattle.dw_tree.specs.Coded.{shapes_of, code_at}
use Rattle.dw_tree.specs.Laid.{sized, size_of, HasNoRoom}
use Rattle.dw_tree.specs.Laying.{LayoutValue, layout_value, unlaid, begun, stepped, mark_size, known_in, Extends}
use Rattle.dw_tree.specs.declared.places.Places.{Places}
use Rattle.dw_tree.proofs.LaidSoFar.{IsLaid}
use Rattle.dw_tree.proofs.Marks.{within_at, marks_more, marks_done}
use Rattle.dw_tree.proofs.Shared.{code_read}
use Rattle.dw_tree.proofs.LaidSteps.{laid_start, laid_step, no_room_step, end_laid, placement_laid, layout_because}
use Rattle.dw_tree.proofs.EarlyLaws.{forward_more, forward_here, forward_start}
use Rattle.dw_tree.proofs.layout.lay_out.Goals as goal
use Rattle.dw_tree.proofs.layout.lay_out.Goals.{After-drop-layout-2}

-- a mark's size with its code is that which its entry has
mark_size-coded : (e : Encoding) (es : List EntryValue) (shapes : List Shape) (code : ℕ) (m : Mark ℕ) (place : ℕ → ℕ) → code ≡ code_at e es shapes m → mark_size e es code m place ≡ size_of (sized e es shapes place) es m
mark_size-coded e es shapes code (Open i) place is = ap (λ n. mark_size e es n (Open i) place) is
mark_size-coded e es shapes code Null place is = omega arith

pub loop-k-init : goal.loop-k-init
loop-k-init c =
    let e = c.args.encoding in
    let es = c.args.entries.now in
    let ms = marks c.args.items.now in
    let size = sized e es (shapes_of e es [] ms) in
    let start = header_size e in
    let laid = laid_start size es start ms (header_size_pos e) c.requires.distinct c.requires.closed in
    let is : layout_value c.in_ok-layout.layout ≡ unlaid (length es) c.header_size.result = c.in_ok-layout.ensures.ok in
    (subst (λ (v : LayoutValue). IsLaid size es start ms ms v) (sym (is ∙ ap (unlaid (length es)) c.header_size.ensures)) laid, λ err. forward_start e es ms err)

pub step-requires-clause-within : goal.step-requires-clause-within
step-requires-clause-within c = within_at _ c.args.items.now c.loop-k.k (its.Open 0) c.requires.within c.loop-k-test.true

pub step-requires-clause-room : goal.step-requires-clause-room
step-requires-clause-room c = c.loop-k.invariant.0.room

pub step-requires-clause-past_room : goal.step-requires-clause-past_room
step-requires-clause-past_room c = c.loop-k.invariant.0.past_room

pub step-requires-clause-parents : goal.step-requires-clause-parents
step-requires-clause-parents c = c.loop-k.invariant.0.parents_in

pub loop-k-preserved : goal.loop-k-preserved
loop-k-preserved c =
    let e = c.args.encoding in
    let es = c.args.entries.now in
    let items = c.args.items.now in
    let shapes = shapes_of e es [] (marks items) in
    let size = sized e es shapes in
    let start = header_size e in
    let k = c.loop-k.k in
    let m = mark_of (get_or items k (its.Open 0)) in
    let v = layout_value c.loop-k.layout in
    let lt : k < length items = c.loop-k-test.true in
    let code = code_read e es shapes items c.args.codes.now k (its.Open 0) c.requires.codes lt in
    let before = subst (λ (ms : List (Mark ℕ)). IsLaid size es start (marks items) ms v) (marks_more items k (its.Open 0) lt) c.loop-k.invariant.0 in
    let within = within_at _ items k (its.Open 0) c.requires.within lt in
    let rest = drop (k + 1) (marks items) in (
      laid_step size es start (marks items) m rest v (layout_value c.step.new.self) within
          (λ place ext. c.in_ok-step.ensures.ok place ext ∙ ap (λ n. stepped es m (v.end + n) v) (mark_size-coded e es shapes _ m place code))
          before,
      λ err. forward_more size es start (marks items) k m rest v c.requires.distinct (marks_more items k (its.Open 0) lt) within before e err (c.in_ok-step.ensures.sound err) ∙ c.loop-k.invariant.1 err,
    )

pub returns-in_err-step-clause-err : goal.returns-in_err-step-clause-err
returns-in_err-step-clause-err c =
    let e = c.args.encoding in
    let es = c.args.entries.now in
    let items = c.args.items.now in
    let shapes = shapes_of e es [] (marks items) in
    let size = sized e es shapes in
    let start = header_size e in
    let k = c.loop-k.k in
    let m = mark_of (get_or items k (its.Open 0)) in
    let v = layout_value c.loop-k.layout in
    let lt : k < length items = c.loop-k-test.true in
    let code = code_read e es shapes items c.args.codes.now k (its.Open 0) c.requires.codes lt in
    let before = subst (λ (ms : List (Mark ℕ)). IsLaid size es start (marks items) ms v) (marks_more items k (its.Open 0) lt) c.loop-k.invariant.0 in
    let p = err_from_is_err_and c.from_residual-in_err-step.result c.from_residual-in_err-step.ensures.1 in
    let full = HasNoRoom size es start (marks items) in
    let forward = is_forward e es [] (marks items) in
    let within = within_at _ items k (its.Open 0) c.requires.within lt in
    let rest = drop (k + 1) (marks items) in
    let err = c.in_err-step.field-0.0 in
    let why : LayoutRefused full forward err = layout_because _ full (mark_unplaced e es (known_in (begun m v)) m) forward err c.in_err-step.ensures.err
    (λ (tight : (place : ℕ → ℕ) → Extends (begun m v) place → 2 ^ 64 ≤ v.end + mark_size e es (get_or c.args.codes.now k 0) m place). no_room_step size es start (marks items) (k + 1) m rest v c.requires.distinct refl within
    (λ place ext. let coded = mark_size-coded e es shapes _ m place code in omega (arith, tight place ext, coded)) before)
    (λ later. sym (c.loop-k.invariant.1 err) ∙ forward_here size es start (marks items) k m rest v c.requires.distinct (marks_more items k (its.Open 0) lt) within before e err later) in
    subst (λ (r : Result Places Error). IfErr r (LayoutRefused full forward)) (sym (p.1 ∙ ap Err p.2)) why

laid_done : (c : After-drop-layout-2) → IsLaid (sized c.args.encoding c.args.entries.now (shapes_of c.args.encoding c.args.entries.now [] (marks c.args.items.now))) c.args.entries.now (header_size c.args.encoding) (marks c.args.items.now) [] (layout_value c.loop-k.layout)
laid_done c =
    let e = c.args.encoding in
    let es = c.args.entries.now in
    let ms = marks c.args.items.now in
    subst (λ (rest : List (Mark ℕ)). IsLaid (sized e es (shapes_of e es [] ms)) es (header_size e) ms rest (layout_value c.loop-k.layout)) (marks_done c.args.items.now c.loop-k.k c.loop-k-test.false) c.loop-k.invariant.0

pub returns-clause-placed : goal.returns-clause-placed
returns-clause-placed c = placement_laid _ _ _ _ (layout_value c.loop-k.layout) (laid_done c)

pub returns-clause-end : goal.returns-clause-end
returns-clause-end c = end_laid _ _ _ _ (layout_value c.loop-k.layout) (laid_done c)

pub returns-clause-inside : goal.returns-clause-inside
returns-clause-inside c i = sym ((laid_done c).inside i)

pub returns-clause-bounded : goal.returns-clause-bounded
returns-clause-bounded c i = ((laid_done c).place_bounded i, (laid_done c).past_bounded i)

pub returns-clause-early : goal.returns-clause-early
returns-clause-early c err =
    let e = c.args.encoding in
    let es = c.args.entries.now in
    let ms = marks c.args.items.now in
    sym (c.loop-k.invariant.1 err) ∙ ap (λ (rest : List (Mark ℕ)). is_forward e es (take c.loop-k.k ms) rest err) (marks_done c.args.items.now c.loop-k.k c.loop-k-test.false)
