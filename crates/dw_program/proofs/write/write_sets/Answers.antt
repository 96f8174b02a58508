use Rattle.std.proofs.Common.{◌∙◌, ◌++◌, ◌∷◌, [], List, length, sym, ap, subst, map, append_assoc, append-nil, arith}
use Rattle.std.proofs.lemmas.Result.{err_from_is_err_and}
use Rattle.std.specs.Prelude.{All}
use Rattle.std.specs.Vec.Iter.{into_iter_items}
use Rattle.dw_base.specs.Order.{is_big_of}
use Rattle.dw_dwarf.specs.DwarfValue.{DwarfValue, dwarf_in}
use Rattle.dw_dwarf.specs.Valid.{AreUnwritten}
use Rattle.dw_dwarf.specs.declared.dwarf.Dwarf.{Dwarf}
use Rattle.dw_link.proofs.Held.{held_beside}
use Rattle.dw_program.proofs.SetsWritten.{AreWrittenSets, one_more, all_valid, all_left, all_sets, map_more, holds_at_seam, first_fault, nothing_left}
use Rattle.dw_program.proofs.write.write_sets.Goals as goal

pub write_set-requires : goal.write_set-requires
write_set-requires c =
    let at = c.loop-dwarf in
    let x = c.in-Some.dwarf in
    let rest = into_iter_items c.next.new.self in
    let given = ap (λ zs. at.yielded ++ zs) (sym c.in-Some.ensures.steps.0) ∙ at.invariant.given ∙ c.into_iter-dwarf-iterator.ensures.into_iter_gives.0 in
    holds_at_seam AreUnwritten dwarf_in at.yielded x rest (subst (λ (xs : List Dwarf). All AreUnwritten (map dwarf_in xs)) (sym given) c.requires)

pub returns-in_err-write_set-clause-err : goal.returns-in_err-write_set-clause-err
returns-in_err-write_set-clause-err c =
    let at = c.loop-dwarf in
    let x = c.in-Some.dwarf in
    let rest = into_iter_items c.next.new.self in
    let given = ap (λ zs. at.yielded ++ zs) (sym c.in-Some.ensures.steps.0) ∙ at.invariant.given ∙ c.into_iter-dwarf-iterator.ensures.into_iter_gives.0 in
    let valid = all_valid (held_beside is_big_of) (is_big_of c.args.endian) (map dwarf_in at.yielded) at.sets.items at.invariant.written in
    let p = err_from_is_err_and c.from_residual.result c.from_residual.ensures.1 in
    rw (p.1, p.2) (λ some. first_fault dwarf_in c.args.dwarfs.items at.yielded x rest c.in_err-write_set.field-0.0 (sym given) valid (c.in_err-write_set.ensures.err some))

pub loop-dwarf-preserved : goal.loop-dwarf-preserved
loop-dwarf-preserved c =
    let at = c.loop-dwarf in
    let x = c.in-Some.dwarf in
    let steps = c.in-Some.ensures.steps.0 in
    let big = is_big_of c.args.endian in
    let next = one_more (held_beside is_big_of) big (map dwarf_in at.yielded) at.sets.items (dwarf_in x) c.in_ok-write_set.field-0 at.invariant.written (c.in_ok-write_set.ensures.valid, c.in_ok-write_set.ensures.left, c.in_ok-write_set.ensures.parts) in
    record {
      given = append_assoc at.yielded (x ∷ []) _ ∙ ap (λ zs. at.yielded ++ zs) (sym steps) ∙ at.invariant.given;
      left =
          let was = at.invariant.left in
          let gone = c.in-Some.ensures.steps.1 in
          let short = ap length steps in
          omega arith;
      written =
          subst (λ (ds : List DwarfValue). AreWrittenSets (held_beside is_big_of) big ds c.push.new.self.items) (sym (map_more dwarf_in at.yielded x))
          (subst (AreWrittenSets (held_beside is_big_of) big (map dwarf_in at.yielded ++ dwarf_in x ∷ [])) (sym c.in_ok-push.ensures.items) next);
    }

pub returns-clause-valid : goal.returns-clause-valid
returns-clause-valid c =
    let at = c.loop-dwarf in
    let empty = nothing_left (into_iter_items at.dwarf-iterator) (sym at.invariant.left ∙ c.in-None.ensures.steps.0) in
    let all = sym (append-nil at.yielded) ∙ ap (λ zs. at.yielded ++ zs) (sym empty) ∙ at.invariant.given ∙ c.into_iter-dwarf-iterator.ensures.into_iter_gives.0 in
    let written = subst (λ (xs : List Dwarf). AreWrittenSets (held_beside is_big_of) (is_big_of c.args.endian) (map dwarf_in xs) at.sets.items) all at.invariant.written in
    all_valid (held_beside is_big_of) (is_big_of c.args.endian) (map dwarf_in c.args.dwarfs.items) at.sets.items written

pub returns-clause-left : goal.returns-clause-left
returns-clause-left c =
    let at = c.loop-dwarf in
    let empty = nothing_left (into_iter_items at.dwarf-iterator) (sym at.invariant.left ∙ c.in-None.ensures.steps.0) in
    let all = sym (append-nil at.yielded) ∙ ap (λ zs. at.yielded ++ zs) (sym empty) ∙ at.invariant.given ∙ c.into_iter-dwarf-iterator.ensures.into_iter_gives.0 in
    let written = subst (λ (xs : List Dwarf). AreWrittenSets (held_beside is_big_of) (is_big_of c.args.endian) (map dwarf_in xs) at.sets.items) all at.invariant.written in
    all_left (held_beside is_big_of) (is_big_of c.args.endian) (map dwarf_in c.args.dwarfs.items) at.sets.items written

pub returns-clause-parts : goal.returns-clause-parts
returns-clause-parts c =
    let at = c.loop-dwarf in
    let empty = nothing_left (into_iter_items at.dwarf-iterator) (sym at.invariant.left ∙ c.in-None.ensures.steps.0) in
    let all = sym (append-nil at.yielded) ∙ ap (λ zs. at.yielded ++ zs) (sym empty) ∙ at.invariant.given ∙ c.into_iter-dwarf-iterator.ensures.into_iter_gives.0 in
    let written = subst (λ (xs : List Dwarf). AreWrittenSets (held_beside is_big_of) (is_big_of c.args.endian) (map dwarf_in xs) at.sets.items) all at.invariant.written in
    all_sets (held_beside is_big_of) (is_big_of c.args.endian) (map dwarf_in c.args.dwarfs.items) at.sets.items written
