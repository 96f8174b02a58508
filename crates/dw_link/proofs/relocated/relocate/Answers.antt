use Rattle.std.specs.Prelude.{Some, IsFalse, IsTrue, ◌+◌, ◌-◌, ◌≡◌, ◌+ℤ◌, pos, true, length, drop, refl}
use Rattle.std.specs.Int.{w128}
use Rattle.std.proofs.Common.{sym, ap, ◌∙◌, subst, arith, rules, length-drop, to_z, of_z, w64}
use Rattle.std.proofs.lemmas.Result.{err_from_is_err_and}
use Rattle.dw_writer.specs.Resolved.{is_inside, sum_text}
use Rattle.dw_link.specs.Steps.{layout_at}
use Rattle.dw_link.proofs.Putting.{fault-encoding, fault-place, fault-target, fault-value, relocated, IsSum}
use Rattle.dw_link.proofs.relocated.relocate.Goals as goal

pub returns-in_err-check_encoding-clause-err : goal.returns-in_err-check_encoding-clause-err
returns-in_err-check_encoding-clause-err g c =
    let p = err_from_is_err_and c.from_residual.result c.from_residual.ensures.1 in
    let l = layout_at c.args.places.now.starts c.args.places.now.symbols.now c.args.start in
    rw (p.1, p.2) (fault-encoding (g.E.Endianity.is_big c.args.joined.now.endian) l (drop c.args.start c.args.joined.now.bytes.items) c.args.relocation.now c.in_err-check_encoding.ensures.1
    ∙ ap Some (sym c.in_err-check_encoding.ensures.0))

pub returns-in_err-check_place-clause-err : goal.returns-in_err-check_place-clause-err
returns-in_err-check_place-clause-err g c =
    let p = err_from_is_err_and c.from_residual-in_err-check_place.result c.from_residual-in_err-check_place.ensures.1 in
    let l = layout_at c.args.places.now.starts c.args.places.now.symbols.now c.args.start in
    let told : c.slice.result.now ≡ c.args.joined.now.bytes.items = let e = c.slice.ensures.bytes in cc in
    let at : length c.slice.result.now - c.args.start ≡ length (drop c.args.start c.args.joined.now.bytes.items) =
    ap (λ k. length k - c.args.start) told ∙ sym (length-drop c.args.start c.args.joined.now.bytes.items) in
    let not_inside = subst (λ n. IsFalse (is_inside n c.args.relocation.now)) at c.in_err-check_place.ensures.1 in
    rw (p.1, p.2) (fault-place (g.E.Endianity.is_big c.args.joined.now.endian) l (drop c.args.start c.args.joined.now.bytes.items) c.args.relocation.now c.in_ok-check_encoding.ensures not_inside
    ∙ ap Some (sym c.in_err-check_place.ensures.0))

pub returns-in_err-value-clause-err : goal.returns-in_err-value-clause-err
returns-in_err-value-clause-err g c =
    let p = err_from_is_err_and c.from_residual-in_err-value.result c.from_residual-in_err-value.ensures.1 in
    let l = layout_at c.args.places.now.starts c.args.places.now.symbols.now c.args.start in
    let told : c.slice.result.now ≡ c.args.joined.now.bytes.items = let e = c.slice.ensures.bytes in cc in
    let at : length c.slice.result.now - c.args.start ≡ length (drop c.args.start c.args.joined.now.bytes.items) =
    ap (λ k. length k - c.args.start) told ∙ sym (length-drop c.args.start c.args.joined.now.bytes.items) in
    let inside = subst (λ n. IsTrue (is_inside n c.args.relocation.now)) at c.in_ok-check_place.ensures in
    rw (p.1, p.2) (fault-target (g.E.Endianity.is_big c.args.joined.now.endian) l (drop c.args.start c.args.joined.now.bytes.items) c.args.relocation.now c.in_err-value.field-0.0
    c.in_ok-check_encoding.ensures inside (c.in_err-value.ensures c.args.start))

pub returns-in-Some-clause-ok : goal.returns-in-Some-clause-ok
returns-in-Some-clause-ok g c =
    let l = layout_at c.args.places.now.starts c.args.places.now.symbols.now c.args.start in
    let cs = c.args.joined.now.bytes.items in
    let told : c.slice.result.now ≡ cs = let e = c.slice.ensures.bytes in cc in
    let at : length c.slice.result.now - c.args.start ≡ length (drop c.args.start cs) =
    ap (λ k. length k - c.args.start) told ∙ sym (length-drop c.args.start cs) in
    let sized : length c.slice.result.now ≡ length cs = ap length told in
    let back : to_z w128 (of_z w128 c.sum_of-sum.result) ≡ c.sum_of-sum.result = search rules in
    let addend : to_z w64 (of_z w64 c.args.relocation.now.addend) ≡ c.args.relocation.now.addend = search rules in
    let sum : IsSum (g.E.Endianity.is_big c.args.joined.now.endian) l c.args.relocation.now c.args.start (c.args.start + c.args.relocation.now.offset) cs c.sum_of-sum.result = record {
      within = omega (arith, c.requires, c.slice.ensures.size);
      encoding = c.in_ok-check_encoding.ensures;
      inside = subst (λ n. IsTrue (is_inside n c.args.relocation.now)) at c.in_ok-check_place.ensures;
      known = (c.in_ok-value.ensures c.args.start).0;
      at = refl;
      own = refl;
      number = c.number_at-number.result;
      value = c.in_ok-value.value;
      in_place = c.number_at-number.ensures;
      looked_up = (c.in_ok-value.ensures c.args.start).1;
      sum = c.sum_of-sum.ensures ∙ ap (λ z. pos c.number_at-number.result +ℤ z +ℤ pos c.in_ok-value.value) addend;
    } in
    let text = ap (sum_text (g.E.Endianity.is_big c.args.joined.now.endian) c.args.relocation.now.size (c.args.start + c.args.relocation.now.offset) true c.args.relocation.now.eh_pe) (sym back)
    ∙ c.in-Some.ensures.1 (g.E.Endianity.is_big c.args.joined.now.endian) in
    relocated (g.E.Endianity.is_big c.args.joined.now.endian) l c.args.relocation.now c.args.start (c.args.start + c.args.relocation.now.offset) cs _ c.sum_of-sum.result _ _ sum text refl refl c.put.ensures

pub returns-in-None-clause-err : goal.returns-in-None-clause-err
returns-in-None-clause-err g c =
    let l = layout_at c.args.places.now.starts c.args.places.now.symbols.now c.args.start in
    let cs = c.args.joined.now.bytes.items in
    let told : c.slice.result.now ≡ cs = let e = c.slice.ensures.bytes in cc in
    let at : length c.slice.result.now - c.args.start ≡ length (drop c.args.start cs) =
    ap (λ k. length k - c.args.start) told ∙ sym (length-drop c.args.start cs) in
    let sized : length c.slice.result.now ≡ length cs = ap length told in
    let back : to_z w128 (of_z w128 c.sum_of-sum.result) ≡ c.sum_of-sum.result = search rules in
    let addend : to_z w64 (of_z w64 c.args.relocation.now.addend) ≡ c.args.relocation.now.addend = search rules in
    let sum : IsSum (g.E.Endianity.is_big c.args.joined.now.endian) l c.args.relocation.now c.args.start (c.args.start + c.args.relocation.now.offset) cs c.sum_of-sum.result = record {
      within = omega (arith, c.requires, c.slice.ensures.size);
      encoding = c.in_ok-check_encoding.ensures;
      inside = subst (λ n. IsTrue (is_inside n c.args.relocation.now)) at c.in_ok-check_place.ensures;
      known = (c.in_ok-value.ensures c.args.start).0;
      at = refl;
      own = refl;
      number = c.number_at-number.result;
      value = c.in_ok-value.value;
      in_place = c.number_at-number.ensures;
      looked_up = (c.in_ok-value.ensures c.args.start).1;
      sum = c.sum_of-sum.ensures ∙ ap (λ z. pos c.number_at-number.result +ℤ z +ℤ pos c.in_ok-value.value) addend;
    } in
    let text = ap (sum_text (g.E.Endianity.is_big c.args.joined.now.endian) c.args.relocation.now.size (c.args.start + c.args.relocation.now.offset) true c.args.relocation.now.eh_pe) (sym back)
    ∙ c.in-None.ensures (g.E.Endianity.is_big c.args.joined.now.endian) in
    fault-value (g.E.Endianity.is_big c.args.joined.now.endian) l c.args.relocation.now c.args.start (c.args.start + c.args.relocation.now.offset) cs c.sum_of-sum.result sum text
