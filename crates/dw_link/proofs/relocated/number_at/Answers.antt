use Rattle.std.specs.Prelude.{◌≡◌, ◌+◌, ◌-◌, take, drop}
use Rattle.std.proofs.Common.{◌∙◌, ap, arith}
use Rattle.dw_base.specs.Numbers.{value_of}
use Rattle.dw_writer.specs.Resolved.{number_at_place}
use Rattle.dw_link.proofs.relocated.number_at.Goals as goal

pub returns : goal.returns
unfolding number_at_place
returns g c =
    let told : c.slice.result.now ≡ c.args.joined.now.bytes.items = let e = c.slice.ensures.bytes in cc in
    let width : (c.args.place + c.args.size) - c.args.place ≡ c.args.size = omega arith in
    c.number_of.ensures.value
    ∙ ap (λ b. value_of b (take ((c.args.place + c.args.size) - c.args.place) (drop c.args.place c.slice.result.now))) (c.is_big_endian-big.ensures ∙ c.endian.ensures)
    ∙ ap (λ n. value_of (g.E.Endianity.is_big c.args.joined.now.endian) (take n (drop c.args.place c.slice.result.now))) width
    ∙ ap (λ bs. value_of (g.E.Endianity.is_big c.args.joined.now.endian) (take c.args.size (drop c.args.place bs))) told
