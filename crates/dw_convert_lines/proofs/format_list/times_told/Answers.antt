use Rattle.std.proofs.Common.{arith}
use Rattle.std.proofs.lemmas.Bool.Decides.{nat_tests}
use Rattle.dw_convert_lines.proofs.FormatWalks.{counted_first, counted_end, counted_more}
use Rattle.dw_convert_lines.proofs.format_list.times_told.Goals as goal

pub formats-init : goal.formats-init
formats-init g c = record {
  counted = λ parts has. counted_first g.R.Reader.reading c.formats-formats.result _ c.args.content (c.formats-formats.ensures.parts parts has);
  within = omega (arith, c.formats-formats.ensures.few);
}

pub formats-preserved-then-format-from : goal.formats-preserved-then-format-from
formats-preserved-then-format-from g c = record {
  counted = λ parts has.
      let w = c.formats.invariant.counted parts has in
      counted_more g.R.Reader.reading c.formats.formats _ c.next.new.self c.in-Some.format c.args.content c.formats.times _ w (c.in-Some.ensures.part w.more w.left) (grind (arith, nat_tests));
  within = omega (arith, c.in-Some.ensures.fewer);
}

pub formats-preserved : goal.formats-preserved
formats-preserved g c = record {
  counted = λ parts has.
      let w = c.formats.invariant.counted parts has in
      counted_more g.R.Reader.reading c.formats.formats _ c.next.new.self c.in-Some.format c.args.content c.formats.times _ w (c.in-Some.ensures.part w.more w.left) (grind (arith, nat_tests));
  within = omega (arith, c.in-Some.ensures.fewer);
}

pub returns : goal.returns
returns g c = λ parts has.
    let w = c.formats.invariant.counted parts has in
    counted_end g.R.Reader.reading c.formats.formats _ c.args.content c.formats.times w (c.in_default.ensures.end w.more w.left)
