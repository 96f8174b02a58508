use Rattle.dw_entry_ranges.specs.Lists.{ranges_at}
use Rattle.dw_entry_ranges.proofs.ListLaws.{no_list, stands_first, stands_unread, stands_closed, stands_no_item, stands_more}
use Rattle.dw_entry_ranges.proofs.LookupLaws.{if_refused}
use Rattle.dw_entry_ranges.proofs.list.ranges_at.Goals as goal

pub items-init : goal.items-init
items-init g c = stands_first _ _ g.R.Reader.reading c.args.unit c.args.offset.0 c.in_ok-items.items c.new-ranges.result.items (g.met.R.Reader.is_reading c.in_ok-items.items.input) c.in_ok-items.ensures.ok c.new-ranges.ensures.items

pub returns-in_err-items-clause-err : goal.returns-in_err-items-clause-err
returns-in_err-items-clause-err g c =
    if_refused (ranges_at g.R.Reader.reading c.args.unit c.args.offset.0) c.from_residual.result c.in_err-items.field-0.0 c.from_residual.ensures
    (no_list _ _ g.R.Reader.reading c.args.unit c.args.offset.0 c.in_err-items.field-0.0 c.in_err-items.ensures.err.reason)

pub returns-in_err-item-clause-err : goal.returns-in_err-item-clause-err
returns-in_err-item-clause-err g c =
    if_refused (ranges_at g.R.Reader.reading c.args.unit c.args.offset.0) c.from_residual-in_err-item.result c.in_err-item.field-0.0 c.from_residual-in_err-item.ensures
    (stands_unread _ _ g.R.Reader.reading c.args.unit c.args.offset.0 c.items.items c.next.new.self c.items.base c.items.ranges.items c.items.invariant c.in_err-item.field-0.0 c.in_err-item.ensures)

pub returns-in_err-item-2-clause-err : goal.returns-in_err-item-2-clause-err
returns-in_err-item-2-clause-err g c =
    if_refused (ranges_at g.R.Reader.reading c.args.unit c.args.offset.0) c.from_residual-in_err-item-2.result c.in_err-item-2.field-0.0 c.from_residual-in_err-item-2.ensures
    (stands_no_item _ _ g.R.Reader.reading c.args.unit c.args.offset.0 c.items.items c.next.new.self c.items.base c.items.ranges.items c.items.invariant c.in_ok-item.field-0 c.in_ok-item.ensures c.in-Some.item c.in-Some.is c.in_err-item-2.field-0.0 c.in_err-item-2.ensures)

pub items-preserved : goal.items-preserved
items-preserved g c =
    stands_more _ _ g.R.Reader.reading c.args.unit c.args.offset.0 c.items.items c.next.new.self c.items.base c.items.ranges.items c.items.invariant c.in_ok-item.field-0 c.in_ok-item.ensures c.in-Some.item c.in-Some.is c.base_behind-base.result c.keep.new.ranges.items c.in_ok-item-2.item
    (g.met.R.Reader.is_reading c.items.items.input) (g.met.R.Reader.is_reading c.next.new.self.input) c.in_ok-item-2.ensures c.base_behind-base.ensures c.in_ok-keep.ensures.ok

pub returns-clause-ok : goal.returns-clause-ok
returns-clause-ok g c = stands_closed _ _ g.R.Reader.reading c.args.unit c.args.offset.0 c.items.items c.next.new.self c.items.base c.items.ranges.items c.items.invariant c.in_ok-item.field-0 c.in_ok-item.ensures c.in_default.is
