-- Each line is added behind those before it.
use Rattle.std.proofs.Common.{◌∙◌, ◌++◌, ap}
use Rattle.dw_ends.specs.Listing.{order_line}
use Rattle.dw_ends.proofs.Listings.{none_listed, one_listed}
use Rattle.dw_ends.proofs.listing.push_listing.Goals as goal

pub returns : goal.returns
returns c =
    let t0 = none_listed _ c.push_order.new.text.items
    (c.in_ok-push_order.ensures.ok ∙ ap (λ t. t ++ order_line c.is_big_endian.result) c.requires ∙ ap order_line (c.is_big_endian.ensures ∙ c.endian.ensures)) in
    let t1 = one_listed t0 c.in_ok-push_one.ensures in
    let t2 = one_listed t1 c.in_ok-push_one-2.ensures in
    let t3 = one_listed t2 c.in_ok-push_one-3.ensures in
    let t4 = one_listed t3 c.in_ok-push_one-4.ensures in
    let t5 = one_listed t4 c.in_ok-push_one-5.ensures in
    let t6 = one_listed t5 c.in_ok-push_one-6.ensures in
    let t7 = one_listed t6 c.in_ok-push_one-7.ensures in
    let t8 = one_listed t7 c.in_ok-push_one-8.ensures in
    let t9 = one_listed t8 c.in_ok-push_one-9.ensures in
    let t10 = one_listed t9 c.in_ok-push_one-10.ensures in
    let t11 = one_listed t10 c.in_ok-push_one-11.ensures in
    record {
      is = t11.is;
      are = record {
        debug_abbrev = c.in_ok-push_one.ensures.are;
        debug_str = c.in_ok-push_one-2.ensures.are;
        debug_line_str = c.in_ok-push_one-3.ensures.are;
        debug_line = c.in_ok-push_one-4.ensures.are;
        debug_ranges = c.in_ok-push_one-5.ensures.are;
        debug_rnglists = c.in_ok-push_one-6.ensures.are;
        debug_loc = c.in_ok-push_one-7.ensures.are;
        debug_loclists = c.in_ok-push_one-8.ensures.are;
        debug_info = c.in_ok-push_one-9.ensures.are;
        debug_frame = c.in_ok-push_one-10.ensures.are;
        eh_frame = c.in_ok-push_one-11.ensures.are;
      };
    }
