-- What is listed is read back.
use Rattle.dw_ends.proofs.ReadBack.{read_back}
use Rattle.dw_ends.proofs.listing.listing_text.Goals as goal

pub push_listing-requires : goal.push_listing-requires
push_listing-requires c = c.new-text.ensures.items

pub returns-clause-lists : goal.returns-clause-lists
returns-clause-lists c = c.in_ok-push_listing.ensures

pub returns-clause-read_back : goal.returns-clause-read_back
returns-clause-read_back c = read_back c.in_ok-push_listing.ensures
