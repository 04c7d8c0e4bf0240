use Rattle.ledger.proofs.Listed.{equal_listings, neighbours_lines}
use Rattle.ledger.proofs.listings_stand.Goals as goal

pub returns : goal.returns
returns c = record { meanings = equal_listings; neighbours = neighbours_lines }
