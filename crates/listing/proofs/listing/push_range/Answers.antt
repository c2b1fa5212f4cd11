-- `listing::listing::push_range` meets its contract. Assumes nothing.
use mathlib.Core.List.{append_assoc}
use borrow.Author.Rules.{rules}
use Rattle.listing.specs.Listing.{range_text}
use Rattle.listing.proofs.listing.push_range.Goals as goal

pub returns-clause-bytes : goal.returns-clause-bytes
unfolding range_text
returns-clause-bytes c = search (rules, append_assoc)
