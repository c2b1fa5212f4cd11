-- `listing::listing::push_ranges` meets its contract. Assumes nothing.
use mathlib.Core.Path.{ap}
use native.Mathlib.Omega.{arith}
use lib.ListN.{length}
use Rattle.map_records.specs.Words.{view_of}
use Rattle.map_records.proofs.WordLaws.{full_words}
use Rattle.listing.specs.Listing.{ranges_text}
use Rattle.listing.proofs.ListingLaws.{lines_more}
use Rattle.listing.proofs.listing.push_ranges.Goals as goal

pub loop-k-init : goal.loop-k-init
unfolding ranges_text
loop-k-init c = let none = c.requires.1 in (omega (arith, ap length none), none)

pub loop-k-preserved : goal.loop-k-preserved
loop-k-preserved c =
    let i = c.loop-k.invariant in
    let put = c.push_range.ensures in
    (omega (arith, i.0, put.upper_bound), lines_more (view_of c.args.view.now) _ _ (omega (arith, full_words c.args.view.now, c.loop-k-test.true, c.count_of-k-end.ensures, c.requires.0)) c.range_at.ensures i.1 put.bytes)
