-- Nothing is sent, and every turn is free.
use Rattle.std.proofs.Common.{◌≡◌, replicate, rules}
use Rattle.tk_report.proofs.ListingLaws.{listing-none}
use Rattle.tk_report.proofs.sent_list.open_listing.Goals as goal

pub returns : goal.returns
returns c =
    let S = c.args.script.now in
    let free : c.in_ok-vec.field-0.items ≡ replicate S.shape.clients 0 = search rules in
    let counts : c.in_ok-vec-2.field-0.items ≡ replicate S.shape.logs 0 = search rules in
    listing-none S _ free counts c.in_ok-nothing_sent.ensures
