-- The texts so far are listed.
use Rattle.tk_report.specs.Listings.{IsListing}
use Rattle.tk_report.proofs.sent_list.all_sent.Given as goal

abbrev pub invariant-says : goal.invariant-says
invariant-says l = IsListing l.script l.place l.listing
