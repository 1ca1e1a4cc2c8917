-- When all texts are listed, each client's list has what it sends.
use Rattle.std.proofs.Common.{◌≡◌, ℕ, List, length, subst, arith}
use Rattle.tk_script.specs.declared.say.Say.{Say}
use Rattle.tk_report.specs.Listings.{IsListing}
use Rattle.tk_report.proofs.ListingLaws.{listing-all}
use Rattle.tk_report.proofs.sent_list.all_sent.Goals as goal

pub returns : goal.returns
returns c =
    let S = c.args.script.now in
    let end : c.says.place ≡ length S.says =
    subst (λ (says : List Say). c.says.place ≡ length says) c.as_slice-place-end.ensures
    (omega (arith, c.says-test.false, c.says.auto.place-end))
    in
    listing-all S c.says.listing
    (subst (λ (n : ℕ). IsListing S n c.says.listing) end c.says.invariant)
