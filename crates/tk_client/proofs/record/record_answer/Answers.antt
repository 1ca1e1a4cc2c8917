-- A text settles its log, whether the logs were new before or after.
use Rattle.std.proofs.Common.{◌∙◌, ap, sym, List, ℕ, Option}
use Rattle.std.specs.Prelude.{slice_set}
use Rattle.tk_client.specs.Reader.{follow_after, follow_in}
use Rattle.tk_client.specs.Searching.{follows_anew}
use Rattle.tk_client.proofs.ReaderLaws.{settled-anew}
use Rattle.tk_client.proofs.record.record_answer.Goals as goal

pub returns-in_ok-settle_at-in-Some-clause-recorded :
    goal.returns-in_ok-settle_at-in-Some-clause-recorded
returns-in_ok-settle_at-in-Some-clause-recorded c =
    let shape = c.args.shape.now in
    let anew = c.args.anew in
    let follows = c.args.follows.now in
    let known = follows_anew anew follows in
    let t = c.args.target in
    c.renew.ensures
    ∙ ap (follows_anew anew) (c.in_ok-settle_at-in-Some.ensures.settled shape)
    ∙ settled-anew anew shape t.ahead c.in-Some.text follows t.place
    ∙ ap (λ (o : Option (List ℕ)).
    slice_set known t.place (follow_after shape t.ahead o (follow_in known t.place)))
    (sym c.in-Some.is)
