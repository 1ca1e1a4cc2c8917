-- A text with room on a log of its client has no fault but its bytes.
use Rattle.std.proofs.Common.{refl, sym, ap, subst, ◌∙◌, Some}
use Rattle.std.specs.Prelude.{IsNone}
use Rattle.tk_client.specs.declared.say_error.SayError.TheVariants.{Text}
use Rattle.tk_client.proofs.LogPlaces.{written-at}
use Rattle.tk_client.proofs.Keeping.{fault-mine, fault-text, fault-free, not_allowed}
use Rattle.tk_client.proofs.outbox.fault_in.Goals as goal

pub returns-in-Some : goal.returns-in-Some
returns-in-Some c =
    let logs = c.args.logs.now in
    let text = c.args.text.now in
    let mine = written-at c.args.log logs _ c.in-Ok.ensures.place in
    let other = not_allowed c.allowed.result c.in-Some.at text c.in-Some.is c.allowed.ensures.none in
    ap (λ n. Some (Text n)) c.in-Some.ensures.front
    ∙ sym (fault-mine c.args.shape.now logs c.args.log text mine
    ∙ fault-text c.args.shape.now text c.in-Ok.ensures.fits other)

pub returns-in-None : goal.returns-in-None
returns-in-None c =
    let logs = c.args.logs.now in
    let text = c.args.text.now in
    let mine = written-at c.args.log logs _ c.in-Ok.ensures.place in
    let allowed = c.allowed.ensures.none.0 (subst IsNone (sym c.in-None.is) refl) in
    sym (fault-mine c.args.shape.now logs c.args.log text mine
    ∙ fault-free c.args.shape.now text c.in-Ok.ensures.fits allowed)
