-- What is found among the logs is what they gave.
use Rattle.std.proofs.Common.{◌≡◌, ◌∙◌, sym, ap, Some, None}
use Rattle.std.specs.Prelude.{◌==◌, find}
use Rattle.std.specs.Option.{option_copied}
use Rattle.tk_client.specs.Reader.{Follow}
use Rattle.tk_client.proofs.ReaderLaws.{got_by, got-found}
use Rattle.tk_client.proofs.reader.Reader.got.Goals as goal

pub returns-in-Some : goal.returns-in-Some
returns-in-Some c =
    let is_of = λ (f : Follow). f.log == c.args.log in
    let items = c.self.inside.follows.items in
    let found : find is_of items ≡ Some c.in-Some.follow.now =
    ap (find is_of) (sym c.as_slice.ensures.value)
    ∙ sym c.of_log.ensures ∙ ap option_copied c.in-Some.is
    in
    rw (← c.self.view_is)
    (c.got.ensures ∙ ap got_by (sym found) ∙ sym (got-found items c.args.log))

pub returns-in-None : goal.returns-in-None
returns-in-None c =
    let is_of = λ (f : Follow). f.log == c.args.log in
    let items = c.self.inside.follows.items in
    let found : find is_of items ≡ None =
    ap (find is_of) (sym c.as_slice.ensures.value)
    ∙ sym c.of_log.ensures ∙ ap option_copied c.in-None.is
    in
    rw (← c.self.view_is) (ap got_by (sym found) ∙ sym (got-found items c.args.log))
