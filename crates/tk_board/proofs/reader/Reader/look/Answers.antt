use Rattle.std.proofs.Common.{rules, ◌≡◌, ap, ◌∙◌}
use Rattle.tk_board.proofs.Knowing.{stays}
use Rattle.tk_board.proofs.reader.Reader.look.Goals as goal

pub returns-in_default-2-clause-known : goal.returns-in_default-2-clause-known
returns-in_default-2-clause-known g c = stays c.args.self.now _ c.self.view_is

pub returns-in_default-claim-clause-known : goal.returns-in_default-claim-clause-known
returns-in_default-claim-clause-known g c = stays c.args.self.now _ c.self.view_is

pub returns-then-not-taken_in-clause-known : goal.returns-then-not-taken_in-clause-known
returns-then-not-taken_in-clause-known g c =
    let inside = c.self.inside in
    let table : c.taken_in.new.place.table_id ≡ inside.place.table_id = search rules in
    let same : c.taken_in.new.place.me ≡ inside.place.me = search rules in
    stays c.args.self.now _
    ((λ i. record { board = table i; list = (ap (λ m. m.0.seen) same) i }) ∙ c.self.view_is)
