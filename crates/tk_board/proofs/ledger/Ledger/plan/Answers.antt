use Rattle.std.proofs.Common.{rules, ◌≡◌, [], ◌∷◌, ◌++◌, length, false, refl, sym, ap, ◌∙◌, subst}
use Rattle.std.specs.Arc.{arc_value}
use Rattle.tk_board.specs.Rules.{drafting}
use Rattle.tk_board.proofs.Fitting.{fit_snoc}
use Rattle.tk_board.proofs.Knowing.{is_ledger}
use Rattle.tk_board.proofs.ledger.Ledger.plan.Goals as goal

pub invariant_of-self : goal.invariant_of-self
invariant_of-self g c =
    let fits = g.T.Share.fits in
    let x = g.T.Share.meaning c.args.value in
    let inside = c.self.inside in
    let m = inside.place.me in
    let seen = m.0.seen in
    let clear = c.self.view_is ∙ c.requires.clear in
    let none : m.0.plan ≡ [] = ap (λ b. b.plan) clear in
    let in_hand : m.0.out ≡ false = ap (λ b. b.out) clear in
    let whole : m ≡ (drafting seen [] false, []) =
    c.self.invariant.0.is ∙ (λ i. (drafting seen (none i) (in_hand i), [])) in
    let planned = c.propose.ensures.1 x refl ∙
    ap (λ s. (record s.0 { plan = s.0.seen ++ x ∷ [] }, s.1)) whole in
    let of_table : c.propose.new.place.table_id ≡ arc_value inside.tally = search rules in
    let may = subst (λ l. fits (length l) x) (sym (ap (λ b. b.list) c.self.view_is))
    c.requires.fits in
    is_ledger fits (arc_value inside.tally) c.propose.new.place inside.count seen
    (seen ++ x ∷ []) false of_table planned c.self.invariant.0.counted
    c.self.invariant.1 (fit_snoc fits seen x c.self.invariant.1 may)
