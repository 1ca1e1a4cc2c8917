-- Nothing was counted yet.
use Rattle.std.proofs.Common.{◌≡◌, ◌∙◌, ◌-◌, ◌≤◌, [], map, refl, ap, sym, subst}
use Rattle.std.specs.Prelude.{All}
use Rattle.std.proofs.Math.Seq.{drop-nil}
use Rattle.std.proofs.lemmas.List.Elements.{All-nil}
use Rattle.tk_table.specs.Stands.{position_of}
use Rattle.tk_report.proofs.DisplacedLaws.{none-displaced}
use Rattle.tk_report.proofs.count.Count.open.Goals as goal

pub returns : goal.returns
returns c =
    let table = c.in_ok-open.field-0 in
    let stands = c.in_ok-open.ensures.stands in
    let none : table.positions ≡ [] =
    stands.positions ∙ ap (map position_of) (drop-nil (0 - table.shape.retained))
    in
    record {
      order = tt;
      same = c.in_ok-open.ensures.shape;
      table = stands;
      latest = subst (All (λ p. p ≤ 0)) (sym none) (All-nil (λ p. p ≤ 0));
      entries = refl;
      displaced = none-displaced c.args.shape.now;
    }
