-- The clients at the end are those of an outcome.
use Rattle.std.proofs.Common.{List, length, subst, sym}
use Rattle.tk_script.specs.declared.role.Role.{Role}
use Rattle.tk_client.specs.Client.{ClientState}
use Rattle.tk_report.specs.Leaving.{IsOutcome, CountsSaid}
use Rattle.tk_report.proofs.outcome.Outcome.of.Goals as goal

pub invariant_of-result : goal.invariant_of-result
invariant_of-result c =
    let S = c.args.script.now in
    let H = c.args.history in
    let clients = c.args.clients.items in
    let words = c.requires.0 in
    let ended = c.requires.1 in
    let outcome = c.ends.ensures.leave S words H clients ended.clients ended.legal in
    let with_clients =
    subst (λ (k : List ClientState). IsOutcome S.shape S.roles H k) (sym c.from_vec.ensures) outcome
    in
    let counted = c.ends.ensures.said S words H clients ended.clients in
    record {
      sound = subst (λ (r : List Role). IsOutcome S.shape r H c.from_vec.result)
          (sym c.in_ok-roles.ensures.cases) with_clients;
      counted =
          subst (CountsSaid S.shape c.from_vec.result) (sym c.in_ok-said.ensures)
          (subst (λ (k : List ClientState). CountsSaid S.shape k (length S.says))
          (sym c.from_vec.ensures) counted);
    }
