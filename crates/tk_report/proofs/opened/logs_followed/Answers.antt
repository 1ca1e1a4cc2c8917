-- A log that is followed comes after the earlier ones, and another changes nothing.
use Rattle.std.proofs.Common.{◌≡◌, ◌∙◌, sym, ap, List, ℕ, [], ◌∷◌, ◌++◌, Vec, Global}
use Rattle.std.specs.Prelude.{◌==◌}
use Rattle.std.specs.List.{list_any}
use Rattle.std.proofs.lemmas.Option.{get_or_from_slice_get}
use Rattle.tk_script.specs.declared.role.Role.{Role}
use Rattle.tk_script.specs.Sent.{blank_role}
use Rattle.tk_report.specs.Report.{is_follower}
use Rattle.tk_report.proofs.ClientsLaws.{passes-next, fails-next}
use Rattle.tk_report.proofs.opened.logs_followed.Goals as goal
use Rattle.tk_report.proofs.opened.logs_followed.Goals.{then-contains+in_ok-push, else-contains}

pub loop-log-preserved : goal.loop-log-preserved
loop-log-preserved c =
    let script = c.args.script.now in
    let client = c.args.client in
    let log = c.loop-log.log in
    let so_far = c.loop-log.invariant in
    let items = λ (v : Vec ℕ Global). v.items in
    let role_is =
    get_or_from_slice_get script.roles log c.role.result.now blank_role c.role.ensures.role in
    let followers = c.as_slice.ensures ∙ ap (λ (r : Role). r.followers) (sym role_is) in
    let asked : c.contains.result ≡ is_follower script client log =
    c.contains.ensures.value ∙ ap (list_any (λ d. d == client)) followers
    in
    elim c.if-contains.branch [
      | then-contains+in_ok-push w ↦
          ap items w.logs-is ∙ w.in_ok-push.ensures.items
          ∙ ap (λ (logs : List ℕ). logs ++ log ∷ []) so_far
          ∙ passes-next (is_follower script client) log (sym asked ∙ w.if-contains.true)
      | else-contains w ↦
          ap items w.logs-is ∙ so_far
          ∙ fails-next (is_follower script client) log (sym asked ∙ w.if-contains.false)
    ]
