-- A log that is written comes after the earlier ones, and another changes nothing.
use Rattle.std.proofs.Common.{◌≡◌, ◌∙◌, sym, ap, List, ℕ, [], ◌∷◌, ◌++◌, Vec, Global, eq-eqb, ne_eqb}
use Rattle.std.specs.Prelude.{◌==◌}
use Rattle.std.proofs.lemmas.Option.{get_or_from_slice_get}
use Rattle.tk_script.specs.declared.role.Role.{Role}
use Rattle.tk_script.specs.Sent.{blank_role, writer_of}
use Rattle.tk_report.proofs.ClientsLaws.{passes-next, fails-next}
use Rattle.tk_report.proofs.opened.logs_written.Goals as goal
use Rattle.tk_report.proofs.opened.logs_written.Goals.{then-role-client+in_ok-push, else-role-client}

pub loop-log-preserved : goal.loop-log-preserved
loop-log-preserved c =
    let script = c.args.script.now in
    let client = c.args.client in
    let log = c.loop-log.log in
    let so_far = c.loop-log.invariant in
    let items = λ (v : Vec ℕ Global). v.items in
    let mine = λ (l : ℕ). writer_of script l == client in
    let role_is =
    get_or_from_slice_get script.roles log c.role.result.now blank_role c.role.ensures.role in
    let writer : writer_of script log ≡ c.role.result.now.writer =
    ap (λ (r : Role). r.writer) role_is
    in
    elim c.if-role-client.branch [
      | then-role-client+in_ok-push w ↦
          ap items w.logs-is ∙ w.in_ok-push.ensures.items
          ∙ ap (λ (logs : List ℕ). logs ++ log ∷ []) so_far
          ∙ passes-next mine log
          (eq-eqb (writer_of script log) client (writer ∙ w.if-role-client.true))
      | else-role-client w ↦
          ap items w.logs-is ∙ so_far
          ∙ fails-next mine log
          (ne_eqb (writer_of script log) client (λ e. w.if-role-client.false (sym writer ∙ e)))
    ]
