-- What the log gave to one more follower stands after the others, and at the end all do.
use Rattle.std.proofs.Common.{◌≡◌, ◌<◌, ℕ, List, ◌++◌, ◌∙◌, ap, sym, subst, length, take, flat_map}
use Rattle.std.proofs.Common.{get_or, rules, arith}
use Rattle.std.proofs.lemmas.List.{take_all}
use Rattle.std.proofs.lemmas.Option.{get_or_from_slice_get}
use Rattle.tk_script.specs.declared.role.Role.{Role}
use Rattle.tk_script.specs.Sent.{blank_role}
use Rattle.tk_report.specs.Leaving.{got_by}
use Rattle.tk_report.specs.Report.{log_lines, role_in}
use Rattle.tk_report.proofs.ReportLaws.{next_element}
use Rattle.tk_report.proofs.log_text.push_followers.Goals as goal

pub got-got-requires : goal.got-got-requires
got-got-requires g c =
    let clients = g.L.Left.clients c.args.told.now.left.now in
    let followers = c.as_slice-followers.result.now in
    let is = c.as_slice-followers.ensures in
    let i = c.loop-client.client-index in
    let within : i < length followers = omega arith in
    subst (λ (xs : List ℕ). get_or xs i 0 < length clients) (sym is)
    (c.role.ensures.followers_in i (subst (λ (xs : List ℕ). i < length xs) is within))

pub loop-client-preserved : goal.loop-client-preserved
loop-client-preserved g c =
    let clients = g.L.Left.clients c.args.told.now.left.now in
    let log = c.args.log in
    let followers = c.as_slice-followers.result.now in
    let i = c.loop-client.client-index in
    let client = get_or followers i 0 in
    let within : i < length followers = omega arith in
    let lines = λ (k : ℕ). log_lines log k (got_by clients k log) in
    next_element lines followers i 0 c.args.out.now.items within
    c.loop-client.invariant c.in_ok-push_log.ensures.ok (ap (log_lines log client) c.got-got.ensures)

pub returns : goal.returns
returns g c =
    let told = c.args.told.now in
    let clients = g.L.Left.clients told.left.now in
    let log = c.args.log in
    let old = c.args.out.now.items in
    let followers = c.as_slice-followers.result.now in
    let i = c.loop-client.client-index in
    let lines = λ (k : ℕ). log_lines log k (got_by clients k log) in
    let all : take i followers ≡ followers = take_all i followers (search rules) in
    let role =
    get_or_from_slice_get told.roles.now log c.role.result.now blank_role c.role.ensures.role in
    let of_role : followers ≡ (role_in told.roles.now log).followers =
    c.as_slice-followers.ensures ∙ sym (ap (λ (r : Role). r.followers) role)
    in
    record {
      ok = c.loop-client.invariant ∙ ap (λ (xs : List ℕ). old ++ flat_map lines xs) (all ∙ of_role);
    }
