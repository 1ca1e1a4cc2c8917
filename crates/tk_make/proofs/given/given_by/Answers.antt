-- What the log gave to one more follower is counted, and at the end all is.
use Rattle.std.proofs.Common.{◌≡◌, ◌∙◌, ℕ, ◌+◌, ◌<◌, List, length, take, count_by, get_or, ap, ap₂}
use Rattle.std.proofs.Common.{sym, subst, rules, arith}
use Rattle.std.specs.Prelude.{sum_by}
use Rattle.std.proofs.lemmas.List.{take_all}
use Rattle.std.proofs.lemmas.List.Sums.{sum_by_more}
use Rattle.std.proofs.lemmas.Option.{get_or_from_slice_get}
use Rattle.tk_script.specs.declared.role.Role.{Role}
use Rattle.tk_script.specs.Sent.{blank_role}
use Rattle.tk_report.specs.Leaving.{got_by}
use Rattle.tk_report.specs.Report.{role_in}
use Rattle.tk_make.specs.Tallies.{is_of}
use Rattle.tk_make.proofs.given.given_by.Goals as goal

pub got_by-got-requires : goal.got_by-got-requires
got_by-got-requires c =
    let clients = c.args.outcome.now.clients in
    let followers = c.as_slice-followers.result.now in
    let is = c.as_slice-followers.ensures in
    let i = c.loop-client.client-index in
    let within : i < length followers = omega arith in
    subst (λ (xs : List ℕ). get_or xs i 0 < length clients) (sym is)
    (c.role.ensures.followers_in i (subst (λ (xs : List ℕ). i < length xs) is within))

pub loop-client-preserved : goal.loop-client-preserved
loop-client-preserved c =
    let clients = c.args.outcome.now.clients in
    let test = is_of c.args.kind in
    let log = c.args.log in
    let followers = c.as_slice-followers.result.now in
    let i = c.loop-client.client-index in
    let within : i < length followers = omega arith in
    let count = λ (k : ℕ). count_by test (got_by clients k log) in
    c.in_ok-sum.ensures
    ∙ ap₂ (λ (a b : ℕ). a + b) c.loop-client.invariant
    (c.count_of.ensures ∙ ap (count_by test) c.got_by-got.ensures)
    ∙ sym (sum_by_more count followers i 0 within)

pub returns : goal.returns
returns c =
    let o = c.args.outcome.now in
    let log = c.args.log in
    let followers = c.as_slice-followers.result.now in
    let i = c.loop-client.client-index in
    let count = λ (k : ℕ). count_by (is_of c.args.kind) (got_by o.clients k log) in
    let all : take i followers ≡ followers = take_all i followers (search rules) in
    let role = get_or_from_slice_get o.roles log c.role.result.now blank_role c.role.ensures.role in
    let of_role : followers ≡ (role_in o.roles log).followers =
    c.as_slice-followers.ensures ∙ sym (ap (λ (r : Role). r.followers) role)
    in
    c.loop-client.invariant ∙ ap (sum_by count) (all ∙ of_role)
