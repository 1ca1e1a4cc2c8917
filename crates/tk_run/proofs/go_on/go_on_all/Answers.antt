-- Each server begins anew from what it is given, and no other changes meanwhile.
use Rattle.std.proofs.Common.{◌∙◌, ◌<◌, [], ℕ, List, arith, length, subst}
use Rattle.std.specs.Prelude.{slice_index_or}
use Rattle.tk_run.specs.declared.resume_error.ResumeError.TheVariants as resume
use Rattle.tk_run.proofs.ErrorLaws.{no-memory, passed-on}
use Rattle.tk_run.proofs.ResumingLaws.{GoesOn, gone-none, gone-next, next-refuses, next-server}
use Rattle.tk_run.proofs.ResumingLaws.{all_accepted, all_anew, all_ready, all_stand}
use Rattle.tk_run.proofs.go_on.go_on_all.Goals as goal

pub beginning-init : goal.beginning-init
beginning-init g c = gone-none c.args.shape.now (g.K.Keeper.gives c.args.keeper.now) c.args.servers.now

pub beginning-preserved : goal.beginning-preserved
beginning-preserved g c =
    let gives = g.K.Keeper.gives c.args.keeper.now in
    let shape = c.args.shape.now in
    let i = c.beginning.i in
    let servers = c.beginning.servers in
    let d = c.index-servers-i.result in
    let so_far = c.beginning.invariant in
    let low : i < length servers = omega (arith, c.beginning-test.true, so_far.counted) in
    let given = c.as_slice.ensures.value ∙ c.in_ok-bytes.ensures in
    let went = c.in_ok-go_on.ensures in
    gone-next shape gives i c.args.servers.now servers d c.go_on.new.self low
    (subst (λ (bytes : List ℕ). GoesOn shape bytes (slice_index_or servers i d) c.go_on.new.self) given
    (record { accepted = went.accepted; anew = went.anew; ready = went.ready; stands = went.stands }))
    so_far

pub returns-in_err-bytes-clause-refused : goal.returns-in_err-bytes-clause-refused
returns-in_err-bytes-clause-refused g c E are =
    no-memory c.from_residual.result _ c.from_residual.ensures.1

pub returns-in_err-go_on-clause-refused : goal.returns-in_err-go_on-clause-refused
returns-in_err-go_on-clause-refused g c E are =
    let gives = g.K.Keeper.gives c.args.keeper.now in
    let shape = c.args.shape.now in
    let i = c.beginning.i in
    let servers = c.beginning.servers in
    let d = c.index-servers-i.result in
    let so_far = c.beginning.invariant in
    let low : i < length servers = omega (arith, c.beginning-test.true, so_far.counted) in
    let given = c.as_slice.ensures.value ∙ c.in_ok-bytes.ensures in
    let is = next-server shape gives i c.args.servers.now servers low so_far E are d in
    passed-on c.from_residual-in_err-go_on.result _ resume.Refused _ c.from_residual-in_err-go_on.ensures.1
    (λ refused. next-refuses shape gives i c.args.servers.now servers low so_far E are _ given
    (c.in_err-go_on.ensures.refused E [] is refused))

pub returns-clause-accepted : goal.returns-clause-accepted
returns-clause-accepted g c =
    let so_far = c.beginning.invariant in
    all_accepted c.args.shape.now (g.K.Keeper.gives c.args.keeper.now) c.beginning.i c.args.servers.now
    c.beginning.servers (omega (arith, c.beginning-test.false, so_far.counted)) so_far

pub returns-clause-anew : goal.returns-clause-anew
returns-clause-anew g c =
    let so_far = c.beginning.invariant in
    all_anew c.args.shape.now (g.K.Keeper.gives c.args.keeper.now) c.beginning.i c.args.servers.now
    c.beginning.servers (omega (arith, c.beginning-test.false, so_far.counted)) so_far

pub returns-clause-ready : goal.returns-clause-ready
returns-clause-ready g c =
    let so_far = c.beginning.invariant in
    all_ready c.args.shape.now (g.K.Keeper.gives c.args.keeper.now) c.beginning.i c.args.servers.now
    c.beginning.servers (omega (arith, c.beginning-test.false, so_far.counted)) so_far

pub returns-clause-stand : goal.returns-clause-stand
returns-clause-stand g c E given are ends gave =
    let so_far = c.beginning.invariant in
    all_stand c.args.shape.now (g.K.Keeper.gives c.args.keeper.now) c.beginning.i c.args.servers.now
    c.beginning.servers (omega (arith, c.beginning-test.false, so_far.counted)) so_far E given are ends
    gave
