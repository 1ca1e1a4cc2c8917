-- The first one's checkpoint is kept, and all begin anew from what is given.
use Rattle.std.proofs.Common.{◌≡◌, ◌∙◌, ◌++◌, ◌∷◌, [], ℕ, List, ap, sym, subst, arith, length}
use Rattle.std.proofs.lemmas.List.{with_items_is}
use Rattle.std.proofs.lemmas.Result.{IfErr-weaker, on_ok_weaker}
use Rattle.tk_run.specs.declared.resume_error.ResumeError.TheVariants as resume
use Rattle.tk_run.specs.Keeping.{OneRefuses}
use Rattle.tk_run.specs.Servers.{IsServerAt, AreReady, AreServers, alike, nothing_seen}
use Rattle.tk_io.proofs.Offers.{always}
use Rattle.tk_run.proofs.ErrorLaws.{no-memory}
use Rattle.tk_run.proofs.go_on.go_on_before.Goals as goal

pub go_on_all-requires : goal.go_on_all-requires
go_on_all-requires g c =
    let lent = ap length c.as_mut_slice.ensures.value in
    omega (arith, lent, c.requires.1)

pub returns-clause-kept : goal.returns-clause-kept
returns-clause-kept g c due E seen are =
    let shape = c.args.shape.now in
    let first = c.index.result.now in
    let is : IsServerAt shape E (seen 1) first =
    subst (IsServerAt shape E (seen 1)) (sym c.index.ensures) (are.each 0 first c.requires.0)
    in
    always c.go_on_all.result
    (c.in_ok-keep.ensures.ok
    ∙ ap (λ (bytes : List ℕ). g.K.Keeper.kept c.args.keeper.now ++ bytes ∷ [])
    (c.as_slice.ensures.value ∙ c.in_ok-bytes.ensures.saved shape E (seen 1) is))

pub returns-clause-accepted : goal.returns-clause-accepted
returns-clause-accepted g c due E are =
    c.go_on_all.ensures.accepted E
    (subst (AreServers c.args.shape.now (alike E) nothing_seen) (sym c.as_mut_slice.ensures.value) are)

pub returns-in_err-bytes-clause-refused : goal.returns-in_err-bytes-clause-refused
returns-in_err-bytes-clause-refused g c due E are =
    no-memory c.from_residual.result _ c.from_residual.ensures.1

pub returns-in_err-keep-clause-refused : goal.returns-in_err-keep-clause-refused
returns-in_err-keep-clause-refused g c due E are =
    no-memory c.from_residual-in_err-keep.result _ c.from_residual-in_err-keep.ensures.1

pub returns-clause-refused : goal.returns-clause-refused
returns-clause-refused g c due E are =
    let shape = c.args.shape.now in
    let gives = g.K.Keeper.gives c.keep.new.self in
    let first = c.index.result.now in
    let is : IsServerAt shape E [] first =
    subst (IsServerAt shape E []) (sym c.index.ensures) (are.each 0 first c.requires.0)
    in
    let kept = c.in_ok-keep.ensures.ok
    ∙ ap (λ (bytes : List ℕ). g.K.Keeper.kept c.args.keeper.now ++ bytes ∷ [])
    (c.as_slice.ensures.value ∙ c.in_ok-bytes.ensures.saved shape E [] is)
    in
    let own = c.in_ok-bytes.ensures.accepted shape E [] is in
    IfErr-weaker c.go_on_all.result (λ e. e ≡ resume.Refused → OneRefuses shape E gives) _
    (λ e one is. (kept, own, one is))
    (c.go_on_all.ensures.refused E
    (subst (AreServers shape (alike E) nothing_seen) (sym c.as_mut_slice.ensures.value) are))

pub returns-clause-ready : goal.returns-clause-ready
returns-clause-ready g c E are =
    let shape = c.args.shape.now in
    let list = c.args.servers.now.list in
    let servers = c.go_on_all.new.servers in
    let counted : length servers ≡ list.len =
    omega (arith, c.go_on_all.auto.servers, c.as_mut_slice.ensures.len)
    in
    on_ok_weaker c.go_on_all.result
    (λ now. subst (AreReady shape E) (sym (with_items_is list servers counted)) now)
    (c.go_on_all.ensures.ready E (subst (AreReady shape E) (sym c.as_mut_slice.ensures.value) are))

pub returns-clause-stand : goal.returns-clause-stand
returns-clause-stand g c due E given are gave =
    let shape = c.args.shape.now in
    let list = c.args.servers.now.list in
    let servers = c.go_on_all.new.servers in
    let first = c.index.result.now in
    let counted : length servers ≡ list.len =
    omega (arith, c.go_on_all.auto.servers, c.as_mut_slice.ensures.len)
    in
    let is : IsServerAt shape E [] first =
    subst (IsServerAt shape E []) (sym c.index.ensures) (are.each 0 first c.requires.0)
    in
    on_ok_weaker c.go_on_all.result
    (λ stand. subst (AreServers shape given nothing_seen) (sym (with_items_is list servers counted))
    stand)
    (c.go_on_all.ensures.stand E given
    (subst (AreServers shape (alike E) nothing_seen) (sym c.as_mut_slice.ensures.value) are)
    (c.in_ok-bytes.ensures.ends shape E [] is) gave)
