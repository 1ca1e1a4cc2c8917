-- The marks of an epoch that all told are kept.
use Rattle.std.proofs.Common.{◌≡◌, ◌∙◌, ◌*◌, ◌-◌, ◌<◌, ◌≤◌, ap, sym, subst, arith, ℕ, List, [], Bool, length, get_or}
use Rattle.std.proofs.lemmas.List.{length-replicate}
use Rattle.std.proofs.lemmas.Result.{IfOk-weaker}
use Rattle.tk_shape.specs.declared.shape.Shape.{Shape}
use Rattle.tk_packets.specs.Frames.{marks_len}
use Rattle.tk_member.specs.Epochs.{Marks, known, marks_at, filter_of}
use Rattle.tk_member.specs.Keeping.{EpochsState, told_so_far, AreToldByServers}
use Rattle.tk_packets.proofs.Offers.{marks-whole}
use Rattle.tk_member.proofs.Tellings.{marks-known}
use Rattle.tk_member.proofs.epochs.Epochs.filter.Goals as goal

pub filter_of-requires : goal.filter_of-requires
filter_of-requires c =
    let s = c.self.inside in
    let long : length c.as_slice.result.now ≡ marks_len s.shape =
    ap (λ (m : Marks). length m) (c.as_slice.ensures ∙ c.self.invariant.none_is)
    ∙ length-replicate (marks_len s.shape) 0
    in
    ap (λ (n : ℕ). 8 * n) long ∙ marks-whole s.shape

-- the marks of a known epoch are there
there : (shape : Shape) (last : List ℕ) (none : Marks) (marks : List Marks) (e : ℕ) (d : Marks)
    (kept : EpochsState) → AreToldByServers shape last none marks →
    record { shape = shape; told = told_so_far marks last } ≡ kept → e ≤ known kept.shape kept.told →
    (e ≡ 0 → ⊥) →
    (e - 1 < length marks) × (marks_at shape (told_so_far marks last) e ≡ get_or marks (e - 1) d)
there shape last none marks e d kept are is below other =
    let near : e ≤ known shape (told_so_far marks last) =
    subst (λ (k : EpochsState). e ≤ known k.shape k.told) (sym is) below
    in
    let some : 1 ≤ e = omega (arith, other) in
    let servers : 1 ≤ length last = omega (arith, are.counted, shape.in_range.servers_low) in
    marks-known shape marks last e d are.within servers some near

pub index-marks-requires : goal.index-marks-requires
index-marks-requires c =
    let s = c.self.inside in
    let at = there s.shape s.last.items s.none s.marks.items c.args.epoch [] c.args.self.now
    c.self.invariant c.self.view_is c.requires c.if-epoch-eq0.false in
    omega (arith, at.0)

pub filter_of-requires-2 : goal.filter_of-requires-2
filter_of-requires-2 c =
    let s = c.self.inside in
    let m = c.index-marks.result.now in
    let at = there s.shape s.last.items s.none s.marks.items c.args.epoch [] c.args.self.now
    c.self.invariant c.self.view_is c.requires c.if-epoch-eq0.false in
    ap (λ (x : Marks). 8 * length x) (c.as_slice-2.ensures ∙ c.index-marks.ensures)
    ∙ c.self.invariant.sized (c.args.epoch - 1) m at.0

pub returns : goal.returns
returns c =
    let s = c.self.inside in
    let e = c.args.epoch in
    let m = c.index-marks.result.now in
    let at = there s.shape s.last.items s.none s.marks.items e m c.args.self.now
    c.self.invariant c.self.view_is c.requires c.if-epoch-eq0.false in
    let now = c.args.self.now in
    let are =
    ap (filter_of s.shape) (c.as_slice-2.ensures ∙ c.index-marks.ensures ∙ sym at.1)
    ∙ ap (λ (k : EpochsState). filter_of k.shape (marks_at k.shape k.told e)) c.self.view_is
    in
    IfOk-weaker c.filter_of-2.result (λ (f : List Bool). f ≡ filter_of s.shape c.as_slice-2.result.now)
    (λ (f : List Bool). f ≡ filter_of now.shape (marks_at now.shape now.told e))
    (λ f is. is ∙ are) c.filter_of-2.ensures
