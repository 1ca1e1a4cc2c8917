-- The next epoch is told as it is kept.
use Rattle.std.proofs.Common.{◌≡◌, ◌∙◌, ◌+◌, ◌-◌, ◌<◌, ◌≤◌, ap, sym, subst, arith, rules, true, drop}
use Rattle.std.proofs.Common.{inl, inr, take, length}
use Rattle.std.specs.Prelude.{Ok, Err}
use Rattle.std.proofs.lemmas.List.{get_or_default, take_rest}
use Rattle.tk_shape.specs.declared.shape.Shape.{Shape}
use Rattle.tk_member.specs.Epochs.{with_epoch, is_epoch_frame}
use Rattle.tk_member.specs.Keeping.{EpochsState, kept_with}
use Rattle.tk_member.proofs.Tellings.{epoch-body, epoch-goes}
use Rattle.tk_member.proofs.KeepingLaws.{still-told, frame-marks}
use Rattle.tk_member.proofs.epochs.Epochs.take.Goals as goal

pub returns-clause-taken : goal.returns-clause-taken
returns-clause-taken c =
    let s = c.self.inside in
    let frame = c.args.frame.now in
    let n = c.index-last.result.now in
    let shape = ap (λ (e : EpochsState). e.shape) c.self.view_is in
    let high : c.args.server ≤ s.shape.servers =
    subst (λ (r : Shape). c.args.server ≤ r.servers) (sym shape) c.requires.high
    in
    let low : n < s.shape.phases = omega (arith, c.if-last-self.false) in
    let is : is_epoch_frame s.shape (n + 1) frame ≡ true =
    sym c.is_epoch_frame.ensures ∙ c.if-not-is_epoch_frame.false
    in
    let kept : kept_with s.marks.items n (drop 6 frame) ≡ Ok c.keep.new.all.items =
    ap (kept_with s.marks.items n) (sym (take_rest frame 6)) ∙ c.in_ok-keep.ensures.kept
    in
    ap (λ (e : EpochsState). with_epoch e.shape e.told c.args.server frame) (sym c.self.view_is)
    ∙ epoch-body s.shape s.last.items s.none s.marks.items c.args.server frame n c.self.invariant
    c.requires.low high c.index-last.ensures
    ∙ epoch-goes s.shape s.marks.items s.last.items (c.args.server - 1) frame n
    (Ok c.keep.new.all.items) low is kept

pub returns-in_err-keep-clause-taken : goal.returns-in_err-keep-clause-taken
returns-in_err-keep-clause-taken c =
    let s = c.self.inside in
    let frame = c.args.frame.now in
    let n = c.index-last.result.now in
    let fault = c.in_err-keep.field-0.0 in
    let low : n < s.shape.phases = omega (arith, c.if-last-self.false) in
    let is : is_epoch_frame s.shape (n + 1) frame ≡ true =
    sym c.is_epoch_frame.ensures ∙ c.if-not-is_epoch_frame.false
    in
    let out : c.from_residual.result ≡ Err fault = search rules in
    rw out
    (elim c.in_err-keep.ensures.kept [
      | inl memory ↦ inl memory
      | inr differs ↦
          inr
          (ap (λ (e : EpochsState). with_epoch e.shape e.told c.args.server frame) (sym c.self.view_is)
          ∙ epoch-body s.shape s.last.items s.none s.marks.items c.args.server frame n c.self.invariant
          c.requires.low
          (subst (λ (e : EpochsState). c.args.server ≤ e.shape.servers) (sym c.self.view_is) c.requires.high)
          c.index-last.ensures
          ∙ epoch-goes s.shape s.marks.items s.last.items (c.args.server - 1) frame n (Err fault) low is
          (ap (kept_with s.marks.items n) (sym (take_rest frame 6)) ∙ differs))
    ])

pub invariant_of-self-2 : goal.invariant_of-self-2
invariant_of-self-2 c =
    let s = c.self.inside in
    let frame = c.args.frame.now in
    let place = c.args.server - 1 in
    let n = c.index-last.result.now in
    let high : c.args.server ≤ s.shape.servers =
    subst (λ (e : EpochsState). c.args.server ≤ e.shape.servers) (sym c.self.view_is) c.requires.high
    in
    let low : place < length s.last.items =
    omega (arith, c.requires.low, high, c.self.invariant.counted)
    in
    let few : n < s.shape.phases = omega (arith, c.if-last-self.false) in
    let is : is_epoch_frame s.shape (n + 1) frame ≡ true =
    sym c.is_epoch_frame.ensures ∙ c.if-not-is_epoch_frame.false
    in
    still-told s.shape s.last.items s.none s.marks.items place n
    (take (length frame - 6) (drop 6 frame)) c.keep.new.all.items c.self.invariant low
    (c.index-last.ensures ∙ get_or_default s.last.items place n 0 low) few
    (frame-marks s.shape (n + 1) frame is) c.in_ok-keep.ensures.kept
