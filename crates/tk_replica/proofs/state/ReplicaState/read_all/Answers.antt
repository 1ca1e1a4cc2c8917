-- Each frame comes after those that were read.
use Rattle.std.proofs.Common.{◌≡◌, ◌∙◌, ap, sym, subst, List, [], ◌∷◌, ◌++◌, ℕ, ◌+◌, take, Err, IfErr, rules}
use Rattle.std.proofs.lemmas.List.{take_more}
use Rattle.tk_frames.specs.declared.read_frame.ReadFrame.{ReadFrame}
use Rattle.tk_replica.specs.Refusals.{serve_refusal, first_refusal, IsServeRefusal}
use Rattle.tk_replica.specs.Replies.{IsAsked, AreAsked}
use Rattle.tk_replica.proofs.Several.{first-push, refused-at, asked-push}
use Rattle.tk_replica.proofs.state.ReplicaState.read_all.Goals as goal

pub loop-frame-preserved : goal.loop-frame-preserved
loop-frame-preserved c =
    let s = c.args.self.now in
    let frames = c.args.frames.now in
    let i = c.loop-frame.frame-index in
    let frame = c.frame-item.result in
    let front = take i frames in
    let next : take (i + 1) frames ≡ front ++ frame ∷ [] =
    take_more frames i frame c.loop-frame-test.true
    ∙ ap (λ (x : List ℕ). front ++ x ∷ []) (sym c.frame-item.is)
    in
    let so_far = c.loop-frame.invariant in
    let read = c.in_ok-read.field-0 in
    let bytes = c.as_slice.ensures in
    record {
      asked =
          subst (λ (fs : List (List ℕ)). AreAsked s fs c.push.new.self.items) (sym next)
          (subst (λ (rs : List ReadFrame). AreAsked s (front ++ frame ∷ []) rs)
          (sym c.in_ok-push.ensures.items)
          (asked-push s front c.loop-frame.reads.items frame read so_far.asked
          (subst (λ (b : List ℕ). IsAsked s b read) bytes c.in_ok-read.ensures.asked)));
      kept =
          ap (first_refusal s) next
          ∙ first-push (serve_refusal s) front frame so_far.kept
          (ap (serve_refusal s) (sym bytes) ∙ c.in_ok-read.ensures.kept);
    }

pub returns-in_err-read-clause-refused : goal.returns-in_err-read-clause-refused
returns-in_err-read-clause-refused c =
    let s = c.args.self.now in
    let error = c.in_err-read.field-0.0 in
    let refused : IsServeRefusal (serve_refusal s c.frame-item.result) error =
    subst (λ (bytes : List ℕ). IsServeRefusal (serve_refusal s bytes) error)
    c.as_slice.ensures c.in_err-read.ensures.refused
    in
    let out : c.from_residual.result ≡ Err error = search rules in
    subst (λ r. IfErr r (IsServeRefusal (first_refusal s c.args.frames.now))) (sym out)
    (refused-at s c.args.frames.now c.loop-frame.frame-index c.frame-item.result error
    c.loop-frame.invariant.kept c.loop-frame-test.true c.frame-item.is refused)
