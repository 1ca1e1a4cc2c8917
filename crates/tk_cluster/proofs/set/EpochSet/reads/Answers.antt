-- Each frame comes after those that were read.
use Rattle.std.proofs.Common.{◌≡◌, ◌∙◌, ap, sym, subst, List, [], ◌∷◌, ◌++◌, ℕ, ◌+◌, take, Err, IfErr, rules}
use Rattle.std.proofs.lemmas.List.{take_more}
use Rattle.tk_replica.specs.declared.asker.Asker.{Asker}
use Rattle.tk_cluster.specs.Refusals.{answer_refusal, first_unanswered, IsManyRefusal, SpellsRead}
use Rattle.tk_replica.specs.Replies.{asker_of}
use Rattle.tk_cluster.specs.Many.{NamesEpoch, AreReads}
use Rattle.tk_cluster.proofs.Together.{first-push, refused-at, reads-push}
use Rattle.tk_cluster.proofs.set.EpochSet.reads.Goals as goal

pub loop-frame-preserved : goal.loop-frame-preserved
loop-frame-preserved c =
    let s = c.args.self.now in
    let frames = c.args.frames.now in
    let i = c.loop-frame.frame-index in
    let frame = c.frame-item.result in
    let front = take i frames in
    let next : take (i + 1) frames ≡ front ++ frame ∷ [] =
    take_more frames i frame c.loop-frame-test.true
    ∙ ap (λ (x : List ℕ). front ++ x ∷ []) (sym c.frame-item.is)
    in
    let so_far = c.loop-frame.invariant in
    let read = c.in_ok-read.read in
    let bytes = c.as_slice.ensures in
    let askers = c.loop-frame.askers.items in
    let vectors = c.loop-frame.vectors.items in
    let new = c.push.new.self.items in
    let now = c.push_vectors.new.vectors.items in
    let asked : new ≡ askers ++ asker_of read ∷ [] =
    c.in_ok-push.ensures.items ∙ ap (λ (a : Asker). askers ++ a ∷ []) c.of.ensures
    in
    let both : now ≡ vectors ++ read.first ∷ read.second ∷ [] = c.in_ok-push_vectors.ensures in
    let one : NamesEpoch s.shape s.number frame read =
    record {
      spells =
          subst (λ (b : List ℕ). SpellsRead s.shape b read) bytes c.in_ok-read.ensures.spells;
      named = c.in_ok-read.ensures.epoch;
    } in
    record {
      reads =
          subst (λ (fs : List (List ℕ)). AreReads s.shape s.number fs new now) (sym next)
          (subst (λ (xs : List Asker). AreReads s.shape s.number (front ++ frame ∷ []) xs now)
          (sym asked)
          (subst (AreReads s.shape s.number (front ++ frame ∷ []) (askers ++ asker_of read ∷ []))
          (sym both)
          (reads-push s.shape s.number front askers vectors frame read so_far.reads one)));
      kept =
          ap (first_unanswered s.shape s.number) next
          ∙ first-push (answer_refusal s.shape s.number) front frame so_far.kept
          (ap (answer_refusal s.shape s.number) (sym bytes) ∙ c.in_ok-read.ensures.answered);
    }

pub returns-in_err-read-clause-refused : goal.returns-in_err-read-clause-refused
returns-in_err-read-clause-refused c =
    let s = c.args.self.now in
    let error = c.in_err-read.field-0.0 in
    let refused : IsManyRefusal (answer_refusal s.shape s.number c.frame-item.result) error =
    subst (λ (bytes : List ℕ). IsManyRefusal (answer_refusal s.shape s.number bytes) error)
    c.as_slice.ensures c.in_err-read.ensures.unanswered
    in
    let out : c.from_residual.result ≡ Err error = search rules in
    subst (λ r. IfErr r (IsManyRefusal (first_unanswered s.shape s.number c.args.frames.now)))
    (sym out)
    (refused-at s.shape s.number c.args.frames.now c.loop-frame.frame-index c.frame-item.result
    error c.loop-frame.invariant.kept c.loop-frame-test.true c.frame-item.is refused)
