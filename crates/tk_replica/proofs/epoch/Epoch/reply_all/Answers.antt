-- A vector has a bit for each block of an epoch, and each read has the sums for its own vectors.
use Rattle.std.proofs.Common.{◌≡◌, ◌∙◌, ap, ap₂, sym, subst, List, ◌++◌, ℕ, ◌*◌, length, map}
use Rattle.std.specs.Prelude.{All}
use Rattle.tk_replica.specs.declared.asker.Asker.{Asker}
use Rattle.tk_replica.specs.Replies.{sum_over, frame_over, frames_with}
use Rattle.tk_replica.proofs.Paired.{vectors-fit, frames-over, two-for-each}
use Rattle.tk_replica.proofs.epoch.Epoch.reply_all.Goals as goal

pub sum_each-requires : goal.sum_each-requires
sum_each-requires c =
    let epoch = c.args.self.now in
    let Fits : List (List ℕ) → Type 0 =
    λ vs. All (λ v. 8 * length v ≡ length epoch.blocks.blocks) vs
    in
    subst Fits (sym c.in_ok-askers.ensures.vectors)
    (vectors-fit epoch c.args.reads.items c.requires)

pub replies_with-requires : goal.replies_with-requires
replies_with-requires c =
    record {
      two_for_each =
          ap length (c.in_ok-sums.ensures ∙ ap (map (sum_over c.args.self.now)) c.in_ok-askers.ensures.vectors)
          ∙ two-for-each c.args.self.now c.args.reads.items
          ∙ ap (λ (left : List Asker). 2 * length left) (sym (c.as_slice.ensures.value ∙ c.in_ok-askers.ensures.askers));
    }

pub returns : goal.returns
returns c =
    let epoch = c.args.self.now in
    let old = c.args.out.now.items in
    let made : c.in_ok-frames.frames.items ≡ map (frame_over epoch) c.args.reads.items =
    c.in_ok-frames.ensures
    ∙ ap₂ (λ (left : List Asker) (sums : List (List ℕ)). frames_with left sums)
    (c.as_slice.ensures.value ∙ c.in_ok-askers.ensures.askers)
    (c.in_ok-sums.ensures ∙ ap (map (sum_over epoch)) c.in_ok-askers.ensures.vectors)
    ∙ frames-over epoch c.args.reads.items
    in
    c.in_ok-append.ensures.items ∙ ap (λ (frames : List (List ℕ)). old ++ frames) made
