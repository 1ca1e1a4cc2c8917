-- What it replies to the frames that all clients ask of it.
use Rattle.std.proofs.Common.{◌≡◌, ◌∙◌, ap, subst, List, map}
use Rattle.std.specs.Prelude.{IfOk}
use Rattle.tk_run.specs.Ranging.{bytes_made}
use Rattle.tk_run.specs.Rows.{Frame}
use Rattle.tk_run.proofs.AnsweredLaws.{asked-inside, replies-due}
use Rattle.tk_run.proofs.replies.replies_of.Goals as goal

pub frames_for-requires : goal.frames_for-requires
frames_for-requires g c =
    asked-inside c.requires.asked.0 c.args.server c.args.readings.now c.requires.asked.2
    c.requires.asked.1

pub replies_from-requires-clause-asked : goal.replies_from-requires-clause-asked
replies_from-requires-clause-asked g c κs within =
    let shape = c.requires.asked.0 in (
      shape,
      replies-due shape c.args.server c.args.readings.now c.as_slice.result.now
          c.requires.asked.2 c.requires.asked.1
          (c.as_slice.ensures.value ∙ c.in_ok-frames.ensures),
    )

pub returns : goal.returns
returns g c shape E stands =
    let sum = g.A.Sums.sum c.args.sums.now in
    let shards = c.args.crew.shards in
    subst (λ (fs : List Frame). IfOk c.replies_from.result (λ replies. replies.items ≡ fs))
    (ap (map (bytes_made sum shards shape E)) (c.as_slice.ensures.value ∙ c.in_ok-frames.ensures))
    (c.replies_from.ensures shape E stands)
