-- A read over what lies open to it gives what is known before the next turn.
use Rattle.std.proofs.Common.{◌≡◌, ◌∙◌, ◌+◌, ℕ, Bool, List, ap, ap₂, sym, subst, length}
use Rattle.tk_shape.specs.declared.shape.Shape.{Shape}
use Rattle.tk_shape.specs.Lengths.{width}
use Rattle.tk_words.specs.Words.{IsBook, words_of}
use Rattle.tk_bucket.specs.Bytes.{BlockList}
use Rattle.tk_client.specs.Looking.{FollowerState, after_look}
use Rattle.tk_report.specs.Clients.{follower_before}
use Rattle.tk_report.proofs.ReadingLaws.{IsHeld, follower-next, on-ok}
use Rattle.tk_report.proofs.turn_reads.read_one.Goals as goal

pub look-requires-clause-one_shape : goal.look-requires-clause-one_shape
look-requires-clause-one_shape g c κs within =
    let plan = c.args.plan.now in
    let shape = ap (λ (l : FollowerState). l.shape) c.requires.follower in
    plan.one_shape ∙ sym shape

pub look-requires-clause-counted : goal.look-requires-clause-counted
look-requires-clause-counted g c κs within =
    let shape = ap (λ (l : FollowerState). l.shape) c.requires.follower in
    ap (λ (b : BlockList). length b.blocks) c.blocks-2.ensures
    ∙ c.open_to-open.ensures.counted
    ∙ ap (λ (shape : Shape). shape.buckets) (sym shape)

pub look-requires-clause-wide : goal.look-requires-clause-wide
look-requires-clause-wide g c κs within =
    let shape = ap (λ (l : FollowerState). l.shape) c.requires.follower in
    ap (λ (b : BlockList). b.width) c.blocks-2.ensures
    ∙ c.open_to-open.ensures.wide
    ∙ ap width (sym shape)

pub returns : goal.returns
returns g c =
    let plan = c.args.plan.now in
    let S = plan.script.now in
    let book = g.D.Draws.book plan.draws.now in
    let words = words_of S.shape book in
    let H = plan.history.now in
    let turn = c.args.turn in
    let number = c.args.number in
    let old = c.args.follower.now in
    let new = c.look.new.self in
    let due = c.epoch-due.result in
    let held = c.open_to-open.result.now in
    let world = g.world in
    let laws = g.met.D.Draws world.𝓛 world.𝓜 world.𝓡 ((λ s x. x), (λ x. x), (λ x. x), λ x. x) in
    let served =
    subst (λ (shape : Shape). IsBook shape book) plan.one_shape (laws.serves plan.draws.now)
    in
    let is =
    subst (λ (e : ℕ). IsHeld S book H e held) (sym c.epoch-due.ensures) c.open_to-open.ensures
    in
    record {
      follower = on-ok c.look.result _ (new ≡ follower_before S words H (turn + 1) number)
          (λ looked. follower-next S book H turn number due held old new served plan.legal is
          (sym c.epoch-due.ensures) c.requires.follower
          (looked
          ∙ ap₂ (λ (marks : List Bool) (blocks : List (List ℕ)).
          after_look (words_of old.shape book) marks blocks due old) c.filter.ensures
          (ap (λ (b : BlockList). b.blocks) c.blocks-2.ensures)))
          c.look.ensures.looked;
    }
