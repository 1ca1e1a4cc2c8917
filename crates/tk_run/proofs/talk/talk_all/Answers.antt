-- All clients have asked, all are answered, and all have taken the replies.
use Rattle.std.proofs.Common.{◌≡◌, ◌+◌, ap, sym, ◌∙◌, subst, arith, ℕ, All, List}
use Rattle.std.proofs.lemmas.List.{with_items_is}
use Rattle.tk_shape.specs.declared.shape.Shape.{Shape}
use Rattle.tk_schedule.specs.declared.history.History.{History}
use Rattle.tk_script.specs.declared.script.Script.{Script}
use Rattle.tk_words.specs.Words.{WordBook, IsBook, words_of}
use Rattle.tk_run.specs.declared.pinned_write.PinnedWrite.{PinnedWrite}
use Rattle.tk_report.specs.Clients.{AreClients}
use Rattle.tk_run.specs.Turns.{placed_before}
use Rattle.tk_run.specs.Courses.{MayRead, AreBlank, AreTalks}
use Rattle.tk_run.specs.Ranged.{Summing, MakesBlocks}
use Rattle.tk_run.specs.Ranging.{over_ranges}
use Rattle.tk_run.specs.Under.{client_under}
use Rattle.tk_run.specs.Reading.{MayReadOn, MayTakeEntry, readers, talks_of}
use Rattle.tk_run.proofs.TalkAll.{Begins, one-shape}
use Rattle.tk_run.proofs.TalkSteps.{Stage, stage-same, stage-moved, begun, asking, replied, ended, all-begun}
use Rattle.tk_run.proofs.TalkSteps.{all-answerable, all-stand, all-takeable, all-talked}
use Rattle.tk_run.proofs.talk.talk_all.Given as given
use Rattle.tk_run.proofs.talk.talk_all.Goals as goal
use Rattle.tk_run.proofs.talk.talk_all.Goals.{After-as_mut_slice-all}

-- ---- what is known of all reads, step by step, in a history that the turn may be of

module _ (g : given.Over) (c : goal.After-as_mut_slice-all g) where
  abbrev book : WordBook
  book = g.D.Draws.book c.args.round.now.draws.now

  -- how many ranges there are, and what makes the sums over them
  abbrev shards : ℕ
  shards = c.args.round.now.crew.shards

  abbrev sum : Summing
  sum = g.A.Sums.sum c.args.round.now.sums.now

  begins : {S : Script} {H : History} → let V = over_ranges S book shards sum H in
      MayRead S book H V c.args.round.now.turn c.args.clients.now.items c.args.deeds.items →
      Stage S.shape.clients (Begins S book H V c.args.round.now.turn) c.as_mut_slice-all.result.now
  begins may =
      let readings = c.in_ok-readings.readings.items in
      stage-same c.as_mut_slice-all.ensures.value
      (begun shards sum readings may
      (c.in_ok-readings.ensures.clients ∙ ap (λ v. v.items) c.replace-asking.ensures.value)
      (subst (λ (ds : List PinnedWrite). AreBlank c.args.round.now.turn ds (talks_of readings))
      c.as_slice.ensures.value c.in_ok-readings.ensures.talks))

  -- the drawn words are a book of the script's shape
  serves : (shape : Shape) → shape ≡ g.D.Draws.shape c.args.round.now.draws.now → IsBook shape book
  serves shape same =
      let world = g.world in
      let laws = g.met.D.Draws world.𝓛 world.𝓜 world.𝓡 ((λ s x. x), (λ x. x), (λ x. x), λ x. x) in
      subst (λ (s : Shape). IsBook s book) (sym same) (laws.serves c.args.round.now.draws.now)

  -- the sums are as long as blocks
  sized : MakesBlocks sum
  sized =
      let world = g.world in
      let laws = g.met.A.Sums world.𝓛 world.𝓜 world.𝓡 ((λ s x. x), (λ x. x), (λ x. x), λ x. x) in
      laws.sized c.args.round.now.sums.now

-- ---- each call may be made

pub ask_all-requires-after_bounds : goal.ask_all-requires-after_bounds
ask_all-requires-after_bounds g c κs within =
    let at = goal.at.ask_all-requires-after_bounds g c in
    subst (λ (shape : Shape). All (MayReadOn shape) c.as_mut_slice-all.result.now) c.requires.2
    (all-begun (shards g at.After-as_mut_slice-all) (sum g at.After-as_mut_slice-all)
    (begins g at.After-as_mut_slice-all c.requires.3))

pub answer_all-requires-clause-asked : goal.answer_all-requires-clause-asked
answer_all-requires-clause-asked g c κs within =
    let shape = c.requires.0.shape in
    let may = c.requires.3 in
    let at = (goal.at.answer_all-requires-clause-asked g c).After-as_mut_slice-all in
    let n = shards g at in
    let make = sum g at in
    let ask = stage-moved c.by_epoch.ensures.same
    (asking n make c.ask_all.new.readings c.ask_all.auto.readings c.in_ok-ask_all.ensures (begins g at may))
    in (
      shape,
      c.args.round.now.servers_are ∙ ap (λ (s : Shape). s.servers) (sym c.requires.2),
      all-answerable n make (serves g at shape c.requires.2) may.legal may.turn_in ask,
    )

pub answer_all-requires-clause-stand : goal.answer_all-requires-clause-stand
answer_all-requires-clause-stand g c κs within =
    let S = c.requires.0 in
    let b = g.D.Draws.book c.args.round.now.draws.now in
    let at = (goal.at.answer_all-requires-clause-stand g c).After-as_mut_slice-all in
    let n = shards g at in
    let make = sum g at in
    let ask = stage-moved c.by_epoch.ensures.same
    (asking n make c.ask_all.new.readings c.ask_all.auto.readings c.in_ok-ask_all.ensures
    (begins g at c.requires.3))
    in
    (S.shape, placed_before S (words_of S.shape b) c.requires.1 (c.args.round.now.turn + 1), all-stand n make ask)

pub take_all-requires-after_bounds : goal.take_all-requires-after_bounds
take_all-requires-after_bounds g c κs within =
    let at = (goal.at.take_all-requires-after_bounds g c).After-as_mut_slice-all in
    let n = shards g at in
    let make = sum g at in
    let ask = stage-moved c.by_epoch.ensures.same
    (asking n make c.ask_all.new.readings c.ask_all.auto.readings c.in_ok-ask_all.ensures
    (begins g at c.requires.3))
    in
    subst (λ (shape : Shape). All (MayTakeEntry shape) c.answer_all.new.readings) c.requires.2
    (all-takeable n make
    (replied n make c.answer_all.new.readings c.answer_all.auto.readings c.in_ok-answer_all.ensures ask))

-- ---- in each history

pub returns : goal.returns
returns g c =
    let b = g.D.Draws.book c.args.round.now.draws.now in
    let t = c.args.round.now.turn in
    let clients = c.args.clients.now.items in
    let deeds = c.args.deeds.items in
    let at = (goal.at.returns g c).After-as_mut_slice-all in
    let whole =
    with_items_is c.in_ok-readings.readings c.by_client.new.readings
    (omega (
      arith,
      c.by_client.auto.readings,
      c.take_all.auto.readings,
      c.answer_all.auto.readings,
      c.by_epoch.auto.readings,
      c.ask_all.auto.readings,
      c.as_mut_slice-all.ensures.len,
    ))
    in
    let n = shards g at in
    let make = sum g at in
    let done = λ (S : Script) (H : History)
    (may : MayRead S b H (over_ranges S b n make H) t clients deeds).
    let T = c.requires.0 in
    let K = c.requires.1 in
    let same =
    one-shape S T b H K (over_ranges S b n make H) (over_ranges T b n make K) t clients deeds deeds may
    c.requires.3
    in
    let ask = stage-moved c.by_epoch.ensures.same
    (asking n make c.ask_all.new.readings c.ask_all.auto.readings c.in_ok-ask_all.ensures (begins g at may))
    in
    all-talked
    (stage-moved c.by_client.ensures.same
    (ended n make c.take_all.new.readings (sized g at) (serves g at S.shape (same ∙ c.requires.2))
    may.legal may.turn_in c.take_all.auto.readings c.in_ok-take_all.ensures
    (replied n make c.answer_all.new.readings c.answer_all.auto.readings c.in_ok-answer_all.ensures ask)))
    c.by_client.ensures.ordered
    in
    record {
      talks = λ S H may.
          subst (AreTalks S b H (over_ranges S b n make H) t) (sym (c.in_ok-read.ensures.talks ∙ ap talks_of whole)) (done S H may).1;
      clients = λ S H may.
          subst (AreClients S.shape.clients (client_under S b H (over_ranges S b n make H) (t + 1)))
          (sym (c.in_ok-read.ensures.clients ∙ ap readers whole)) (done S H may).0;
    }
