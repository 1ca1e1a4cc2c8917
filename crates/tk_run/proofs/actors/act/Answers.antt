-- All act at once; then each pass learns what was told, and all meet.
use Rattle.std.proofs.Common.{◌≡◌, refl, subst, ap, sym, ◌∙◌, ℕ, Bool, true, false}
use Rattle.std.specs.Prelude.{MatchBool}
use Rattle.tk_schedule.specs.Schedule.{is_closing}
use Rattle.tk_board.specs.Boards.{Known}
use Rattle.tk_cluster.specs.declared.set.EpochSet.{EpochSet}
use Rattle.tk_cluster.specs.Clusters.{Each}
use Rattle.tk_cluster.specs.Passes.{Passing, ReadsOnly, Learns}
use Rattle.tk_cluster.specs.Tellings.{Published}
use Rattle.tk_run.specs.Acting.{IsReadyServer, WroteAndPinned, Heralds}
use Rattle.tk_run.specs.Ran.{AllLearn}
use Rattle.tk_run.specs.Ticks.{AllBy, Done}
use Rattle.tk_run.proofs.ActLaws.{all_by, all_free, still_on, nothing_told}
use Rattle.tk_run.proofs.actors.act.Goals as goal

pub serve_with-requires-clause-able : goal.serve_with-requires-clause-able
serve_with-requires-clause-able g c κs within =
    all_by (IsReadyServer g.B.Naming.shape c.args.cue.now.most) c.args.passes.now c.requires.ready

pub serve_with-requires-clause-fits : goal.serve_with-requires-clause-fits
serve_with-requires-clause-fits g c κs within = all_free c.args.desks.now

pub learn_all-requires : goal.learn_all-requires
learn_all-requires g c =
    let shape = g.B.Naming.shape in
    let cue = c.args.cue.now in
    let p = c.args.herald.now.publisher in
    let q = c.serve_with.new.first.publisher in
    let acted = c.serve_with.new.actors in
    let heard = subst (λ o. Heralds shape cue.closing p o q) c.in-Some.is
    (c.if-not-serve_with.ensures.first refl)
    in
    let board = ap (λ (k : Known EpochSet). k.board) heard.2 ∙ heard.1.board in
    subst (λ b. AllBy (λ (a : Passing). a.reads.board ≡ b) acted) (sym board)
    (all_by (λ (a : Passing). a.reads.board ≡ p.board) acted
    (still_on shape cue.most p.board c.args.passes.now c.args.desks.now c.serve_with.new.desks acted
    (c.if-not-serve_with.ensures.each refl) c.requires.on))

pub returns-in-Some : goal.returns-in-Some
returns-in-Some g c =
    let shape = g.B.Naming.shape in
    let cue = c.args.cue.now in
    let p = c.args.herald.now.publisher in
    let q = c.serve_with.new.first.publisher in
    let xs = c.args.passes.now in
    let ds = c.args.desks.now in
    let es = c.serve_with.new.desks in
    let acted = c.serve_with.new.actors in
    let learned = c.learn_all.new.passes in
    let heard = subst (λ o. Heralds shape cue.closing p o q) c.in-Some.is
    (c.if-not-serve_with.ensures.first refl)
    in
    let closing : is_closing shape cue.turn ≡ true = sym cue.closes ∙ heard.0 in
    record {
      acted = acted;
      told = q;
      learned = learned;
      acts = subst (λ (m : ℕ). Done (WroteAndPinned shape m) xs ds es acted) cue.most_is
          (c.if-not-serve_with.ensures.each refl);
      tells = subst (λ (b : Bool). MatchBool b (Published shape p q) (q ≡ p)) (sym closing) heard.1;
      learns = subst (λ (b : Bool). MatchBool b (AllLearn q acted learned) (learned ≡ acted))
          (sym closing)
          (subst (λ (k : Known EpochSet). Each (ReadsOnly (λ r s. Learns r k s)) acted learned) heard.2
          c.in_ok-learn_all.ensures.ok);
      met = c.meet.ensures;
      shows = c.stands.ensures.shows;
    }

pub returns : goal.returns
returns g c =
    let shape = g.B.Naming.shape in
    let cue = c.args.cue.now in
    let p = c.args.herald.now.publisher in
    let q = c.serve_with.new.first.publisher in
    let xs = c.args.passes.now in
    let ds = c.args.desks.now in
    let es = c.serve_with.new.desks in
    let acted = c.serve_with.new.actors in
    let heard = nothing_told shape cue.closing p q c.serve_with.new.first.told
    (c.if-not-serve_with.ensures.first refl) c.in_default.not-Some
    in
    let stays : is_closing shape cue.turn ≡ false = sym cue.closes ∙ heard.0 in
    record {
      acted = acted;
      told = q;
      learned = acted;
      acts = subst (λ (m : ℕ). Done (WroteAndPinned shape m) xs ds es acted) cue.most_is
          (c.if-not-serve_with.ensures.each refl);
      tells = subst (λ (b : Bool). MatchBool b (Published shape p q) (q ≡ p)) (sym stays) heard.1;
      learns = subst (λ (b : Bool). MatchBool b (AllLearn q acted acted) (acted ≡ acted))
          (sym stays) refl;
      met = c.meet-2.ensures;
      shows = c.stands-2.ensures.shows;
    }
