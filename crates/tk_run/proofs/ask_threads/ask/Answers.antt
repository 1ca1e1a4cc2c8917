-- What a client asks of the set that it pinned.
use Rattle.std.proofs.Common.{◌≡◌, ◌+◌, ◌++◌, refl, ap, sym, ◌∙◌, subst, ℕ, List, map}
use Rattle.std.specs.Arc.{arc_value}
use Rattle.tk_schedule.specs.Schedule.{epoch_at}
use Rattle.tk_words.specs.Words.{words_of}
use Rattle.tk_frames.specs.Order.{Record, before}
use Rattle.tk_frames.specs.Spelling.{read_frame}
use Rattle.tk_bloom.specs.Filters.{all_marked}
use Rattle.tk_report.specs.Report.{read_over}
use Rattle.tk_table.specs.Shown.{is_shown}
use Rattle.tk_client.specs.Asked.{asked, shown_by}
use Rattle.tk_client.specs.Client.{ClientState, target_over}
use Rattle.tk_cluster.specs.declared.set.EpochSet.{EpochSet}
use Rattle.tk_cluster.specs.Sets.{StandsAtMark}
use Rattle.tk_run.specs.Rows.{Frame}
use Rattle.tk_run.specs.Turns.{placed_before}
use Rattle.tk_report.proofs.Offers.{all-made}
use Rattle.tk_run.proofs.AskingLaws.{client-asked, frames-are}
use Rattle.tk_run.proofs.ask_threads.ask.Goals as goal

pub returns : goal.returns
returns g c =
    let book = g.D.Draws.book c.args.draws.now in
    let client = c.args.client.now in
    let talk = c.args.talk.now in
    let shape = client.shape in
    let n = client.number in
    let set = arc_value talk.set in
    let epoch = c.number-epoch.result in
    let marks = c.filter.result.now in
    let target = target_over (words_of shape book) marks epoch client in
    let same : c.as_ref-set.result.now ≡ set = c.as_ref-set.ensures in
    let number : epoch ≡ set.number =
    c.number-epoch.ensures ∙ ap (λ (s : EpochSet). s.number) same
    in
    let opened = c.in_ok-read_frames.ensures.opened in
    let frames : c.read_frames.new.out.items
    ≡ map read_frame (asked shape book talk.turn n epoch target) =
    c.in_ok-read_frames.ensures.frames
    ∙ ap (λ (xs : List Frame). xs ++ map read_frame (asked shape book talk.turn n epoch target))
    c.requires.fits.none_asked
    in
    record {
      number = ap (λ (s : ClientState). s.number) opened;
      turn = refl;
      set = refl;
      unreplied = refl;
      due = λ S H V may.
          let words = words_of S.shape book in
          let E = placed_before S words H (talk.turn + 1) in
          let here : StandsAtMark S.shape E c.as_ref-set.result.now.number c.as_ref-set.result.now =
          subst (λ (s : EpochSet). StandsAtMark S.shape E s.number s) (sym same)
          (subst (λ e. StandsAtMark S.shape E e set) (sym may.stands.number) may.stands)
          in
          let due : epoch ≡ epoch_at H talk.turn n = number ∙ may.stands.number in
          let over : (hits : List ℕ) → all_marked marks hits
          ≡ is_shown S.shape (read_over S words H talk.turn n) hits =
          λ hits. c.filter.ensures.shows S.shape E here hits
          ∙ ap (λ (R : List Record). is_shown S.shape R hits)
          (ap (before E) (ap (λ (s : EpochSet). s.number) same ∙ may.stands.number)
          ∙ all-made S book H talk.turn may.legal may.turn_in n may.client_in)
          in
          let shows : shown_by marks words ≡ V.shows talk.turn n =
          (λ i log s. over (words.hits log s) i) ∙ sym may.told
          in
          record {
            client =
                client-asked S book H V talk.turn n epoch marks client may.wrote due shows
                c.read_frames.new.self opened;
            asked = frames ∙ frames-are S book H V talk.turn n epoch marks client may.wrote due shows;
          };
    }
