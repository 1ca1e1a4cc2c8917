-- The frames of its read are over the epoch that is due.
use Rattle.std.proofs.Common.{◌≡◌, ◌∙◌, ◌++◌, ◌+◌, ap, sym, subst, List, ℕ}
use Rattle.std.specs.Prelude.{map}
use Rattle.std.proofs.lemmas.Result.{on_ok_weaker}
use Rattle.tk_shape.specs.declared.shape.Shape.{Shape}
use Rattle.tk_words.specs.Words.{words_of}
use Rattle.tk_frames.specs.Spelling.{read_frame}
use Rattle.tk_client.specs.Asked.{asked}
use Rattle.tk_client.specs.Client.{target_over}
use Rattle.tk_member.specs.Epochs.{filter_of, marks_at}
use Rattle.tk_member.specs.Members.{MemberState}
use Rattle.tk_member.specs.Acting.{behind, epoch_due, packets_from, asks}
use Rattle.tk_member.proofs.ActingLaws.{turned, asks-are}
use Rattle.tk_member.proofs.member.Member.ask.Goals as goal

pub returns-clause-asked : goal.returns-clause-asked
returns-clause-asked g c =
    let b = g.D.Draws.book c.args.draws.now in
    let s = c.self.inside in
    let m : MemberState = record {
      client = s.client;
      written = s.written;
      asked = s.asked;
      ticks = s.ticks;
      ahead = s.ahead;
      told = s.epochs.told;
      replies = s.replies.items;
    } in
    let shape = s.client.shape in
    let front = c.args.sent.now.items in
    let sent = c.push_frames.new.out.items in
    let epoch = c.epoch_due-epoch.result in
    let marks = c.in_ok-filter.filter in
    let frames = c.as_slice.result.now in
    let client = c.read_frames.new.self in
    let target = target_over (words_of shape b) marks epoch s.client in
    let after : MemberState = record m { client = client; asked = s.asked + 1 } in
    let epoch_is : epoch ≡ epoch_due shape s.asked =
    c.epoch_due-epoch.ensures.due
    ∙ sym (ap (λ (x : MemberState). epoch_due x.client.shape x.asked) c.self.view_is)
    in
    let marks_is : marks ≡ filter_of shape (marks_at shape s.epochs.told epoch) =
    c.in_ok-filter.ensures
    ∙ ap (λ (x : Shape). filter_of x (marks_at x s.epochs.told epoch)) c.self.invariant.one_shape
    in
    let read = map read_frame (asked shape b s.asked s.client.number epoch target) in
    let frames_is : frames ≡ read =
    c.as_slice.ensures.value ∙ c.in_ok-read_frames.ensures.frames
    ∙ ap (λ (fs : List (List ℕ)). fs ++ read) c.new-frames.ensures.items
    in
    on_ok_weaker {P = sent ≡ front ++ packets_from 1 frames}
    {Q = behind front (asks b c.args.self.now) ≡ turned after sent} c.push_frames.result
    (λ is. subst (λ (x : MemberState). behind front (asks b x) ≡ turned after sent)
    c.self.view_is
    (asks-are b front sent m epoch marks frames client epoch_is marks_is frames_is
    c.in_ok-read_frames.ensures.opened is))
    c.push_frames.ensures
