-- A client under attack does what the calls of a client do.
use Rattle.std.proofs.Common.{◌≡◌, ℕ, ◌+◌, ◌==◌, Bool, true, cond, List, refl, ap, sym, ◌∙◌}
use Rattle.std.specs.Prelude.{Option, Some, None}
use Rattle.std.proofs.lemmas.Bool.{eq-eqb}
use Rattle.tk_shape.specs.declared.shape.Shape.{Shape}
use Rattle.tk_script.specs.declared.script.Script.{Script}
use Rattle.tk_words.specs.Words.{WordBook, BookWords, words_of}
use Rattle.tk_frames.specs.declared.read_frame.ReadFrame.{ReadFrame}
use Rattle.tk_frames.specs.declared.reply_frame.ReplyFrame.{ReplyFrame}
use Rattle.tk_client.specs.Reader.{Reader, at_epoch, target, after_read}
use Rattle.tk_client.specs.declared.target.Target.{Target}
use Rattle.tk_client.specs.Asked.{asked, frame_for}
use Rattle.tk_client.specs.Replies.{frames_in, answer_in}
use Rattle.tk_client.specs.declared.open_read.OpenRead.{OpenRead}
use Rattle.tk_client.specs.Client.{ClientState, reader_after, after_replies, target_over}
use Rattle.tk_hostile.specs.Attack.{Adversary, Acting, Attacked, Ask, heard, unattacked, ask_of, after_ask}
use Rattle.tk_hostile.specs.Acting.{reader_open, target_open, IsActing, AreChosen, NewIsActing, ActsAsClient}

pub new_is_acting : NewIsActing
unfolding unattacked
new_is_acting S b adversary c writes =
    record { shape = refl; number = refl; reader = refl; target = refl }

-- the reader after replies, whether a read is open or none
reader-heard : (shape : Shape) (w : BookWords) (replies : List (List ℕ)) (reader : Reader)
    (read : Option OpenRead) →
    reader_after shape w replies reader read
    ≡ after_read shape (reader_open reader read) (target_open read)
    (answer_in shape w (frames_in shape replies) (target_open read))
unfolding after_read
reader-heard shape w replies reader None = refl
reader-heard shape w replies reader (Some read) = refl

module _ (S : Script) (b : WordBook) (h : ℕ) (adversary : Adversary) (c : ℕ) (run : Attacked)
    (client : ClientState) (replies : List (List ℕ)) (marks : List Bool)
    (is : IsActing S c (run.clients c) client)
    (told : AreChosen S (words_of S.shape b) adversary c run replies marks) where
  hears : (after_replies (words_of S.shape b) replies client).reader
      ≡ heard S (words_of S.shape b) (adversary.sums run.seen run.hidden) (run.clients c)
  hears =
      let after : Shape → List ReplyFrame → Reader → Option Target → Reader =
      λ shape frames reader t. after_read shape reader t
      (answer_in shape (words_of S.shape b) frames t)
      in
      let was = run.clients c in
      reader-heard client.shape (words_of S.shape b) replies client.reader client.read
      ∙ (λ i. after (is.shape i) (frames_in (is.shape i) replies) (is.reader i) (is.target i))
      ∙ ap (λ (frames : List ReplyFrame). after S.shape frames was.reader was.target) told.chosen

  aims : target_over (words_of S.shape b) marks (adversary.epoch run.seen)
      (after_replies (words_of S.shape b) replies client)
      ≡ (ask_of S (words_of S.shape b) adversary c run).target
  unfolding ask_of
  aims =
      let w = words_of S.shape b in
      λ i. target (is.shape i) (λ log s. told.shows log s i)
      (at_epoch (adversary.epoch run.seen) (hears i))

pub acts_as_client : ActsAsClient
unfolding ask_of after_ask
acts_as_client S b h adversary c run client replies marks is told =
    let w = words_of S.shape b in
    let was = run.clients c in
    let ask : Ask = ask_of S w adversary c run in
    let frame : ℕ → ReadFrame = frame_for S.shape b was.asked c ask.epoch ask.pair in
    let next : Acting = record {
      written = was.written;
      asked = was.asked + 1;
      reader = ask.reader;
      target = ask.target;
      hidden = frame h;
    } in
    let this : (c == c) ≡ true = eq-eqb c c refl in
    let hear = hears S b h adversary c run client replies marks is told in
    let aim = aims S b h adversary c run client replies marks is told in
    record {
      frames = ap (λ (t : Option Target). asked S.shape b was.asked c ask.epoch t) aim;
      next = record {
        shape = is.shape;
        number = is.number;
        reader = ap (at_epoch ask.epoch) hear
            ∙ sym (ap (λ (t : Bool). (cond t next was).reader) this);
        target = aim ∙ sym (ap (λ (t : Bool). (cond t next was).target) this);
      };
    }
