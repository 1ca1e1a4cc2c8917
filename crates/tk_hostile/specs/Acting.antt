-- A client under attack, and a client as its calls leave it.
use Rattle.std.specs.Prelude.{◌≡◌, ℕ, Bool, List, map, Option, Some, None}
use Rattle.std.specs.List.{range_with_len}
use Rattle.tk_script.specs.declared.script.Script.{Script}
use Rattle.tk_words.specs.Words.{WordBook, BookWords, words_of}
use Rattle.tk_bloom.specs.Filters.{all_marked}
use Rattle.tk_client.specs.Reader.{Reader, at_epoch}
use Rattle.tk_client.specs.declared.target.Target.{Target}
use Rattle.tk_client.specs.Asked.{asked, frame_for}
use Rattle.tk_client.specs.Replies.{frames_in}
use Rattle.tk_client.specs.declared.open_read.OpenRead.{OpenRead}
use Rattle.tk_client.specs.Client.{ClientState, new_client, target_over, opened, after_replies}
use Rattle.tk_report.specs.Report.{follows_of}
use Rattle.tk_hostile.specs.Choice.{reply_with}
use Rattle.tk_hostile.specs.Attack.{Adversary, Acting, Attacked, unattacked, ask_of, after_ask}

-- what a client knew when it asked for the read that is open, and what that read is for
abbrev pub reader_open : Reader → Option OpenRead → Reader
reader_open reader None = reader
reader_open reader (Some read) = at_epoch read.epoch reader

abbrev pub target_open : Option OpenRead → Option Target
target_open None = None
target_open (Some read) = read.target

-- client c of a script that is so under attack
pub record IsActing (S : Script) (c : ℕ) (is : Acting) (client : ClientState) : Type 0 where
  pub shape : client.shape ≡ S.shape
  pub number : client.number ≡ c
  pub reader : reader_open client.reader client.read ≡ is.reader
  pub target : target_open client.read ≡ is.target

-- so it is before its first turn
abbrev pub NewIsActing : Type 0
NewIsActing =
    (S : Script) (b : WordBook) (adversary : Adversary) (c : ℕ) (writes : List ℕ) →
    IsActing S c ((unattacked S (words_of S.shape b) adversary).clients c)
    (new_client S.shape c writes (follows_of S c))

-- bytes that are replies with the sums that the adversary chooses, and a filter that shows of each
-- number's positions what it chooses
pub record AreChosen (S : Script) (w : BookWords) (adversary : Adversary) (c : ℕ) (run : Attacked)
    (replies : List (List ℕ)) (marks : List Bool) : Type 0 where
  pub chosen : let r = (run.clients c).hidden in
      frames_in S.shape replies
      ≡ map (λ j. reply_with r (adversary.sums run.seen run.hidden r j))
      (range_with_len 1 S.shape.servers)
  pub shows : (log s : ℕ) → all_marked marks (w.hits log s) ≡ adversary.shows run.seen (w.hits log s)

-- A client that takes these replies and asks over the epoch that it is told sends the frames that are
-- seen under attack, and then is as it is under attack.
pub record AsksAlike (S : Script) (b : WordBook) (h : ℕ) (adversary : Adversary) (c : ℕ)
    (run : Attacked) (client : ClientState) (replies : List (List ℕ)) (marks : List Bool) : Type 0
  where
    pub frames : let w = words_of S.shape b in
        let ask = ask_of S w adversary c run in
        let g = (run.clients c).asked in
        asked S.shape b g c ask.epoch
        (target_over w marks ask.epoch (after_replies w replies client))
        ≡ map (frame_for S.shape b g c ask.epoch ask.pair) (range_with_len 1 S.shape.servers)
    pub next : let w = words_of S.shape b in
        let ask = ask_of S w adversary c run in
        let g = (run.clients c).asked in
        let heard = after_replies w replies client in
        IsActing S c
        ((after_ask S.shape h c ask (frame_for S.shape b g c ask.epoch ask.pair) run).clients c)
        (opened g ask.epoch (target_over w marks ask.epoch heard) heard)

abbrev pub ActsAsClient : Type 0
ActsAsClient =
    (S : Script) (b : WordBook) (h : ℕ) (adversary : Adversary) (c : ℕ) (run : Attacked)
    (client : ClientState) (replies : List (List ℕ)) (marks : List Bool) →
    IsActing S c (run.clients c) client →
    AreChosen S (words_of S.shape b) adversary c run replies marks →
    AsksAlike S b h adversary c run client replies marks
