-- What a member knows and does but for the frames that it sends follows from its words alone, and from what comes.
use Rattle.tk_meeting.proofs.Terms.{◌≡◌, ℕ, List, [], ◌+◌, ◌==◌, cond, ◌-◌, Bool, true, false, Option, Some, None}
use Rattle.tk_meeting.proofs.Terms.{Result, Ok, ◌∙◌, refl, ap, sym, subst, slice_index_or, Err, is_none, is_some}
use Rattle.tk_meeting.proofs.Terms.{nat_lt, slice_index, ◌||◌, Shape, WordBook, words_of, BookWords, target_over}
use Rattle.tk_meeting.proofs.Terms.{refusal_in, fault_of, with_text, SayError, TakeError, ActedMember, acts, may_ask, asks}
use Rattle.tk_meeting.proofs.Terms.{asks_if_due, unmoved, epoch_due, goes_ahead, goes_by_ticks, filter_of, marks_at}
use Rattle.tk_meeting.proofs.Terms.{ToldMarks, with_epoch, MemberState, tells_and_acts, served, heard, settled}
use Rattle.tk_meeting.proofs.Terms.{counted_up, said, all_of, after_settling, settled_by, with_reply, replied}
use Rattle.tk_meeting.proofs.Terms.{told_epoch, Fault, Peer, Older, HostWord, Say, Tick, Ahead, Has, is_server, Deed}
use Rattle.tk_meeting.proofs.Terms.{Ticks, Claims, Sends, Answers, Says, GoesAhead}
use Rattle.tk_client.specs.Client.{opened}
use Rattle.tk_meeting.proofs.lying.Cores.{left, does_with}
use Rattle.tk_meeting.proofs.lying.Reads.{writes-keep}

module _ (a b : WordBook) where
  asks-same : (m : MemberState) → words_of m.client.shape a ≡ words_of m.client.shape b →
      (asks_if_due a m).member ≡ (asks_if_due b m).member
  asks-same m words = either (may_ask m)
    where
      either : (t : Bool) → (cond t (asks a m) (unmoved m)).member ≡ (cond t (asks b m) (unmoved m)).member
      either true =
          let shape = m.client.shape in
          let epoch = epoch_due shape m.asked in
          let marks = filter_of shape (marks_at shape m.told epoch) in
          ap (λ (w : BookWords).
          record m { client = opened m.asked epoch (target_over w marks epoch m.client) m.client; asked = m.asked + 1 })
          words
      either false = refl

  acts-same : (m : MemberState) → words_of m.client.shape a ≡ words_of m.client.shape b →
      (acts a m).member ≡ (acts b m).member
  unfolding acts
  acts-same m words =
      let w = words_of m.client.shape b in
      let second : MemberState = (goes_by_ticks w (goes_ahead w m).member).member in
      ap (λ (w : BookWords). (asks_if_due a (goes_by_ticks w (goes_ahead w m).member).member).member) words
      ∙ asks-same second
      (subst (λ (k : Shape). words_of k a ≡ words_of k b) (sym (writes-keep w m).shape_is) words)

  unless-left : (t : Bool) (fault : Fault) (r s : Result ActedMember Fault) → left r ≡ left s →
      left (cond t (Err fault) r) ≡ left (cond t (Err fault) s)
  unless-left true fault r s same = refl
  unless-left false fault r s same = same

  said-same : (m : MemberState) (log : ℕ) (text : List ℕ) (o : Option SayError) →
      words_of m.client.shape a ≡ words_of m.client.shape b → left (said a m log text o) ≡ left (said b m log text o)
  said-same m log text (Some error) words = ap Ok (acts-same m words)
  said-same m log text None words =
      ap Ok
      (acts-same (record m { client = record m.client { writing = with_text log text m.client.writing } }) words)

  heard-same : (m : MemberState) (o : Option HostWord) → words_of m.client.shape a ≡ words_of m.client.shape b →
      left (heard a m o) ≡ left (heard b m o)
  heard-same m None words = refl
  heard-same m (Some (Say log text)) words =
      said-same m log text (fault_of m.client.shape m.client.writing.logs log text) words
  heard-same m (Some Tick) words = ap Ok (acts-same (record m { ticks = counted_up m (m.ticks + 1) }) words)
  heard-same m (Some (Ahead turns)) words = ap Ok (acts-same (record m { ahead = counted_up m (m.ahead + turns) }) words)
  heard-same m (Some (Has packets)) words =
      unless-left (nat_lt (m.written + m.asked) packets) Older (tells_and_acts a [] m) (tells_and_acts b [] m)
      (ap Ok (acts-same m words))

  settled-same : (m : MemberState) (replies : List (List ℕ)) (o : Option TakeError) →
      words_of m.client.shape a ≡ words_of m.client.shape b → left (settled a m replies o) ≡ left (settled b m replies o)
  settled-same m replies (Some error) words = refl
  settled-same m replies None words =
      ap Ok
      (ap (λ (w : BookWords). (acts a (after_settling w replies m)).member) words
      ∙ acts-same (after_settling (words_of m.client.shape b) replies m) words)

  settled_by-same : (m : MemberState) (o : Option (List (List ℕ))) →
      words_of m.client.shape a ≡ words_of m.client.shape b → left (settled_by a m o) ≡ left (settled_by b m o)
  settled_by-same m None words = ap Ok (acts-same m words)
  settled_by-same m (Some replies) words = settled-same m replies (refusal_in replies m.client) words

  replied-same : (m : MemberState) (j : ℕ) (reply : List ℕ) →
      words_of m.client.shape a ≡ words_of m.client.shape b → left (replied a m j reply) ≡ left (replied b m j reply)
  replied-same m j reply words =
      let now : MemberState = with_reply m j reply in
      unless-left (is_none m.client.read || is_some (slice_index_or m.replies (j - 1) None)) Peer
      (settled_by a now (all_of now.replies)) (settled_by b now (all_of now.replies))
      (settled_by-same now (all_of now.replies) words)

  told-same : (m : MemberState) (r : Result (List ToldMarks) Fault) →
      words_of m.client.shape a ≡ words_of m.client.shape b → left (told_epoch a m r) ≡ left (told_epoch b m r)
  told-same m (Err fault) words = refl
  told-same m (Ok told) words = ap Ok (acts-same (record m { told = told }) words)

  served-same : (m : MemberState) (j : ℕ) (frame : List ℕ) →
      words_of m.client.shape a ≡ words_of m.client.shape b → left (served a m j frame) ≡ left (served b m j frame)
  served-same m j frame words =
      either (slice_index frame 0 == 3) (replied a m j frame) (replied b m j frame) _ _ (replied-same m j frame words)
      (either (slice_index frame 0 == 0x0b) (told_epoch a m (with_epoch m.client.shape m.told j frame))
      (told_epoch b m (with_epoch m.client.shape m.told j frame)) _ _
      (told-same m (with_epoch m.client.shape m.told j frame) words) refl)
    where
      either : (t : Bool) (r s r' s' : Result ActedMember Fault) → left r ≡ left s → left r' ≡ left s' →
          left (cond t r r') ≡ left (cond t s s')
      either true r s r' s' one two = one
      either false r s r' s' one two = two

pub does-same : (a b : WordBook) (j : ℕ) (answer : List ℕ) (m : MemberState) (d : Deed) →
    words_of m.client.shape a ≡ words_of m.client.shape b →
    left (does_with j answer a m d) ≡ left (does_with j answer b m d)
does-same a b j answer m (Says c log text) words = heard-same a b m (Some (Say log text)) words
does-same a b j answer m (Ticks c) words = heard-same a b m (Some Tick) words
does-same a b j answer m (GoesAhead c turns) words = heard-same a b m (Some (Ahead turns)) words
does-same a b j answer m (Claims c count) words = heard-same a b m (Some (Has count)) words
does-same a b j answer m (Sends c i frame) words =
    either (is_server m.client.shape i)
  where
    either : (t : Bool) →
        left (cond t (served a m i frame) (Err Peer)) ≡ left (cond t (served b m i frame) (Err Peer))
    either true = served-same a b m i frame words
    either false = refl
does-same a b j answer m (Answers c table) words = served-same a b m j answer words
