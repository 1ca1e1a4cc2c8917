-- What a member does with what comes to it is the same by its own book.
use Rattle.tk_meeting.proofs.Terms.{◌≡◌, ℕ, List, [], ◌∷◌, ◌+◌, ◌==◌, cond, ◌-◌, Bool, true, false, Option, Some, None}
use Rattle.tk_meeting.proofs.Terms.{Result, Ok, ◌∙◌, refl, ap, sym, subst, ap₂, slice_index_or, Err, none-some}
use Rattle.tk_meeting.proofs.Terms.{AllByRecursion, is_none, is_some, nat_lt, slice_index, ◌||◌, Shape, WordBook}
use Rattle.tk_meeting.proofs.Terms.{words_of, BookWords, text_from, ReplyFrame, Script, refusal_in, reader_after}
use Rattle.tk_meeting.proofs.Terms.{ClientState, after_replies, Reader, at_epoch, after_read, answer_in, frames_in}
use Rattle.tk_meeting.proofs.Terms.{first_joined, second_joined, fault_of, text_fault, is_written, with_text, OpenRead}
use Rattle.tk_meeting.proofs.Terms.{SayError, NotWriter, TakeError, Target, Written, PacketView, ActedMember, behind}
use Rattle.tk_meeting.proofs.Terms.{ToldMarks, with_epoch, MemberState, no_replies, news, refused_packet, tells_and_acts}
use Rattle.tk_meeting.proofs.Terms.{served, heard, settled, counted_up, said, all_of, after_settling, settled_by}
use Rattle.tk_meeting.proofs.Terms.{with_reply, replied, told_epoch, told_after, Fault, Peer, Older, Refused, HostWord}
use Rattle.tk_meeting.proofs.Terms.{Say, Tick, Ahead, Has, AgreesForClient}
use Rattle.tk_meeting.proofs.own.Words.{IsUsed, pair-same, opened-same}
use Rattle.tk_meeting.proofs.own.Reading.{Follows, IsFoundOrNone, epoch-follows, read-follows}
use Rattle.tk_meeting.proofs.own.Clients.{text-own, written-used, IsOwn, OpensOwn}
use Rattle.tk_meeting.proofs.own.Acts.{acts-same, acts-own}

-- the client of a member that goes on uses its own logs alone
abbrev pub GoesOn : Script → ℕ → Result ActedMember Fault → Type 0
GoesOn S c (Ok t) = IsOwn S c t.member.client
GoesOn S c (Err fault) = Unit {0}

-- by either book the same comes of a step, and the client stays one of its own logs
pub record StepsAlike (S : Script) (c : ℕ) (mine group : Result ActedMember Fault) : Type 0 where
  pub same : mine ≡ group
  pub goes_on : GoesOn S c group

module _ (S : Script) (b own : WordBook) (c : ℕ) (keys : AgreesForClient S b c own) where
  both-act : (told : List PacketView) (m : MemberState) → IsOwn S c m.client →
      StepsAlike S c (tells_and_acts own told m) (tells_and_acts b told m)
  both-act told m is =
      record {
        same = ap (λ (t : ActedMember). Ok (behind told t)) (acts-same S b own c keys m is);
        goes_on = acts-own S b own c keys m is;
      }

  both-end : (fault : Fault) → StepsAlike S c (Err fault) (Err fault)
  both-end fault = record { same = refl; goes_on = tt }

  -- ---- what its host tells it

  says-used : (shape : Shape) (logs : List Written) (log : ℕ) (text : List ℕ) →
      AllByRecursion (λ (f : Written). IsUsed S c f.log) logs →
      fault_of shape logs log text ≡ None → IsUsed S c log
  says-used shape logs log text all none = by (is_written log logs) refl none
    where
      by : (is : Bool) → is_written log logs ≡ is →
          cond is (text_fault shape text) (Some (NotWriter log)) ≡ None → IsUsed S c log
      by true is none = written-used S c log logs all is
      by false is none = absurd (none-some (NotWriter log) (sym none))

  text-said : (m : MemberState) (log : ℕ) (text : List ℕ) → IsOwn S c m.client → IsUsed S c log →
      IsOwn S c (record m.client { writing = with_text log text m.client.writing })
  text-said m log text is used =
      record {
        shape_is = is.shape_is;
        number_is = is.number_is;
        writes = text-own S c log text m.client.writing is.writes used;
        follows = is.follows;
        opens = is.opens;
      }

  said-alike : (m : MemberState) (log : ℕ) (text : List ℕ) → IsOwn S c m.client →
      (o : Option SayError) → (o ≡ None → IsUsed S c log) →
      StepsAlike S c (said own m log text o) (said b m log text o)
  said-alike m log text is None used =
      both-act []
      (record m { client = record m.client { writing = with_text log text m.client.writing } })
      (text-said m log text is (used refl))
  said-alike m log text is (Some error) used = both-act (refused_packet log error ∷ []) m is

  pub heard-alike : (m : MemberState) (word : Option HostWord) → IsOwn S c m.client →
      StepsAlike S c (heard own m word) (heard b m word)
  heard-alike m None is = both-end Peer
  heard-alike m (Some (Say log text)) is =
      said-alike m log text is (fault_of m.client.shape m.client.writing.logs log text)
      (says-used m.client.shape m.client.writing.logs log text is.writes.logs)
  heard-alike m (Some Tick) is = both-act [] (record m { ticks = counted_up m (m.ticks + 1) }) is
  heard-alike m (Some (Ahead turns)) is = both-act [] (record m { ahead = counted_up m (m.ahead + turns) }) is
  heard-alike m (Some (Has packets)) is = by (nat_lt (m.written + m.asked) packets)
    where
      by : (more : Bool) →
          StepsAlike S c (cond more (Err Older) (tells_and_acts own [] m))
          (cond more (Err Older) (tells_and_acts b [] m))
      by true = both-end Older
      by false = both-act [] m is

  -- ---- what servers send it

  answer-same : (frames : List ReplyFrame) (r : Reader) (t : Option Target) → IsFoundOrNone (IsUsed S c) r t →
      answer_in S.shape (words_of S.shape own) frames t ≡ answer_in S.shape (words_of S.shape b) frames t
  answer-same frames r None found = refl
  answer-same frames r (Some t) found =
      ap₂
      (λ (pair : ℕ × ℕ) (opens : List ℕ → Option (List ℕ)). text_from S.shape pair opens
      (first_joined S.shape frames) (second_joined S.shape frames))
      (pair-same S b own c keys t.log t.number found.of) (opened-same S b own c keys t.log t.number found.of)

  reader-same : (replies : List (List ℕ)) (r : Reader) (o : Option OpenRead) → OpensOwn S c r o →
      reader_after S.shape (words_of S.shape own) replies r o ≡ reader_after S.shape (words_of S.shape b) replies r o
  reader-same replies r None opens = refl
  reader-same replies r (Some o) opens =
      ap (λ (answer : Option (List ℕ)). after_read S.shape (at_epoch o.epoch r) o.target answer)
      (answer-same (frames_in S.shape replies) (at_epoch o.epoch r) o.target opens)

  replies-same : (replies : List (List ℕ)) (k : ClientState) → IsOwn S c k →
      after_replies (words_of k.shape own) replies k ≡ after_replies (words_of k.shape b) replies k
  replies-same replies k is =
      ap (λ (r : Reader). (let after : ClientState = record k { reader = r; read = None } in after))
      (subst
      (λ (s : Shape). reader_after s (words_of s own) replies k.reader k.read
      ≡ reader_after s (words_of s b) replies k.reader k.read)
      (sym is.shape_is) (reader-same replies k.reader k.read is.opens))

  reader-own : (shape : Shape) (w : BookWords) (replies : List (List ℕ)) (r : Reader) (o : Option OpenRead) →
      Follows (IsUsed S c) r → OpensOwn S c r o → Follows (IsUsed S c) (reader_after shape w replies r o)
  reader-own shape w replies r None all opens = all
  reader-own shape w replies r (Some o) all opens =
      read-follows (IsUsed S c) shape (at_epoch o.epoch r) o.target
      (answer_in shape w (frames_in shape replies) o.target) (epoch-follows (IsUsed S c) o.epoch r all) opens

  replies-own : (w : BookWords) (replies : List (List ℕ)) (k : ClientState) → IsOwn S c k →
      IsOwn S c (after_replies w replies k)
  replies-own w replies k is =
      record {
        shape_is = is.shape_is;
        number_is = is.number_is;
        writes = is.writes;
        follows = reader-own k.shape w replies k.reader k.read is.follows is.opens;
        opens = tt;
      }

  settles-alike : (m : MemberState) (replies : List (List ℕ)) → IsOwn S c m.client → (o : Option TakeError) →
      StepsAlike S c (settled own m replies o) (settled b m replies o)
  settles-alike m replies is (Some error) = both-end Refused
  settles-alike m replies is None =
      let v = words_of m.client.shape own in
      let w = words_of m.client.shape b in
      let now : MemberState = after_settling w replies m in
      let acting = both-act (told_after w replies m) now (replies-own w replies m.client is) in
      record {
        same =
            ap
            (λ (k : ClientState). tells_and_acts own (news m.client.shape m.client.reader k.reader)
            (record m { client = k; replies = no_replies m.client.shape }))
            (replies-same replies m.client is)
            ∙ acting.same;
        goes_on = acting.goes_on;
      }

  settled-alike : (m : MemberState) → IsOwn S c m.client → (o : Option (List (List ℕ))) →
      StepsAlike S c (settled_by own m o) (settled_by b m o)
  settled-alike m is None = both-act [] m is
  settled-alike m is (Some replies) = settles-alike m replies is (refusal_in replies m.client)

  replied-alike : (m : MemberState) (j : ℕ) (reply : List ℕ) → IsOwn S c m.client →
      StepsAlike S c (replied own m j reply) (replied b m j reply)
  replied-alike m j reply is =
      by (is_none m.client.read || is_some (slice_index_or m.replies (j - 1) None))
    where
      by : (refused : Bool) →
          StepsAlike S c
          (cond refused (Err Peer) (settled_by own (with_reply m j reply) (all_of (with_reply m j reply).replies)))
          (cond refused (Err Peer) (settled_by b (with_reply m j reply) (all_of (with_reply m j reply).replies)))
      by true = both-end Peer
      by false = settled-alike (with_reply m j reply) is (all_of (with_reply m j reply).replies)

  epoch-alike : (m : MemberState) → IsOwn S c m.client → (told : Result (List ToldMarks) Fault) →
      StepsAlike S c (told_epoch own m told) (told_epoch b m told)
  epoch-alike m is (Err fault) = both-end fault
  epoch-alike m is (Ok told) = both-act [] (record m { told = told }) is

  pub served-alike : (m : MemberState) (j : ℕ) (frame : List ℕ) → IsOwn S c m.client →
      StepsAlike S c (served own m j frame) (served b m j frame)
  served-alike m j frame is =
      by (slice_index frame 0 == 3) (slice_index frame 0 == 0x0b) (slice_index frame 0 == 0x0c)
    where
      by : (reply epoch refused : Bool) →
          StepsAlike S c
          (cond reply (replied own m j frame)
          (cond epoch (told_epoch own m (with_epoch m.client.shape m.told j frame))
          (cond refused (Err Refused) (Err Peer))))
          (cond reply (replied b m j frame)
          (cond epoch (told_epoch b m (with_epoch m.client.shape m.told j frame))
          (cond refused (Err Refused) (Err Peer))))
      by true epoch refused = replied-alike m j frame is
      by false true refused = epoch-alike m is (with_epoch m.client.shape m.told j frame)
      by false false true = both-end Refused
      by false false false = both-end Peer
