-- How a member stands before it acts follows from how it stood, and from what shows of what came.
use Rattle.tk_meeting.proofs.Terms.{◌≡◌, ℕ, min, List, [], ◌∷◌, map, ◌+◌, ◌==◌, cond, ◌-◌, ◌*◌, Bool, true, false}
use Rattle.tk_meeting.proofs.Terms.{replicate, Option, Some, None, Result, Ok, ◌∙◌, refl, ap, sym, zero, suc, arith}
use Rattle.tk_meeting.proofs.Terms.{subst, ◌⊎◌, inl, inr, slice_index_or, slice_set, Err, is_none, is_some, nat_lt}
use Rattle.tk_meeting.proofs.Terms.{◌&&◌, nat_le, option_map, slice_index, ◌||◌, turn_count, Shape, WordBook, words_of}
use Rattle.tk_meeting.proofs.Terms.{BookWords, phases_over, refusal_in, fault_of, Writing, with_text, OpenRead}
use Rattle.tk_meeting.proofs.Terms.{SayError, TakeError, PacketView, ActedMember, acts, wrote, may_ask, asks, asks_if_due}
use Rattle.tk_meeting.proofs.Terms.{unmoved, goes_ahead, goes_by_ticks, ahead_due, ticks_due, after_turn, known}
use Rattle.tk_meeting.proofs.Terms.{ToldMarks, with_epoch, MemberState, refused_packet, tells_and_acts, served, step}
use Rattle.tk_meeting.proofs.Terms.{heard, settled, counted_up, said, all_of, after_settling, settled_by, with_reply}
use Rattle.tk_meeting.proofs.Terms.{replied, told_epoch, told_after, word_in, Fault, Peer, Older, Refused, HostWord}
use Rattle.tk_meeting.proofs.Terms.{Say, Tick, Ahead, Has, stand, Stand, Face, face, read_shown, Sent, Replied}
use Rattle.tk_meeting.proofs.Terms.{frame_shown, word_shown, outcome, Came, packet_shown, OfHost}
use Rattle.tk_meeting.specs.Shown.{Told, OfServer}
use Rattle.tk_meeting.proofs.members.Packets.{AreToHost}
use Rattle.tk_meeting.proofs.members.Told.{news-tell, tell-to_host}
use Rattle.tk_meeting.proofs.shown.Faces.{all-mapped, there-mapped, set-mapped, refused_by, refusal-shown}

-- ---- acting

abbrev pub gone_ahead : Stand → Stand
gone_ahead s =
    let n = min s.ahead (turn_count s.shape - s.written) in
    record s { ahead = s.ahead - n; written = s.written + n }

abbrev pub gone_by_ticks : Stand → Stand
gone_by_ticks s =
    let turns = min (turn_count s.shape) ((known s.shape s.told + 1) * s.shape.ticks) in
    let n = min s.ticks (turns - s.written) in
    record s { ticks = s.ticks - n; written = s.written + n }

abbrev pub asks_due : Stand → Bool
asks_due s =
    nat_lt s.asked s.written && is_none s.read && nat_le (phases_over s.shape s.asked) (known s.shape s.told)

abbrev pub has_asked : Stand → Stand
has_asked s = record s { read = Some (s.asked, phases_over s.shape s.asked); asked = s.asked + 1 }

abbrev pub asked_if_due : Stand → Stand
asked_if_due s = cond (asks_due s) (has_asked s) s

abbrev pub acted : Stand → Stand
acted s = asked_if_due (gone_by_ticks (gone_ahead s))

wrote-stands : (w : BookWords) (n : ℕ) (m : MemberState) →
    stand (wrote w n m).member ≡ record (stand m) { written = m.written + n }
unfolding wrote
wrote-stands w zero m =
    let same : m.written ≡ m.written + 0 = omega arith in
    ap (λ (k : ℕ). record (stand m) { written = k }) same
wrote-stands w (suc n) m =
    let more : m.written + 1 + n ≡ m.written + suc n = omega arith in
    wrote-stands w n (after_turn m) ∙ ap (λ (k : ℕ). record (stand m) { written = k }) more

pub none-shown : (read : Option OpenRead) → is_none (read_shown read) ≡ is_none read
none-shown None = refl
none-shown (Some read) = refl

asks-stands : (b : WordBook) (m : MemberState) → stand (asks_if_due b m).member ≡ asked_if_due (stand m)
asks-stands b m =
    either (may_ask m)
    ∙ ap (λ (t : Bool). cond (nat_lt m.asked m.written && t
    && nat_le (phases_over m.client.shape m.asked) (known m.client.shape m.told)) (has_asked (stand m)) (stand m))
    (sym (none-shown m.client.read))
  where
    either : (t : Bool) → stand (cond t (asks b m) (unmoved m)).member ≡ cond t (has_asked (stand m)) (stand m)
    either true = refl
    either false = refl

pub acts-stands : (b : WordBook) (m : MemberState) → stand (acts b m).member ≡ acted (stand m)
unfolding acts
acts-stands b m =
    let w = words_of m.client.shape b in
    let first : MemberState = (goes_ahead w m).member in
    let second : MemberState = (goes_by_ticks w first).member in
    let one : stand first ≡ gone_ahead (stand m) =
    wrote-stands w (ahead_due m) (record m { ahead = m.ahead - ahead_due m })
    in
    let two : stand second ≡ gone_by_ticks (stand first) =
    wrote-stands w (ticks_due first) (record first { ticks = first.ticks - ticks_due first })
    in
    asks-stands b second ∙ ap asked_if_due (two ∙ ap gone_by_ticks one)

-- ---- how many writes are due

abbrev pub ahead_of : Stand → ℕ
ahead_of s = min s.ahead (turn_count s.shape - s.written)

abbrev pub ticks_of : Stand → ℕ
ticks_of s =
    min s.ticks
    (min (turn_count s.shape) ((known s.shape s.told + 1) * s.shape.ticks) - (s.written + ahead_of s))

acted-written : (s : Stand) → (acted s).written ≡ s.written + ahead_of s + ticks_of s
acted-written s = either (asks_due (gone_by_ticks (gone_ahead s)))
  where
    either : (t : Bool) →
        (cond t (has_asked (gone_by_ticks (gone_ahead s))) (gone_by_ticks (gone_ahead s))).written
        ≡ s.written + ahead_of s + ticks_of s
    either true = refl
    either false = refl

-- so many turns it wrote when it has acted
abbrev pub written_then : MemberState → ℕ
written_then m = m.written + ahead_of (stand m) + ticks_of (stand m)

pub acts-written : (b : WordBook) (m : MemberState) → (acts b m).member.written ≡ written_then m
acts-written b m = ap (λ (s : Stand). s.written) (acts-stands b m) ∙ acted-written (stand m)

-- what becomes of it once it has acted
abbrev pub acting : Result Stand Fault → Result Stand Fault
acting (Ok s) = Ok (acted s)
acting (Err fault) = Err fault

-- ---- how it stands before it acts

unfoldable pub heard_so : Stand → Option HostWord → Result Stand Fault
heard_so s None = Err Peer
heard_so s (Some (Say log text)) = Ok s
heard_so s (Some Tick) = Ok (record s { ticks = min (s.ticks + 1) (turn_count s.shape) })
heard_so s (Some (Ahead turns)) = Ok (record s { ahead = min (s.ahead + turns) (turn_count s.shape) })
heard_so s (Some (Has packets)) = cond (nat_lt (s.written + s.asked) packets) (Err Older) (Ok s)

unfoldable pub settled_so : Stand → Option TakeError → Result Stand Fault
settled_so s (Some error) = Err Refused
settled_so s None = Ok (record s { read = None; replies = replicate s.shape.servers None })

unfoldable pub settled_by_so : Stand → Option (List Face) → Result Stand Fault
settled_by_so s None = Ok s
settled_by_so s (Some faces) = settled_so s (refused_by s.number faces s.read)

unfoldable pub replied_so : Stand → ℕ → Face → Result Stand Fault
replied_so s j f =
    let now : Stand = record s { replies = slice_set s.replies (j - 1) (Some f) } in
    cond (is_none s.read || is_some (slice_index_or s.replies (j - 1) None)) (Err Peer)
    (settled_by_so now (all_of now.replies))

unfoldable pub told_so : Stand → Result (List ToldMarks) Fault → Result Stand Fault
told_so s (Err fault) = Err fault
told_so s (Ok told) = Ok (record s { told = told })

unfoldable pub served_so : Stand → ℕ → Sent → Result Stand Fault
served_so s j (Replied f) = replied_so s j f
served_so s j (Told frame) =
    let kind = slice_index frame 0 in
    cond (kind == 0x0b) (told_so s (with_epoch s.shape s.told j frame)) (cond (kind == 0x0c) (Err Refused) (Err Peer))

unfoldable pub step_so : Stand → Came → Result Stand Fault
step_so s (OfHost word) = heard_so s word
step_so s (OfServer j sent) = cond (nat_le j s.shape.servers) (served_so s j sent) (Err Peer)

-- ---- a member before it acts

-- it goes on to act, with this to write after so many turns, and stands so; its read is that one still, or closed
pub record Readies (b : WordBook) (writing : Writing) (written asked : ℕ) (read : Option OpenRead) (shape : Shape)
    (number : ℕ) (result : Result ActedMember Fault) (ready : Result Stand Fault) : Type 0 where
  pub first : MemberState
  pub told : List PacketView
  pub is : result ≡ tells_and_acts b told first
  pub stands : ready ≡ Ok (stand first)
  pub writing_is : first.client.writing ≡ writing
  pub written_is : first.written ≡ written
  pub asked_is : first.asked ≡ asked
  pub read_is : (first.client.read ≡ read) ⊎ (first.client.read ≡ None)
  pub shape_is : first.client.shape ≡ shape
  pub number_is : first.client.number ≡ number
  pub to_host : AreToHost told

-- it has ended
pub record Ends (result : Result ActedMember Fault) (ready : Result Stand Fault) : Type 0 where
  pub fault : Fault
  pub is : result ≡ Err fault
  pub ready_is : ready ≡ Err fault

-- as a member that was so before
abbrev pub ReadiesFrom : WordBook → Writing → MemberState → Result ActedMember Fault → Result Stand Fault → Type 0
ReadiesFrom b writing m result ready =
    Readies b writing m.written m.asked m.client.read m.client.shape m.client.number result ready

abbrev pub EndsOrReadies : WordBook → Writing → MemberState → Result ActedMember Fault → Result Stand Fault → Type 0
EndsOrReadies b writing m result ready = Ends result ready ⊎ ReadiesFrom b writing m result ready

-- a member that acts as it is, whose read was this one
as-read : (b : WordBook) (told : List PacketView) (m : MemberState) (read : Option OpenRead) → AreToHost told →
    (m.client.read ≡ read) ⊎ (m.client.read ≡ None) →
    Readies b m.client.writing m.written m.asked read m.client.shape m.client.number (tells_and_acts b told m)
    (Ok (stand m))
as-read b told m read to_host read_is =
    record {
      first = m;
      told = told;
      is = refl;
      stands = refl;
      writing_is = refl;
      written_is = refl;
      asked_is = refl;
      read_is = read_is;
      shape_is = refl;
      number_is = refl;
      to_host = to_host;
    }

as-is : (b : WordBook) (told : List PacketView) (m : MemberState) → AreToHost told →
    ReadiesFrom b m.client.writing m (tells_and_acts b told m) (Ok (stand m))
as-is b told m to_host = as-read b told m m.client.read to_host (inl refl)

-- by a test it ends or not
unless-ends : (b : WordBook) (writing : Writing) (m : MemberState) (t : Bool) (fault : Fault)
    (r : Result ActedMember Fault) (s : Result Stand Fault) → EndsOrReadies b writing m r s →
    EndsOrReadies b writing m (cond t (Err fault) r) (cond t (Err fault) s)
unless-ends b writing m true fault r s goes = inl (record { fault = fault; is = refl; ready_is = refl })
unless-ends b writing m false fault r s goes = goes

-- by a test one of two
pub either-goes : (b : WordBook) (writing : Writing) (m : MemberState) (t : Bool) (r r' : Result ActedMember Fault)
    (s s' : Result Stand Fault) → EndsOrReadies b writing m r s → EndsOrReadies b writing m r' s' →
    EndsOrReadies b writing m (cond t r r') (cond t s s')
either-goes b writing m true r r' s s' goes goes' = goes
either-goes b writing m false r r' s s' goes goes' = goes'

-- ---- words of the host

unfoldable pub said_writing : ℕ → List ℕ → Option SayError → Writing → Writing
said_writing log text (Some error) writing = writing
said_writing log text None writing = with_text log text writing

said-readies : (b : WordBook) (m : MemberState) (log : ℕ) (text : List ℕ) (o : Option SayError) →
    EndsOrReadies b (said_writing log text o m.client.writing) m (said b m log text o) (Ok (stand m))
unfolding said_writing
said-readies b m log text (Some error) = inr (as-is b (refused_packet log error ∷ []) m (refl, tt))
said-readies b m log text None =
    let writing = with_text log text m.client.writing in
    inr (as-is b [] (record m { client = record m.client { writing = writing } }) tt)

-- what it then has to write
unfoldable pub heard_writing : MemberState → Option HostWord → Writing
heard_writing m None = m.client.writing
heard_writing m (Some (Say log text)) =
    said_writing log text (fault_of m.client.shape m.client.writing.logs log text) m.client.writing
heard_writing m (Some Tick) = m.client.writing
heard_writing m (Some (Ahead turns)) = m.client.writing
heard_writing m (Some (Has packets)) = m.client.writing

pub heard-readies : (b : WordBook) (m : MemberState) (word : Option HostWord) →
    EndsOrReadies b (heard_writing m word) m (heard b m word) (heard_so (stand m) (word_shown word))
unfolding heard_so heard_writing
heard-readies b m None = inl (record { fault = Peer; is = refl; ready_is = refl })
heard-readies b m (Some (Say log text)) =
    said-readies b m log text (fault_of m.client.shape m.client.writing.logs log text)
heard-readies b m (Some Tick) = inr (as-is b [] (record m { ticks = counted_up m (m.ticks + 1) }) tt)
heard-readies b m (Some (Ahead turns)) = inr (as-is b [] (record m { ahead = counted_up m (m.ahead + turns) }) tt)
heard-readies b m (Some (Has packets)) =
    unless-ends b m.client.writing m (nat_lt (m.written + m.asked) packets) Older (tells_and_acts b [] m)
    (Ok (stand m)) (inr (as-is b [] m tt))

-- ---- frames of servers

none-faces : (shape : Shape) (n : ℕ) → map (option_map (face shape)) (replicate n None) ≡ replicate n None
none-faces shape zero = refl
none-faces shape (suc n) = ap (λ xs. None ∷ xs) (none-faces shape n)

settled-readies : (b : WordBook) (m : MemberState) (replies : List (List ℕ)) (o : Option TakeError) →
    EndsOrReadies b m.client.writing m (settled b m replies o) (settled_so (stand m) o)
unfolding settled_so
settled-readies b m replies (Some error) = inl (record { fault = Refused; is = refl; ready_is = refl })
settled-readies b m replies None =
    let shape = m.client.shape in
    let words = words_of shape b in
    let after = after_settling words replies m in
    let ready : List (Option Face) → Result Stand Fault = λ faces. Ok (record (stand m) { read = None; replies = faces })
    in
    subst (λ (faces : List (Option Face)).
    EndsOrReadies b m.client.writing m (tells_and_acts b (told_after words replies m) after) (ready faces))
    (none-faces shape shape.servers)
    (inr (as-read b (told_after words replies m) after m.client.read
    (tell-to_host (told_after words replies m) (news-tell shape m.client.reader after.client.reader)) (inr refl)))

settled_by-readies : (b : WordBook) (m : MemberState) (o : Option (List (List ℕ))) →
    EndsOrReadies b m.client.writing m (settled_by b m o)
    (settled_by_so (stand m) (option_map (map (face m.client.shape)) o))
unfolding settled_by_so
settled_by-readies b m None = inr (as-is b [] m tt)
settled_by-readies b m (Some replies) =
    subst (λ (o : Option TakeError).
    EndsOrReadies b m.client.writing m (settled b m replies (refusal_in replies m.client)) (settled_so (stand m) o))
    (refusal-shown m.client.shape m.client.number replies m.client.read)
    (settled-readies b m replies (refusal_in replies m.client))

replied-readies : (b : WordBook) (m : MemberState) (j : ℕ) (reply : List ℕ) →
    EndsOrReadies b m.client.writing m (replied b m j reply) (replied_so (stand m) j (face m.client.shape reply))
unfolding replied_so
replied-readies b m j reply =
    let shape = m.client.shape in
    let f = face shape in
    let now : MemberState = with_reply m j reply in
    let faces = slice_set (stand m).replies (j - 1) (Some (f reply)) in
    let same : map (option_map f) now.replies ≡ faces =
    set-mapped (option_map f) m.replies (j - 1) (Some reply)
    in
    let ready : List (Option Face) → Option (List Face) → Result Stand Fault =
    λ xs o. settled_by_so (record (stand m) { replies = xs }) o
    in
    let none = is_none m.client.read in
    let there = is_some (slice_index_or m.replies (j - 1) None) in
    let path : cond (none || there) (Err Peer)
    (settled_by_so (stand now) (option_map (map f) (all_of now.replies)))
    ≡ cond (is_none (stand m).read || is_some (slice_index_or (stand m).replies (j - 1) None)) (Err Peer)
    (ready faces (all_of faces)) =
    (λ i. cond (sym (none-shown m.client.read) i || sym (there-mapped f m.replies (j - 1)) i) (Err Peer)
    (ready (map (option_map f) now.replies) (all-mapped f now.replies i)))
    ∙ ap (λ (xs : List (Option Face)).
    cond (is_none (stand m).read || is_some (slice_index_or (stand m).replies (j - 1) None)) (Err Peer)
    (ready xs (all_of xs))) same
    in
    subst (EndsOrReadies b m.client.writing m (replied b m j reply)) path
    (unless-ends b m.client.writing m (none || there) Peer (settled_by b now (all_of now.replies))
    (settled_by_so (stand now) (option_map (map f) (all_of now.replies)))
    (settled_by-readies b now (all_of now.replies)))

told-readies : (b : WordBook) (m : MemberState) (r : Result (List ToldMarks) Fault) →
    EndsOrReadies b m.client.writing m (told_epoch b m r) (told_so (stand m) r)
unfolding told_so
told-readies b m (Err fault) = inl (record { fault = fault; is = refl; ready_is = refl })
told-readies b m (Ok told) = inr (as-is b [] (record m { told = told }) tt)

pub served-readies : (b : WordBook) (m : MemberState) (j : ℕ) (frame : List ℕ) →
    EndsOrReadies b m.client.writing m (served b m j frame)
    (served_so (stand m) j (frame_shown m.client.shape frame))
unfolding served_so
served-readies b m j frame = first (slice_index frame 0 == 3)
  where
    first : (t : Bool) →
        EndsOrReadies b m.client.writing m
        (cond t (replied b m j frame)
        (cond (slice_index frame 0 == 0x0b) (told_epoch b m (with_epoch m.client.shape m.told j frame))
        (cond (slice_index frame 0 == 0x0c) (Err Refused) (Err Peer))))
        (served_so (stand m) j (cond t (Replied (face m.client.shape frame)) (Told frame)))
    first true = replied-readies b m j frame
    first false =
        either-goes b m.client.writing m (slice_index frame 0 == 0x0b)
        (told_epoch b m (with_epoch m.client.shape m.told j frame))
        (cond (slice_index frame 0 == 0x0c) (Err Refused) (Err Peer))
        (told_so (stand m) (with_epoch m.client.shape m.told j frame))
        (cond (slice_index frame 0 == 0x0c) (Err Refused) (Err Peer))
        (told-readies b m (with_epoch m.client.shape m.told j frame))
        (unless-ends b m.client.writing m (slice_index frame 0 == 0x0c) Refused (Err Peer) (Err Peer)
        (inl (record { fault = Peer; is = refl; ready_is = refl })))

-- ---- once it has acted

pub acted-outcome : (b : WordBook) (writing : Writing) (m : MemberState) (r : Result ActedMember Fault)
    (s : Result Stand Fault) → EndsOrReadies b writing m r s → outcome r ≡ acting s
acted-outcome b writing m r s (inl e) = ap outcome e.is ∙ sym (ap acting e.ready_is)
acted-outcome b writing m r s (inr e) =
    ap outcome e.is ∙ ap Ok (acts-stands b e.first) ∙ sym (ap acting e.stands)

pub step-outcome : (b : WordBook) (m : MemberState) (p : PacketView) →
    outcome (step b m p) ≡ acting (step_so (stand m) (packet_shown m.client.shape p))
unfolding step step_so
step-outcome b m p = first (p.peer == 0)
  where
    second : (t : Bool) →
        outcome (cond t (served b m p.peer p.bytes) (Err Peer))
        ≡ acting (cond t (served_so (stand m) p.peer (frame_shown m.client.shape p.bytes)) (Err Peer))
    second true = acted-outcome b m.client.writing m _ _ (served-readies b m p.peer p.bytes)
    second false = refl

    first : (t : Bool) →
        outcome (cond t (heard b m (word_in p.bytes))
        (cond (nat_le p.peer m.client.shape.servers) (served b m p.peer p.bytes) (Err Peer)))
        ≡ acting (step_so (stand m)
        (cond t (OfHost (word_shown (word_in p.bytes))) (OfServer p.peer (frame_shown m.client.shape p.bytes))))
    first true =
        acted-outcome b (heard_writing m (word_in p.bytes)) m _ _ (heard-readies b m (word_in p.bytes))
    first false = second (nat_le p.peer m.client.shape.servers)
