-- How a member stands after a deed, before it acts, follows from how it stood and from what shows of the deed.
use Rattle.tk_meeting.proofs.Terms.{◌≡◌, ℕ, List, [], ◌∷◌, length, ◌+◌, ◌==◌, cond, ◌++◌, Option, Some, None, Result}
use Rattle.tk_meeting.proofs.Terms.{◌∙◌, refl, ap, sym, arith, inl, ap₂, length-append, Err, true≢false, is_none}
use Rattle.tk_meeting.proofs.Terms.{is_some, nat_le, chosen_sum, width, reply_len, Shape, length-chosen_sum, WordBook}
use Rattle.tk_meeting.proofs.Terms.{first_fault, kind_check, version_check, client_check, turn_check, check_on}
use Rattle.tk_meeting.proofs.Terms.{number_at, be32, ReadFrame, reply_to, layout, blocks_of, frame_with, Writing}
use Rattle.tk_meeting.proofs.Terms.{OpenRead, MemberState, served, Fault, Peer, Say, Tick, Ahead, Has, is_server, Deed}
use Rattle.tk_meeting.proofs.Terms.{Ticks, Claims, Sends, Answers, Hidden, Says, GoesAhead, doer, deed_shown}
use Rattle.tk_meeting.proofs.Terms.{member_does, HoldsBlocks, answer_to, frame_open, stand, Stand, Face, face}
use Rattle.tk_meeting.proofs.Terms.{read_shown, Sent, Replied, frame_shown}
use Rattle.tk_meeting.proofs.shown.Steps.{heard_so, served_so, heard_writing, EndsOrReadies, either-goes, heard-readies}
use Rattle.tk_meeting.proofs.shown.Steps.{served-readies}
use Rattle.tk_frames.specs.declared.fault.Name.TheVariants as name
use Rattle.tk_frames.specs.declared.fault.FrameError.TheVariants as fault

-- ---- answers of the hidden server

-- a reply to this read with these sums
abbrev answer : ℕ → ℕ → ℕ → List ℕ → List ℕ
answer client turn epoch sums = 3 ∷ 1 ∷ (be32 client ++ be32 turn ++ be32 epoch ++ sums)

-- what shows of a reply that is so long and names this read
abbrev face_long : Shape → ℕ → ℕ → ℕ → ℕ → Face
face_long shape long client turn epoch =
    record {
      fault =
          first_fault (record { fault = fault.Length (reply_len shape) long; passed = long == reply_len shape }
          ∷ kind_check 3 (3 ∷ 1 ∷ [])
          ∷ version_check (3 ∷ 1 ∷ [])
          ∷ client_check shape client
          ∷ turn_check shape turn
          ∷ check_on name.Epoch epoch (nat_le epoch shape.phases)
          ∷ []);
      client = client;
      turn = turn;
      epoch = epoch;
    }

-- two replies to one read, with sums that are as long, show the same
face-same : (shape : Shape) (client turn epoch : ℕ) (xs ys : List ℕ) → length xs ≡ length ys →
    face shape (answer client turn epoch xs) ≡ face shape (answer client turn epoch ys)
face-same shape client turn epoch xs ys same =
    let bytes = answer client turn epoch xs in
    let long : length bytes ≡ length (answer client turn epoch ys) = omega (arith, same) in
    ap (λ (n : ℕ). face_long shape n (number_at 2 bytes) (number_at 6 bytes) (number_at 10 bytes)) long

some-turn : ℕ × ℕ → Option (ℕ × ℕ) → ℕ × ℕ
some-turn other None = other
some-turn other (Some x) = x

module _ (h : Hidden) (a b : WordBook) (table : ℕ) (shape : Shape) (c : ℕ) (holds : HoldsBlocks shape h) where
  -- the two sums of an answer, whatever it is asked
  sums-long : (r : ReadFrame) → let reply = reply_to shape (h.held table) r in
      length (reply.first ++ reply.second) ≡ width shape + width shape
  sums-long r =
      let blocks = blocks_of (layout shape (h.held table)) in
      let first = chosen_sum (width shape) blocks r.first in
      let second = chosen_sum (width shape) blocks r.second in
      omega (
        arith,
        length-append first second,
        length-chosen_sum (width shape) blocks r.first (holds table),
        length-chosen_sum (width shape) blocks r.second (holds table),
      )

  answers-open : (x y : OpenRead) → x.turn ≡ y.turn → x.epoch ≡ y.epoch →
      frame_shown shape (answer_to h a table shape c (Some x)) ≡ frame_shown shape (answer_to h b table shape c (Some y))
  unfolding frame_with
  answers-open x y turn epoch =
      let one = reply_to shape (h.held table) (frame_open shape a c h.server x) in
      let other = reply_to shape (h.held table) (frame_open shape b c h.server y) in
      let first = one.first ++ one.second in
      let second = other.first ++ other.second in
      ap₂ (λ (t e : ℕ). Replied (face shape (answer c t e first))) turn epoch
      ∙ ap Replied
      (face-same shape c y.turn y.epoch first second
      (sums-long (frame_open shape a c h.server x)
      ∙ sym (sums-long (frame_open shape b c h.server y))))

  answers-at : (x y : Option OpenRead) → read_shown x ≡ read_shown y →
      frame_shown shape (answer_to h a table shape c x) ≡ frame_shown shape (answer_to h b table shape c y)
  unfolding some-turn
  answers-at None None same = refl
  answers-at None (Some y) same =
      absurd (true≢false (ap (λ (o : Option (ℕ × ℕ)). is_none o) same))
  answers-at (Some x) None same =
      absurd (true≢false (ap (λ (o : Option (ℕ × ℕ)). is_some o) same))
  answers-at (Some x) (Some y) same =
      let names : (x.turn, x.epoch) ≡ (y.turn, y.epoch) = ap (some-turn (0, 0)) same in
      answers-open x y (ap (λ (p : ℕ × ℕ). p.0) names) (ap (λ (p : ℕ × ℕ). p.1) names)

-- ---- a deed

unfoldable pub deed_so : Stand → ℕ → Sent → Deed → Result Stand Fault
deed_so s j answer (Says c log text) = heard_so s (Some (Say 0 []))
deed_so s j answer (Ticks c) = heard_so s (Some Tick)
deed_so s j answer (GoesAhead c turns) = heard_so s (Some (Ahead turns))
deed_so s j answer (Claims c count) = heard_so s (Some (Has count))
deed_so s j answer (Sends c i frame) =
    cond (is_server s.shape i) (served_so s i (frame_shown s.shape frame)) (Err Peer)
deed_so s j answer (Answers c table) = served_so s j answer

-- what it then has to write
unfoldable pub does_writing : MemberState → Deed → Writing
does_writing m (Says c log text) = heard_writing m (Some (Say log text))
does_writing m (Ticks c) = m.client.writing
does_writing m (GoesAhead c turns) = m.client.writing
does_writing m (Claims c count) = m.client.writing
does_writing m (Sends c j frame) = m.client.writing
does_writing m (Answers c table) = m.client.writing

-- what shows of the answer that a member would get
abbrev pub answer_shown : Hidden → WordBook → ℕ → MemberState → Sent
answer_shown h b table m =
    frame_shown m.client.shape (answer_to h b table m.client.shape m.client.number m.client.read)

-- members that stand alike would get answers that show the same
pub answers-same : (h : Hidden) (a b : WordBook) (table : ℕ) (m n : MemberState) → stand m ≡ stand n →
    HoldsBlocks n.client.shape h → answer_shown h a table m ≡ answer_shown h b table n
answers-same h a b table m n same holds =
    (λ i. frame_shown (same i).shape (answer_to h a table (same i).shape (same i).number m.client.read))
    ∙ answers-at h a b table n.client.shape n.client.number holds m.client.read n.client.read
    (ap (λ (s : Stand). s.read) same)

-- the table of an answer
abbrev pub table_of : Deed → ℕ
table_of (Says c log text) = 0
table_of (Ticks c) = 0
table_of (GoesAhead c turns) = 0
table_of (Claims c count) = 0
table_of (Sends c j frame) = 0
table_of (Answers c table) = table

table-shown : (d : Deed) → table_of (deed_shown d) ≡ table_of d
table-shown (Says c log text) = refl
table-shown (Ticks c) = refl
table-shown (GoesAhead c turns) = refl
table-shown (Claims c count) = refl
table-shown (Sends c j frame) = refl
table-shown (Answers c table) = refl

-- how it stands before it acts
pub deed-readies : (h : Hidden) (b : WordBook) (m : MemberState) (d : Deed) →
    EndsOrReadies b (does_writing m d) m (member_does h b m d)
    (deed_so (stand m) h.server (answer_shown h b (table_of d) m) (deed_shown d))
unfolding deed_so does_writing heard_writing
deed-readies h b m (Says c log text) = heard-readies b m (Some (Say log text))
deed-readies h b m (Ticks c) = heard-readies b m (Some Tick)
deed-readies h b m (GoesAhead c turns) = heard-readies b m (Some (Ahead turns))
deed-readies h b m (Claims c count) = heard-readies b m (Some (Has count))
deed-readies h b m (Sends c j frame) =
    either-goes b m.client.writing m (is_server m.client.shape j) (served b m j frame) (Err Peer)
    (served_so (stand m) j (frame_shown m.client.shape frame)) (Err Peer) (served-readies b m j frame)
    (inl (record { fault = Peer; is = refl; ready_is = refl }))
deed-readies h b m (Answers c table) =
    served-readies b m h.server (answer_to h b table m.client.shape m.client.number m.client.read)

pub ready-same : (h : Hidden) (a b : WordBook) (m n : MemberState) (d e : Deed) → stand m ≡ stand n →
    HoldsBlocks n.client.shape h → deed_shown d ≡ deed_shown e →
    deed_so (stand m) h.server (answer_shown h a (table_of d) m) (deed_shown d)
    ≡ deed_so (stand n) h.server (answer_shown h b (table_of e) n) (deed_shown e)
ready-same h a b m n d e same holds deeds =
    let tables : table_of d ≡ table_of e = sym (table-shown d) ∙ ap table_of deeds ∙ table-shown e in
    let answers : answer_shown h a (table_of d) m ≡ answer_shown h b (table_of e) n =
    answers-same h a b (table_of d) m n same holds ∙ ap (λ (table : ℕ). answer_shown h b table n) tables
    in
    λ i. deed_so (same i) h.server (answers i) (deeds i)

pub doer-shown : (d : Deed) → doer (deed_shown d) ≡ doer d
doer-shown (Says c log text) = refl
doer-shown (Ticks c) = refl
doer-shown (GoesAhead c turns) = refl
doer-shown (Claims c count) = refl
doer-shown (Sends c j frame) = refl
doer-shown (Answers c table) = refl
