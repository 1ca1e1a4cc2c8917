-- What a member asks in the turn that comes is what the serial run has it ask.
use Rattle.tk_meeting.proofs.Terms.{◌≡◌, ℕ, ◌≤◌, ◌<◌, List, [], ◌∷◌, length, map, ◌+◌, cond, ◌-◌, Bool, true, false}
use Rattle.tk_meeting.proofs.Terms.{replicate, Option, Some, None, ◌∙◌, refl, ap, sym, zero, suc, arith, ap₂}
use Rattle.tk_meeting.proofs.Terms.{true≢false, get_or-map-range_with_len, range_with_len, is_none, nat_lt, ◌&&◌}
use Rattle.tk_meeting.proofs.Terms.{nat_le, not, slice_index, turn_count, WordBook, words_of, all_marked, before}
use Rattle.tk_meeting.proofs.Terms.{read_frame, ReadFrame, is_shown, serial_history, phases_over, epoch_at, serial_turn}
use Rattle.tk_meeting.proofs.Terms.{blank_turn, Script, asked, shown_by, target_over, Reader, at_epoch, target}
use Rattle.tk_meeting.proofs.Terms.{OpenRead, Target, map-map, map_same, asked-read_at, reader_before, target_at}
use Rattle.tk_meeting.proofs.Terms.{read_over, PacketView, ActedMember, packets_from, may_ask, asks, asks_if_due, unmoved}
use Rattle.tk_meeting.proofs.Terms.{least_of, known, filter_of, marks_at, epochs_in, Marks, Saying, for_peer}
use Rattle.tk_meeting.proofs.Terms.{frames_for}
use Rattle.tk_meeting.proofs.Canonical.{serial, whole, read_from, marks_in, telling_of, reply_in}
use Rattle.tk_meeting.proofs.Pace.{Pace, IsPace, known_by, asks_now, has_asked}
use Rattle.tk_meeting.proofs.Standing.{read_of, reply_there, frames_of}
use Rattle.tk_meeting.proofs.members.Members.{member_at, client_at, open_at, reader_at, replies_at, tellings_at}
use Rattle.tk_meeting.proofs.members.Members.{length-range}
use Rattle.tk_meeting.proofs.members.Marks.{known-marks, marks-show}
use Rattle.tk_meeting.proofs.members.Paces.{Asks, asks-when, asked_by}
use Rattle.tk_meeting.proofs.members.Packets.{own-frame, none-below}
use Rattle.tk_meeting.proofs.members.Writing.{turned_at}

-- ---- the epochs of the serial run

replicate-at : (n c x : ℕ) → c < n → slice_index (replicate n x) c ≡ x
replicate-at zero c x low = absurd (omega (arith, low))
replicate-at (suc n) zero x low = refl
replicate-at (suc n) (suc c) x low = replicate-at n c x (omega (arith, low))

-- the newest before each turn
pub serial-epoch : (S : Script) (g c : ℕ) → g < turn_count S.shape → c < S.shape.clients →
    epoch_at (serial S) g c ≡ phases_over S.shape g
unfolding serial_history
serial-epoch S g c low client =
    ap (λ turn. slice_index turn.epochs c)
    (get_or-map-range_with_len (serial_turn S.shape) 0 (turn_count S.shape) g g blank_turn low
    (omega arith))
    ∙ replicate-at S.shape.clients c (phases_over S.shape g) client

-- ---- when it asks

pub length-telling : (S : Script) (b : WordBook) (e : ℕ) → epochs_in (telling_of S b e) ≡ e
length-telling S b e = mapped (range_with_len 1 e) ∙ length-range 1 e
  where
    mapped : (es : List ℕ) → length (map (marks_in S b) es) ≡ length es
    mapped [] = refl
    mapped (x ∷ es) = ap suc (mapped es)

pub known-is : (S : Script) (b : WordBook) (p : Pace) →
    known S.shape (tellings_at S b p) ≡ known_by S.shape p
known-is S b p = ap (least_of S.shape.phases) (each (range_with_len 1 S.shape.servers))
  where
    each : (js : List ℕ) →
        map epochs_in (map (λ j. telling_of S b (p.epochs j)) js) ≡ map p.epochs js
    each [] = refl
    each (j ∷ js) = ap₂ (λ (n : ℕ) ns. n ∷ ns) (length-telling S b (p.epochs j)) (each js)

pub none-open : {X : Type 0} (b : Bool) (x : X) → is_none (cond b (Some x) None) ≡ not b
none-open true x = refl
none-open false x = refl

may-ask : (S : Script) (b : WordBook) (c : ℕ) (p : Pace) (saids : List Saying) →
    may_ask (member_at S b c p saids) ≡ asks_now S.shape p
may-ask S b c p saids =
    let due = phases_over S.shape p.asked in
    ap₂ (λ (x : Bool) (n : ℕ). nat_lt p.asked p.written && x && nat_le due n)
    (none-open p.is_open (read_of S b c (p.asked - 1))) (known-is S b p)

-- ---- what it asks

-- the packets of the read of a turn
abbrev pub packets_asked : Script → WordBook → ℕ → ℕ → List PacketView
packets_asked S b c g =
    packets_from 1 (map (λ j. read_frame (read_from S b c j g)) (range_with_len 1 S.shape.servers))

-- the read that is opened for a target
abbrev open_for : Script → ℕ → Option Target → OpenRead
open_for S g t = record { turn = g; epoch = phases_over S.shape g; target = t }

-- a member with this reader, this read and these replies, which sent these packets
abbrev turned_as : Script → WordBook → ℕ → Pace → List Saying → Reader → Option OpenRead →
    List (Option (List ℕ)) → List PacketView → ActedMember
turned_as S b c p saids reader read replies packets =
    record {
      member =
          record (member_at S b c p saids) {
            client = record (client_at S b c p saids) { reader = reader; read = read };
            replies = replies;
          };
      packets = packets;
    }

-- a client that may ask at its pace
pub record MayAsk (S : Script) (c : ℕ) (p : Pace) : Type 0 where
  pub client_in : c < S.shape.clients
  pub is : IsPace S.shape p
  pub due : Asks S.shape p

settled-asked : (b : Bool) (n : ℕ) → b ≡ false → cond b (n - 1) n ≡ n
settled-asked true n e = absurd (true≢false e)
settled-asked false n e = refl

module _ (S : Script) (b : WordBook) (c : ℕ) (p : Pace) (may : MayAsk S c p) where
  turn-in : p.asked < turn_count S.shape
  turn-in = omega (arith, may.is.written_in, may.due.low)

  reader-is : reader_at S b c p ≡ reader_before S (words_of S.shape b) (serial S) c p.asked
  reader-is =
      ap (reader_before S (words_of S.shape b) (serial S) c)
      (settled-asked p.is_open p.asked may.due.none_open)

  -- the marks of the epoch show what the writes before it do
  marks-shown : (hits : List ℕ) → let e = phases_over S.shape p.asked in
      all_marked (filter_of S.shape (marks_at S.shape (tellings_at S b p) e)) hits
      ≡ is_shown S.shape (read_over S (words_of S.shape b) (serial S) p.asked c) hits
  marks-shown hits =
      let e = phases_over S.shape p.asked in
      ap (λ (marks : Marks). all_marked (filter_of S.shape marks) hits)
      (known-marks S b p e may.due.known)
      ∙ marks-show S b e hits
      ∙ ap (λ n. is_shown S.shape (before (whole S b) n) hits)
      (sym (serial-epoch S p.asked c turn-in may.client_in))

  target-is : (saids : List Saying) → let e = phases_over S.shape p.asked in
      target_over (words_of S.shape b) (filter_of S.shape (marks_at S.shape (tellings_at S b p) e)) e
      (client_at S b c p saids)
      ≡ target_at S (words_of S.shape b) (serial S) p.asked c
  target-is saids =
      let w = words_of S.shape b in
      let H = serial S in
      let g = p.asked in
      let e = phases_over S.shape g in
      let marks = filter_of S.shape (marks_at S.shape (tellings_at S b p) e) in
      let R = read_over S w H g c in
      let r = reader_before S w H c g in
      let same : shown_by marks w ≡ (λ log s. is_shown S.shape R (w.hits log s)) =
      λ i log s. marks-shown (w.hits log s) i
      in
      ap (λ (x : Reader). target S.shape (shown_by marks w) (at_epoch e x)) reader-is
      ∙ ap (λ n. target S.shape (shown_by marks w) (at_epoch n r))
      (sym (serial-epoch S g c turn-in may.client_in))
      ∙ ap (λ (f : ℕ → ℕ → Bool). target S.shape f (at_epoch (epoch_at H g c) r)) same

  frames-are : (saids : List Saying) → let e = phases_over S.shape p.asked in
      let marks = filter_of S.shape (marks_at S.shape (tellings_at S b p) e) in
      let t = target_over (words_of S.shape b) marks e (client_at S b c p saids) in
      packets_from 1 (map read_frame (asked S.shape b p.asked c e t)) ≡ packets_asked S b c p.asked
  frames-are saids =
      let g = p.asked in
      let e = phases_over S.shape g in
      let H = serial S in
      let asks_for = λ (n : ℕ) (t : Option Target).
      packets_from 1 (map read_frame (asked S.shape b g c n t))
      in
      let t = target_at S (words_of S.shape b) H g c in
      ap (asks_for e) (target-is saids)
      ∙ ap (λ n. asks_for n t) (sym (serial-epoch S g c turn-in may.client_in))
      ∙ ap (λ (rs : List ReadFrame). packets_from 1 (map read_frame rs)) (asked-read_at S b H g c)
      ∙ ap (packets_from 1)
      (map-map read_frame (λ j. read_from S b c j g) (range_with_len 1 S.shape.servers))

  -- and no reply is there yet
  replies-same : replies_at S b c p ≡ replies_at S b c (has_asked p)
  replies-same =
      map_same (reply_there S b c p) (reply_there S b c (has_asked p)) each
      (range_with_len 1 S.shape.servers)
    where
      each : (j : ℕ) → reply_there S b c p j ≡ reply_there S b c (has_asked p) j
      each j =
          let none = may.is.none_replied may.due.none_open j in
          ap (λ x. cond x (Some (reply_in S b c j (p.asked - 1))) None) none
          ∙ sym (ap (λ x. cond x (Some (reply_in S b c j (p.asked + 1 - 1))) None) none)

  pub asks-is : (saids : List Saying) →
      asks b (member_at S b c p saids)
      ≡ turned_at S b c (has_asked p) saids (packets_asked S b c p.asked)
  asks-is saids =
      let g = p.asked in
      let e = phases_over S.shape g in
      let q = has_asked p in
      let back : g ≡ g + 1 - 1 = omega arith in
      let reader : reader_at S b c p ≡ reader_at S b c q =
      reader-is ∙ ap (reader_before S (words_of S.shape b) (serial S) c) back
      in
      let marks = filter_of S.shape (marks_at S.shape (tellings_at S b p) e) in
      let t = target_over (words_of S.shape b) marks e (client_at S b c p saids) in
      let read : Some (open_for S g t) ≡ open_at S b c q =
      ap (λ (x : Option Target). Some (open_for S g x)) (target-is saids)
      ∙ ap (λ n. Some (read_of S b c n)) back
      in
      let replies = replies-same in
      let frames = frames-are saids in
      λ i. turned_as S b c q saids (reader i) (read i) (replies i) (frames i)

-- ---- whether it asks or not

abbrev pub packets_by : Script → WordBook → ℕ → ℕ → Bool → List PacketView
packets_by S b c g true = packets_asked S b c g
packets_by S b c g false = []

asks-either : (S : Script) (b : WordBook) (c : ℕ) (p : Pace) (saids : List Saying) (x : Bool) →
    c < S.shape.clients → IsPace S.shape p → asks_now S.shape p ≡ x →
    cond x (asks b (member_at S b c p saids)) (unmoved (member_at S b c p saids))
    ≡ turned_at S b c (asked_by x p).pace saids (packets_by S b c p.asked x)
asks-either S b c p saids true client is due =
    asks-is S b c p (record { client_in = client; is = is; due = asks-when S.shape p due }) saids
asks-either S b c p saids false client is due = refl

pub asks-go : (S : Script) (b : WordBook) (c : ℕ) (p : Pace) (saids : List Saying) →
    c < S.shape.clients → IsPace S.shape p → let x = asks_now S.shape p in
    asks_if_due b (member_at S b c p saids)
    ≡ turned_at S b c (asked_by x p).pace saids (packets_by S b c p.asked x)
asks-go S b c p saids client is =
    let m = member_at S b c p saids in
    ap (λ x. cond x (asks b m) (unmoved m)) (may-ask S b c p saids)
    ∙ asks-either S b c p saids (asks_now S.shape p) client is refl

-- ---- frame by frame

pub frames-by : (S : Script) (b : WordBook) (c j g k : ℕ) (x : Bool) (p : Pace) → 1 ≤ j →
    j ≤ S.shape.servers →
    frames_for j (packets_by S b c k x) ≡ frames_of S b c j g k (asked_by x p).kinds
unfolding frames_of
frames-by S b c j g k true p low high =
    own-frame (λ (i : ℕ). read_frame (read_from S b c i k)) 1 S.shape.servers j low (omega (arith, high))
frames-by S b c j g k false p low high = refl

pub host-by : (S : Script) (b : WordBook) (c k : ℕ) (x : Bool) → for_peer 0 (packets_by S b c k x) ≡ []
host-by S b c k true =
    none-below 0 1 (map (λ j. read_frame (read_from S b c j k)) (range_with_len 1 S.shape.servers))
    (omega arith)
host-by S b c k false = refl
