-- A member acts by its own book as by the group's.
use Rattle.tk_meeting.proofs.Terms.{◌≡◌, ℕ, List, map, ◌+◌, cond, ◌-◌, Bool, true, false, replicate, Option, Some, None}
use Rattle.tk_meeting.proofs.Terms.{◌∙◌, refl, ap, sym, zero, suc, subst, ap₂, range_with_len, vector_len, Shape}
use Rattle.tk_meeting.proofs.Terms.{shares, WordBook, words_of, BookWords, BothBuckets, all_marked, write_frame}
use Rattle.tk_meeting.proofs.Terms.{read_frame, ReadFrame, WriteFrame, Script, frame_with, pair_for, frame_for, asked}
use Rattle.tk_meeting.proofs.Terms.{shown_by, target_over, Reader, Follow, at_epoch, target, write_of, first_waiting}
use Rattle.tk_meeting.proofs.Terms.{Target, Waiting, each-weaker, PacketView, ActedMember, acts, behind, wrote, packets_from}
use Rattle.tk_meeting.proofs.Terms.{may_ask, asks, asks_if_due, unmoved, epoch_due, goes_ahead, goes_by_ticks}
use Rattle.tk_meeting.proofs.Terms.{ahead_due, ticks_due, followed_by, write_packets, after_turn, filter_of, marks_at}
use Rattle.tk_meeting.proofs.Terms.{MemberState, AgreesForClient}
use Rattle.tk_client.specs.Client.{opened}
use Rattle.tk_meeting.proofs.own.Words.{IsUsed, IsOwnTextOrNone, write-same, pair-same, hits-same}
use Rattle.tk_meeting.proofs.own.Reading.{Follows, IsFoundOrNone, target-same, target-found, epoch-follows}
use Rattle.tk_meeting.proofs.own.Clients.{first-own, write-own, IsOwn}

follows-by : (P Q : ℕ → Type 0) (r : Reader) → ((log : ℕ) → P log → Q log) → Follows P r → Follows Q r
follows-by P Q r by all =
    record {
      each = each-weaker (λ (f : Follow). P f.log)
          (λ (f : Follow). Q f.log) r.follows (λ f is. by f.log is) all.each;
      cursor_in = all.cursor_in;
    }

module _ (S : Script) (b own : WordBook) (c : ℕ) (keys : AgreesForClient S b c own) where
  -- ---- words

  write-alike : (shape : Shape) (number g : ℕ) (first : Option Waiting) →
      shape ≡ S.shape → number ≡ c → IsOwnTextOrNone S c first →
      write_of (words_of shape own) g number first ≡ write_of (words_of shape b) g number first
  write-alike shape number g first is named text =
      subst (λ (s : Shape). write_of (words_of s own) g number first ≡ write_of (words_of s b) g number first)
      (sym is)
      (subst (λ (n : ℕ). write_of (words_of S.shape own) g n first ≡ write_of (words_of S.shape b) g n first)
      (sym named) (write-same S b own c keys g first text))

  target-alike : (shape : Shape) (marks : List Bool) (e : ℕ) (r : Reader) → shape ≡ S.shape →
      Follows (IsUsed S c) r →
      target shape (shown_by marks (words_of shape own)) (at_epoch e r)
      ≡ target shape (shown_by marks (words_of shape b)) (at_epoch e r)
  target-alike shape marks e r is all =
      subst
      (λ (s : Shape). target s (shown_by marks (words_of s own)) (at_epoch e r)
      ≡ target s (shown_by marks (words_of s b)) (at_epoch e r))
      (sym is)
      (target-same S.shape (shown_by marks (words_of S.shape own)) (shown_by marks (words_of S.shape b))
      (at_epoch e r)
      (follows-by (IsUsed S c)
      (λ log. (s : ℕ) → shown_by marks (words_of S.shape own) log s ≡ shown_by marks (words_of S.shape b) log s)
      (at_epoch e r)
      (λ log used s. ap (all_marked marks) (hits-same S b own c keys log s used))
      (epoch-follows (IsUsed S c) e r all)))

  pair-alike : (g : ℕ) (r : Reader) (t : Option Target) → IsFoundOrNone (IsUsed S c) r t →
      pair_for (words_of S.shape own) g c t ≡ pair_for (words_of S.shape b) g c t
  pair-alike g r None found = keys.targets g
  pair-alike g r (Some t) found = pair-same S b own c keys t.log t.number found.of

  frame-same : (g e : ℕ) (r : Reader) (t : Option Target) (j : ℕ) → IsFoundOrNone (IsUsed S c) r t →
      frame_for S.shape own g c e (pair_for (words_of S.shape own) g c t) j
      ≡ frame_for S.shape b g c e (pair_for (words_of S.shape b) g c t) j
  frame-same g e r t j found =
      let size = vector_len S.shape in
      λ i.
      let pair : ℕ × ℕ = pair-alike g r t found i in
      let seeds : BothBuckets = keys.seeds g i in
      let drawn : BothBuckets = keys.vectors g i in
      frame_with S.shape (keys.shows i) g c e (shares size pair.0 seeds.first drawn.first)
      (shares size pair.1 seeds.second drawn.second) j

  asked-same : (g e : ℕ) (r : Reader) (t : Option Target) → IsFoundOrNone (IsUsed S c) r t →
      asked S.shape own g c e t ≡ asked S.shape b g c e t
  asked-same g e r t found =
      ap (λ (f : ℕ → ReadFrame). map f (range_with_len 1 S.shape.servers))
      (λ i j. frame-same g e r t j found i)

  asked-alike : (shape : Shape) (number g e : ℕ) (r : Reader) (t : Option Target) → shape ≡ S.shape →
      number ≡ c → IsFoundOrNone (IsUsed S c) r t →
      asked shape own g number e t ≡ asked shape b g number e t
  asked-alike shape number g e r t is named found =
      subst (λ (s : Shape). asked s own g number e t ≡ asked s b g number e t) (sym is)
      (subst (λ (n : ℕ). asked S.shape own g n e t ≡ asked S.shape b g n e t) (sym named)
      (asked-same g e r t found))

  -- ---- writes

  turn-own : (m : MemberState) → IsOwn S c m.client → IsOwn S c (after_turn m).client
  turn-own m is =
      record {
        shape_is = is.shape_is;
        number_is = is.number_is;
        writes = write-own S c m.client.writing is.writes;
        follows = is.follows;
        opens = is.opens;
      }

  packets-same : (m : MemberState) → IsOwn S c m.client →
      write_packets (words_of m.client.shape own) m ≡ write_packets (words_of m.client.shape b) m
  packets-same m is =
      ap (λ (w : WriteFrame). packets_from 1 (replicate m.client.shape.servers (write_frame w)))
      (write-alike m.client.shape m.client.number m.written (first_waiting m.client.writing) is.shape_is
      is.number_is (first-own S c m.client.writing is.writes))

  wrote-own : (w : BookWords) (n : ℕ) (m : MemberState) → IsOwn S c m.client →
      IsOwn S c (wrote w n m).member.client
  unfolding wrote
  wrote-own w zero m is = is
  wrote-own w (suc n) m is = wrote-own w n (after_turn m) (turn-own m is)

  wrote-same : (shape : Shape) (n : ℕ) (m : MemberState) → shape ≡ S.shape → m.client.shape ≡ shape →
      IsOwn S c m.client → wrote (words_of shape own) n m ≡ wrote (words_of shape b) n m
  unfolding wrote
  wrote-same shape zero m of has is = refl
  wrote-same shape (suc n) m of has is =
      ap₂ (λ (ps : List PacketView) (t : ActedMember). behind ps t)
      (subst (λ (s : Shape). write_packets (words_of s own) m ≡ write_packets (words_of s b) m) has
      (packets-same m is))
      (wrote-same shape n (after_turn m) of has (turn-own m is))

  -- ---- a read

  asks-same : (m : MemberState) → IsOwn S c m.client → asks own m ≡ asks b m
  asks-same m is =
      let shape = m.client.shape in
      let epoch = epoch_due shape m.asked in
      let marks = filter_of shape (marks_at shape m.told epoch) in
      let found =
      subst (λ (t : Option Target). IsFoundOrNone (IsUsed S c) (at_epoch epoch m.client.reader) t)
      (target-alike shape marks epoch m.client.reader is.shape_is is.follows)
      (target-found (IsUsed S c) shape (shown_by marks (words_of shape own))
      (at_epoch epoch m.client.reader) (epoch-follows (IsUsed S c) epoch m.client.reader is.follows))
      in
      let t : Option Target = target_over (words_of shape b) marks epoch m.client in
      let does : Option Target → List ReadFrame → ActedMember = λ t frames.
      record {
        member = record m { client = opened m.asked epoch t m.client; asked = m.asked + 1 };
        packets = packets_from 1 (map read_frame frames);
      }
      in
      ap (λ (t : Option Target). does t (asked shape own m.asked m.client.number epoch t))
      (target-alike shape marks epoch m.client.reader is.shape_is is.follows)
      ∙ ap (λ (frames : List ReadFrame). does t frames)
      (asked-alike shape m.client.number m.asked epoch (at_epoch epoch m.client.reader) t is.shape_is
      is.number_is found)

  due-same : (m : MemberState) → IsOwn S c m.client → asks_if_due own m ≡ asks_if_due b m
  due-same m is = ap (λ (t : ActedMember). cond (may_ask m) t (unmoved m)) (asks-same m is)

  asks-own : (m : MemberState) → IsOwn S c m.client → IsOwn S c (asks b m).member.client
  asks-own m is =
      let shape = m.client.shape in
      let epoch = epoch_due shape m.asked in
      let marks = filter_of shape (marks_at shape m.told epoch) in
      record {
        shape_is = is.shape_is;
        number_is = is.number_is;
        writes = is.writes;
        follows = is.follows;
        opens = target-found (IsUsed S c) shape (shown_by marks (words_of shape b))
            (at_epoch epoch m.client.reader) (epoch-follows (IsUsed S c) epoch m.client.reader is.follows);
      }

  due-own : (m : MemberState) → IsOwn S c m.client → IsOwn S c (asks_if_due b m).member.client
  due-own m is = by (may_ask m)
    where
      by : (may : Bool) → IsOwn S c (cond may (asks b m) (unmoved m)).member.client
      by true = asks-own m is
      by false = is

  -- ---- both

  abbrev ahead_first : MemberState → MemberState
  ahead_first m = record m { ahead = m.ahead - ahead_due m }

  abbrev ticks_first : MemberState → MemberState
  ticks_first m = record m { ticks = m.ticks - ticks_due m }

  went-own : (w : BookWords) (m : MemberState) → IsOwn S c m.client →
      IsOwn S c (goes_ahead w m).member.client
  went-own w m is = wrote-own w (ahead_due m) (ahead_first m) is

  ticked-own : (w : BookWords) (m : MemberState) → IsOwn S c m.client →
      IsOwn S c (goes_by_ticks w m).member.client
  ticked-own w m is = wrote-own w (ticks_due m) (ticks_first m) is

  pub acts-same : (m : MemberState) → IsOwn S c m.client → acts own m ≡ acts b m
  unfolding acts
  acts-same m is =
      let shape = m.client.shape in
      let v = words_of shape own in
      let w = words_of shape b in
      let first : ActedMember = goes_ahead w m in
      let second : ActedMember = followed_by first (goes_by_ticks w) in
      let first-is = went-own w m is in
      let second-is = ticked-own w first.member first-is in
      ap (λ (t : ActedMember). followed_by (followed_by t (goes_by_ticks v)) (asks_if_due own))
      (wrote-same shape (ahead_due m) (ahead_first m) is.shape_is refl is)
      ∙ ap (λ (t : ActedMember). followed_by (behind first.packets t) (asks_if_due own))
      (wrote-same shape (ticks_due first.member) (ticks_first first.member) is.shape_is
      (first-is.shape_is ∙ sym is.shape_is) first-is)
      ∙ ap (λ (t : ActedMember). behind second.packets t) (due-same second.member second-is)

  pub acts-own : (m : MemberState) → IsOwn S c m.client → IsOwn S c (acts b m).member.client
  unfolding acts
  acts-own m is =
      let w = words_of m.client.shape b in
      let first : ActedMember = goes_ahead w m in
      let second : ActedMember = followed_by first (goes_by_ticks w) in
      due-own second.member (ticked-own w first.member (went-own w m is))
