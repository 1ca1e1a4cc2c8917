-- Two members that go on alike: what they are then, and what they sent.
use Rattle.tk_meeting.proofs.Terms.{◌≡◌, ℕ, ◌≤◌, ◌<◌, List, [], map, ◌+◌, ◌++◌, replicate, ◌∙◌, refl, ap, sym, zero}
use Rattle.tk_meeting.proofs.Terms.{suc, arith, subst, ap₂, ◌≢◌, turn_count, Shape, WordBook, write_frame, WriteFrame}
use Rattle.tk_meeting.proofs.Terms.{Script, Pairs, PacketView, ActedMember, acts, packets_from, asks_if_due, MemberState}
use Rattle.tk_meeting.proofs.Terms.{Hidden, Saying, frames_for, stand, Stand}
use Rattle.tk_meeting.proofs.lying.Books.{IsOf, ShowAlike}
use Rattle.tk_meeting.proofs.telling.Foreseeing.{ForeseesOf}
use Rattle.tk_meeting.proofs.members.Packets.{AreToHost, frames-append, host-alone}
use Rattle.tk_meeting.proofs.members.Writing.{packets_in, packets_on}
use Rattle.tk_meeting.proofs.shown.Steps.{gone_ahead, gone_by_ticks, acted, acts-stands, ahead_of, ticks_of}
use Rattle.tk_meeting.proofs.shown.Steps.{written_then}
use Rattle.tk_meeting.proofs.members.Acts.{Written}
use Rattle.tk_meeting.proofs.lying.Speaks.{Speaks, within_then, written-so}
use Rattle.tk_meeting.proofs.lying.Asks.{asks-alike}

module _ (A B : Script) (h : Hidden) (a b : WordBook) (pairs others : Pairs)
    (show : ShowAlike A B h a b pairs others) (c : ℕ) (client : c < A.shape.clients) where
  other_client : c < B.shape.clients
  other_client = subst (λ (k : Shape). c < k.clients) show.one_shape client

  -- the packets of their writes are the same
  packets-same : (g n : ℕ) → g + n ≤ turn_count A.shape → packets_on A a c g n ≡ packets_on B b c g n
  packets-same g zero within = refl
  packets-same g (suc n) within =
      ap₂ (λ (k : Shape) (x : WriteFrame).
      packets_from 1 (replicate k.servers (write_frame x)) ++ packets_on A a c (g + 1) n) show.one_shape
      (show.writes g c (omega (arith, within)) client)
      ∙ ap (λ (ps : List PacketView). packets_in B b c g ++ ps) (packets-same (g + 1) n (omega (arith, within)))

  module _ (m n : MemberState) (same : stand m ≡ stand n) (said other_said : ℕ → List Saying)
      (ready : Speaks A c said m) (other : Speaks B c other_said n)
      (foresees : ForeseesOf A c (acts a m).member.written said)
      (other_foresees : ForeseesOf B c (acts b n).member.written other_said) where
    one : Written A a c m (said m.written)
    one = written-so A a c client m said ready foresees

    two : Written B b c n (other_said n.written)
    two =
        written-so B b c other_client n other_said other other_foresees

    pub stands-then : stand (acts a m).member ≡ stand (acts b n).member
    stands-then = acts-stands a m ∙ ap acted same ∙ sym (acts-stands b n)

    last-same : stand one.last ≡ stand two.last
    last-same = one.stands ∙ ap (λ (s : Stand). gone_by_ticks (gone_ahead s)) same ∙ sym two.stands

    written-same : packets_on A a c m.written (ahead_of (stand m) + ticks_of (stand m))
        ≡ packets_on B b c n.written (ahead_of (stand n) + ticks_of (stand n))
    written-same =
        let within =
        within_then A a c client m said ready foresees
        in
        packets-same m.written (ahead_of (stand m) + ticks_of (stand m)) (omega (arith, within))
        ∙ ap (λ (s : Stand). packets_on B b c s.written (ahead_of s + ticks_of s)) same

    last-within : one.last.written ≤ turn_count A.shape
    last-within =
        let within =
        within_then A a c client m said ready foresees
        in
        let is : one.last.written ≡ written_then m = ap (λ (s : Stand). s.written) one.stands in
        subst (λ (k : ℕ). k ≤ turn_count A.shape) (sym is) within

    -- what both sent a server other than the hidden one
    frames-acted : (j : ℕ) → 1 ≤ j → j ≤ A.shape.servers → j ≢ h.server →
        IsOf A.shape a pairs c (acts a m).member.client.read →
        IsOf B.shape b others c (acts b n).member.client.read →
        frames_for j (acts a m).packets ≡ frames_for j (acts b n).packets
    frames-acted j low high differ is other_is =
        let first = packets_on A a c m.written (ahead_of (stand m) + ticks_of (stand m)) in
        let second = packets_on B b c n.written (ahead_of (stand n) + ticks_of (stand n)) in
        let asked =
        asks-alike A B h a b pairs others show c client one.last two.last one.shape one.number two.shape two.number
        last-within last-same j low high differ
        (subst (λ (t : ActedMember). IsOf A.shape a pairs c t.member.client.read) one.acts_are is)
        (subst (λ (t : ActedMember). IsOf B.shape b others c t.member.client.read) two.acts_are other_is)
        in
        ap (λ (t : ActedMember). frames_for j t.packets) one.acts_are
        ∙ frames-append j first (asks_if_due a one.last).packets
        ∙ ap₂ (λ (xs : List PacketView) (ys : List (List ℕ)). frames_for j xs ++ ys) written-same asked
        ∙ sym (frames-append j second (asks_if_due b two.last).packets)
        ∙ sym (ap (λ (t : ActedMember). frames_for j t.packets) two.acts_are)

    -- beside what their hosts are told
    pub frames-then : (told other_told : List PacketView) → AreToHost told → AreToHost other_told → (j : ℕ) →
        1 ≤ j → j ≤ A.shape.servers → j ≢ h.server →
        IsOf A.shape a pairs c (acts a m).member.client.read →
        IsOf B.shape b others c (acts b n).member.client.read →
        frames_for j (told ++ (acts a m).packets) ≡ frames_for j (other_told ++ (acts b n).packets)
    frames-then told other_told host other_host j low high differ is other_is =
        let bytes = λ (ps : List PacketView). frames_for j ps in
        frames-append j told (acts a m).packets
        ∙ ap (λ (xs : List (List ℕ)). xs ++ bytes (acts a m).packets)
        (none-for told j low host)
        ∙ frames-acted j low high differ is other_is
        ∙ ap (λ (xs : List (List ℕ)). xs ++ bytes (acts b n).packets) (sym (none-for other_told j low other_host))
        ∙ sym (frames-append j other_told (acts b n).packets)
      where
        none-for : (told : List PacketView) (j : ℕ) → 1 ≤ j → AreToHost told → frames_for j told ≡ []
        none-for told j low host =
            ap (map (λ (p : PacketView). p.bytes)) (host-alone told j low host)
