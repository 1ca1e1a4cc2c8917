-- Programs whose streams agree are some meeting: an event for each packet that is taken.
use Rattle.tk_meeting.proofs.Terms.{◌≡◌, ℕ, ◌≤◌, ◌<◌, List, [], ◌∷◌, length, ◌+◌, cond, ◌++◌, Some, None, ◌∙◌, refl, ap}
use Rattle.tk_meeting.proofs.Terms.{sym, subst, append-nil, inl, inr, append_assoc, WordBook, Script, Took, Put}
use Rattle.tk_meeting.proofs.Terms.{PacketView, after-is, Seat, seat_of, empty_seats, seats_after, word_in, HostWord}
use Rattle.tk_meeting.proofs.Terms.{Say, Tick, Ahead, Has, Event, Said, Ticked, WentAhead, Greeted, Up, Down, met}
use Rattle.tk_meeting.proofs.Terms.{happens, after_events, taken_of, for_peer, frames_for, Meeting, opening}
use Rattle.tk_meeting.proofs.Terms.{first_member, Doing, OfClient, OfServer, of_client, of_server, put_in, IsFront}
use Rattle.tk_meeting.proofs.Terms.{IsNextFrame, IsFrameUp, IsFrameDown, IsHonest, MayHappen, ArePrograms, StandAsPrograms}
use Rattle.tk_meeting.proofs.Terms.{IsSomeMeeting, ProgramsMeet}
use Rattle.tk_meeting.proofs.courses.Picks.{itself}
use Rattle.tk_meeting.proofs.telling.Growing.{after-append}
use Rattle.tk_meeting.proofs.members.Packets.{peer-append, frames-append}
use Rattle.tk_meeting.proofs.programs.Moments.{last_of, front-before, taken-append}
use Rattle.tk_meeting.proofs.programs.Acting.{stands-taken, member-moment}
use Rattle.tk_meeting.proofs.programs.Answering.{server-moment}
use Rattle.tk_meeting.proofs.programs.Doings.{client-append, server-append, client_took, server_took, one_more}
use Rattle.tk_meeting.proofs.programs.Doings.{took-own, put-own, client-apart, took-served, put-served, server-apart}
use Rattle.tk_meeting.proofs.programs.Standing.{IsAt, AllTaken, taken-front, sent_of, served_of}
use Rattle.tk_meeting.proofs.programs.Serving.{server-steps}
use Rattle.tk_meeting.proofs.programs.Hearing.{said-steps, ticked-steps, ahead-steps, greeted-steps, down-steps}

-- ---- fronts

front-of_peer : (j : ℕ) (xs ys : List PacketView) → IsFront xs ys → IsFront (for_peer j xs) (for_peer j ys)
front-of_peer j xs ys front =
    record {
      rest = for_peer j front.rest;
      whole = sym (peer-append j xs front.rest) ∙ ap (for_peer j) front.whole;
    }

pub front-of_frames : (j : ℕ) (xs ys : List PacketView) → IsFront xs ys → IsFront (frames_for j xs) (frames_for j ys)
front-of_frames j xs ys front =
    record {
      rest = frames_for j front.rest;
      whole = sym (frames-append j xs front.rest) ∙ ap (frames_for j) front.whole;
    }

same-behind : {X : Type 0} (xs ys zs : List X) → xs ++ ys ≡ xs ++ zs → ys ≡ zs
same-behind [] ys zs is = is
same-behind (x ∷ xs) ys zs is = let more : xs ++ ys ≡ xs ++ zs = cc (is) in same-behind xs ys zs more

-- the next of the frames that were put, some of which were taken, is the next on its way
next-comes : (frame : List ℕ) (took put all way : List (List ℕ)) → IsNextFrame frame took put → IsFront put all →
    took ++ way ≡ all → (rest : List (List ℕ)) × (way ≡ frame ∷ rest)
next-comes frame took put all way next front whole =
    let rest = next.rest ++ front.rest in
    let is : took ++ way ≡ took ++ (frame ∷ rest) =
    whole ∙ sym front.whole ∙ ap (λ fs. fs ++ front.rest) (sym next.whole)
    ∙ append_assoc (took ++ frame ∷ []) next.rest front.rest ∙ append_assoc took (frame ∷ []) rest
    in
    (rest, same-behind took way (frame ∷ rest) is)

-- ---- one thing after the other

module _ (S : Script) (books : ℕ → WordBook) where
  -- a meeting that stands where the programs do
  pub record Stands (ds : List Doing) : Type 0 where
    pub events : List Event
    pub at : IsAt S books (client_took ds) (server_took ds) (met S books events)

  stands-by : (ds es : List Doing) (events : List Event) (clients servers : ℕ → List PacketView) →
      client_took es ≡ clients → server_took es ≡ servers → IsAt S books clients servers (met S books events) →
      Stands es
  stands-by ds es events clients servers mine theirs at =
      record {
        events = events;
        at =
            subst (λ f. IsAt S books f (server_took es) (met S books events)) (sym mine)
            (subst (λ f. IsAt S books clients f (met S books events)) (sym theirs) at);
      }

  happened : (events : List Event) (x : Event) (clients servers : ℕ → List PacketView) →
      IsAt S books clients servers (happens S.shape books (met S books events) x) →
      IsAt S books clients servers (met S books (events ++ x ∷ []))
  unfolding after_events
  happened events x clients servers at =
      subst (IsAt S books clients servers) (sym (after-append S.shape books (opening S) events (x ∷ []))) at

  first-stands : Stands []
  unfolding after_events
  first-stands =
      record {
        events = [];
        at =
            record {
              members = λ c low. refl;
              going = λ c low all. refl;
              told = λ c low. refl;
              seats = λ j one most. refl;
              up = λ c j low one most. refl;
              down = λ j c one most low. refl;
            };
      }

  module _ (ds : List Doing) (are : ArePrograms S books ds) (before after : List Doing) (d : Doing)
      (parts : ds ≡ before ++ d ∷ after) (stands : Stands before) where
    abbrev m : Meeting
    m = met S books stands.events

    client-front : (c : ℕ) → of_client c before ++ of_client c (d ∷ after) ≡ of_client c ds
    client-front c = sym (client-append c before (d ∷ after)) ∙ ap (of_client c) (sym parts)

    server-front : (j : ℕ) → of_server j before ++ of_server j (d ∷ after) ≡ of_server j ds
    server-front j = sym (server-append j before (d ∷ after)) ∙ ap (of_server j) (sym parts)

    client-puts : (c : ℕ) → c < S.shape.clients →
        IsFront (put_in (of_client c before)) (sent_of S books c (client_took before c))
    client-puts c low =
        (member-moment S (books c) c (of_client c ds) (of_client c before) (of_client c (d ∷ after))
        (are.members c low) (client-front c)).puts

    server-puts : (j : ℕ) → 1 ≤ j → j ≤ S.shape.servers →
        IsFront (put_in (of_server j before)) (served_of S (server_took before j))
    server-puts j one most =
        (server-moment S.shape (of_server j ds) (of_server j before) (of_server j (d ∷ after))
        (are.servers j one most) (server-front j)).puts

    -- ---- a member takes a packet

    module _ (c : ℕ) (p : PacketView) (is : d ≡ OfClient c (Took p)) (low : c < S.shape.clients) where
      own : of_client c (d ∷ after) ≡ Took p ∷ of_client c after
      own =
          ap (λ x. of_client c (x ∷ after)) is
          ∙ ap (λ b. cond b (Took p ∷ of_client c after) (of_client c after)) (itself c)

      going : m.ended c ≡ None
      going =
          let acts = are.members c low in
          let front : (of_client c before ++ Took p ∷ []) ++ of_client c after ≡ of_client c ds =
          append_assoc (of_client c before) (Took p ∷ []) (of_client c after)
          ∙ ap (λ xs. of_client c before ++ xs) (sym own) ∙ client-front c
          in
          let then = member-moment S (books c) c (of_client c ds) (of_client c before ++ Took p ∷ [])
          (of_client c after) acts front
          in
          let tooks : (client_took before c ++ p ∷ []) ++ then.tooks.rest ≡ acts.packets ++ last_of acts.last =
          ap (λ xs. xs ++ then.tooks.rest) (sym (taken-append (of_client c before) (Took p ∷ []))) ∙ then.tooks.whole
          in
          let first = front-before (client_took before c) p then.tooks.rest acts.packets acts.last tooks in
          let all : AllTaken (books c) (first_member S c) (client_took before c ++ first.rest) =
          subst (AllTaken (books c) (first_member S c)) (sym first.whole)
          (stands-taken (books c) (first_member S c) acts.turned acts.packets acts.stands)
          in
          stands.at.going c low (taken-front (books c) (first_member S c) (client_took before c) first.rest all)

      abbrev now : ℕ → List PacketView
      now = one_more c p (client_took before)

      stands-now : (x : Event) → IsAt S books now (server_took before) (happens S.shape books m x) →
          Stands (before ++ d ∷ [])
      stands-now x at =
          stands-by before (before ++ d ∷ []) (stands.events ++ x ∷ []) now (server_took before)
          (ap (λ e. client_took (before ++ e ∷ [])) is ∙ took-own before c p)
          (ap (λ e. server_took (before ++ e ∷ [])) is ∙ client-apart before c (Took p))
          (happened stands.events x now (server_took before) at)

      hears-word : p.peer ≡ 0 → (word : HostWord) → word_in p.bytes ≡ Some word →
          IsHonest S.shape before c word → Stands (before ++ d ∷ [])
      hears-word host (Say log text) spelled honest =
          stands-now (Said c log text)
          (said-steps S books (client_took before) (server_took before) m stands.at c low p going host log text spelled)
      hears-word host Tick spelled honest =
          stands-now (Ticked c)
          (ticked-steps S books (client_took before) (server_took before) m stands.at c low p going host spelled)
      hears-word host (Ahead turns) spelled honest =
          stands-now (WentAhead c turns)
          (ahead-steps S books (client_took before) (server_took before) m stands.at c low p going host turns spelled)
      hears-word host (Has count) spelled honest =
          let seats : seats_after S.shape (empty_seats S.shape) (server_took before honest.server)
          ≡ m.seats honest.server =
          sym (after-is S.shape (empty_seats S.shape) (server_took before honest.server))
          ∙ sym (stands.at.seats honest.server honest.one honest.most)
          in
          let few : count ≤ taken_of m c honest.server =
          subst (λ (xs : List Seat). count ≤ length (seat_of xs c).writes + length (seat_of xs c).reads) seats honest.few
          in
          stands-now (Greeted c honest.server count)
          (greeted-steps S books (client_took before) (server_took before) m stands.at c low p going host honest.server
          count honest.one honest.most few spelled)

      takes-frame : IsFrameDown S.shape before c p → Stands (before ++ d ∷ [])
      takes-frame frame =
          let puts =
          front-of_frames (c + 1) (put_in (of_server p.peer before)) (served_of S (server_took before p.peer))
          (server-puts p.peer frame.one frame.most)
          in
          let comes = next-comes p.bytes (frames_for p.peer (client_took before c))
          (frames_for (c + 1) (put_in (of_server p.peer before)))
          (frames_for (c + 1) (served_of S (server_took before p.peer))) (m.down p.peer c) frame.next puts
          (stands.at.down p.peer c frame.one frame.most low)
          in
          stands-now (Down p.peer c)
          (down-steps S books (client_took before) (server_took before) m stands.at c low p going frame.one frame.most
          comes.0 comes.1)

    -- ---- a server does

    serves-frame : (j : ℕ) (p : PacketView) → d ≡ OfServer j (Took p) → IsFrameUp S.shape before j p →
        Stands (before ++ d ∷ [])
    serves-frame j p is frame =
        let c = frame.client in
        let puts =
        front-of_frames j (put_in (of_client c before)) (sent_of S books c (client_took before c))
        (client-puts c frame.low)
        in
        let comes = next-comes p.bytes (frames_for (c + 1) (server_took before j))
        (frames_for j (put_in (of_client c before))) (frames_for j (sent_of S books c (client_took before c)))
        (m.up c j) frame.next puts (stands.at.up c j frame.low frame.one frame.most)
        in
        let now = one_more j p (server_took before) in
        stands-by before (before ++ d ∷ []) (stands.events ++ Up c j ∷ []) (client_took before) now
        (ap (λ e. client_took (before ++ e ∷ [])) is ∙ server-apart before j (Took p))
        (ap (λ e. server_took (before ++ e ∷ [])) is ∙ took-served before j p)
        (happened stands.events (Up c j) (client_took before) now
        (server-steps S books (client_took before) (server_took before) m stands.at c j frame.low frame.one frame.most p
        frame.peer comes.0 comes.1))

    stands-next : (e : Doing) → d ≡ e → MayHappen S.shape before e → Stands (before ++ d ∷ [])
    stands-next (OfClient c (Took p)) is (low, may) = elim may [
      | inl word ↦ hears-word c p is low word.host word.word word.spelled word.honest
      | inr frame ↦ takes-frame c p is low frame
    ]
    stands-next (OfClient c (Put p)) is may =
        stands-by before (before ++ d ∷ []) stands.events (client_took before) (server_took before)
        (ap (λ e. client_took (before ++ e ∷ [])) is ∙ put-own before c p)
        (ap (λ e. server_took (before ++ e ∷ [])) is ∙ client-apart before c (Put p)) stands.at
    stands-next (OfServer j (Took p)) is may = serves-frame j p is may
    stands-next (OfServer j (Put p)) is may =
        stands-by before (before ++ d ∷ []) stands.events (client_took before) (server_took before)
        (ap (λ e. client_took (before ++ e ∷ [])) is ∙ server-apart before j (Put p))
        (ap (λ e. server_took (before ++ e ∷ [])) is ∙ put-served before j p) stands.at

    pub one-stands : Stands (before ++ d ∷ [])
    one-stands = stands-next d refl (are.agree before after d parts)

  all-stand : (ds : List Doing) → ArePrograms S books ds → (before after : List Doing) → ds ≡ before ++ after →
      Stands before → Stands ds
  all-stand ds are before [] parts stands = subst Stands (sym (parts ∙ append-nil before)) stands
  all-stand ds are before (d ∷ after) parts stands =
      all-stand ds are (before ++ d ∷ []) after (parts ∙ sym (append_assoc before (d ∷ []) after))
      (one-stands ds are before after d parts stands)

  -- ---- what a meeting shows then

  shows : (ds : List Doing) → ArePrograms S books ds → (stands : Stands ds) →
      StandAsPrograms S books ds (met S books stands.events)
  shows ds are stands =
      let at = stands.at in
      let client : (c : ℕ) → c < S.shape.clients →
      IsFront (put_in (of_client c ds)) (sent_of S books c (client_took ds c)) =
      λ c low.
      (member-moment S (books c) c (of_client c ds) (of_client c ds) [] (are.members c low)
      (append-nil (of_client c ds))).puts
      in
      let server : (j : ℕ) → 1 ≤ j → j ≤ S.shape.servers →
      IsFront (put_in (of_server j ds)) (served_of S (server_took ds j)) =
      λ j one most.
      (server-moment S.shape (of_server j ds) (of_server j ds) [] (are.servers j one most)
      (append-nil (of_server j ds))).puts
      in
      record {
        members = at.members;
        seats = at.seats;
        told = λ c low.
            subst (λ all. IsFront (for_peer 0 (put_in (of_client c ds))) all) (sym (at.told c low))
            (front-of_peer 0 (put_in (of_client c ds)) (sent_of S books c (client_took ds c)) (client c low));
        up = λ c j low one most.
            subst (λ all. IsFront (frames_for j (put_in (of_client c ds))) all) (sym (at.up c j low one most))
            (front-of_frames j (put_in (of_client c ds)) (sent_of S books c (client_took ds c)) (client c low));
        down = λ j c one most low.
            subst (λ all. IsFront (frames_for (c + 1) (put_in (of_server j ds))) all)
            (sym (at.down j c one most low))
            (front-of_frames (c + 1) (put_in (of_server j ds)) (served_of S (server_took ds j)) (server j one most));
      }

  pub some-meeting : (ds : List Doing) → ArePrograms S books ds → IsSomeMeeting S books ds
  some-meeting ds are =
      let stands = all-stand ds are [] ds refl first-stands in
      record { events = stands.events; shows = shows ds are stands }

pub programs-meet : ProgramsMeet
programs-meet S books ds are = some-meeting S books ds are
