-- A server takes a client's next frame.
use Rattle.tk_meeting.proofs.Terms.{◌≡◌, ℕ, ◌≤◌, ◌<◌, List, [], ◌∷◌, map, ◌+◌, ◌==◌, cond, ◌++◌, ◌-◌, Bool, true, ◌∙◌}
use Rattle.tk_meeting.proofs.Terms.{refl, ap, sym, arith, subst, append-nil, lt-ltb, le-leb, eq-eqb, append_assoc, ap₂}
use Rattle.tk_meeting.proofs.Terms.{ne_eqb, eqb-false, ◌&&◌, WordBook, Script, PacketView, seats_next, answers_next}
use Rattle.tk_meeting.proofs.Terms.{empty_seats, SeatsAndPackets, step_on, Up, is_client, is_server, happens, comes_up, changed}
use Rattle.tk_meeting.proofs.Terms.{frames_for, Meeting, server_went, seats_from}
use Rattle.tk_serve.specs.Steps.{step}
use Rattle.tk_meeting.proofs.courses.Picks.{at-place, pick}
use Rattle.tk_meeting.proofs.members.Packets.{frames-append}
use Rattle.tk_meeting.proofs.programs.Moments.{state-one, sent-one}
use Rattle.tk_meeting.proofs.programs.Doings.{one_more}
use Rattle.tk_meeting.proofs.programs.Standing.{IsAt, sent_of, served_of}

abbrev bytes_of : PacketView → List ℕ
bytes_of p = p.bytes

-- the frame of a packet is its peer's alone
pub frame-own : (j : ℕ) (p : PacketView) → p.peer ≡ j → frames_for j (p ∷ []) ≡ p.bytes ∷ []
frame-own j p same = ap (λ (b : Bool). map bytes_of (cond b (p ∷ []) [])) (eq-eqb p.peer j same)

pub frame-other : (j : ℕ) (p : PacketView) → (p.peer ≡ j → ⊥) → frames_for j (p ∷ []) ≡ []
frame-other j p other = ap (λ (b : Bool). map bytes_of (cond b (p ∷ []) [])) (ne_eqb p.peer j other)

pub there-own : (j : ℕ) (ps : List PacketView) (p : PacketView) (rest : List (List ℕ)) → p.peer ≡ j →
    frames_for j (ps ++ p ∷ []) ++ rest ≡ frames_for j ps ++ p.bytes ∷ rest
there-own j ps p rest same =
    ap (λ fs. fs ++ rest)
    (frames-append j ps (p ∷ []) ∙ ap (λ fs. frames_for j ps ++ fs) (frame-own j p same))
    ∙ append_assoc (frames_for j ps) (p.bytes ∷ []) rest

pub there-other : (j : ℕ) (ps : List PacketView) (p : PacketView) → (p.peer ≡ j → ⊥) →
    frames_for j (ps ++ p ∷ []) ≡ frames_for j ps
there-other j ps p other =
    frames-append j ps (p ∷ []) ∙ ap (λ fs. frames_for j ps ++ fs) (frame-other j p other)
    ∙ append-nil (frames_for j ps)

-- When the next frame on a link comes, what came over each link and what is on its way stay the same together. Links go
-- from senders, each with its peer number, to takers.
pub link-same : (key : ℕ → ℕ) (sender taker : ℕ) (p : PacketView) (rest : List (List ℕ)) (took : ℕ → List PacketView)
    (way : ℕ → ℕ → List (List ℕ)) → ((s : ℕ) → p.peer ≡ key s → s ≡ sender) → p.peer ≡ key sender →
    way sender taker ≡ p.bytes ∷ rest → (s t : ℕ) →
    frames_for (key s) (one_more taker p took t) ++ changed sender (changed taker rest (way sender)) way s t
    ≡ frames_for (key s) (took t) ++ way s t
link-same key sender taker p rest took way alone peer comes s t =
    at-place (λ k a.
    frames_for (key k) (one_more taker p took t) ++ cond a (changed taker rest (way sender)) (way k) t
    ≡ frames_for (key k) (took t) ++ way k t) sender s mine
    (λ apart.
    at-place (λ k b.
    frames_for (key s) (cond b (took taker ++ p ∷ []) (took k)) ++ way s k ≡ frames_for (key s) (took k) ++ way s k)
    taker t
    (ap (λ fs. fs ++ way s taker)
    (there-other (key s) (took taker) p (λ is. eqb-false s sender apart (alone s is)))) (λ _. refl))
  where
    mine : frames_for (key sender) (one_more taker p took t) ++ changed taker rest (way sender) t
        ≡ frames_for (key sender) (took t) ++ way sender t
    mine =
        at-place (λ k b.
        frames_for (key sender) (cond b (took taker ++ p ∷ []) (took k)) ++ cond b rest (way sender k)
        ≡ frames_for (key sender) (took k) ++ way sender k) taker t
        (there-own (key sender) (took taker) p rest peer
        ∙ ap (λ fs. frames_for (key sender) (took taker) ++ fs) (sym comes)) (λ _. refl)

pub is-client : (S : Script) (c : ℕ) → c < S.shape.clients → is_client S.shape c ≡ true
is-client S c low = lt-ltb c S.shape.clients low

pub is-server : (S : Script) (j : ℕ) → 1 ≤ j → j ≤ S.shape.servers → is_server S.shape j ≡ true
is-server S j one most =
    ap₂ (λ (a b : Bool). a && b) (lt-ltb 0 j (omega (arith, one))) (le-leb j S.shape.servers most)

module _ (S : Script) (books : ℕ → WordBook) (clients servers : ℕ → List PacketView) (m : Meeting)
    (at : IsAt S books clients servers m) (c j : ℕ) (low : c < S.shape.clients) (one : 1 ≤ j)
    (most : j ≤ S.shape.servers) (p : PacketView) (peer : p.peer ≡ c + 1) (rest : List (List ℕ)) where
  abbrev now : ℕ → List PacketView
  now = one_more j p servers

  abbrev seats_then : SeatsAndPackets
  seats_then = step S.shape (m.seats j) c p.bytes

  abbrev then : Meeting
  then =
      server_went (record m { up = changed c (changed j rest (m.up c)) m.up }) j seats_then

  steps-on : seats_then ≡ step_on S.shape (seats_from S.shape (servers j)) p
  steps-on =
      let client : c ≡ p.peer - 1 = omega (arith, peer) in
      ap₂ (λ seats n. step S.shape seats n p.bytes) (at.seats j one most) client

  seats-are : (i : ℕ) → 1 ≤ i → i ≤ S.shape.servers → then.seats i ≡ seats_from S.shape (now i)
  seats-are i first last =
      pick (λ b. cond b seats_then.seats (m.seats i) ≡ seats_from S.shape (cond b (servers j ++ p ∷ []) (servers i)))
      (i == j)
      (λ _. ap (λ (s : SeatsAndPackets). s.seats) steps-on
      ∙ sym (state-one (seats_next S.shape) (answers_next S.shape) (empty_seats S.shape) (servers j) p))
      (λ _. at.seats i first last)

  down-is : (i d : ℕ) → 1 ≤ i → i ≤ S.shape.servers → d < S.shape.clients →
      frames_for i (clients d) ++ then.down i d ≡ frames_for (d + 1) (served_of S (now i))
  down-is i d first last within =
      at-place (λ k b.
      frames_for k (clients d)
      ++ (cond b (λ k. m.down j k ++ frames_for (k + 1) seats_then.packets) (m.down k)) d
      ≡ frames_for (d + 1) (served_of S (cond b (servers j ++ p ∷ []) (servers k)))) j i here
      (λ _. at.down i d first last within)
    where
      here : frames_for j (clients d) ++ (m.down j d ++ frames_for (d + 1) seats_then.packets)
          ≡ frames_for (d + 1) (served_of S (servers j ++ p ∷ []))
      here =
          sym (append_assoc (frames_for j (clients d)) (m.down j d) (frames_for (d + 1) seats_then.packets))
          ∙ ap₂ (λ (xs ys : List (List ℕ)). xs ++ ys) (at.down j d one most within)
          (ap (λ (s : SeatsAndPackets). frames_for (d + 1) s.packets) steps-on)
          ∙ sym (frames-append (d + 1) (served_of S (servers j))
          (answers_next S.shape (seats_from S.shape (servers j)) p))
          ∙ ap (frames_for (d + 1))
          (sym (sent-one (seats_next S.shape) (answers_next S.shape) (empty_seats S.shape) (servers j) p))

  up-is : m.up c j ≡ p.bytes ∷ rest → (d i : ℕ) → d < S.shape.clients → 1 ≤ i → i ≤ S.shape.servers →
      frames_for (d + 1) (now i) ++ then.up d i ≡ frames_for i (sent_of S books d (clients d))
  up-is comes d i within first last =
      link-same (λ k. k + 1) c j p rest servers m.up
      (λ k is. let named : p.peer ≡ k + 1 = is in omega (arith, peer, named)) peer comes d i
      ∙ at.up d i within first last

  pub server-steps : m.up c j ≡ p.bytes ∷ rest →
      IsAt S books clients now (happens S.shape books m (Up c j))
  unfolding happens
  server-steps comes =
      let next : happens S.shape books m (Up c j) ≡ then =
      ap₂ (λ (a b : Bool). cond (a && b) (comes_up S.shape m c j (m.up c j)) m) (is-client S c low)
      (is-server S j one most)
      ∙ ap (comes_up S.shape m c j) comes
      in
      subst (λ (n : Meeting). IsAt S books clients now n) (sym next) (record {
        members = at.members;
        going = at.going;
        told = at.told;
        seats = seats-are;
        up = up-is comes;
        down = down-is;
      })
