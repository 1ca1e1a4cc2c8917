-- What a member writes in the turns that come is what the serial run has it write.
use Rattle.tk_meeting.proofs.Terms.{◌≡◌, ℕ, ◌≤◌, ◌<◌, List, [], ◌∷◌, map, ◌+◌, ◌==◌, cond, ◌++◌, Bool, true, false}
use Rattle.tk_meeting.proofs.Terms.{replicate, filter, ◌∙◌, refl, ap, sym, zero, suc, arith, subst, eq-eqb, ap₂, ne_eqb}
use Rattle.tk_meeting.proofs.Terms.{add-one, turn_count, WordBook, words_of, write_frame, WriteFrame, writer_of, Script}
use Rattle.tk_meeting.proofs.Terms.{write_of, Writing, with_text, first_waiting, after_write, queues-send, write_at}
use Rattle.tk_meeting.proofs.Terms.{writing_before, with_says, says_in, writing_said, PacketView, ActedMember, behind, wrote}
use Rattle.tk_meeting.proofs.Terms.{packets_from, write_packets, after_turn, MemberState, sayings, saying_of, Saying}
use Rattle.tk_meeting.proofs.Terms.{for_peer, frames_for}
use Rattle.tk_script.specs.declared.say.Say.{Say}
use Rattle.tk_meeting.proofs.Canonical.{write_in, with_sayings}
use Rattle.tk_meeting.proofs.Pace.{Pace, Kind, Wrote}
use Rattle.tk_meeting.proofs.Standing.{IsForetold, said_on, frames_of}
use Rattle.tk_meeting.proofs.members.Members.{member_at, all-same-range}
use Rattle.tk_meeting.proofs.members.Packets.{frames-append, peer-append, none-below, own-frame}

-- ---- what is said in a turn

said-texts : (S : Script) (c : ℕ) (ys : List Say) (w : Writing) →
    with_sayings (map saying_of (filter (λ (y : Say). writer_of S y.log == c) ys)) w
    ≡ with_says S c ys w
unfolding with_sayings with_says
said-texts S c [] w = refl
said-texts S c (y ∷ ys) w =
    let rest = filter (λ (z : Say). writer_of S z.log == c) ys in
    elim (writer_of S y.log == c) as (λ b. with_sayings (map saying_of (cond b (y ∷ rest) rest)) w
    ≡ with_says S c ys (cond b (with_text y.log y.text w) w)) [
      | true ↦ said-texts S c ys (with_text y.log y.text w)
      | false ↦ said-texts S c ys w
    ]

pub said-turn : (S : Script) (c g : ℕ) →
    with_sayings (sayings S c g) (writing_before S c g) ≡ writing_said S c g
said-turn S c g = said-texts S c (says_in S g) (writing_before S c g)

turn-after : (S : Script) (c g : ℕ) → after_write (writing_said S c g) ≡ writing_before S c (suc g)
unfolding writing_before
turn-after S c g = refl

-- after the turn's write the client has to write what it has before the next turn
pub turn-written : (S : Script) (c g : ℕ) →
    after_write (with_sayings (sayings S c g) (writing_before S c g)) ≡ writing_before S c (g + 1)
turn-written S c g =
    ap after_write (said-turn S c g) ∙ turn-after S c g ∙ ap (writing_before S c) (sym (add-one g))

-- and the write is the serial run's
pub turn-write : (S : Script) (b : WordBook) (c g : ℕ) → g < turn_count S.shape →
    write_of (words_of S.shape b) g c
    (first_waiting (with_sayings (sayings S c g) (writing_before S c g)))
    ≡ write_in S b c g
unfolding write_at
turn-write S b c g low =
    ap (λ w. write_of (words_of S.shape b) g c (first_waiting w)) (said-turn S c g)
    ∙ ap (write_of (words_of S.shape b) g c) (queues-send.sends S c g low)

-- ---- one turn

-- the packets of the write of a turn, and of several turns
abbrev pub packets_in : Script → WordBook → ℕ → ℕ → List PacketView
packets_in S b c g = packets_from 1 (replicate S.shape.servers (write_frame (write_in S b c g)))

abbrev pub packets_on : Script → WordBook → ℕ → ℕ → ℕ → List PacketView
packets_on S b c g zero = []
packets_on S b c g (suc n) = packets_in S b c g ++ packets_on S b c (g + 1) n

-- what client c has to write before turn g, where this is said for it
abbrev pub queue : Script → ℕ → ℕ → List Saying → Writing
queue S c g saids = with_sayings saids (writing_before S c g)

-- a member that has that to write, and wrote in so many turns
abbrev pub with_writing : MemberState → Writing → ℕ → MemberState
with_writing m writing k = record m { client = record m.client { writing = writing }; written = k }

abbrev pub turned_with : MemberState → Writing → ℕ → List PacketView → ActedMember
turned_with m writing k packets = record { member = with_writing m writing k; packets = packets }

-- ---- several turns

pub nothing-said : (g n : ℕ) → said_on g n [] ≡ []
nothing-said g n = either-way (g == n) []
  where
    either-way : (b : Bool) (ys : List Saying) → cond b ys ys ≡ ys
    either-way true ys = refl
    either-way false ys = refl

pub said-later : (g n : ℕ) (saids : List Saying) → g < n → said_on g n saids ≡ []
said-later g n saids low = ap (λ b. cond b saids []) (ne_eqb g n (λ e. omega (arith, low, e)))

pub said-still : (g n : ℕ) (saids : List Saying) → g ≡ n → said_on g n saids ≡ saids
said-still g n saids e = ap (λ b. cond b saids []) (eq-eqb g n e)

-- what is foretold for a turn is for the next one
foretold-next : (S : Script) (c g n : ℕ) (saids : List Saying) → IsForetold S c g n saids →
    IsForetold S c (g + 1) n []
foretold-next S c g n saids told =
    record {
      here = λ low. sym (told.behind (g + 1) (omega arith) low);
      behind = λ k above low. told.behind k (omega (arith, above)) low;
    }

module _ (S : Script) (b : WordBook) (c : ℕ) (m : MemberState) (shape : m.client.shape ≡ S.shape)
    (number : m.client.number ≡ c) where
  packets-one : (g : ℕ) (saids : List Saying) → g < turn_count S.shape → saids ≡ sayings S c g →
      write_packets (words_of S.shape b) (with_writing m (queue S c g saids) g) ≡ packets_in S b c g
  packets-one g saids low here =
      let w = words_of S.shape b in
      (λ i. packets_from 1 (replicate (shape i).servers
      (write_frame (write_of w g (number i) (first_waiting (queue S c g (here i)))))))
      ∙ ap (λ (x : WriteFrame). packets_from 1 (replicate S.shape.servers (write_frame x)))
      (turn-write S b c g low)

  after-one : (g : ℕ) (saids : List Saying) → saids ≡ sayings S c g →
      after_turn (with_writing m (queue S c g saids) g) ≡ with_writing m (queue S c (g + 1) []) (g + 1)
  unfolding with_sayings
  after-one g saids here =
      ap (λ (w : Writing). with_writing m w (g + 1))
      (ap (λ (ys : List Saying). after_write (queue S c g ys)) here ∙ turn-written S c g)

  -- any member writes so in n turns
  pub wrote-so : (n g : ℕ) (saids : List Saying) → g + n ≤ turn_count S.shape →
      IsForetold S c g (g + n) saids →
      wrote (words_of S.shape b) n (with_writing m (queue S c g saids) g)
      ≡ turned_with m (queue S c (g + n) (said_on g (g + n) saids)) (g + n) (packets_on S b c g n)
  unfolding wrote
  wrote-so zero g saids low told =
      let same : g ≡ g + 0 = omega arith in
      let said = said-still g (g + 0) saids same in
      ap₂ (λ (k : ℕ) (ys : List Saying). turned_with m (queue S c k ys) k []) same (sym said)
  wrote-so (suc n) g saids low told =
      let w = words_of S.shape b in
      let here : saids ≡ sayings S c g = told.here (omega arith) in
      let end : g + 1 + n ≡ g + suc n = omega arith in
      let next : IsForetold S c (g + 1) (g + 1 + n) [] =
      subst (λ (k : ℕ). IsForetold S c (g + 1) k []) (sym end) (foretold-next S c g (g + suc n) saids told)
      in
      let said : said_on (g + 1) (g + 1 + n) [] ≡ said_on g (g + suc n) saids =
      nothing-said (g + 1) (g + 1 + n) ∙ sym (said-later g (g + suc n) saids (omega arith))
      in
      let rest = packets_on S b c (g + 1) n in
      ap₂ (λ (ps : List PacketView) (x : MemberState). behind ps (wrote w n x))
      (packets-one g saids (omega (arith, low)) here) (after-one g saids here)
      ∙ ap (behind (packets_in S b c g)) (wrote-so n (g + 1) [] (omega (arith, low)) next)
      ∙ ap₂ (λ (k : ℕ) (ys : List Saying). turned_with m (queue S c k ys) k (packets_in S b c g ++ rest)) end
      said

-- ---- a member at a pace

abbrev pub turned_at : Script → WordBook → ℕ → Pace → List Saying → List PacketView → ActedMember
turned_at S b c p saids packets = record { member = member_at S b c p saids; packets = packets }

-- ---- frame by frame

to-each : (S : Script) (b : WordBook) (c g j : ℕ) → 1 ≤ j → j ≤ S.shape.servers →
    frames_for j (packets_in S b c g) ≡ write_frame (write_in S b c g) ∷ []
to-each S b c g j low high =
    let frame = write_frame (write_in S b c g) in
    ap (λ fs. frames_for j (packets_from 1 fs))
    (sym (all-same-range (λ (k : ℕ). frame) frame (λ k. refl) 1 S.shape.servers))
    ∙ own-frame (λ (k : ℕ). frame) 1 S.shape.servers j low (omega (arith, high))

pub frames-on : (S : Script) (b : WordBook) (c j g k n : ℕ) → 1 ≤ j → j ≤ S.shape.servers →
    frames_for j (packets_on S b c g n) ≡ frames_of S b c j g k (replicate n Wrote)
unfolding frames_of
frames-on S b c j g k zero low high = refl
frames-on S b c j g k (suc n) low high =
    frames-append j (packets_in S b c g) (packets_on S b c (g + 1) n)
    ∙ ap₂ (λ xs ys. xs ++ ys) (to-each S b c g j low high)
    (frames-on S b c j (g + 1) k n low high)

pub host-on : (S : Script) (b : WordBook) (c g n : ℕ) → for_peer 0 (packets_on S b c g n) ≡ []
host-on S b c g zero = refl
host-on S b c g (suc n) =
    let frames = replicate S.shape.servers (write_frame (write_in S b c g)) in
    peer-append 0 (packets_in S b c g) (packets_on S b c (g + 1) n)
    ∙ ap₂ (λ xs ys. xs ++ ys) (none-below 0 1 frames (omega arith)) (host-on S b c (g + 1) n)

-- more turns
pub packets-both : (S : Script) (b : WordBook) (c g n k : ℕ) →
    packets_on S b c g n ++ packets_on S b c (g + n) k ≡ packets_on S b c g (n + k)
packets-both S b c g zero k =
    ap₂ (λ x y. packets_on S b c x y) (omega arith) (omega arith)
packets-both S b c g (suc n) k =
    let here : g + suc n ≡ g + 1 + n = omega arith in
    let count : suc n + k ≡ suc (n + k) = omega arith in
    append-more (packets_in S b c g) (packets_on S b c (g + 1) n) (packets_on S b c (g + suc n) k)
    ∙ ap (λ x. packets_in S b c g ++ (packets_on S b c (g + 1) n ++ packets_on S b c x k)) here
    ∙ ap (λ xs. packets_in S b c g ++ xs) (packets-both S b c (g + 1) n k)
    ∙ ap (packets_on S b c g) (sym count)
  where
    append-more : (xs ys zs : List PacketView) → (xs ++ ys) ++ zs ≡ xs ++ (ys ++ zs)
    append-more [] ys zs = refl
    append-more (x ∷ xs) ys zs = ap (λ (l : List PacketView). x ∷ l) (append-more xs ys zs)

-- frames of writes, and of what comes then
pub frames-then : (S : Script) (b : WordBook) (c j g k n : ℕ) (kinds : List Kind) →
    frames_of S b c j g k (replicate n Wrote ++ kinds)
    ≡ frames_of S b c j g k (replicate n Wrote) ++ frames_of S b c j (g + n) k kinds
unfolding frames_of
frames-then S b c j g k zero kinds = ap (λ x. frames_of S b c j x k kinds) (omega arith)
frames-then S b c j g k (suc n) kinds =
    let next : g + 1 + n ≡ g + suc n = omega arith in
    let frame = write_frame (write_in S b c g) in
    ap (λ xs. frame ∷ xs) (frames-then S b c j (g + 1) k n kinds)
    ∙ ap (λ x. frame ∷ (frames_of S b c j (g + 1) k (replicate n Wrote) ++ frames_of S b c j x k kinds))
    next
