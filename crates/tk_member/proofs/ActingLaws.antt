-- What a member sends comes behind what it sent, and its shape stays.
use Rattle.std.proofs.Common.{◌≡◌, ap, sym, ◌∙◌, arith, ℕ, suc, ◌+◌, ◌-◌, ◌<◌, ◌≤◌, List, ◌++◌}
use Rattle.std.proofs.Common.{append_assoc, append-nil}
use Rattle.std.specs.Prelude.{Bool, true, false, cond, map, Option}
use Rattle.tk_shape.specs.declared.shape.Shape.{Shape}
use Rattle.tk_words.specs.Words.{WordBook, BookWords, words_of}
use Rattle.tk_frames.specs.Spelling.{read_frame}
use Rattle.tk_client.specs.declared.target.Target.{Target}
use Rattle.tk_client.specs.Asked.{asked}
use Rattle.tk_client.specs.Client.{ClientState, target_over, opened}
use Rattle.tk_packets.specs.Packets.{PacketView}
use Rattle.tk_member.specs.Members.{MemberState}
use Rattle.tk_member.specs.Acting.{ActedMember, unmoved, behind, followed_by, write_packets, after_turn, wrote}
use Rattle.tk_member.specs.Epochs.{filter_of, marks_at}
use Rattle.tk_member.specs.Acting.{packets_from, epoch_due, goes_ahead, goes_by_ticks, may_ask, asks, asks_if_due, acts}

-- packets in front of packets
pub behind-behind : (front packets : List PacketView) (t : ActedMember) →
    behind front (behind packets t) ≡ behind (front ++ packets) t
behind-behind front packets t =
    ap (λ (ps : List PacketView). record { member = t.member; packets = ps })
    (sym (append_assoc front packets t.packets))

pub behind-none : (front : List PacketView) (m : MemberState) →
    behind front (unmoved m) ≡ record { member = m; packets = front }
behind-none front m =
    ap (λ (ps : List PacketView). record { member = m; packets = ps }) (append-nil front)

-- one turn more
pub wrote-next : (w : BookWords) (front : List PacketView) (n i : ℕ) (m : MemberState) → i < n →
    behind front (wrote w (n - i) m)
    ≡ behind (front ++ write_packets w m) (wrote w (n - (i + 1)) (after_turn m))
unfolding wrote
wrote-next w front n i m low =
    let one : n - i ≡ suc (n - (i + 1)) = omega (arith, low) in
    ap (λ (k : ℕ). behind front (wrote w k m)) one
    ∙ behind-behind front (write_packets w m) (wrote w (n - (i + 1)) (after_turn m))

pub wrote-none : (w : BookWords) (front : List PacketView) (n i : ℕ) (m : MemberState) → n ≤ i →
    behind front (wrote w (n - i) m) ≡ record { member = m; packets = front }
unfolding wrote
wrote-none w front n i m past =
    let none : n - i ≡ 0 = omega (arith, past) in
    ap (λ (k : ℕ). behind front (wrote w k m)) none ∙ behind-none front m

-- acting further
pub followed-behind : (front : List PacketView) (t : ActedMember) (act : MemberState → ActedMember) →
    behind front (followed_by t act) ≡ behind (behind front t).packets (act t.member)
followed-behind front t act = behind-behind front t.packets (act t.member)

-- acting further from where it stands
acts-on : (front packets : List PacketView) (m : MemberState) (t : ActedMember) (act : MemberState → ActedMember) →
    behind front t ≡ record { member = m; packets = packets } →
    behind front (followed_by t act) ≡ behind packets (act m)
acts-on front packets m t act is =
    followed-behind front t act ∙ ap (λ (u : ActedMember). behind u.packets (act u.member)) is

-- all its writes are behind it, and it may have to ask
pub acts-writes : (b : WordBook) (front ahead ticked : List PacketView) (m one two : MemberState) →
    one.client.shape ≡ m.client.shape →
    behind front (goes_ahead (words_of m.client.shape b) m) ≡ record { member = one; packets = ahead } →
    behind ahead (goes_by_ticks (words_of one.client.shape b) one)
    ≡ record { member = two; packets = ticked } →
    behind front (acts b m) ≡ behind ticked (asks_if_due b two)
unfolding acts
acts-writes b front ahead ticked m one two same first second =
    let words = words_of m.client.shape b in
    let here : behind ahead (goes_by_ticks words one) ≡ record { member = two; packets = ticked } =
    ap (λ (s : Shape). behind ahead (goes_by_ticks (words_of s b) one)) (sym same) ∙ second
    in
    acts-on front ticked two (followed_by (goes_ahead words m) (goes_by_ticks words)) (asks_if_due b)
    (acts-on front ahead one (goes_ahead words m) (goes_by_ticks words) first ∙ here)

-- a read is due
pub acts-asks : (b : WordBook) (front : List PacketView) (m : MemberState) → may_ask m ≡ true →
    behind front (asks_if_due b m) ≡ behind front (asks b m)
acts-asks b front m due = ap (λ c. behind front (cond c (asks b m) (unmoved m))) due

-- or none
pub acts-none : (b : WordBook) (front : List PacketView) (m : MemberState) → may_ask m ≡ false →
    behind front (asks_if_due b m) ≡ record { member = m; packets = front }
acts-none b front m due =
    ap (λ c. behind front (cond c (asks b m) (unmoved m))) due ∙ behind-none front m

-- ---- a read

abbrev pub turned : MemberState → List PacketView → ActedMember
turned m packets = record { member = m; packets = packets }

pub turned-is : (m n : MemberState) (packets sent : List PacketView) → n ≡ m → sent ≡ packets →
    turned m packets ≡ turned n sent
turned-is m n packets sent member_is sent_is =
    ap (λ (x : MemberState). turned x packets) (sym member_is) ∙ ap (turned n) (sym sent_is)

-- the frames of a read over the epoch that is due
pub asks-are : (b : WordBook) (front sent : List PacketView) (m : MemberState) (epoch : ℕ)
    (marks : List Bool) (frames : List (List ℕ)) (client : ClientState) →
    epoch ≡ epoch_due m.client.shape m.asked →
    marks ≡ filter_of m.client.shape (marks_at m.client.shape m.told epoch) →
    let target = target_over (words_of m.client.shape b) marks epoch m.client in
    frames ≡ map read_frame (asked m.client.shape b m.asked m.client.number epoch target) →
    client ≡ opened m.asked epoch target m.client → sent ≡ front ++ packets_from 1 frames →
    behind front (asks b m)
    ≡ record { member = record m { client = client; asked = m.asked + 1 }; packets = sent }
asks-are b front sent m epoch marks frames client epoch_is marks_is frames_is client_is sent_is =
    let shape = m.client.shape in
    let target = λ (e : ℕ) (f : List Bool). target_over (words_of shape b) f e m.client in
    let read = λ (e : ℕ) (t : Option Target).
    map read_frame (asked shape b m.asked m.client.number e t)
    in
    let after : ClientState → MemberState = λ c. record m { client = c; asked = m.asked + 1 } in
    let whole = λ (e : ℕ) (f : List Bool). turned (after (opened m.asked e (target e f) m.client))
    (front ++ packets_from 1 (read e (target e f)))
    in
    let marked = λ (e : ℕ). filter_of shape (marks_at shape m.told e) in
    ap (λ (e : ℕ). whole e (marked e)) (sym epoch_is)
    ∙ ap (whole epoch) (sym marks_is)
    ∙ turned-is (after (opened m.asked epoch (target epoch marks) m.client)) (after client)
    (front ++ packets_from 1 (read epoch (target epoch marks))) sent
    (ap after client_is)
    (sent_is ∙ ap (λ (fs : List (List ℕ)). front ++ packets_from 1 fs) frames_is)
