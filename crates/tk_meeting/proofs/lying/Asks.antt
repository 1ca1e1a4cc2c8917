-- Members that stand alike ask the same of each server to which their reads show the same.
use Rattle.tk_meeting.proofs.Terms.{◌≡◌, ℕ, ◌≤◌, ◌<◌, List, [], ◌∷◌, cond, Bool, true, false, Option, ◌∙◌, refl, ap}
use Rattle.tk_meeting.proofs.Terms.{sym, arith, subst, ltb-true, ◌≢◌, and_parts, range_with_len, is_none, nat_lt, ◌&&◌}
use Rattle.tk_meeting.proofs.Terms.{nat_le, turn_count, Shape, WordBook, words_of, read_frame, ReadFrame, phases_over}
use Rattle.tk_meeting.proofs.Terms.{Script, pair_for, frame_for, target_over, Target, map-map, Pairs, packets_from}
use Rattle.tk_meeting.proofs.Terms.{may_ask, asks, asks_if_due, unmoved, epoch_due, filter_of, marks_at, MemberState}
use Rattle.tk_meeting.proofs.Terms.{known_to, Hidden, frames_for, stand, Stand}
use Rattle.tk_meeting.proofs.members.Packets.{own-frame}
use Rattle.tk_meeting.proofs.lying.Books.{IsOf, ShowAlike}
use Rattle.tk_meeting.proofs.shown.Steps.{asks_due, none-shown}

-- what a member that asks now asks for
abbrev target_now : WordBook → MemberState → Option Target
target_now b m =
    let shape = m.client.shape in
    let epoch = epoch_due shape m.asked in
    target_over (words_of shape b) (filter_of shape (marks_at shape m.told epoch)) epoch m.client

-- the frame of its read for server j
frame-asked : (b : WordBook) (m : MemberState) (j : ℕ) → 1 ≤ j → j ≤ m.client.shape.servers →
    let shape = m.client.shape in
    let pair = pair_for (words_of shape b) m.asked m.client.number (target_now b m) in
    frames_for j (asks b m).packets
    ≡ read_frame (frame_for shape b m.asked m.client.number (epoch_due shape m.asked) pair j) ∷ []
frame-asked b m j low high =
    let shape = m.client.shape in
    let pair = pair_for (words_of shape b) m.asked m.client.number (target_now b m) in
    let frame : ℕ → ReadFrame = frame_for shape b m.asked m.client.number (epoch_due shape m.asked) pair in
    ap (λ (fs : List (List ℕ)). frames_for j (packets_from 1 fs))
    (map-map read_frame frame (range_with_len 1 shape.servers))
    ∙ own-frame (λ k. read_frame (frame k)) 1 shape.servers j low (omega (arith, high))

-- where its read is for these buckets
frame-for : (S : Script) (b : WordBook) (pairs : Pairs) (c : ℕ) (m : MemberState) → m.client.shape ≡ S.shape →
    m.client.number ≡ c → (j : ℕ) → 1 ≤ j → j ≤ S.shape.servers →
    IsOf S.shape b pairs c (asks b m).member.client.read →
    frames_for j (asks b m).packets
    ≡ read_frame (frame_for S.shape b m.asked c (phases_over S.shape m.asked) (pairs m.asked c) j) ∷ []
frame-for S b pairs c m shape number j low high is =
    frame-asked b m j low (subst (λ (k : Shape). j ≤ k.servers) (sym shape) high)
    ∙ (λ i. read_frame (frame_for (shape i) b m.asked (number i) (epoch_due (shape i) m.asked)
    (pair_for (words_of (shape i) b) m.asked (number i) (target_now b m)) j) ∷ [])
    ∙ ap (λ (p : ℕ × ℕ). read_frame (frame_for S.shape b m.asked c (phases_over S.shape m.asked) p j) ∷ []) is

module _ (A B : Script) (h : Hidden) (a b : WordBook) (pairs others : Pairs)
    (show : ShowAlike A B h a b pairs others) (c : ℕ) (client : c < A.shape.clients) (m n : MemberState)
    (shape : m.client.shape ≡ A.shape) (number : m.client.number ≡ c)
    (other_shape : n.client.shape ≡ B.shape) (other_number : n.client.number ≡ c)
    (within : m.written ≤ turn_count A.shape) (same : stand m ≡ stand n) where
  asked_same : m.asked ≡ n.asked
  asked_same = ap (λ (s : Stand). s.asked) same

  frames-asked : (j : ℕ) → 1 ≤ j → j ≤ A.shape.servers → j ≢ h.server → m.asked < turn_count A.shape →
      IsOf A.shape a pairs c (asks a m).member.client.read →
      IsOf B.shape b others c (asks b n).member.client.read →
      frames_for j (asks a m).packets ≡ frames_for j (asks b n).packets
  frames-asked j low high differ turn is other_is =
      let frame = λ (g e : ℕ). read_frame (frame_for B.shape b g c e (others g c) j) ∷ [] in
      frame-for A a pairs c m shape number j low high is
      ∙ ap (λ (r : ReadFrame). read_frame r ∷ [])
      (show.reads m.asked c (phases_over A.shape m.asked) j turn client low high differ)
      ∙ ap (λ (k : Shape). frame m.asked (phases_over k m.asked)) show.one_shape
      ∙ ap (λ (g : ℕ). frame g (phases_over B.shape g)) asked_same
      ∙ sym (frame-for B b others c n other_shape other_number j low
      (subst (λ (k : Shape). j ≤ k.servers) show.one_shape high) other_is)

  asks-either : (t : Bool) (j : ℕ) → (t ≡ true → m.asked < turn_count A.shape) → 1 ≤ j → j ≤ A.shape.servers →
      j ≢ h.server → IsOf A.shape a pairs c (cond t (asks a m) (unmoved m)).member.client.read →
      IsOf B.shape b others c (cond t (asks b n) (unmoved n)).member.client.read →
      frames_for j (cond t (asks a m) (unmoved m)).packets ≡ frames_for j (cond t (asks b n) (unmoved n)).packets
  asks-either true j turn low high differ is other_is = frames-asked j low high differ (turn refl) is other_is
  asks-either false j turn low high differ is other_is = refl

  may-same : may_ask m ≡ may_ask n
  may-same = may m ∙ ap asks_due same ∙ sym (may n)
    where
      may : (x : MemberState) → may_ask x ≡ asks_due (stand x)
      may x =
          ap (λ (t : Bool). nat_lt x.asked x.written && t && nat_le (epoch_due x.client.shape x.asked) (known_to x))
          (sym (none-shown x.client.read))

  due : may_ask m ≡ true → m.asked < turn_count A.shape
  due is =
      let known = nat_le (epoch_due m.client.shape m.asked) (known_to m) in
      let both = and_parts (nat_lt m.asked m.written && is_none m.client.read) known is in
      let low : m.asked < m.written =
      ltb-true m.asked m.written (and_parts (nat_lt m.asked m.written) (is_none m.client.read) both.0).0
      in
      omega (arith, low, within)

  pub asks-alike : (j : ℕ) → 1 ≤ j → j ≤ A.shape.servers → j ≢ h.server →
      IsOf A.shape a pairs c (asks_if_due a m).member.client.read →
      IsOf B.shape b others c (asks_if_due b n).member.client.read →
      frames_for j (asks_if_due a m).packets ≡ frames_for j (asks_if_due b n).packets
  asks-alike j low high differ is other_is =
      let others_now : Bool → Type 0 = λ t. IsOf B.shape b others c (cond t (asks b n) (unmoved n)).member.client.read in
      asks-either (may_ask m) j due low high differ is (subst others_now (sym may-same) other_is)
      ∙ ap (λ (t : Bool). frames_for j (cond t (asks b n) (unmoved n)).packets) may-same
