-- Members to which packets come one after the other.
use Rattle.tk_meeting.proofs.Terms.{◌≡◌, ℕ, List, [], ◌∷◌, map, ◌==◌, cond, Bool, true, false, Option, Some, None}
use Rattle.tk_meeting.proofs.Terms.{Result, Ok, ◌∙◌, refl, ap, sym, ap₂, Err, is_none, ◌&&◌, fold_l, turn_count, Shape}
use Rattle.tk_meeting.proofs.Terms.{WordBook, PacketView, ActedMember, unmoved, after_packets, behind_if, after_packet}
use Rattle.tk_meeting.proofs.Terms.{MemberState, is_over, step, Fault, stand, Stand, outcome, Came, packet_shown}
use Rattle.tk_meeting.proofs.Terms.{stand_after, MembersActAlike}
use Rattle.tk_meeting.proofs.shown.Steps.{acting, none-shown, step_so, step-outcome}
use Rattle.tk_meeting.proofs.telling.Rising.{cond-has}
use Rattle.tk_meeting.proofs.scripts.Lasting.{base_of, LastsIn, step-lasts}

-- ---- one packet

over_so : Stand → Bool
over_so s =
    let turns = turn_count s.shape in
    s.written == turns && s.asked == turns && is_none s.read

kept : Result Stand Fault → Option Stand
kept (Ok s) = Some s
kept (Err fault) = None

packet_so : Option Stand → Came → Option Stand
packet_so None x = None
packet_so (Some s) x = cond (over_so s) None (kept (acting (step_so s x)))

over-shown : (m : MemberState) → is_over m ≡ over_so (stand m)
unfolding over_so
over-shown m =
    let turns = turn_count m.client.shape in
    ap (λ (t : Bool). m.written == turns && m.asked == turns && t) (sym (none-shown m.client.read))

kept-shown : (t : ActedMember) (r : Result ActedMember Fault) → stand_after (behind_if t r) ≡ kept (outcome r)
unfolding kept
kept-shown t (Ok u) = refl
kept-shown t (Err fault) = refl

-- one that takes more has this shape
abbrev IsOfShape : Shape → Option ActedMember → Type 0
IsOfShape shape None = Unit {0}
IsOfShape shape (Some t) = t.member.client.shape ≡ shape

behind-of_shape : (shape : Shape) (t : ActedMember) (m : MemberState) (r : Result ActedMember Fault) → m.client.shape ≡ shape →
    LastsIn (base_of m) r → IsOfShape shape (behind_if t r)
behind-of_shape shape t m (Ok u) has lasts = ap (λ (x : Shape × List ℕ). x.0) lasts ∙ has
behind-of_shape shape t m (Err fault) has lasts = tt

packet-of_shape : (b : WordBook) (shape : Shape) (o : Option ActedMember) (p : PacketView) → IsOfShape shape o →
    IsOfShape shape (after_packet b o p)
packet-of_shape b shape None p has = tt
packet-of_shape b shape (Some t) p has =
    cond-has (IsOfShape shape) (is_over t.member) None (behind_if t (step b t.member p)) tt
    (behind-of_shape shape t t.member (step b t.member p) has (step-lasts b t.member p))

packet-after : (b : WordBook) (shape : Shape) (o : Option ActedMember) (p : PacketView) → IsOfShape shape o →
    stand_after (after_packet b o p) ≡ packet_so (stand_after o) (packet_shown shape p)
unfolding packet_so
packet-after b shape None p has = refl
packet-after b shape (Some t) p has =
    let m = t.member in
    either (is_over m) (behind_if t (step b m p))
    ∙ ap₂ (λ (over : Bool) (o : Option Stand). cond over None o) (over-shown m)
    (kept-shown t (step b m p) ∙ ap kept (step-outcome b m p)
    ∙ ap (λ (k : Shape). kept (acting (step_so (stand m) (packet_shown k p)))) has)
  where
    either : (over : Bool) (o : Option ActedMember) → stand_after (cond over None o) ≡ cond over None (stand_after o)
    either true o = refl
    either false o = refl

-- ---- any number of packets

packets-after : (b : WordBook) (shape : Shape) (o : Option ActedMember) (ps : List PacketView) → IsOfShape shape o →
    stand_after (fold_l (after_packet b) o ps)
    ≡ fold_l packet_so (stand_after o) (map (packet_shown shape) ps)
packets-after b shape o [] has = refl
packets-after b shape o (p ∷ ps) has =
    packets-after b shape (after_packet b o p) ps (packet-of_shape b shape o p has)
    ∙ ap (λ (s : Option Stand). fold_l packet_so s (map (packet_shown shape) ps)) (packet-after b shape o p has)

pub act-alike : MembersActAlike
unfolding after_packets
act-alike a b m n same =
    record {
      one = λ p q shown. step-outcome a m p ∙ ap₂ (λ (s : Stand) (x : Came). acting (step_so s x)) same shown ∙ sym (step-outcome b n q);
      all = λ ps qs shown.
          packets-after a m.client.shape (Some (unmoved m)) ps refl
          ∙ ap₂ (λ (s : Stand) (xs : List Came). fold_l packet_so (Some s) xs) same shown
          ∙ sym (packets-after b n.client.shape (Some (unmoved n)) qs refl);
    }
