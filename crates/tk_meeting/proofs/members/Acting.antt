-- What a member does when it acts is what is due at its pace.
use Rattle.tk_meeting.proofs.Terms.{◌≡◌, ℕ, ◌≤◌, ◌<◌, min, List, [], map, ◌+◌, ◌++◌, ◌-◌, ◌*◌, Bool, filter, ◌∙◌, refl}
use Rattle.tk_meeting.proofs.Terms.{ap, sym, arith, subst, append-nil, ap₂, turn_count, WordBook, words_of, Script}
use Rattle.tk_meeting.proofs.Terms.{PacketView, ActedMember, acts, behind, asks_if_due, goes_ahead, goes_by_ticks}
use Rattle.tk_meeting.proofs.Terms.{followed_by, MemberState, tells_and_acts, tells_read, Saying, for_peer, frames_for}
use Rattle.tk_meeting.proofs.Terms.{stand}
use Rattle.tk_meeting.proofs.Pace.{Pace, IsPace, acted, asks_now, count_ahead, count_ticks, gone_ahead}
use Rattle.tk_meeting.proofs.Standing.{IsAt, IsForetold, Goes, said_on, frames_of}
use Rattle.tk_meeting.proofs.members.Members.{member_at, at-is, at-from}
use Rattle.tk_meeting.proofs.members.Paces.{written_on, asked_on, acted-pace, acted-kinds, written-pace, acted-written}
use Rattle.tk_meeting.proofs.members.Packets.{AreToHost, peer-append, frames-append, host-own, host-alone}
use Rattle.tk_meeting.proofs.members.Writing.{turned_at, turned_with, queue, packets_on, frames-on, host-on}
use Rattle.tk_meeting.proofs.members.Writing.{frames-then}
use Rattle.tk_meeting.proofs.members.Acts.{both-go, said-both}
use Rattle.tk_meeting.proofs.shown.Steps.{ticks_of}
use Rattle.tk_meeting.proofs.members.Asking.{known-is, asks-go, packets_by, frames-by, host-by}

-- ---- writes

module _ (S : Script) (b : WordBook) (c : ℕ) (p : Pace) (saids : List Saying) (is : IsPace S.shape p)
  where
    abbrev ahead : ℕ
    ahead = count_ahead S.shape p

    abbrev ticking : ℕ
    ticking = count_ticks S.shape (gone_ahead S.shape p)

    abbrev last : ℕ
    last = p.written + ahead + ticking

    ticking-in : last ≤ turn_count S.shape
    ticking-in = let low : p.written + ahead ≤ turn_count S.shape = omega (arith, is.written_in) in omega (arith, low)

    writes-go : IsForetold S c p.written last saids → let w = words_of S.shape b in
        followed_by (goes_ahead w (member_at S b c p saids)) (goes_by_ticks w)
        ≡ turned_at S b c (written_on S.shape p) (said_on p.written last saids)
        (packets_on S b c p.written (ahead + ticking))
    writes-go told =
        let m = member_at S b c p saids in
        let due : ticks_of (stand m) ≡ ticking =
        ap (λ n. min p.ticks (min (turn_count S.shape) ((n + 1) * S.shape.ticks) - (p.written + ahead)))
        (known-is S b p)
        in
        let then = λ (n : ℕ).
        turned_with (record m { ahead = p.ahead - ahead; ticks = p.ticks - n })
        (queue S c (p.written + ahead + n)
        (said_on (p.written + ahead) (p.written + ahead + n) (said_on p.written (p.written + ahead) saids)))
        (p.written + ahead + n) (packets_on S b c p.written (ahead + n))
        in
        both-go S b c m saids refl refl refl
        (subst (λ n. p.written + ahead + n ≤ turn_count S.shape) (sym due) ticking-in)
        (subst (λ n. IsForetold S c p.written (p.written + ahead + n) saids) (sym due) told)
        ∙ ap then due
        ∙ ap (λ ys. turned_at S b c (written_on S.shape p) ys (packets_on S b c p.written (ahead + ticking)))
        (said-both p.written ahead ticking saids)

    -- ---- writes, and then a read

    abbrev asking : Bool
    asking = asks_now S.shape (written_on S.shape p)

    pub acts-is : c < S.shape.clients → IsForetold S c p.written last saids →
        acts b (member_at S b c p saids)
        ≡ turned_at S b c (asked_on S.shape p).pace (said_on p.written last saids)
        (packets_on S b c p.written (ahead + ticking) ++ packets_by S b c p.asked asking)
    unfolding acts
    acts-is client told =
        let q = written_on S.shape p in
        ap (λ (t : ActedMember). followed_by t (asks_if_due b)) (writes-go told)
        ∙ ap (behind (packets_on S b c p.written (ahead + ticking)))
        (asks-go S b c q (said_on p.written last saids) client (written-pace S.shape p is))

    -- the frames of all this
    frames-are : (j : ℕ) → 1 ≤ j → j ≤ S.shape.servers →
        frames_for j (packets_on S b c p.written (ahead + ticking) ++ packets_by S b c p.asked asking)
        ≡ frames_of S b c j p.written p.asked (acted S.shape p).kinds
    frames-are j low high =
        let g = p.written in
        let n = ahead + ticking in
        let kinds = (asked_on S.shape p).kinds in
        frames-append j (packets_on S b c g n) (packets_by S b c p.asked asking)
        ∙ ap₂ (λ xs ys. xs ++ ys) (frames-on S b c j g p.asked n low high)
        (frames-by S b c j (g + n) p.asked asking (written_on S.shape p) low high)
        ∙ sym (frames-then S b c j g p.asked n kinds)
        ∙ ap (frames_of S b c j g p.asked) (sym (acted-kinds S.shape p))

    -- none of which is for its host
    host-none : for_peer 0 (packets_on S b c p.written (ahead + ticking)
        ++ packets_by S b c p.asked asking) ≡ []
    host-none =
        peer-append 0 (packets_on S b c p.written (ahead + ticking)) (packets_by S b c p.asked asking)
        ∙ ap₂ (λ xs ys. xs ++ ys) (host-on S b c p.written (ahead + ticking)) (host-by S b c p.asked asking)

    last-is : last ≡ (acted S.shape p).pace.written
    last-is = let due = acted-written S.shape p in omega (arith, due)

-- A member acts as is due at its pace, whatever its host is told before.
pub acts-go : (S : Script) (b : WordBook) (c : ℕ) (p : Pace) (saids : List Saying) (m : MemberState)
    (told : List PacketView) → c < S.shape.clients → IsPace S.shape p →
    IsForetold S c p.written (acted S.shape p).pace.written saids → IsAt S b c p saids m →
    AreToHost told → Goes S b c p saids (filter tells_read told) (tells_and_acts b told m)
acts-go S b c p saids m told client is foretold at to_host =
    let last = last-is S b c p saids is in
    let known = subst (λ n. IsForetold S c p.written n saids) (sym last) foretold in
    let does = ap (acts b) (at-is at) ∙ acts-is S b c p saids is client known in
    let stands : (acts b m).member
    ≡ member_at S b c (acted S.shape p).pace (said_on p.written (acted S.shape p).pace.written saids) =
    ap (λ (t : ActedMember). t.member) does
    ∙ ap₂ (λ (q : Pace) (n : ℕ). member_at S b c q (said_on p.written n saids))
    (sym (acted-pace S.shape p)) last
    in
    record {
      turned = behind told (acts b m);
      is = refl;
      at = at-from stands;
      frames = λ j low high.
          frames-append j told (acts b m).packets
          ∙ ap₂ (λ (xs : List PacketView) (ys : List (List ℕ)). map (λ (x : PacketView). x.bytes) xs ++ ys)
          (host-alone told j low to_host)
          (ap (λ (t : ActedMember). frames_for j t.packets) does ∙ frames-are S b c p saids is j low high);
      host =
          ap (filter tells_read)
          (peer-append 0 told (acts b m).packets
          ∙ ap₂ (λ (xs ys : List PacketView). xs ++ ys) (host-own told to_host)
          (ap (λ (t : ActedMember). for_peer 0 t.packets) does ∙ host-none S b c p saids is)
          ∙ append-nil told);
    }
