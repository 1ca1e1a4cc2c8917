-- Packets are taken one after the other, and what is sent for them comes one behind the other.
use Rattle.std.proofs.Common.{◌≡◌, refl, ap, sym, ◌∙◌, subst, ℕ, ◌+◌, ◌^◌, ◌≤◌}
use Rattle.std.proofs.Common.{Bool, true, false, cond, List, [], ◌∷◌, ◌++◌}
use Rattle.std.proofs.Common.{length, take, append-nil, append_assoc, length-append, inl, inr}
use Rattle.std.specs.Prelude.{Option, Some, None, option_map, Result, Ok, Err}
use Rattle.std.specs.Simd.Lanes.{fold_l}
use Rattle.std.proofs.lemmas.Grind.{flat_map-append}
use Rattle.tk_io.specs.Content.{before_taking, emptied, gained}
use Rattle.tk_io.proofs.Offers.{before_taking-append, before_taking-nothing, gained-nothing, gained-twice}
use Rattle.tk_words.specs.Words.{WordBook}
use Rattle.tk_packets.specs.Packets.{PacketView, packet_bytes, packets_bytes}
use Rattle.tk_packets.specs.Lines.{Gone, passed, taken, dealt, exchanges}
use Rattle.tk_packets.proofs.Offers.{passed-twice, passed-nothing, front-second, state_after, exchanges-both}
use Rattle.tk_member.specs.declared.fault.Fault.{Fault}
use Rattle.tk_member.specs.declared.fault.Fault.TheVariants.{Memory, Read, Write, Cut, Long, Setup}
use Rattle.tk_member.specs.declared.fault.Fault.TheVariants.{Peer, Differ, Refused, Older}
use Rattle.tk_member.specs.Members.{MemberState, is_over}
use Rattle.tk_member.specs.Acting.{ActedMember, unmoved, behind}
use Rattle.tk_member.specs.Steps.{step}
use Rattle.tk_member.specs.Courses.{Told, IsShort, behind_if, after_packet, after_packets, Takes, IsCourse}
use Rattle.tk_member.specs.Courses.{EndsBetween, EndsAt, EndsWriting, EndsFor, TookOne}
use Rattle.tk_member.specs.Courses.{HasTaken, EndsDone, TookNone, stood_by, sent_by, member_next, sends_next, exchanged}
use Rattle.tk_member.proofs.ActingLaws.{behind-behind, behind-none}
use Rattle.tk_script.proofs.Offers.{each-append}
use Rattle.tk_member.proofs.Sequences.{front-behind}

-- ---- packets

fold-append : (b : WordBook) (o : Option ActedMember) (ps qs : List PacketView) →
    fold_l (after_packet b) o (ps ++ qs)
    ≡ fold_l (after_packet b) (fold_l (after_packet b) o ps) qs
fold-append b o [] qs = refl
fold-append b o (p ∷ ps) qs = fold-append b (after_packet b o p) ps qs

step-behind : (front : List PacketView) (u : ActedMember) (r : Result ActedMember Fault) →
    behind_if (behind front u) r ≡ option_map (behind front) (behind_if u r)
step-behind front u (Ok t) = ap Some (sym (behind-behind front u.packets t))
step-behind front u (Err e) = refl

one-behind : (b : WordBook) (front : List PacketView) (o : Option ActedMember) (p : PacketView) →
    after_packet b (option_map (behind front) o) p ≡ option_map (behind front) (after_packet b o p)
one-behind b front None p = refl
one-behind b front (Some u) p =
    elim (is_over u.member) as (λ over.
    cond over None (behind_if (behind front u) (step b u.member p))
    ≡ option_map (behind front) (cond over None (behind_if u (step b u.member p)))) [
      | true ↦ refl
      | false ↦ step-behind front u (step b u.member p)
    ]

fold-behind : (b : WordBook) (front : List PacketView) (o : Option ActedMember) (ps : List PacketView) →
    fold_l (after_packet b) (option_map (behind front) o) ps
    ≡ option_map (behind front) (fold_l (after_packet b) o ps)
fold-behind b front o [] = refl
fold-behind b front o (p ∷ ps) =
    ap (λ x. fold_l (after_packet b) x ps) (one-behind b front o p)
    ∙ fold-behind b front (after_packet b o p) ps

-- packets behind packets
both-stand : (b : WordBook) (m : MemberState) (t u : ActedMember) (ps qs : List PacketView) →
    after_packets b m ps ≡ Some t → after_packets b t.member qs ≡ Some u →
    after_packets b m (ps ++ qs) ≡ Some (behind t.packets u)
unfolding after_packets
both-stand b m t u ps qs first second =
    fold-append b (Some (unmoved m)) ps qs
    ∙ ap (λ o. fold_l (after_packet b) o qs)
    (first ∙ ap Some (sym (behind-none t.packets t.member)))
    ∙ fold-behind b t.packets (Some (unmoved t.member)) qs
    ∙ ap (option_map (behind t.packets)) second

pub takes-both : (b : WordBook) (m : MemberState) (t u : ActedMember) (left middle rest : Told) →
    Takes b m t left middle → Takes b t.member u middle rest →
    Takes b m (behind t.packets u) left rest
takes-both b m t u left middle rest first second =
    record {
      packets = first.packets ++ second.packets;
      short = each-append IsShort first.packets second.packets first.short second.short;
      stands = both-stand b m t u first.packets second.packets first.stands second.stands;
      taken =
          first.taken
          ∙ ap (before_taking (packets_bytes first.packets)) second.taken
          ∙ sym (before_taking-append (packets_bytes first.packets) (packets_bytes second.packets) rest)
          ∙ ap (λ bytes. before_taking bytes rest)
          (sym (flat_map-append packet_bytes first.packets second.packets));
    }

-- the member after packets is the one that they take it to
fold-none : (b : WordBook) (ps : List PacketView) → fold_l (after_packet b) None ps ≡ None
fold-none b [] = refl
fold-none b (p ∷ ps) = fold-none b ps

none-stands : (b : WordBook) (ps : List PacketView) (t : ActedMember) → fold_l (after_packet b) None ps ≡ Some t → ⊥
none-stands b ps t is = let none : None ≡ Some t = sym (fold-none b ps) ∙ is in absurd (cc (none))

stood-after : (b : WordBook) (u t : ActedMember) (ps : List PacketView) → fold_l (after_packet b) (Some u) ps ≡ Some t →
    state_after (member_next b) u.member ps ≡ t.member
stood-after b u t [] is = let same : u ≡ t = cc (is) in ap (λ (x : ActedMember). x.member) same
stood-after b u t (p ∷ ps) is =
    let by : (r : Result ActedMember Fault) → fold_l (after_packet b) (behind_if u r) ps ≡ Some t →
    state_after (member_next b) (stood_by u.member r) ps ≡ t.member =
    λ r. elim r as (λ x. fold_l (after_packet b) (behind_if u x) ps ≡ Some t →
    state_after (member_next b) (stood_by u.member x) ps ≡ t.member) [
      | Ok v ↦ λ it. stood-after b (behind u.packets v) t ps it
      | Err e ↦ λ it. absurd (none-stands b ps t it)
    ]
    in
    let go : (over : Bool) → fold_l (after_packet b) (cond over None (behind_if u (step b u.member p))) ps ≡ Some t →
    state_after (member_next b) (member_next b u.member p) ps ≡ t.member =
    λ over. elim over as (λ x. fold_l (after_packet b) (cond x None (behind_if u (step b u.member p))) ps ≡ Some t →
    state_after (member_next b) (member_next b u.member p) ps ≡ t.member) [
      | true ↦ λ it. absurd (none-stands b ps t it)
      | false ↦ λ it. by (step b u.member p) it
    ]
    in
    go (is_over u.member) is

exchanged-both : (b : WordBook) (m : MemberState) (t : ActedMember) (ps qs : List PacketView) →
    after_packets b m ps ≡ Some t → exchanged b m (ps ++ qs) ≡ exchanged b m ps ++ exchanged b t.member qs
unfolding after_packets exchanged
exchanged-both b m t ps qs stands =
    exchanges-both (member_next b) (sends_next b) m ps qs
    ∙ ap (λ n. exchanges (member_next b) (sends_next b) m ps ++ exchanges (member_next b) (sends_next b) n qs)
    (stood-after b (unmoved m) t ps stands)

pub course-both : (b : WordBook) (m : MemberState) (t u : ActedMember) (left middle rest : Told) (gone h new : Gone) →
    IsCourse b m t left middle gone h → IsCourse b t.member u middle rest h new →
    IsCourse b m (behind t.packets u) left rest gone new
unfolding takes-both
course-both b m t u left middle rest gone h new first second =
    record {
      takes = takes-both b m t u left middle rest first.takes second.takes;
      puts =
          second.puts
          ∙ ap (λ o. gained o (packets_bytes u.packets)) first.puts
          ∙ gained-twice gone.bytes (packets_bytes t.packets) (packets_bytes u.packets)
          ∙ ap (gained gone.bytes) (sym (flat_map-append packet_bytes t.packets u.packets));
      order =
          second.order
          ∙ ap (λ o. passed o (exchanged b t.member second.takes.packets)) first.order
          ∙ passed-twice gone.past (exchanged b m first.takes.packets)
          (exchanged b t.member second.takes.packets)
          ∙ ap (passed gone.past)
          (sym (exchanged-both b m t first.takes.packets second.takes.packets first.takes.stands));
    }

-- no packet
unfoldable pub takes-none : (b : WordBook) (m : MemberState) (left : Told) → Takes b m (unmoved m) left left
unfolding after_packets
takes-none b m left = record { packets = []; short = tt; stands = refl; taken = sym (before_taking-nothing left) }

pub course-none : (b : WordBook) (m : MemberState) (left : Told) (gone : Gone) →
    IsCourse b m (unmoved m) left left gone gone
unfolding takes-none exchanged
course-none b m left gone =
    record {
      takes = takes-none b m left;
      puts = sym (gained-nothing gone.bytes);
      order = sym (passed-nothing gone.past);
    }

-- one packet
unfoldable pub takes-one : (b : WordBook) (m n : MemberState) (p : PacketView) (sent : List PacketView)
    (left rest : Told) → is_over m ≡ false → step b m p ≡ Ok (record { member = n; packets = sent }) →
    left ≡ before_taking (packet_bytes p) rest → IsShort p →
    Takes b m (record { member = n; packets = sent }) left rest
unfolding after_packets
takes-one b m n p sent left rest goes steps comes short =
    record {
      packets = p ∷ [];
      short = (short, tt);
      stands =
          ap (λ over. cond over None (behind_if (unmoved m) (step b m p))) goes
          ∙ ap (behind_if (unmoved m)) steps;
      taken = comes ∙ ap (λ bytes. before_taking bytes rest) (sym (append-nil (packet_bytes p)));
    }

pub exchanged-one : (b : WordBook) (m n : MemberState) (p : PacketView) (sent : List PacketView) →
    step b m p ≡ Ok (record { member = n; packets = sent }) → exchanged b m (p ∷ []) ≡ dealt p sent
unfolding exchanged
exchanged-one b m n p sent steps =
    append-nil (dealt p (sends_next b m p)) ∙ ap (λ r. dealt p (sent_by r)) steps

pub course-one : (b : WordBook) (m n : MemberState) (left rest : Told) (gone new : Gone) →
    is_over m ≡ false → (one : TookOne b m n left rest gone new) →
    IsCourse b m (record { member = n; packets = one.sent }) left rest gone new
unfolding takes-one
course-one b m n left rest gone new goes one =
    record {
      takes = takes-one b m n one.packet one.sent left rest goes one.steps one.comes one.short;
      puts = one.puts;
      order =
          one.order
          ∙ ap (passed gone.past) (sym (exchanged-one b m n one.packet one.sent one.steps));
    }

-- ---- ends

between-behind : (Fails : Told → Told → Type 0) (b : WordBook) (m : MemberState) (t : ActedMember)
    (left middle rest : Told) (gone h new : Gone) → IsCourse b m t left middle gone h →
    EndsBetween Fails b t.member middle rest h new → EndsBetween Fails b m left rest gone new
between-behind Fails b m t left middle rest gone h new course ends =
    record {
      last = behind t.packets ends.last;
      middle = ends.middle;
      course =
          course-both b m t ends.last left middle ends.middle gone h new course ends.course;
      goes_on = ends.goes_on;
      fails = ends.fails;
    }

at-behind : (fault : Fault) (b : WordBook) (m : MemberState) (t : ActedMember)
    (left middle rest : Told) (gone h new : Gone) → IsCourse b m t left middle gone h →
    EndsAt fault b t.member middle rest h new → EndsAt fault b m left rest gone new
at-behind fault b m t left middle rest gone h new course ends =
    record {
      last = behind t.packets ends.last;
      middle = ends.middle;
      course =
          course-both b m t ends.last left middle ends.middle gone h ends.before course ends.course;
      goes_on = ends.goes_on;
      before = ends.before;
      packet = ends.packet;
      comes = ends.comes;
      short = ends.short;
      took = ends.took;
      ends = ends.ends;
    }

writing-behind : (b : WordBook) (m : MemberState) (t : ActedMember)
    (left middle rest : Told) (gone h new : Gone) → IsCourse b m t left middle gone h →
    EndsWriting b t.member middle rest h new → EndsWriting b m left rest gone new
unfolding takes-both
writing-behind b m t left middle rest gone h new course ends =
    let one = packets_bytes t.packets in
    let other = packets_bytes ends.last.packets in
    let first = exchanged b m course.takes.packets in
    let second = exchanged b t.member ends.takes.packets in
    let order =
    front-second gone.past h.past new.past first (second ++ taken ends.besides) ends.so_far course.order ends.order
    in
    record {
      last = behind t.packets ends.last;
      middle = ends.middle;
      takes = takes-both b m t ends.last left middle ends.middle course.takes ends.takes;
      count = length one + ends.count;
      puts =
          ends.puts
          ∙ ap (λ o. gained o (take ends.count other)) course.puts
          ∙ gained-twice gone.bytes one (take ends.count other)
          ∙ ap (gained gone.bytes)
          (front-behind one other ends.count
          ∙ ap (take (length one + ends.count))
          (sym (flat_map-append packet_bytes t.packets ends.last.packets)));
      besides = ends.besides;
      so_far = order.0;
      order =
          order.1
          ∙ ap (λ xs. passed gone.past (take order.0 xs))
          (sym (append_assoc first second (taken ends.besides))
          ∙ ap (λ xs. xs ++ taken ends.besides)
          (sym (exchanged-both b m t course.takes.packets ends.takes.packets course.takes.stands)));
      few = ends.few;
      over = ends.over;
    }

-- a member that ends later ends
pub ends-behind : (fault : Fault) (b : WordBook) (m : MemberState) (t : ActedMember)
    (left middle rest : Told) (gone h new : Gone) → IsCourse b m t left middle gone h →
    EndsFor fault b t.member middle rest h new → EndsFor fault b m left rest gone new
ends-behind Memory b m t left middle rest gone h new course ends =
    writing-behind b m t left middle rest gone h new course ends
ends-behind Read b m t left middle rest gone h new course ends =
    between-behind _ b m t left middle rest gone h new course ends
ends-behind Write b m t left middle rest gone h new course ends =
    writing-behind b m t left middle rest gone h new course ends
ends-behind Cut b m t left middle rest gone h new course ends =
    between-behind _ b m t left middle rest gone h new course ends
ends-behind Long b m t left middle rest gone h new course ends =
    between-behind _ b m t left middle rest gone h new course ends
ends-behind Setup b m t left middle rest gone h new course ends = absurd ends
ends-behind Peer b m t left middle rest gone h new course ends =
    at-behind Peer b m t left middle rest gone h new course ends
ends-behind Differ b m t left middle rest gone h new course ends =
    at-behind Differ b m t left middle rest gone h new course ends
ends-behind Refused b m t left middle rest gone h new course ends =
    at-behind Refused b m t left middle rest gone h new course ends
ends-behind Older b m t left middle rest gone h new course ends =
    at-behind Older b m t left middle rest gone h new course ends

-- ---- so many packets

pub taken-none : (b : WordBook) (m : MemberState) (left : Told) (gone : Gone) →
    HasTaken 0 b m m left left gone gone
unfolding takes-none course-none
taken-none b m left gone =
    record { last = unmoved m; course = course-none b m left gone; counted = refl; is = refl }

-- one more
pub taken-next : (count : ℕ) (b : WordBook) (m k n : MemberState)
    (left middle rest : Told) (gone h new : Gone) → HasTaken count b m k left middle gone h →
    is_over k ≡ false → TookOne b k n middle rest h new →
    HasTaken (count + 1) b m n left rest gone new
unfolding takes-both course-both takes-one course-one
taken-next count b m k n left middle rest gone h new taken goes one =
    let t = taken.last in
    let next : TookOne b t.member n middle rest h new =
    subst (λ (x : MemberState). TookOne b x n middle rest h new) taken.is one
    in
    let on : is_over t.member ≡ false = ap is_over (sym taken.is) ∙ goes in
    let u : ActedMember = record { member = n; packets = next.sent } in
    record {
      last = behind t.packets u;
      course =
          course-both b m t u left middle rest gone h new taken.course
          (course-one b t.member n middle rest h new on next);
      counted =
          length-append taken.course.takes.packets (next.packet ∷ [])
          ∙ ap (λ (i : ℕ). i + 1) taken.counted;
      is = refl;
    }

-- its run is over
pub ends-over : (count : ℕ) (b : WordBook) (m k : MemberState) (left rest : Told) (gone new : Gone) →
    HasTaken count b m k left rest gone new → is_over k ≡ true → EndsDone b m left rest gone new
ends-over count b m k left rest gone new taken over =
    record {
      last = taken.last;
      course = taken.course;
      done = inl (ap is_over (sym taken.is) ∙ over);
    }

-- as many were taken as can be counted
pub ends-full : (count : ℕ) (b : WordBook) (m k : MemberState) (left rest : Told) (gone new : Gone) →
    HasTaken count b m k left rest gone new → 2 ^ 64 ≤ count + 1 → EndsDone b m left rest gone new
ends-full count b m k left rest gone new taken full =
    record {
      last = taken.last;
      course = taken.course;
      done = inr (inr (subst (λ (n : ℕ). 2 ^ 64 ≤ n + 1) (sym taken.counted) full));
    }

-- nothing is left
pub ends-empty : (count : ℕ) (b : WordBook) (m k n : MemberState)
    (left middle rest : Told) (gone h new : Gone) → HasTaken count b m k left middle gone h →
    TookNone k n middle rest h new → EndsDone b m left rest gone new
ends-empty count b m k n left middle rest gone h new taken none =
    let same : middle ≡ rest = none.none ∙ before_taking-nothing rest in
    let there = subst (λ (x : Told). IsCourse b m taken.last left x gone h) same taken.course in
    record {
      last = taken.last;
      course = subst (λ (x : Gone). IsCourse b m taken.last left rest gone x) (sym none.kept) there;
      done = inr (inl (none.end ∙ ap emptied same));
    }

-- a fault comes later
pub ends-later : (fault : Fault) (count : ℕ) (b : WordBook) (m k : MemberState)
    (left middle rest : Told) (gone h new : Gone) → HasTaken count b m k left middle gone h →
    EndsFor fault b k middle rest h new → EndsFor fault b m left rest gone new
ends-later fault count b m k left middle rest gone h new taken ends =
    ends-behind fault b m taken.last left middle rest gone h new taken.course
    (subst (λ (x : MemberState). EndsFor fault b x middle rest h new) taken.is ends)
