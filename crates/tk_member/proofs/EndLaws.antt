-- How a member ends at the next packet.
use Rattle.std.proofs.Common.{◌≡◌, refl, sym, ◌∙◌, subst, ◌+◌, true, false, List, [], ◌∷◌}
use Rattle.std.proofs.Common.{take, ap, append-nil, inl, inr}
use Rattle.std.specs.Prelude.{Result, Ok, Err, Option, Some, None}
use Rattle.tk_io.specs.Content.{before_taking}
use Rattle.tk_io.proofs.Offers.{gained-nothing}
use Rattle.tk_words.specs.Words.{WordBook}
use Rattle.tk_packets.specs.declared.packet_error.PacketError.{PacketError}
use Rattle.tk_packets.specs.declared.packet_error.PacketError.TheVariants as packets
use Rattle.tk_packets.specs.declared.put_error.PutError.{PutError}
use Rattle.tk_packets.specs.declared.put_error.PutError.TheVariants as puts
use Rattle.tk_packets.specs.Packets.{PacketView, packet_bytes, EndsWithin, ComesLong, TakesAtMost}
use Rattle.tk_packets.specs.Lines.{Gone, passed, taken, after_taking, HasPutFront}
use Rattle.tk_packets.proofs.Offers.{front-whole, dealt-bytes_front, dealt-order_front, taking-order, taking-bytes}
use Rattle.tk_packets.proofs.Offers.{takes-nothing, takes-packet}
use Rattle.tk_member.specs.declared.fault.Fault.{Fault}
use Rattle.tk_member.specs.declared.fault.Fault.TheVariants.{Memory, Read, Write, Cut, Long, Setup}
use Rattle.tk_member.specs.declared.fault.Fault.TheVariants.{Peer, Differ, Refused, Older}
use Rattle.tk_member.specs.Faults.{fault_of_packet, fault_of_put}
use Rattle.tk_member.specs.Members.{MemberState, is_over}
use Rattle.tk_member.specs.Acting.{unmoved}
use Rattle.tk_member.specs.Steps.{step, IsEnded}
use Rattle.tk_member.specs.Courses.{Told, most_later, IsShort, IsCourse, EndsBetween, EndsAt, EndsWriting, EndsFor}
use Rattle.tk_member.specs.Courses.{exchanged}
use Rattle.tk_member.proofs.StepLaws.{IsOfPacket, EndsByPacket, step-ends}
use Rattle.tk_member.proofs.CourseLaws.{takes-none, takes-one, course-none, exchanged-one}

-- nothing is put
still : (b : WordBook) (m : MemberState) (left : Told) (gone new : Gone) → new ≡ gone →
    IsCourse b m (unmoved m) left left gone new
still b m left gone new same =
    subst (λ (x : Gone). IsCourse b m (unmoved m) left left gone x) (sym same) (course-none b m left gone)

pub ends-memory : (b : WordBook) (m : MemberState) (left rest : Told) (gone new : Gone) (o : Option PacketView) →
    is_over m ≡ false → new ≡ after_taking o gone → TakesAtMost (8 + most_later) left rest →
    EndsFor Memory b m left rest gone new
unfolding takes-none exchanged
ends-memory b m left rest gone new o goes took few =
    let order =
    front-whole gone.past new.past (taken o) (ap (λ (g : Gone). g.past) took ∙ taking-order o gone)
    in
    record {
      last = unmoved m;
      middle = left;
      takes = takes-none b m left;
      count = 0;
      puts = ap (λ (g : Gone). g.bytes) took ∙ taking-bytes o gone ∙ sym (gained-nothing gone.bytes);
      besides = o;
      so_far = order.0;
      order = order.1;
      few = few;
      over = λ is. let other : true ≡ false = sym is ∙ goes in cc;
    }

between : (Fails : Told → Told → Type 0) (b : WordBook) (m : MemberState)
    (left rest : Told) (gone new : Gone) → is_over m ≡ false → new ≡ gone → Fails left rest →
    EndsBetween Fails b m left rest gone new
between Fails b m left rest gone new goes same fails =
    record {
      last = unmoved m;
      middle = left;
      course = still b m left gone new same;
      goes_on = goes;
      fails = fails;
    }

-- no packet is taken
pub ends-untaken : (e : PacketError) (b : WordBook) (m : MemberState) (left rest : Told) (gone new : Gone) →
    is_over m ≡ false → new ≡ gone → TakesAtMost (8 + most_later) left rest →
    (e ≡ packets.Cut → EndsWithin most_later left rest) →
    (e ≡ packets.Long → ComesLong most_later left rest) →
    EndsFor (fault_of_packet e) b m left rest gone new
ends-untaken packets.Memory b m left rest gone new goes same most cut long =
    ends-memory b m left rest gone new None goes same most
ends-untaken packets.Read b m left rest gone new goes same most cut long =
    between _ b m left rest gone new goes same most
ends-untaken packets.Cut b m left rest gone new goes same most cut long =
    between _ b m left rest gone new goes same (cut refl)
ends-untaken packets.Long b m left rest gone new goes same most cut long =
    between _ b m left rest gone new goes same (long refl)

of-packet : (e : Fault) (b : WordBook) (m : MemberState) (left rest : Told) (gone new : Gone) →
    IsOfPacket e → EndsAt e b m left rest gone new → EndsFor e b m left rest gone new
of-packet Memory b m left rest gone new is at = absurd is
of-packet Read b m left rest gone new is at = absurd is
of-packet Write b m left rest gone new is at = absurd is
of-packet Cut b m left rest gone new is at = absurd is
of-packet Long b m left rest gone new is at = absurd is
of-packet Setup b m left rest gone new is at = absurd is
of-packet Peer b m left rest gone new is at = at
of-packet Differ b m left rest gone new is at = at
of-packet Refused b m left rest gone new is at = at
of-packet Older b m left rest gone new is at = at

-- a packet ends it
pub ends-taken : (e : Fault) (b : WordBook) (m : MemberState) (p : PacketView)
    (left rest : Told) (gone new : Gone) → is_over m ≡ false → left ≡ before_taking (packet_bytes p) rest →
    IsShort p → IsEnded (step b m p) e → new ≡ after_taking (Some p) gone → EndsFor e b m left rest gone new
ends-taken e b m p left rest gone new goes comes short ended took =
    elim ended [
      | inl memory ↦
          subst (λ (f : Fault). EndsFor f b m left rest gone new) (sym memory)
          (ends-memory b m left rest gone new (Some p) goes took (takes-packet most_later p left rest comes short))
      | inr at ↦
          of-packet e b m left rest gone new (subst EndsByPacket at (step-ends b m p)) (record {
            last = unmoved m;
            middle = left;
            before = gone;
            course = course-none b m left gone;
            goes_on = goes;
            packet = p;
            comes = comes;
            short = short;
            took = took;
            ends = at;
          })
    ]

-- not all that it sends is put
pub ends-writing : (b : WordBook) (m n : MemberState) (p : PacketView) (sent : List PacketView)
    (left rest : Told) (gone now new : Gone) → is_over m ≡ false → left ≡ before_taking (packet_bytes p) rest →
    IsShort p → step b m p ≡ Ok (record { member = n; packets = sent }) → now ≡ after_taking (Some p) gone →
    HasPutFront sent now new → EndsWriting b m left rest gone new
unfolding takes-one
ends-writing b m n p sent left rest gone now new goes comes short steps took put =
    let order = dealt-order_front p sent gone now new took put in
    record {
      last = record { member = n; packets = sent };
      middle = rest;
      takes = takes-one b m n p sent left rest goes steps comes short;
      count = put.count;
      puts = dealt-bytes_front p sent gone now new took put;
      besides = None;
      so_far = order.0;
      order =
          order.1
          ∙ ap (λ xs. passed gone.past (take order.0 xs))
          (sym (exchanged-one b m n p sent steps) ∙ sym (append-nil (exchanged b m (p ∷ []))));
      few = takes-nothing (8 + most_later) rest;
      over = λ _. refl;
    }

pub ends-unput : (e : PutError) (b : WordBook) (m n : MemberState) (p : PacketView) (sent : List PacketView)
    (left rest : Told) (gone now new : Gone) → is_over m ≡ false → left ≡ before_taking (packet_bytes p) rest →
    IsShort p → step b m p ≡ Ok (record { member = n; packets = sent }) → now ≡ after_taking (Some p) gone →
    HasPutFront sent now new → EndsFor (fault_of_put e) b m left rest gone new
ends-unput puts.Memory b m n p sent left rest gone now new goes comes short steps took put =
    ends-writing b m n p sent left rest gone now new goes comes short steps took put
ends-unput puts.Write b m n p sent left rest gone now new goes comes short steps took put =
    ends-writing b m n p sent left rest gone now new goes comes short steps took put

-- no packet ends it because its source or its sink fails
pub never-reads : (e : Fault) (b : WordBook) (m : MemberState) (p : PacketView) →
    IsEnded (step b m p) e → e ≡ Read → ⊥
never-reads e b m p ended is =
    elim ended [
      | inl memory ↦ let other : Read ≡ Memory = sym is ∙ memory in cc
      | inr at ↦ subst IsOfPacket is (subst EndsByPacket at (step-ends b m p))
    ]

pub never-writes : (e : Fault) (b : WordBook) (m : MemberState) (p : PacketView) →
    IsEnded (step b m p) e → e ≡ Write → ⊥
never-writes e b m p ended is =
    elim ended [
      | inl memory ↦ let other : Write ≡ Memory = sym is ∙ memory in cc
      | inr at ↦ subst IsOfPacket is (subst EndsByPacket at (step-ends b m p))
    ]

pub same-fault : {T : Type 0} (r : Result T Fault) (e f : Fault) → r ≡ Err e → r ≡ Err f → e ≡ f
same-fault r e f one other = cc
