-- What the clauses of a member say of what passed over its line.
use Rattle.tk_meeting.proofs.Terms.{◌≡◌, ℕ, List, [], ◌∷◌, length, ◌++◌, Option, Some, None, Result, Ok, ◌∙◌, refl, ap}
use Rattle.tk_meeting.proofs.Terms.{sym, subst, append-nil, take, Err, take-append_seam, WordBook, Script, passed-twice}
use Rattle.tk_meeting.proofs.Terms.{Passing, taken, Took, Gone, passed, after_taking, PacketView, ActedMember, exchanged}
use Rattle.tk_meeting.proofs.Terms.{Told, IsCourse, EndsBetween, EndsAt, EndsWriting, EndsFor, Ends, MemberState, Fault}
use Rattle.tk_meeting.proofs.Terms.{Peer, Older, Refused, Differ, Memory, Read, Write, Cut, Long, Setup, first_member}
use Rattle.tk_meeting.proofs.Terms.{HasActed, MembersAct}

-- all of a list is a front of it, and of it with nothing behind it
pub front-all : (xs : List Passing) → xs ≡ take (length xs) xs
front-all xs = sym (take-append_seam xs []) ∙ ap (take (length xs)) (append-nil xs)

-- what passed behind the first packet
pub begun : (gone : Gone) (first : PacketView) (xs : List Passing) (past : Option (List Passing)) →
    gone.past ≡ Some [] → past ≡ passed (after_taking (Some first) gone).past xs → past ≡ Some (Took first ∷ xs)
begun gone first xs past none is = is ∙ ap (λ o. passed (passed o (Took first ∷ [])) xs) none

module _ (S : Script) (b : WordBook) (c : ℕ) (first : PacketView) (gone : Gone) (none : gone.past ≡ Some []) where
  abbrev m : MemberState
  m = first_member S c

  abbrev begins : Gone
  begins = after_taking (Some first) gone

  writing : (left rest : Told) (new : Gone) → EndsWriting b m left rest begins new → HasActed S b c first new.past
  writing left rest new ends =
      record {
        passed = take ends.so_far (exchanged b m ends.takes.packets ++ taken ends.besides);
        all = begun gone first _ new.past none ends.order;
        acts =
            record {
              packets = ends.takes.packets;
              turned = ends.last;
              stands = ends.takes.stands;
              last = ends.besides;
              count = ends.so_far;
              order = refl;
            };
      }

  course : (t : ActedMember) (left middle : Told) (new : Gone) → IsCourse b m t left middle begins new →
      HasActed S b c first new.past
  course t left middle new is =
      let xs = exchanged b m is.takes.packets in
      record {
        passed = xs;
        all = begun gone first xs new.past none is.order;
        acts =
            record {
              packets = is.takes.packets;
              turned = t;
              stands = is.takes.stands;
              last = None;
              count = length xs;
              order = sym (take-append_seam xs []);
            };
      }

  at : (fault : Fault) (left rest : Told) (new : Gone) → EndsAt fault b m left rest begins new →
      HasActed S b c first new.past
  at fault left rest new ends =
      let xs = exchanged b m ends.course.takes.packets in
      let all = xs ++ taken (Some ends.packet) in
      let is : new.past ≡ passed begins.past all =
      ap (λ (g : Gone). g.past) ends.took
      ∙ ap (λ o. passed o (taken (Some ends.packet))) ends.course.order
      ∙ passed-twice begins.past xs (taken (Some ends.packet))
      in
      record {
        passed = all;
        all = begun gone first all new.past none is;
        acts =
            record {
              packets = ends.course.takes.packets;
              turned = ends.last;
              stands = ends.course.takes.stands;
              last = Some ends.packet;
              count = length all;
              order = front-all all;
            };
      }

  between : (Fails : Told → Told → Type 0) (left rest : Told) (new : Gone) →
      EndsBetween Fails b m left rest begins new → HasActed S b c first new.past
  between Fails left rest new ends = course ends.last left ends.middle new ends.course

  for-fault : (fault : Fault) (left rest : Told) (new : Gone) → EndsFor fault b m left rest begins new →
      HasActed S b c first new.past
  for-fault Memory left rest new ends = writing left rest new ends
  for-fault Read left rest new ends = between _ left rest new ends
  for-fault Write left rest new ends = writing left rest new ends
  for-fault Cut left rest new ends = between _ left rest new ends
  for-fault Long left rest new ends = between _ left rest new ends
  for-fault Setup left rest new ends = absurd ends
  for-fault Peer left rest new ends = at Peer left rest new ends
  for-fault Differ left rest new ends = at Differ left rest new ends
  for-fault Refused left rest new ends = at Refused left rest new ends
  for-fault Older left rest new ends = at Older left rest new ends

  pub ended : (result : Result (Unit {0}) Fault) (left rest : Told) (new : Gone) →
      Ends result b m left rest begins new → HasActed S b c first new.past
  ended (Ok t) left rest new ends = course ends.last left rest new ends.course
  ended (Err fault) left rest new ends = for-fault fault left rest new ends

pub members-act : MembersAct
members-act result left rest gone new part none =
    let S = part.sets.input.first in
    let c = part.sets.number in
    ended S part.words c part.first gone none result part.middle rest new
    (subst (λ (m : MemberState). Ends result part.words m part.middle rest (after_taking (Some part.first) gone) new)
    part.sets.member part.ends)
