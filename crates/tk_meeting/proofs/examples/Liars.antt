-- Members whose servers lie, computed: two servers, of which the second one is hidden.
use Rattle.tk_meeting.proofs.Terms.{◌≡◌, List, [], ◌∷◌, length, Some, None, refl, drawn, script, tape, Peer, Older}
use Rattle.tk_meeting.proofs.Terms.{Refused, Deed, Ticks, Claims, Sends, Answers, Hidden, does, after_deeds, lied}
use Rattle.tk_meeting.proofs.Terms.{Meeting}
use Rattle.tk_meeting.proofs.examples.Orders.{computing}

abbrev hidden : Hidden
hidden = record { server = 2; held = λ e. [] }

abbrev after : List Deed → Meeting
after deeds = lied script hidden (drawn tape) deeds

-- one that is told that a server has more of it than it sent ends
pub told-more : (after (Claims 0 1 ∷ [])).ended 0 ≡ Some Older
unfolding computing does after_deeds
told-more = refl

-- and so does one to which a frame comes that is none, or a reply where no read is open
pub no-frame : (after (Sends 1 1 [] ∷ [])).ended 1 ≡ Some Peer
unfolding computing does after_deeds
no-frame = refl

pub no-read : (after (Sends 1 2 (3 ∷ []) ∷ [])).ended 1 ≡ Some Peer
unfolding computing does after_deeds
no-read = refl

-- a tick lets a client write and ask, which each server gets
pub ticks-go : length ((after (Ticks 0 ∷ [])).up 0 1) ≡ 2
unfolding computing does after_deeds
ticks-go = refl

-- the read takes two replies, of which the lying server's has no sums: it ends once the hidden server answered
abbrev lied_to : List Deed
lied_to = Ticks 0 ∷ Sends 0 1 (3 ∷ 1 ∷ []) ∷ []

pub waits : (after lied_to).ended 0 ≡ None
unfolding computing does after_deeds
waits = refl

pub refuses : (after (Ticks 0 ∷ Sends 0 1 (3 ∷ 1 ∷ []) ∷ Answers 0 0 ∷ [])).ended 0 ≡ Some Refused
unfolding computing does after_deeds
refuses = refl
