-- The members of a group without what they sent: how they go on follows from their words and from what comes.
use Rattle.tk_meeting.proofs.Terms.{◌≡◌, ℕ, List, [], ◌∷◌, cond, Bool, true, false, Option, Some, None, Result, Ok, ◌∙◌}
use Rattle.tk_meeting.proofs.Terms.{refl, ap, Err, Shape, WordBook, Pairs, ActedMember, MemberState, served, heard, Fault}
use Rattle.tk_meeting.proofs.Terms.{Peer, Say, Tick, Ahead, Has, is_client, is_server, unless_ended, Deed, Ticks}
use Rattle.tk_meeting.proofs.Terms.{Claims, Sends, Answers, Hidden, does, after_deeds, Says, GoesAhead, doer}
use Rattle.tk_meeting.proofs.Terms.{member_does, went_on, answer_to, pair_noted, pairs_noted, pairs_from, changed}
use Rattle.tk_meeting.proofs.Terms.{Meeting}
use Rattle.tk_meeting.proofs.lying.Outcomes.{table_of}

-- the member that is left, or why it ended
abbrev pub left : Result ActedMember Fault → Result MemberState Fault
left (Ok t) = Ok t.member
left (Err fault) = Err fault

-- what becomes of a member by a deed, where the hidden server's answer is this
abbrev pub does_with : ℕ → List ℕ → WordBook → MemberState → Deed → Result ActedMember Fault
does_with j answer b m (Says c log text) = heard b m (Some (Say log text))
does_with j answer b m (Ticks c) = heard b m (Some Tick)
does_with j answer b m (GoesAhead c turns) = heard b m (Some (Ahead turns))
does_with j answer b m (Claims c count) = heard b m (Some (Has count))
does_with j answer b m (Sends c i frame) = cond (is_server m.client.shape i) (served b m i frame) (Err Peer)
does_with j answer b m (Answers c table) = served b m j answer

-- the hidden server's answer to what a member has open
abbrev pub own_answer : Hidden → WordBook → ℕ → MemberState → List ℕ
own_answer h b table m = answer_to h b table m.client.shape m.client.number m.client.read

does-with : (h : Hidden) (b : WordBook) (m : MemberState) (d : Deed) →
    member_does h b m d ≡ does_with h.server (own_answer h b (table_of d) m) b m d
does-with h b m (Says c log text) = refl
does-with h b m (Ticks c) = refl
does-with h b m (GoesAhead c turns) = refl
does-with h b m (Claims c count) = refl
does-with h b m (Sends c j frame) = refl
does-with h b m (Answers c table) = refl

-- ---- members

pub record Core : Type 0 where
  pub members : ℕ → MemberState
  pub ended : ℕ → Option Fault

abbrev pub core : Meeting → Core
core m = record { members = m.members; ended = m.ended }

abbrev pub went_core : ℕ → Result MemberState Fault → Core → Core
went_core c (Ok x) k = record k { members = changed c x k.members }
went_core c (Err fault) k = record k { ended = changed c (Some fault) k.ended }

abbrev pub unless_core : Option Fault → Core → Core → Core
unless_core None k after = after
unless_core (Some fault) k after = k

abbrev pub next_core : Shape → ℕ → Result MemberState Fault → Core → Core
next_core shape c result k = cond (is_client shape c) (unless_core (k.ended c) k (went_core c result k)) k

-- where the hidden server answers so
abbrev pub core_step : Shape → ℕ → (ℕ → MemberState → List ℕ) → WordBook → Core → Deed → Core
core_step shape j answers b k d =
    let m = k.members (doer d) in
    next_core shape (doer d) (left (does_with j (answers (table_of d) m) b m d)) k

unfoldable pub core_run : Shape → ℕ → (ℕ → MemberState → List ℕ) → WordBook → Core → List Deed → Core
core_run shape j answers b k [] = k
core_run shape j answers b k (d ∷ ds) = core_run shape j answers b (core_step shape j answers b k d) ds

abbrev pub core_noted : Shape → WordBook → Core → Pairs → Pairs
core_noted shape b k pairs g c = pair_noted shape b g c (pairs g c) (k.members c).client.read

unfoldable pub core_pairs : Shape → ℕ → (ℕ → MemberState → List ℕ) → WordBook → Core → Pairs → List Deed → Pairs
core_pairs shape j answers b k pairs [] = pairs
core_pairs shape j answers b k pairs (d ∷ ds) =
    let next = core_step shape j answers b k d in
    core_pairs shape j answers b next (core_noted shape b next pairs) ds

-- ---- the members of a group

core-went : (m : Meeting) (d : Deed) (r : Result ActedMember Fault) →
    core (went_on m d r) ≡ went_core (doer d) (left r) (core m)
core-went m d (Ok t) = refl
core-went m d (Err fault) = refl

core-unless : (o : Option Fault) (m after : Meeting) →
    core (unless_ended o m after) ≡ unless_core o (core m) (core after)
core-unless None m after = refl
core-unless (Some fault) m after = refl

core-cond : (t : Bool) (m n : Meeting) → core (cond t m n) ≡ cond t (core m) (core n)
core-cond true m n = refl
core-cond false m n = refl

pub core-does : (shape : Shape) (h : Hidden) (b : WordBook) (m : Meeting) (d : Deed) →
    core (does shape h b m d) ≡ core_step shape h.server (own_answer h b) b (core m) d
unfolding does
core-does shape h b m d =
    let c = doer d in
    let r = member_does h b (m.members c) d in
    let after = went_on m d r in
    core-cond (is_client shape c) (unless_ended (m.ended c) m after) m
    ∙ ap (λ (k : Core). cond (is_client shape c) k (core m))
    (core-unless (m.ended c) m after ∙ ap (unless_core (m.ended c) (core m)) (core-went m d r))
    ∙ ap (λ (x : Result ActedMember Fault). next_core shape c (left x) (core m)) (does-with h b (m.members c) d)

pub run-core : (shape : Shape) (h : Hidden) (b : WordBook) (m : Meeting) (ds : List Deed) →
    core (after_deeds shape h b m ds) ≡ core_run shape h.server (own_answer h b) b (core m) ds
unfolding after_deeds core_run
run-core shape h b m [] = refl
run-core shape h b m (d ∷ ds) =
    run-core shape h b (does shape h b m d) ds
    ∙ ap (λ (k : Core). core_run shape h.server (own_answer h b) b k ds) (core-does shape h b m d)

pub pairs-core : (shape : Shape) (h : Hidden) (b : WordBook) (m : Meeting) (pairs : Pairs) (ds : List Deed) →
    pairs_from shape h b m pairs ds ≡ core_pairs shape h.server (own_answer h b) b (core m) pairs ds
unfolding pairs_from core_pairs
pairs-core shape h b m pairs [] = refl
pairs-core shape h b m pairs (d ∷ ds) =
    let next = does shape h b m d in
    pairs-core shape h b next (pairs_noted shape b next pairs) ds
    ∙ ap (λ (k : Core). core_pairs shape h.server (own_answer h b) b k (core_noted shape b k pairs) ds)
    (core-does shape h b m d)
