-- Servers that lie by all that they have seen so far.
use Rattle.std.specs.Prelude.{◌≡◌, ℕ, zero, suc, ◌+◌, Bool, List, [], ◌∷◌, ◌++◌, length, map, Option}
use Rattle.std.specs.List.{range_with_len}
use Rattle.tk_shape.specs.declared.shape.Shape.{Shape}
use Rattle.tk_shape.specs.Lengths.{tape_len}
use Rattle.tk_script.specs.declared.script.Script.{Script}
use Rattle.tk_words.specs.Words.{WordBook, drawn}
use Rattle.tk_privacy.specs.Counts.{all_but, count_tapes}
use Rattle.tk_member.specs.declared.fault.Fault.{Fault}
use Rattle.tk_meeting.specs.Meeting.{Meeting, Saying}
use Rattle.tk_meeting.specs.Laws.{HasWhatWasSaid}
use Rattle.tk_meeting.specs.Lying.{Deed, Says, Ticks, GoesAhead, Claims, Sends, Answers, Hidden, lied, DoAlike}
use Rattle.tk_meeting.specs.Matched.{AreGroups, AreMatched}

-- what all servers but the hidden one see together: the frames that each got of each client, and of each client why it
-- ended, if it did
pub record JointSight : Type 0 where
  pub sent : List (List (List (List ℕ)))
  pub ended : List (Option Fault)

abbrev pub sight : Shape → Hidden → Meeting → JointSight
sight shape h m =
    record {
      sent =
          map (λ j. map (λ c. m.up c j) (range_with_len 0 shape.clients)) (all_but shape h.server);
      ended = map m.ended (range_with_len 0 shape.clients);
    }

-- ---- what they do

-- They decide what is done next, from what they saw at each time so far: also when a host says something, but not
-- what; and over which table the hidden server answers.
abbrev pub Liars : Type 0
Liars = List JointSight → Deed

-- the text of this step, where one is said
abbrev pub with_text_of : (ℕ → Saying) → ℕ → Deed → Deed
with_text_of texts k (Says c log text) = Says c (texts k).log (texts k).text
with_text_of texts k (Ticks c) = Ticks c
with_text_of texts k (GoesAhead c turns) = GoesAhead c turns
with_text_of texts k (Claims c count) = Claims c count
with_text_of texts k (Sends c j frame) = Sends c j frame
with_text_of texts k (Answers c table) = Answers c table

-- so many steps of a group whose hosts have these texts: what was done, and what was seen at each time
pub record Play : Type 0 where
  pub deeds : List Deed
  pub seen : List JointSight

unfoldable pub play : Script → Hidden → WordBook → Liars → (ℕ → Saying) → ℕ → Play
play S h b liars texts zero = record { deeds = []; seen = sight S.shape h (lied S h b []) ∷ [] }
play S h b liars texts (suc k) =
    let so_far = play S h b liars texts k in
    let deeds = so_far.deeds ++ with_text_of texts k (liars so_far.seen) ∷ [] in
    record { deeds = deeds; seen = so_far.seen ++ sight S.shape h (lied S h b deeds) ∷ [] }

-- the same deeds with the texts of another group
unfoldable pub retold : (ℕ → Saying) → ℕ → List Deed → List Deed
retold texts k [] = []
retold texts k (d ∷ ds) = with_text_of texts k d ∷ retold texts (k + 1) ds

-- ---- the law

-- Liars see the same of two groups, step by step, and so do the same in both.
pub record PlayAlike (one other : Play) (deeds : List Deed) : Type 0 where
  pub done : other.deeds ≡ deeds
  pub seen : one.seen ≡ other.seen

-- Let what is done in the first group over its tape be done in the second one over the tape that is matched with it.
-- Then this is what the liars do there, since at each time they see the same.
abbrev pub LiarsPlayAlike : Type 0
LiarsPlayAlike =
    (A B : Script) (h : Hidden) → AreGroups A B h → (liars : Liars) (texts others : ℕ → Saying) (steps : ℕ)
    (u v : List ℕ) → let one = play A h (drawn u) liars texts steps in let deeds = retold others 0 one.deeds in
    AreMatched A B h one.deeds deeds u v → HasWhatWasSaid A (lied A h (drawn u) one.deeds) →
    HasWhatWasSaid B (lied B h (drawn v) deeds) →
    PlayAlike one (play B h (drawn v) liars others steps) deeds

-- ---- by counting

-- over each tape a script has what is said by these deeds
abbrev pub TellsLied : Script → Hidden → List Deed → Type 0
TellsLied S h deeds = (u : List ℕ) → length u ≡ tape_len S.shape → HasWhatWasSaid S (lied S h (drawn u) deeds)

-- Whatever liars whose deeds are settled beforehand look for in what they see at any time, they find it over as many
-- tapes of the one group as of the other.
abbrev pub LiarsAsOften : Type 0
LiarsAsOften =
    (A B : Script) (h : Hidden) → AreGroups A B h → (deeds more others rest : List Deed) → DoAlike deeds others →
    TellsLied A h (deeds ++ more) → TellsLied B h (others ++ rest) → (test : JointSight → Bool) →
    count_tapes (tape_len A.shape) (λ u. test (sight A.shape h (lied A h (drawn u) deeds)))
    ≡ count_tapes (tape_len B.shape) (λ v. test (sight B.shape h (lied B h (drawn v) others)))
