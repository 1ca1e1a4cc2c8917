-- What is said decides nothing of the course of a group.
use Rattle.tk_meeting.proofs.Terms.{◌≡◌, List, [], ◌∷◌, ◌∙◌, refl, ap, sym, Shape, Event, Said, Ticked, WentAhead}
use Rattle.tk_meeting.proofs.Terms.{Greeted, Up, Down, unsaid}
use Rattle.tk_meeting.proofs.Course.{Course, moves, moved, first_course, course_of}

moved-unsaid : (shape : Shape) (q : Course) (events : List Event) →
    moved shape q (unsaid events) ≡ moved shape q events
unfolding moved moves
moved-unsaid shape q [] = refl
moved-unsaid shape q (Said c log text ∷ xs) = moved-unsaid shape q xs
moved-unsaid shape q (Ticked c ∷ xs) = moved-unsaid shape (moves shape q (Ticked c)) xs
moved-unsaid shape q (WentAhead c turns ∷ xs) =
    moved-unsaid shape (moves shape q (WentAhead c turns)) xs
moved-unsaid shape q (Greeted c j count ∷ xs) = moved-unsaid shape q xs
moved-unsaid shape q (Up c j ∷ xs) = moved-unsaid shape (moves shape q (Up c j)) xs
moved-unsaid shape q (Down j c ∷ xs) = moved-unsaid shape (moves shape q (Down j c)) xs

-- the same happens but for what is said, so that the course is the same
pub same-course : (a b : Shape) (events others : List Event) → a ≡ b →
    unsaid events ≡ unsaid others → course_of a events ≡ course_of b others
same-course a b events others shapes same =
    sym (moved-unsaid a first_course events)
    ∙ ap (λ (xs : List Event). course_of a xs) same
    ∙ ap (λ (shape : Shape). course_of shape (unsaid others)) shapes
    ∙ moved-unsaid b first_course others
