-- What was said to members whose servers lie only grows, as it does among honest servers.
use Rattle.tk_meeting.proofs.Terms.{◌≡◌, ℕ, List, [], ◌∷◌, ◌++◌, Option, Some, None, Result, Ok, refl, subst, Err}
use Rattle.tk_meeting.proofs.Terms.{Shape, WordBook, Script, SayError, ActedMember, MemberState, Fault, noted, say_fault}
use Rattle.tk_meeting.proofs.Terms.{HasWhatWasSaid, Deed, Ticks, Claims, Sends, Answers, Hidden, does, after_deeds, lied, Says}
use Rattle.tk_meeting.proofs.Terms.{GoesAhead, doer, member_does, said_more, said_after, went_on, Saying, Meeting}
use Rattle.tk_meeting.proofs.Terms.{member_went, opening}
use Rattle.tk_meeting.proofs.telling.Rising.{RisesIn, goes-rises}
use Rattle.tk_meeting.proofs.telling.Growing.{Grows, grows-none, grows-next, grows-noted, grows-went}
use Rattle.tk_meeting.proofs.telling.Foreseeing.{Foresees, foresees-by}
use Rattle.tk_meeting.proofs.lying.Outcomes.{does_writing, deed-readies}
use Rattle.tk_meeting.proofs.telling.Ways.{client-has}

pub noted-is : (c : ℕ) (y : Saying) (o : Option SayError) (m : Meeting) →
    noted c y o m ≡ record m { said = said_more m c y o }
noted-is c y (Some error) m = refl
noted-is c y None m = refl

grows-said : (m : Meeting) (d : Deed) → Grows m (record m { said = said_after m d })
grows-said m (Says c log text) =
    let y : Saying = record { log = log; text = text } in
    let o = say_fault m c log text in
    subst (Grows m) (noted-is c y o m) (grows-noted c y o m)
grows-said m (Ticks c) = grows-none m
grows-said m (GoesAhead c turns) = grows-none m
grows-said m (Claims c count) = grows-none m
grows-said m (Sends c j frame) = grows-none m
grows-said m (Answers c table) = grows-none m

does-rises : (h : Hidden) (b : WordBook) (m : MemberState) (d : Deed) → RisesIn m.written (member_does h b m d)
does-rises h b m d =
    goes-rises b (does_writing m d) m (member_does h b m d) _ (deed-readies h b m d)

grows-went_on : (m : Meeting) (d : Deed) (r : Result ActedMember Fault) → RisesIn (m.members (doer d)).written r →
    Grows m (went_on m d r)
grows-went_on m d (Ok t) rises =
    let said : Meeting = record m { said = said_after m d } in
    grows-next m said (member_went said (doer d) (Ok t)) (grows-said m d) (grows-went said (doer d) (Ok t) rises)
grows-went_on m d (Err fault) rises = grows-went m (doer d) (Err fault) rises

grows-does : (shape : Shape) (h : Hidden) (b : WordBook) (m : Meeting) (d : Deed) → Grows m (does shape h b m d)
unfolding does
grows-does shape h b m d =
    let c = doer d in
    let after : Meeting = went_on m d (member_does h b (m.members c) d) in
    let grows : Grows m after = grows-went_on m d (member_does h b (m.members c) d) (does-rises h b (m.members c) d) in
    client-has (Grows m) shape m c after (grows-none m) grows

grows-deeds : (shape : Shape) (h : Hidden) (b : WordBook) (m : Meeting) (deeds : List Deed) →
    Grows m (after_deeds shape h b m deeds)
unfolding after_deeds
grows-deeds shape h b m [] = grows-none m
grows-deeds shape h b m (d ∷ ds) =
    grows-next m (does shape h b m d) (after_deeds shape h b (does shape h b m d) ds) (grows-does shape h b m d)
    (grows-deeds shape h b (does shape h b m d) ds)

pub deeds-append : (shape : Shape) (h : Hidden) (b : WordBook) (m : Meeting) (deeds more : List Deed) →
    after_deeds shape h b m (deeds ++ more) ≡ after_deeds shape h b (after_deeds shape h b m deeds) more
unfolding after_deeds
deeds-append shape h b m [] more = refl
deeds-append shape h b m (d ∷ ds) more = deeds-append shape h b (does shape h b m d) ds more

-- at any time this much of the script is said, where the script has the texts of all that is still to be done
pub foresees-deeds : (S : Script) (h : Hidden) (b : WordBook) (deeds more : List Deed) →
    HasWhatWasSaid S (lied S h b (deeds ++ more)) → Foresees S (lied S h b deeds)
foresees-deeds S h b deeds more tells =
    let now : Meeting = lied S h b deeds in
    foresees-by S now (after_deeds S.shape h b now more) (grows-deeds S.shape h b (opening S) deeds)
    (grows-deeds S.shape h b now more) (subst (HasWhatWasSaid S) (deeds-append S.shape h b (opening S) deeds more) tells)
