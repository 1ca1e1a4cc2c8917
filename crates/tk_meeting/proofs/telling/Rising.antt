-- No step of a member lowers the number of turns that it wrote.
use Rattle.tk_meeting.proofs.Terms.{◌≡◌, ℕ, ◌≤◌, List, ◌+◌, cond, Bool, true, false, Option, Result, Ok, sym, arith}
use Rattle.tk_meeting.proofs.Terms.{subst, inl, inr, Err, WordBook, Writing, ActedMember, acts, MemberState, served, heard}
use Rattle.tk_meeting.proofs.Terms.{Fault, HostWord, stand, Stand, frame_shown, word_shown}
use Rattle.tk_meeting.proofs.shown.Steps.{ahead_of, ticks_of, acts-written, EndsOrReadies, heard_so, served_so}
use Rattle.tk_meeting.proofs.shown.Steps.{heard_writing, heard-readies, served-readies}

-- ---- choices

-- what holds of both holds of either
pub cond-has : {A : Type 0} (P : A → Type 0) (t : Bool) (x y : A) → P x → P y → P (cond t x y)
cond-has P true x y h k = h
cond-has P false x y h k = k

-- ---- steps

no-less : (m n a t : ℕ) → n ≡ m + a + t → m ≤ n
no-less m n a t is = omega (arith, is)

acts-rises : (b : WordBook) (m : MemberState) → m.written ≤ (acts b m).member.written
acts-rises b m =
    no-less m.written (acts b m).member.written (ahead_of (stand m)) (ticks_of (stand m)) (acts-written b m)

-- a member that is turned so wrote in n turns or in more
abbrev pub RisesIn : ℕ → Result ActedMember Fault → Type 0
RisesIn n (Ok t) = n ≤ t.member.written
RisesIn n (Err fault) = Unit {0}

pub goes-rises : (b : WordBook) (writing : Writing) (m : MemberState) (r : Result ActedMember Fault)
    (s : Result Stand Fault) → EndsOrReadies b writing m r s → RisesIn m.written r
goes-rises b writing m r s (inl e) = subst (RisesIn m.written) (sym e.is) tt
goes-rises b writing m r s (inr e) =
    let rises : m.written ≤ (acts b e.first).member.written = omega (arith, acts-rises b e.first, e.written_is) in
    subst (RisesIn m.written) (sym e.is) rises

pub heard-rises : (b : WordBook) (m : MemberState) (o : Option HostWord) → RisesIn m.written (heard b m o)
heard-rises b m o =
    goes-rises b (heard_writing m o) m (heard b m o) (heard_so (stand m) (word_shown o)) (heard-readies b m o)

pub served-rises : (b : WordBook) (m : MemberState) (j : ℕ) (frame : List ℕ) →
    RisesIn m.written (served b m j frame)
served-rises b m j frame =
    goes-rises b m.client.writing m (served b m j frame) (served_so (stand m) j (frame_shown m.client.shape frame))
    (served-readies b m j frame)
