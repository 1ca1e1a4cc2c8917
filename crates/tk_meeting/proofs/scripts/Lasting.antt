-- No step of a member changes its shape or the logs that it writes.
use Rattle.tk_meeting.proofs.Terms.{◌≡◌, ℕ, List, map, ◌==◌, ◌-◌, Option, Some, None, Result, Ok, ◌∙◌, refl, ap, sym}
use Rattle.tk_meeting.proofs.Terms.{zero, suc, subst, inl, inr, Err, nat_le, Shape, WordBook, words_of, BookWords}
use Rattle.tk_meeting.proofs.Terms.{fault_of, Writing, SayError, Written, one_more-logs, PacketView, ActedMember, acts}
use Rattle.tk_meeting.proofs.Terms.{wrote, may_ask, asks, asks_if_due, unmoved, goes_ahead, goes_by_ticks, ahead_due}
use Rattle.tk_meeting.proofs.Terms.{ticks_due, after_turn, MemberState, served, step, heard, word_in, Fault, Peer}
use Rattle.tk_meeting.proofs.Terms.{HostWord, Say, Tick, Ahead, Has, stand, Stand, frame_shown, word_shown}
use Rattle.tk_meeting.proofs.shown.Steps.{EndsOrReadies, heard_so, served_so, said_writing, heard_writing}
use Rattle.tk_meeting.proofs.shown.Steps.{heard-readies, served-readies}
use Rattle.tk_meeting.proofs.telling.Rising.{cond-has}

-- a member's shape, and the logs that it writes
abbrev pub logs_of : List Written → List ℕ
logs_of fs = map (λ (f : Written). f.log) fs

abbrev pub base_of : MemberState → Shape × List ℕ
base_of m = (m.client.shape, logs_of m.client.writing.logs)

-- ---- acting

wrote-lasts : (w : BookWords) (n : ℕ) (m : MemberState) → base_of (wrote w n m).member ≡ base_of m
unfolding wrote
wrote-lasts w zero m = refl
wrote-lasts w (suc n) m = wrote-lasts w n (after_turn m)

asks-lasts : (b : WordBook) (m : MemberState) → base_of (asks_if_due b m).member ≡ base_of m
asks-lasts b m =
    cond-has (λ (t : ActedMember). base_of t.member ≡ base_of m) (may_ask m) (asks b m) (unmoved m) refl refl

acts-lasts : (b : WordBook) (m : MemberState) → base_of (acts b m).member ≡ base_of m
unfolding acts
acts-lasts b m =
    let words : BookWords = words_of m.client.shape b in
    let n : MemberState = (goes_ahead words m).member in
    let k : MemberState = (goes_by_ticks words n).member in
    asks-lasts b k
    ∙ wrote-lasts words (ticks_due n) (record n { ticks = n.ticks - ticks_due n })
    ∙ wrote-lasts words (ahead_due m) (record m { ahead = m.ahead - ahead_due m })

-- ---- packets

-- a member that is turned so has this shape and these logs still
abbrev pub LastsIn : Shape × List ℕ → Result ActedMember Fault → Type 0
LastsIn x (Ok t) = base_of t.member ≡ x
LastsIn x (Err fault) = Unit {0}

goes-lasts : (b : WordBook) (writing : Writing) (m : MemberState) (r : Result ActedMember Fault) (s : Result Stand Fault) →
    logs_of writing.logs ≡ logs_of m.client.writing.logs → EndsOrReadies b writing m r s → LastsIn (base_of m) r
goes-lasts b writing m r s same (inl e) = subst (LastsIn (base_of m)) (sym e.is) tt
goes-lasts b writing m r s same (inr e) =
    subst (LastsIn (base_of m)) (sym e.is)
    (acts-lasts b e.first
    ∙ (λ i. (e.shape_is i, logs_of (e.writing_is i).logs))
    ∙ ap (λ (logs : List ℕ). (m.client.shape, logs)) same)

said-logs : (log : ℕ) (text : List ℕ) (o : Option SayError) (w : Writing) →
    logs_of (said_writing log text o w).logs ≡ logs_of w.logs
unfolding said_writing
said-logs log text (Some error) w = refl
said-logs log text None w = one_more-logs log w.logs

heard-logs : (m : MemberState) (o : Option HostWord) →
    logs_of (heard_writing m o).logs ≡ logs_of m.client.writing.logs
unfolding heard_writing
heard-logs m None = refl
heard-logs m (Some (Say log text)) =
    said-logs log text (fault_of m.client.shape m.client.writing.logs log text) m.client.writing
heard-logs m (Some Tick) = refl
heard-logs m (Some (Ahead turns)) = refl
heard-logs m (Some (Has packets)) = refl

pub heard-lasts : (b : WordBook) (m : MemberState) (o : Option HostWord) → LastsIn (base_of m) (heard b m o)
heard-lasts b m o =
    goes-lasts b (heard_writing m o) m (heard b m o) (heard_so (stand m) (word_shown o)) (heard-logs m o)
    (heard-readies b m o)

pub served-lasts : (b : WordBook) (m : MemberState) (j : ℕ) (frame : List ℕ) →
    LastsIn (base_of m) (served b m j frame)
served-lasts b m j frame =
    goes-lasts b m.client.writing m (served b m j frame) (served_so (stand m) j (frame_shown m.client.shape frame))
    refl (served-readies b m j frame)

pub step-lasts : (b : WordBook) (m : MemberState) (p : PacketView) → LastsIn (base_of m) (step b m p)
unfolding step
step-lasts b m p =
    cond-has (LastsIn (base_of m)) (p.peer == 0) (heard b m (word_in p.bytes)) _ (heard-lasts b m (word_in p.bytes))
    (cond-has (LastsIn (base_of m)) (nat_le p.peer m.client.shape.servers) (served b m p.peer p.bytes) (Err Peer)
    (served-lasts b m p.peer p.bytes) tt)
