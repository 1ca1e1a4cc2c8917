-- How far a client writes in a step follows from its numbers, whatever it was told to write.
use Rattle.tk_meeting.proofs.Terms.{◌≡◌, ℕ, min, List, ◌+◌, ◌-◌, ◌*◌, ◌∙◌, arith, turn_count, WordBook, Script, acts}
use Rattle.tk_meeting.proofs.Terms.{known, MemberState, Saying, stand}
use Rattle.tk_meeting.proofs.Pace.{Pace, acted, known_by, gone_ahead, count_ahead, count_ticks}
use Rattle.tk_meeting.proofs.Standing.{IsAt}
use Rattle.tk_meeting.proofs.members.Asking.{known-is}
use Rattle.tk_meeting.proofs.members.Paces.{acted-written}
use Rattle.tk_meeting.proofs.shown.Steps.{ahead_of, ticks_of, acts-written}

same-sum : (x m a t y p n k : ℕ) → x ≡ m + a + t → m ≡ p → a ≡ n → t ≡ k → y ≡ p + (n + k) → x ≡ y
same-sum x m a t y p n k e f g h i = omega (arith, e, f, g, h, i)

module _ (S : Script) (b : WordBook) (c : ℕ) (p : Pace) (saids : List Saying) (m : MemberState)
    (h : IsAt S b c p saids m) where
  known-same : known m.client.shape m.told ≡ known_by S.shape p
  known-same = (λ i. known (h.shape_is i) (h.told_is i)) ∙ known-is S b p

  ahead-same : ahead_of (stand m) ≡ count_ahead S.shape p
  ahead-same = λ i. min (h.ahead_is i) (turn_count (h.shape_is i) - h.written_is i)

  -- so many turns it wrote at the end of the step
  pub writes-so : (acts b m).member.written ≡ (acted S.shape p).pace.written
  writes-so =
      let due : ticks_of (stand m) ≡ count_ticks S.shape (gone_ahead S.shape p) =
      λ i.
      min (h.ticks_is i)
      (min (turn_count (h.shape_is i)) ((known-same i + 1) * (h.shape_is i).ticks) - (h.written_is i + ahead-same i))
      in
      same-sum (acts b m).member.written m.written (ahead_of (stand m)) (ticks_of (stand m))
      (acted S.shape p).pace.written p.written (count_ahead S.shape p) (count_ticks S.shape (gone_ahead S.shape p))
      (acts-written b m) h.written_is ahead-same due (acted-written S.shape p)
