-- What each call does to the publisher.
use Rattle.std.proofs.Common.{◌≡◌, inl, inr, ⊎_elim, ℕ, zero, suc, ◌+◌, ◌≤◌, refl, ap}
use Rattle.std.proofs.Common.{sym, ◌∙◌, subst, arith, length-append, List, [], ◌∷◌, ◌++◌, length, take, Some}
use mathlib.Core.List.{IsPrefix}
use Rattle.tk_shape.specs.declared.shape.Shape.{Shape}
use Rattle.tk_frames.specs.declared.entry.Placed.{Placed}
use Rattle.tk_frames.specs.declared.entry.Entry.TheVariants.{Mark}
use Rattle.tk_frames.specs.InOrder.{mark_count, IsOrder}
use Rattle.tk_order.specs.Legality.{of, placed}
use Rattle.tk_order.specs.Seats.{Seated, own, own_in, Ordered}
use Rattle.tk_order.proofs.Offers.{marks_under_zero}
use Rattle.tk_board.specs.Boards.{Known}
use Rattle.tk_cluster.specs.declared.set.EpochSet.{EpochSet}
use Rattle.tk_cluster.specs.Sets.{StandsAtMark, AreShown}
use Rattle.tk_cluster.specs.Tellings.{Telling, IsPublisher, Grows, Published}
use Rattle.tk_cluster.proofs.Standing.{shows-more, shows-next, among-more}
use Rattle.tk_lists.proofs.Offers.{prefix_self, prefix_trans, prefix_length}

abbrev pub telling : List Placed → Known EpochSet → Telling
telling seen board = record { seen = seen; board = board.board; shown = board.list }

own_of : (s : Seated) (n : ℕ) → s.number ≡ Some n → own s ≡ of n s.seen
own_of s n is = ap (λ m. own_in m s.seen) is

module _ (shape : Shape) (s : Seated) (board : Known EpochSet) (marked ordered shown : ℕ)
    (is : IsPublisher shape s board marked ordered shown) where
  -- how many entries its seat ordered
  pub made_own : length (own s) ≡ ordered
  made_own = ap length (own_of s 0 is.number) ∙ is.made

  pub marks_same : (t : Seated) → t.number ≡ s.number → own t ≡ own s →
      of 0 t.seen ≡ of 0 s.seen
  marks_same t number same =
      sym (own_of t 0 (number ∙ is.number)) ∙ (same ∙ own_of s 0 is.number)

  -- the seat has seen more, and ordered nothing
  pub seen_more : (t : Seated) → t.number ≡ s.number → IsPrefix s.seen t.seen → own t ≡ own s →
      IsOrder shape t.seen → IsPublisher shape t board marked ordered shown
  seen_more t number more same order = record {
    number = number ∙ is.number;
    counted = is.counted;
    shows = shows-more shape s.seen t.seen board.list more order is.shows;
    within = omega (arith, is.within, prefix_length s.seen t.seen more);
    among = among-more marked s.seen t.seen more is.within ∙ is.among;
    made = ap length (marks_same t number same) ∙ is.made;
    due = is.due;
  }

  pub is_due : ordered ≤ shown → ordered ≡ shown
  is_due none = ⊎_elim (λ i. i) (λ i. omega (arith, i, none)) is.due

  seen_after : (t : Seated) (number : ℕ) → Ordered s (Mark number) t → IsPrefix s.seen t.seen
  seen_after t number o =
      prefix_trans s.seen o.before t.seen o.puts.seen
      (placed o.before (Mark number) ∷ [], sym o.puts.after)

  made_after : (t : Seated) (number : ℕ) → number ≡ shown + 1 → ordered ≤ shown →
      Ordered s (Mark number) t → length (of 0 t.seen) ≡ number
  made_after t number next none o =
      omega (
        arith,
        ap length (sym (own_of t 0 (o.puts.number ∙ is.number)) ∙ o.puts.own),
        length-append (own s) (placed o.before (Mark number) ∷ []),
        made_own,
        is_due none,
        next,
      )

  -- it was ordered
  pub marked_on : (t : Seated) (number position : ℕ) → number ≡ shown + 1 → ordered ≤ shown →
      Ordered s (Mark number) t → position ≡ length t.seen → IsOrder shape t.seen →
      IsPublisher shape t board position number shown
  marked_on t number position next none o at order = record {
    number = o.puts.number ∙ is.number;
    counted = is.counted;
    shows = shows-more shape s.seen t.seen board.list (seen_after t number o) order is.shows;
    within = omega (arith, at);
    among =
        ap mark_count (whole position t.seen at)
        ∙ (sym (marks_under_zero t.seen) ∙ made_after t number next none o);
    made = made_after t number next none o;
    due = inr next;
  }
    where
      whole : (n : ℕ) (xs : List Placed) → n ≡ length xs → take n xs ≡ xs
      whole zero [] same = refl
      whole zero (x ∷ xs) same = absurd (omega (arith, same))
      whole (suc n) [] same = absurd (omega (arith, same))
      whole (suc n) (x ∷ xs) same = ap (λ ys. x ∷ ys) (whole n xs (omega (arith, same)))

  pub marked_grows : (t : Seated) (number : ℕ) → Ordered s (Mark number) t →
      Grows (telling s.seen board) (telling t.seen board)
  marked_grows t number o = record { board = refl; shown = refl; seen = seen_after t number o }

  -- one mark is ordered for which no set is shown yet
  pub one_left : length (of 0 s.seen) ≡ length board.list → ordered ≡ shown + 1
  one_left due = omega (arith, due, is.made, is.counted)

  -- a set of its number is the next one
  pub is_next : (set : EpochSet) → ordered ≡ shown + 1 → StandsAtMark shape s.seen ordered set →
      StandsAtMark shape s.seen (length board.list) set
  is_next set due stands =
      subst (λ n. StandsAtMark shape s.seen n set) (due ∙ sym is.counted) stands

  -- its set is shown
  pub shown_on : (board' : Known EpochSet) (set : EpochSet) → ordered ≡ shown + 1 →
      StandsAtMark shape s.seen (length board.list) set → board'.list ≡ board.list ++ set ∷ [] →
      IsPublisher shape s board' marked ordered ordered
  shown_on board' set due stands more = record {
    number = is.number;
    counted = omega (arith, ap length more, length-append board.list (set ∷ []), is.counted, due);
    shows =
        subst (λ sets. AreShown shape sets s.seen) (sym more)
        (shows-next shape s.seen board.list set is.shows stands);
    within = is.within;
    among = is.among;
    made = is.made;
    due = inl refl;
  }

  pub published : (board' : Known EpochSet) (set : EpochSet) → board'.board ≡ board.board →
      ordered ≡ shown + 1 → StandsAtMark shape s.seen (length board.list) set →
      board'.list ≡ board.list ++ set ∷ [] →
      Published shape (telling s.seen board) (telling s.seen board')
  published board' set one due stands more = record {
    board = one;
    seen = prefix_self s.seen;
    set = set;
    shown = more;
    stands = stands;
    marks = omega (arith, is.made, due, is.counted);
  }

-- a set is shown after the mark was ordered
pub published_on : (shape : Shape) (a b p : Telling) → Grows a b → Published shape b p →
    Published shape a p
published_on shape a b p g h = record {
  board = h.board ∙ g.board;
  seen = prefix_trans a.seen b.seen p.seen g.seen h.seen;
  set = h.set;
  shown = h.shown ∙ ap (λ xs. xs ++ h.set ∷ []) g.shown;
  stands = subst (λ (xs : List EpochSet). StandsAtMark shape p.seen (length xs) h.set) g.shown h.stands;
  marks = h.marks ∙ ap length g.shown;
}
