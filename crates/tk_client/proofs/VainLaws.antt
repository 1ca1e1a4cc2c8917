-- Why a search that found nothing finds nothing again.
use Rattle.std.proofs.Common.{◌≡◌, ◌∙◌, refl, sym, ap, ap₂, subst, arith, inl, inr}
use Rattle.std.proofs.Common.{ℕ, zero, suc, ◌+◌, ◌-◌, ◌<◌, ◌≤◌, nat_lt, Bool, true, false, cond, ◌&&◌}
use Rattle.std.proofs.Common.{List, [], ◌∷◌, length}
use Rattle.std.specs.Prelude.{◌==◌, not, find, Option, Some, None, option_map}
use Rattle.std.specs.List.{range_with_len}
use Rattle.std.specs.Option.{option_or}
use Rattle.std.proofs.lemmas.Bool.{cond-false, le-ltb, cases_lt}
use Rattle.tk_frames.specs.Lists.{first_some}
use Rattle.tk_shape.specs.declared.shape.Shape.{Shape}
use Rattle.tk_shape.specs.Lengths.{turn_count}
use Rattle.tk_words.specs.Words.{WordBook, words_of}
use Rattle.tk_bloom.specs.Filters.{all_marked}
use Rattle.tk_client.specs.declared.positions.Origin.{Origin}
use Rattle.tk_client.specs.Asked.{shown_by}
use Rattle.tk_client.specs.Positions.{IsOrigin, IsOriginOrNone, IsOriginOf}
use Rattle.tk_client.specs.Reader.{Follow, Reader, Target, next_of, wanted, follow_in, number_ahead}
use Rattle.tk_client.specs.Reader.{target, target_in, at_epoch}
use Rattle.tk_client.specs.Searching.{is_wanted, follows_anew}
use Rattle.tk_client.specs.Vain.{shown_from, NoneShown, ShowsNothing, ShowNothing, origin_in}
use Rattle.tk_client.specs.Vain.{AreSameOutside, AreOrigins}
use Rattle.tk_client.proofs.FollowLaws.{find-none}
use Rattle.tk_client.proofs.ReaderLaws.{target-anew}

-- ---- one log

-- what a book's filter shows of a log is what its origin tells
shown-alike : (shape : Shape) (b : WordBook) (marks : List Bool) (log : ℕ) (o : Origin) (next : ℕ) →
    IsOrigin shape b log o → (j : ℕ) →
    is_wanted shape (shown_by marks (words_of shape b)) log (next + j)
    ≡ (nat_lt (next + j) (turn_count shape) && shown_from marks o (next + j))
shown-alike shape b marks log o next is j =
    ap (λ (hits : List ℕ). nat_lt (next + j) (turn_count shape) && all_marked marks hits)
    (is.each (next + j))

find-alike : (one other : ℕ → Bool) → ((j : ℕ) → one j ≡ other j) → (xs : List ℕ) →
    find one xs ≡ find other xs
find-alike one other same [] = refl
find-alike one other same (x ∷ xs) =
    ap₂ (λ (b : Bool) (found : Option ℕ). cond b (Some x) found) (same x)
    (find-alike one other same xs)

pub none-shown : (shape : Shape) (b : WordBook) (marks : List Bool) (log : ℕ) (o : Option Origin)
    (next tried : ℕ) → IsOriginOrNone shape b log o →
    find (λ j. is_wanted shape (shown_by marks (words_of shape b)) log (next + j))
    (range_with_len tried (shape.ahead - tried))
    ≡ None →
    NoneShown (turn_count shape) shape.ahead marks o next tried
none-shown shape b marks log None next tried is none = tt
none-shown shape b marks log (Some o) next tried is none =
    sym
    (find-alike (λ j. is_wanted shape (shown_by marks (words_of shape b)) log (next + j))
    (λ j. nat_lt (next + j) (turn_count shape) && shown_from marks o (next + j))
    (shown-alike shape b marks log o next is) (range_with_len tried (shape.ahead - tried)))
    ∙ none

-- of a log whose numbers are all settled none is shown
pub settled-shows_nothing : (turns ahead : ℕ) (marks : List Bool) (o : Option Origin)
    (next tried : ℕ) → turns ≤ next → NoneShown turns ahead marks o next tried
settled-shows_nothing turns ahead marks None next tried settled = tt
settled-shows_nothing turns ahead marks (Some o) next tried settled =
    find-none (λ j. nat_lt (next + j) turns && shown_from marks o (next + j))
    (λ j. ap (λ b. b && shown_from marks o (next + j))
    (le-ltb (next + j) turns (omega (arith, settled))))
    (range_with_len tried (ahead - tried))

-- nothing is wanted of a log that shows nothing, where numbers are read ahead
pub nothing-wanted : (shape : Shape) (b : WordBook) (marks : List Bool) (o : Option Origin)
    (f : Follow) → (shape.ahead == 0) ≡ false → IsOriginOf shape b f.log o →
    ShowsNothing (turn_count shape) shape.ahead marks o f →
    wanted shape (shown_by marks (words_of shape b)) f ≡ None
nothing-wanted shape b marks None f ahead is none = absurd is
nothing-wanted shape b marks (Some o) f ahead is none =
    cond-false (shape.ahead == 0) _ _ ahead
    ∙ find-alike (λ j. is_wanted shape (shown_by marks (words_of shape b)) f.log (next_of f + j))
    (λ j. nat_lt (next_of f + j) (turn_count shape) && shown_from marks o (next_of f + j))
    (shown-alike shape b marks f.log o (next_of f) is)
    (range_with_len f.tried (shape.ahead - f.tried))
    ∙ none

-- ---- all logs

first_some-none : {Y : Type 0} (f : ℕ → Option Y) (from count : ℕ) →
    ((i : ℕ) → from ≤ i → i < from + count → f i ≡ None) →
    first_some f (range_with_len from count) ≡ None
first_some-none f from zero none = refl
first_some-none f from (suc count) none =
    let later = first_some f (range_with_len (from + 1) count) in
    ap (λ o. option_or o later) (none from (omega arith) (omega arith))
    ∙ first_some-none f (from + 1) count (λ i low high. none i (omega (arith, low)) (omega (arith, high)))

log-anew : (anew : Bool) (fs : List Follow) (i : ℕ) →
    (follow_in (follows_anew anew fs) i).log ≡ (follow_in fs i).log
log-anew false fs i = refl
log-anew true [] i = refl
log-anew true (f ∷ fs) zero = refl
log-anew true (f ∷ fs) (suc i) = log-anew true fs i

pub target-none : (shape : Shape) (b : WordBook) (marks : List Bool) (e : ℕ) (r : Reader)
    (os : List (Option Origin)) →
    let anew = not (e == r.last) in
    (shape.ahead == 0) ≡ false → r.cursor ≤ length r.follows →
    AreOrigins shape b r.follows os (length r.follows) →
    ShowNothing (turn_count shape) shape.ahead marks os (follows_anew anew r.follows) 0
    (length r.follows) →
    target shape (shown_by marks (words_of shape b)) (at_epoch e r) ≡ None
target-none shape b marks e r os ahead cursor origins shows =
    let anew = not (e == r.last) in
    let shown = shown_by marks (words_of shape b) in
    let fs = follows_anew anew r.follows in
    let gives = target_in shape shown fs in
    let nothing : (i : ℕ) → i < length r.follows → gives i ≡ None =
    λ i within. ap (option_map (number_ahead i (follow_in fs i)))
    (nothing-wanted shape b marks (origin_in os i) (follow_in fs i) ahead
    (subst (λ log. IsOriginOf shape b log (origin_in os i)) (sym (log-anew anew r.follows i))
    (origins i within))
    (shows i (omega arith) within))
    in
    target-anew shape shown e r
    ∙ ap₂ (λ (x y : Option Target). option_or x y)
    (first_some-none gives r.cursor (length r.follows - r.cursor)
    (λ i low high. nothing i (omega (arith, high, cursor))))
    (first_some-none gives 0 (r.cursor - 0)
    (λ i low high. nothing i (omega (arith, high, cursor))))

-- ---- a search goes on

pub one-more-vain : (turns ahead : ℕ) (marks : List Bool) (fs : List Follow)
    (mid new : List (Option Origin)) (from place : ℕ) →
    ShowNothing turns ahead marks mid fs from place → AreSameOutside place (place + 1) mid new →
    ShowsNothing turns ahead marks (origin_in new place) (follow_in fs place) →
    ShowNothing turns ahead marks new fs from (place + 1)
one-more-vain turns ahead marks fs mid new from place so_far same here i low high =
    elim (cases_lt i place) [
      | inl below ↦
          subst (λ (o : Option Origin). ShowsNothing turns ahead marks o (follow_in fs i))
          (sym (same i (inl below))) (so_far i low below)
      | inr above ↦
          let is : place ≡ i = omega (arith, above, high) in
          subst (λ k. ShowsNothing turns ahead marks (origin_in new k) (follow_in fs k)) is here
    ]

pub one-more-same : (old mid new : List (Option Origin)) (from place : ℕ) → from ≤ place →
    AreSameOutside from place old mid → AreSameOutside place (place + 1) mid new →
    AreSameOutside from (place + 1) old new
one-more-same old mid new from place reached so_far same i (inl below) =
    same i (inl (omega (arith, below, reached))) ∙ so_far i (inl below)
one-more-same old mid new from place reached so_far same i (inr above) =
    same i (inr above) ∙ so_far i (inr (omega (arith, above)))

-- ---- where positions come from

-- ---- what a reader keeps of a search
