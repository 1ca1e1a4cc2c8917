-- What a run of threads leaves of the history that came about.
use Rattle.std.proofs.Common.{◌≡◌, ℕ, zero, suc, ◌+◌, ◌<◌, List, [], ◌∷◌, length, map, refl, ap, ap₂, ◌∙◌, arith}
use Rattle.std.specs.Prelude.{slice_index, slice_index_or}
use Rattle.std.specs.List.{range_with_len}
use Rattle.std.proofs.lemmas.List.{get_or_default}
use Rattle.tk_shape.specs.declared.shape.Shape.{Shape}
use Rattle.tk_shape.specs.Lengths.{turn_count}
use Rattle.tk_schedule.specs.declared.history.TurnOrder.{TurnOrder}
use Rattle.tk_schedule.specs.Schedule.{IsLegal, blank_turn, epoch_at}
use Rattle.tk_script.specs.declared.script.Script.{Script}
use Rattle.tk_words.specs.Words.{WordBook, words_of}
use Rattle.tk_order.proofs.Offers.{prefix_self}
use Rattle.tk_report.specs.Displaced.{displaced_in, displaced_count}
use Rattle.tk_report.specs.Entries.{write_at, entries_before, entries}
use Rattle.tk_report.specs.Serving.{Serving}
use Rattle.tk_schedule.specs.declared.history.History.{History}
use Rattle.tk_cluster.specs.Passes.{Passing}
use Rattle.tk_cluster.specs.Tellings.{Telling}
use Rattle.tk_cluster.specs.Closings.{Ended, AllOnce, Closes}
use Rattle.tk_report.specs.declared.group.Group.{Group}
use Rattle.tk_report.specs.Clients.{AreClients}
use Rattle.tk_run.specs.Ran.{epochs_in}
use Rattle.tk_run.specs.Courses.{GoesOn, IsCourse}
use Rattle.tk_run.specs.Threads.{epochs_of}
use Rattle.tk_run.specs.Under.{client_under}
use Rattle.tk_run.proofs.RanEnds.{ran_all, ran_ends, ran_legal}

-- a list, place by place
map-places : {X Y : Type 0} (f : X → Y) (h : ℕ → Y) (off : ℕ) (xs : List X) →
    ((k : ℕ) (d : X) → k < length xs → f (slice_index_or xs k d) ≡ h (off + k)) →
    map f xs ≡ map h (range_with_len off (length xs))
map-places f h off [] same = refl
map-places {X} {Y} f h off (x ∷ xs) same =
    let here : off + 0 ≡ off = omega arith in
    ap₂ (λ (y : Y) (ys : List Y). y ∷ ys) (same 0 x (omega arith) ∙ ap h here)
    (map-places f h (off + 1) xs
    (λ k d low.
    let next : off + suc k ≡ off + 1 + k = omega arith in
    same (suc k) d (omega (arith, low)) ∙ ap h next))

epochs_told : (shape : Shape) (K : List TurnOrder) (c : ℕ) → length K ≡ turn_count shape →
    epochs_in K c ≡ epochs_of shape K c
epochs_told shape K c all =
    map-places (λ (turn : TurnOrder). slice_index turn.epochs c) (λ g. epoch_at K g c) 0 K
    (λ k d low.
    let here : k ≡ 0 + k = omega arith in
    ap (λ (turn : TurnOrder). slice_index turn.epochs c) (get_or_default K k d blank_turn low)
    ∙ ap (λ g. epoch_at K g c) here)
    ∙ ap (λ n. map (λ g. epoch_at K g c) (range_with_len 0 n)) all

all_epochs : (shape : Shape) (K : List TurnOrder) (off n : ℕ) → length K ≡ turn_count shape →
    map (epochs_in K) (range_with_len off n) ≡ map (epochs_of shape K) (range_with_len off n)
all_epochs shape K off zero all = refl
all_epochs shape K off (suc n) all =
    ap₂ (λ (x : List ℕ) (xs : List (List ℕ)). x ∷ xs) (epochs_told shape K off all)
    (all_epochs shape K (off + 1) n all)

module _ {S : Script} {b : WordBook} {V : History → Serving} {K : List TurnOrder} {group : Group}
    {xs : List Passing} {p : Telling} (course : IsCourse S b V (turn_count S.shape) K group xs p)
  where
    -- the turns are a legal history, which goes on from itself
    pub course_legal : IsLegal S.shape K
    course_legal = ran_legal course.ran course.counted

    pub course_goes_on : GoesOn S.shape K K
    course_goes_on = record { legal = course_legal; begins = prefix_self K }

    pub course_once : AllOnce S.shape p.board xs
    course_once = ran_all course.ran

    -- its clients are those of the history
    pub course_clients : AreClients S.shape.clients
        (client_under S b K (V K) (turn_count S.shape)) group.clients.items
    course_clients = course.clients K course_goes_on

    -- and its closed cluster had the entries and the epochs of the history
    pub course_order : {c : Ended} → Closes S.shape xs p c →
        c.order ≡ entries S (words_of S.shape b) K
    course_order {c} closes =
        (ran_ends course.ran closes).0
        ∙ ap (entries_before (write_at S (words_of S.shape b)) K) course.counted

    -- of which the displaced writes were counted
    pub course_displaced : {c : Ended} {count : ℕ} → Closes S.shape xs p c →
        count ≡ displaced_in S.shape c.order → count ≡ displaced_count S (words_of S.shape b) K
    course_displaced {c} {count} closes is = is ∙ ap (displaced_in S.shape) (course_order closes)

    pub course_epochs : {c : Ended} → Closes S.shape xs p c →
        c.epochs ≡ map (epochs_of S.shape K) (range_with_len 0 S.shape.clients)
    course_epochs {c} closes =
        (ran_ends course.ran closes).1
        ∙ all_epochs S.shape K 0 S.shape.clients course.counted
