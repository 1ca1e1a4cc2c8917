-- What a log gave to a reader only grows, at its end, with each turn.
use Rattle.tk_meeting.proofs.Terms.{◌≡◌, ℕ, ◌≤◌, List, [], ◌∷◌, map, ◌+◌, ◌==◌, cond, ◌++◌, ◌-◌, true, false, replicate}
use Rattle.tk_meeting.proofs.Terms.{filter, Option, Some, None, ◌∙◌, refl, ap, sym, zero, suc, arith, subst, append-nil}
use Rattle.tk_meeting.proofs.Terms.{append_assoc, slice_set, turn_count, Shape, BookWords, epoch_at, History, Script}
use Rattle.tk_meeting.proofs.Terms.{Reader, got_in, Follow, new_follow, untried, at_epoch, follow_after, after_read}
use Rattle.tk_meeting.proofs.Terms.{first_got, follow_in, Got, Absent, Text, Target, after-log, reader_before, got_of}
use Rattle.tk_meeting.proofs.Terms.{follows_of, target_for, answer_for}

-- what a log gave, and later that and more
pub record GrowsTo (old new : List Got) : Type 0 where
  pub rest : List Got
  pub is : new ≡ old ++ rest

pub grows-none : (got : List Got) → GrowsTo got got
grows-none got = record { rest = []; is = sym (append-nil got) }

pub grows-next : (old mid new : List Got) → GrowsTo old mid → GrowsTo mid new → GrowsTo old new
grows-next old mid new a b =
    record {
      rest = a.rest ++ b.rest;
      is = b.is ∙ ap (λ xs. xs ++ b.rest) a.is ∙ append_assoc old a.rest b.rest;
    }

-- ---- a new epoch changes nothing

untried-got : (follows : List Follow) (log : ℕ) →
    got_in (map untried follows) log ≡ got_in follows log
untried-got [] log = refl
untried-got (f ∷ follows) log =
    let later = filter (λ (h : Follow). h.log == log) follows in
    let anew = filter (λ (h : Follow). h.log == log) (map untried follows) in
    elim (f.log == log)
    as (λ t. first_got (cond t (untried f ∷ anew) anew) ≡ first_got (cond t (f ∷ later) later))
    [ true ↦ refl | false ↦ untried-got follows log ]

epoch-got : (e : ℕ) (r : Reader) (log : ℕ) → got_in (at_epoch e r).follows log ≡ got_in r.follows log
epoch-got e r log =
    elim (e == r.last)
    as (λ t. got_in
    (cond t r (record { follows = map untried r.follows; cursor = r.cursor; last = e })).follows log
    ≡ got_in r.follows log)
    [ true ↦ refl | false ↦ untried-got r.follows log ]

-- ---- a read adds to the log that is read

follow-grows : (shape : Shape) (j : ℕ) (answer : Option (List ℕ)) (f : Follow) →
    GrowsTo f.got (follow_after shape j answer f).got
follow-grows shape j (Some text) f =
    record {
      rest = replicate j Absent ++ Text text ∷ [];
      is = append_assoc f.got (replicate j Absent) (Text text ∷ []);
    }
follow-grows shape j None f =
    elim (shape.ahead == 0) as (λ t. GrowsTo f.got (cond t f (record f { tried = j + 1 })).got)
    [ true ↦ grows-none f.got | false ↦ grows-none f.got ]

-- the first of the two has its place in the list
head-grows : (x f : Follow) (follows : List Follow) (log : ℕ) → f.log ≡ x.log →
    GrowsTo x.got f.got → GrowsTo (got_in (x ∷ follows) log) (got_in (f ∷ follows) log)
head-grows x f follows log same more =
    let later = filter (λ (h : Follow). h.log == log) follows in
    subst
    (λ n. GrowsTo (first_got (cond (x.log == log) (x ∷ later) later))
    (first_got (cond (n == log) (f ∷ later) later)))
    (sym same)
    (elim (x.log == log)
    as (λ t. GrowsTo (first_got (cond t (x ∷ later) later)) (first_got (cond t (f ∷ later) later)))
    [ true ↦ more | false ↦ grows-none (first_got later) ])

tail-grows : (x : Follow) (old new : List Follow) (log : ℕ) → GrowsTo (got_in old log) (got_in new log) →
    GrowsTo (got_in (x ∷ old) log) (got_in (x ∷ new) log)
tail-grows x old new log more =
    let before = filter (λ (h : Follow). h.log == log) old in
    let after = filter (λ (h : Follow). h.log == log) new in
    elim (x.log == log)
    as (λ t. GrowsTo (first_got (cond t (x ∷ before) before)) (first_got (cond t (x ∷ after) after)))
    [ true ↦ grows-none x.got | false ↦ more ]

set-grows : (follows : List Follow) (place : ℕ) (f : Follow) (log : ℕ) →
    f.log ≡ (follow_in follows place).log → GrowsTo (follow_in follows place).got f.got →
    GrowsTo (got_in follows log) (got_in (slice_set follows place f) log)
set-grows [] place f log same more = grows-none []
set-grows (x ∷ follows) zero f log same more = head-grows x f follows log same more
set-grows (x ∷ follows) (suc place) f log same more =
    tail-grows x follows (slice_set follows place f) log (set-grows follows place f log same more)

read-grows : (shape : Shape) (r : Reader) (t : Option Target) (answer : Option (List ℕ)) (log : ℕ) →
    GrowsTo (got_in r.follows log) (got_in (after_read shape r t answer).follows log)
unfolding after_read
read-grows shape r None answer log = grows-none (got_in r.follows log)
read-grows shape r (Some t) answer log =
    let f = follow_in r.follows t.place in
    set-grows r.follows t.place (follow_after shape t.ahead answer f) log
    (after-log shape t.ahead answer f) (follow-grows shape t.ahead answer f)

-- ---- turns

pub turn-grows : (S : Script) (w : BookWords) (H : History) (c log g : ℕ) →
    GrowsTo (got_in (reader_before S w H c g).follows log)
    (got_in (reader_before S w H c (g + 1)).follows log)
unfolding reader_before
turn-grows S w H c log g =
    subst
    (λ n. GrowsTo (got_in (reader_before S w H c g).follows log)
    (got_in (reader_before S w H c n).follows log))
    (one-more g) step
  where
    one-more : (g : ℕ) → suc g ≡ g + 1
    one-more g = omega arith

    step : GrowsTo (got_in (reader_before S w H c g).follows log)
        (got_in (reader_before S w H c (suc g)).follows log)
    step =
        let r = reader_before S w H c g in
        let e = epoch_at H g c in
        let t = target_for S w H g c r in
        subst (λ got. GrowsTo got (got_in (reader_before S w H c (suc g)).follows log))
        (epoch-got e r log)
        (read-grows S.shape (at_epoch e r) t (answer_for S w H g c t) log)

-- before the first turn no log gave anything
none-new : (logs : List ℕ) (log : ℕ) → got_in (map new_follow logs) log ≡ []
none-new [] log = refl
none-new (x ∷ logs) log =
    let later = filter (λ (h : Follow). h.log == log) (map new_follow logs) in
    elim (x == log) as (λ t. first_got (cond t (new_follow x ∷ later) later) ≡ [])
    [ true ↦ refl | false ↦ none-new logs log ]

pub first-none : (S : Script) (w : BookWords) (H : History) (c log : ℕ) →
    got_in (reader_before S w H c 0).follows log ≡ []
unfolding reader_before
first-none S w H c log = none-new (follows_of S c) log

-- turn by turn
pub turns-grow : (S : Script) (w : BookWords) (H : History) (c log g n : ℕ) →
    GrowsTo (got_in (reader_before S w H c g).follows log)
    (got_in (reader_before S w H c (g + n)).follows log)
turns-grow S w H c log g zero =
    let here : g ≡ g + 0 = omega arith in
    let got : ℕ → List Got = λ k. got_in (reader_before S w H c k).follows log in
    subst (λ k. GrowsTo (got g) (got k)) here (grows-none (got g))
turns-grow S w H c log g (suc n) =
    let got : ℕ → List Got = λ k. got_in (reader_before S w H c k).follows log in
    let here : g + n + 1 ≡ g + suc n = omega arith in
    subst (λ k. GrowsTo (got g) (got k)) here
    (grows-next (got g) (got (g + n)) (got (g + n + 1)) (turns-grow S w H c log g n)
    (turn-grows S w H c log (g + n)))

-- what a log gave in the first turns is a front of what it gives in the whole run
pub readers-grow : (S : Script) (w : BookWords) (H : History) (c log turns : ℕ) →
    turns ≤ turn_count S.shape →
    GrowsTo (got_in (reader_before S w H c turns).follows log) (got_of S w H c log)
readers-grow S w H c log turns within =
    let got : ℕ → List Got = λ k. got_in (reader_before S w H c k).follows log in
    let whole : turns + (turn_count S.shape - turns) ≡ turn_count S.shape = omega (arith, within) in
    subst (λ k. GrowsTo (got turns) (got k)) whole
    (turns-grow S w H c log turns (turn_count S.shape - turns))
