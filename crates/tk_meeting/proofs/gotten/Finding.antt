-- Each text that a log gave to a reader was found in some turn.
use Rattle.tk_meeting.proofs.Terms.{◌≡◌, ℕ, ◌<◌, List, [], ◌∷◌, map, ◌+◌, ◌==◌, cond, ◌++◌, ◌-◌, true, false, replicate}
use Rattle.tk_meeting.proofs.Terms.{filter, Option, Some, None, ◌∙◌, refl, ap, sym, zero, suc, arith, subst, eqb-true}
use Rattle.tk_meeting.proofs.Terms.{inl, inr, append_assoc, ap₂, slice_get, slice_index_or, slice_set, cases_lt}
use Rattle.tk_meeting.proofs.Terms.{AllByRecursion, turn_count, BookWords, epoch_at, History, Script, Reader, got_in}
use Rattle.tk_meeting.proofs.Terms.{Follow, next_of, new_follow, untried, at_epoch, follow_at, follow_after, after_read}
use Rattle.tk_meeting.proofs.Terms.{target, first_got, Got, Absent, Text, Target, get-front, target-is, shown_over}
use Rattle.tk_meeting.proofs.Terms.{get-behind, absent_then, reader_before, target_at, lookup, read_over, follows_of}
use Rattle.tk_meeting.proofs.Terms.{target_for, answer_for}
use Rattle.tk_report.specs.PassingOver.{Reads}
use Rattle.tk_report.proofs.Offers.{settled}

-- number s of a log is one of the run, and gave a text in one of the first n turns
pub record WasFound (S : Script) (w : BookWords) (H : History) (c n log s : ℕ) (text : List ℕ)
    : Type 0 where
  pub turn : ℕ
  pub in_turns : turn < n
  pub number_in : s < turn_count S.shape
  pub reads : Reads S w H c turn log s text

-- each text that a log gave was found in one of the first n turns
record HasFound (S : Script) (w : BookWords) (H : History) (c n : ℕ) (f : Follow) : Type 0 where
  each : (s : ℕ) (text : List ℕ) → slice_get f.got s ≡ Some (Text text) → WasFound S w H c n f.log s text

abbrev HaveFound : Script → BookWords → History → ℕ → ℕ → List Follow → Type 0
HaveFound S w H c n follows = AllByRecursion (HasFound S w H c n) follows

-- ---- where nothing is found

new-found : (S : Script) (w : BookWords) (H : History) (c : ℕ) (logs : List ℕ) →
    HaveFound S w H c 0 (map new_follow logs)
new-found S w H c [] = tt
new-found S w H c (x ∷ logs) =
    (record { each = λ s text e. absurd (cc e) }, new-found S w H c logs)

untried-found : (S : Script) (w : BookWords) (H : History) (c n : ℕ) (follows : List Follow) →
    HaveFound S w H c n follows → HaveFound S w H c n (map untried follows)
untried-found S w H c n [] have = tt
untried-found S w H c n (f ∷ follows) have =
    (record { each = have.0.each }, untried-found S w H c n follows have.1)

epoch-found : (S : Script) (w : BookWords) (H : History) (c n e : ℕ) (r : Reader) →
    HaveFound S w H c n r.follows → HaveFound S w H c n (at_epoch e r).follows
epoch-found S w H c n e r have =
    elim (e == r.last)
    as (λ t. HaveFound S w H c n
    (cond t r (record { follows = map untried r.follows; cursor = r.cursor; last = e })).follows)
    [ true ↦ have | false ↦ untried-found S w H c n r.follows have ]

more-found : (S : Script) (w : BookWords) (H : History) (c n log s : ℕ) (text : List ℕ) →
    WasFound S w H c n log s text → WasFound S w H c (suc n) log s text
more-found S w H c n log s text was =
    let low = was.in_turns in
    record {
      turn = was.turn;
      in_turns = omega (arith, low);
      number_in = was.number_in;
      reads = was.reads;
    }

later-found : (S : Script) (w : BookWords) (H : History) (c n : ℕ) (f : Follow) →
    HasFound S w H c n f → HasFound S w H c (suc n) f
later-found S w H c n f has =
    record { each = λ s text e. more-found S w H c n f.log s text (has.each s text e) }

all-later : (S : Script) (w : BookWords) (H : History) (c n : ℕ) (follows : List Follow) →
    HaveFound S w H c n follows → HaveFound S w H c (suc n) follows
all-later S w H c n [] have = tt
all-later S w H c n (f ∷ follows) have =
    (later-found S w H c n f have.0, all-later S w H c n follows have.1)

-- ---- where something is found

-- the one with a text is the last
text-last : (j i : ℕ) (text other : List ℕ) → slice_get (absent_then j text) i ≡ Some (Text other) →
    (j ≡ i) × (text ≡ other)
text-last zero zero text other e = (refl, cc e)
text-last zero (suc i) text other e = absurd (cc e)
text-last (suc j) zero text other e = absurd (cc e)
text-last (suc j) (suc i) text other e =
    let later = text-last j i text other e in (ap suc later.0, later.1)

text-found : (S : Script) (w : BookWords) (H : History) (c g j : ℕ) (f : Follow) (text : List ℕ) →
    HasFound S w H c g f → next_of f + j < turn_count S.shape →
    Reads S w H c g f.log (next_of f + j) text →
    HasFound S w H c (suc g) (follow_after S.shape j (Some text) f)
text-found S w H c g j f text has number_in answer =
    let one_by_one = append_assoc f.got (replicate j Absent) (Text text ∷ []) in
    let now : HasFound S w H c (suc g) (settled f (f.got ++ new)) = record { each = old_or_new } in
    subst (HasFound S w H c (suc g)) (ap (settled f) (sym one_by_one)) now
  where
    new : List Got
    new = absent_then j text

    old_or_new : (s : ℕ) (other : List ℕ) → slice_get (f.got ++ new) s ≡ Some (Text other) →
        WasFound S w H c (suc g) f.log s other
    old_or_new s other e =
        elim (cases_lt s (next_of f)) [
          | inl old ↦ more-found S w H c g f.log s other
              (has.each s other (sym (get-front f.got new s old) ∙ e))
          | inr behind ↦
              let at : next_of f + (s - next_of f) ≡ s = omega (arith, behind) in
              let here = sym (get-behind f.got new (s - next_of f)) ∙ ap (slice_get (f.got ++ new)) at ∙ e in
              let last = text-last j (s - next_of f) text other here in
              let number : next_of f + j ≡ s = ap (λ i. next_of f + i) last.0 ∙ at in
              record {
                turn = g;
                in_turns = omega arith;
                number_in = omega (arith, number_in, number);
                reads = subst (λ k. Reads S w H c g f.log k other) number
                    (subst (Reads S w H c g f.log (next_of f + j)) last.1 answer);
              }
        ]

answer-found : (S : Script) (w : BookWords) (H : History) (c g j : ℕ) (f : Follow)
    (answer : Option (List ℕ)) → HasFound S w H c g f → next_of f + j < turn_count S.shape →
    ((text : List ℕ) → answer ≡ Some text → Reads S w H c g f.log (next_of f + j) text) →
    HasFound S w H c (suc g) (follow_after S.shape j answer f)
answer-found S w H c g j f None has number_in answer =
    let later : HasFound S w H c (suc g) f = later-found S w H c g f has in
    elim (S.shape.ahead == 0)
    as (λ t. HasFound S w H c (suc g) (cond t f (record f { tried = j + 1 })))
    [ true ↦ later | false ↦ record { each = later.each } ]
answer-found S w H c g j f (Some text) has number_in answer =
    text-found S w H c g j f text has number_in (answer text refl)

-- ---- a reader after a turn

each-set : {X : Type 0} (P Q : X → Type 0) (xs : List X) (i : ℕ) (d y : X) →
    ((x : X) → P x → Q x) → AllByRecursion P xs → (P (slice_index_or xs i d) → Q y) →
    AllByRecursion Q (slice_set xs i y)
each-set P Q [] i d y goes each new = tt
each-set P Q (x ∷ xs) zero d y goes each new = (new each.0, all-go xs each.1)
  where
    all-go : (xs : List _) → AllByRecursion P xs → AllByRecursion Q xs
    all-go [] each = tt
    all-go (x ∷ xs) each = (goes x each.0, all-go xs each.1)
each-set P Q (x ∷ xs) (suc i) d y goes each new =
    (goes x each.0, each-set P Q xs i d y goes each.1 new)

read-found : (S : Script) (w : BookWords) (H : History) (c g : ℕ) (r : Reader) (t : Option Target) →
    HaveFound S w H c g r.follows → target_at S w H g c ≡ t → target S.shape (shown_over S w H g c) r ≡ t →
    HaveFound S w H c (suc g) (after_read S.shape r t (answer_for S w H g c t)).follows
unfolding after_read
read-found S w H c g r None have at aimed = all-later S w H c g r.follows have
read-found S w H c g r (Some t) have at aimed =
    let f = follow_at r t.place in
    let is = target-is S.shape (shown_over S w H g c) r t aimed in
    let answer = answer_for S w H g c (Some t) in
    let gives : lookup S.shape w (read_over S w H g c) f.log (next_of f + t.ahead) ≡ answer =
    ap₂ (lookup S.shape w (read_over S w H g c)) (sym is.of_log) (sym is.of_number)
    in
    each-set (HasFound S w H c g) (HasFound S w H c (suc g)) r.follows t.place (new_follow 0)
    (follow_after S.shape t.ahead answer f) (later-found S w H c g) have
    (λ has. answer-found S w H c g t.ahead f answer has is.is_wanted.in_run
    (λ text e. record { target = t; asks = at; of_log = is.of_log; of_number = is.of_number; answer = gives ∙ e }))

before-found : (S : Script) (w : BookWords) (H : History) (c g : ℕ) →
    HaveFound S w H c g (reader_before S w H c g).follows
unfolding reader_before
before-found S w H c zero = new-found S w H c (follows_of S c)
before-found S w H c (suc g) =
    let e = epoch_at H g c in
    let r = reader_before S w H c g in
    read-found S w H c g (at_epoch e r) (target_for S w H g c r)
    (epoch-found S w H c g e r (before-found S w H c g)) refl refl

got-found : (S : Script) (w : BookWords) (H : History) (c n log s : ℕ) (text : List ℕ)
    (follows : List Follow) → HaveFound S w H c n follows →
    slice_get (got_in follows log) s ≡ Some (Text text) → WasFound S w H c n log s text
got-found S w H c n log s text [] have e = absurd (cc e)
got-found S w H c n log s text (f ∷ follows) have e =
    let later = filter (λ (h : Follow). h.log == log) follows in
    elim (f.log == log)
    as (λ t. (f.log == log) ≡ t →
    slice_get (first_got (cond t (f ∷ later) later)) s ≡ Some (Text text) →
    WasFound S w H c n log s text) [
      | true ↦ λ same here.
          subst (λ k. WasFound S w H c n k s text) (eqb-true f.log log same) (have.0.each s text here)
      | false ↦ λ _ there. got-found S w H c n log s text follows have.1 there
    ] refl e

-- each text that a log gives to a client before turn n was found before it
pub texts-found : (S : Script) (w : BookWords) (H : History) (c n log s : ℕ) (text : List ℕ) →
    slice_get (got_in (reader_before S w H c n).follows log) s ≡ Some (Text text) →
    WasFound S w H c n log s text
texts-found S w H c n log s text e =
    got-found S w H c n log s text (reader_before S w H c n).follows (before-found S w H c n) e
