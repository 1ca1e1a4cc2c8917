-- What is listed of each client when one text more is: another client's, one that comes after the
-- last turn, or one that is sent.
use Rattle.std.proofs.Common.{◌≡◌, ◌∙◌, ap, sym, refl, subst, arith, inl, inr}
use Rattle.std.proofs.Common.{ℕ, ◌+◌, ◌<◌, ◌≤◌, max, Bool, true, false, cond}
use Rattle.std.proofs.Common.{List, [], ◌∷◌, ◌++◌, length, drop, filter, get_or, set, map}
use Rattle.std.proofs.Common.{append_assoc, append-nil, eq-eqb, ne_eqb, Some, replicate}
use Rattle.std.specs.Prelude.{◌==◌, slice_get}
use Rattle.std.specs.List.{range_with_len}
use Rattle.std.specs.List.Sorted.{IsNonDecreasingBy}
use Rattle.std.proofs.lemmas.Bool.{lt-ltb, le-ltb, eqb-true, eqb-false, cases_eq}
use Rattle.std.proofs.lemmas.List.{drop_more, get_or-set_same, get_or-set_other, length-set}
use Rattle.std.proofs.lemmas.List.{length-replicate, get_or-replicate}
use Rattle.std.proofs.lemmas.List.FromFn.{fill_by_all}
use Rattle.std.proofs.lemmas.List.Sorted.{IsNonDecreasingBy-take}
use Rattle.std.proofs.lemmas.List.Sums.{count_by-le-length}
use Rattle.std.proofs.Math.Seq.{drop-length, take-append_seam}
use Rattle.std.proofs.lemmas.Option.{get_or_from_slice_get, slice_get_within}
use Rattle.tk_shape.specs.declared.shape.Shape.{Shape}
use Rattle.tk_shape.specs.Lengths.{turn_count}
use Rattle.tk_schedule.specs.Schedule.{turn_at}
use Rattle.tk_script.specs.declared.script.Script.{Script}
use Rattle.tk_script.specs.declared.say.Say.{Say}
use Rattle.tk_script.specs.declared.role.Role.{Role}
use Rattle.tk_script.specs.Sent.{Sending, sendings_from, in_run, writer_of, blank_role}
use Rattle.tk_script.proofs.Offers.{of_log, of_log-cons}
use Rattle.tk_report.specs.Listings.{sent_by, is_written_by, sent_after, IsListed, IsListing}
use Rattle.tk_report.specs.declared.sent_list.Listing.{Listing}
use Rattle.tk_report.proofs.SendingsLaws.{sent_by-ascends}

-- what stands at a place, and what comes after it
at_place : {X : Type 0} (xs : List X) (i : ℕ) (x : X) → slice_get xs i ≡ Some x →
    drop i xs ≡ x ∷ drop (i + 1) xs
at_place {X} xs i x at =
    drop_more xs i x (slice_get_within xs i x at)
    ∙ ap (λ (y : X). y ∷ drop (i + 1) xs) (get_or_from_slice_get xs i x x at)

filter-passes : {X : Type 0} (p : X → Bool) (x : X) (xs : List X) → p x ≡ true →
    filter p (x ∷ xs) ≡ x ∷ filter p xs
filter-passes p x xs e = ap (λ b. cond b (x ∷ filter p xs) (filter p xs)) e

filter-fails : {X : Type 0} (p : X → Bool) (x : X) (xs : List X) → p x ≡ false →
    filter p (x ∷ xs) ≡ filter p xs
filter-fails p x xs e = ap (λ b. cond b (x ∷ filter p xs) (filter p xs)) e

-- the writer of a log, by its role
pub writer-of : (S : Script) (log : ℕ) (role : Role) → slice_get S.roles log ≡ Some role →
    writer_of S log ≡ role.writer
writer-of S log role at =
    ap (λ (r : Role). r.writer) (get_or_from_slice_get S.roles log role blank_role at)

-- ---- what a text brings

-- after the last turn nothing is sent
-- after the last turn nothing is sent
pub none-late : (shape : Shape) (free : ℕ) (earlier says : List Say) → turn_count shape ≤ free →
    filter (in_run shape) (sendings_from shape free earlier says) ≡ []
unfolding sendings_from
none-late shape free earlier [] late = refl
none-late shape free earlier (y ∷ says) late =
    let turn = max (turn_at shape y.phase y.tick) free in
    let rest = sendings_from shape (turn + 1) (y ∷ earlier) says in
    filter-fails (in_run shape) _ rest (le-ltb turn (turn_count shape) (omega (arith, late)))
    ∙ none-late shape (turn + 1) (y ∷ earlier) says (omega (arith, late))

-- a text of another client brings nothing
another's : (S : Script) (c free : ℕ) (earlier : List Say) (y : Say) (says : List Say) →
    is_written_by S c y ≡ false →
    sent_after S c free earlier (y ∷ says) ≡ sent_after S c free earlier says
unfolding sent_after
another's S c free earlier y says e =
    ap (λ (mine : List Say). filter (in_run S.shape) (sendings_from S.shape free earlier mine))
    (filter-fails (is_written_by S c) y says e)

-- nor does one for which no turn is left
too_late : (S : Script) (c free : ℕ) (earlier says more : List Say) →
    turn_count S.shape ≤ free →
    sent_after S c free earlier says ≡ sent_after S c free earlier more
unfolding sent_after
too_late S c free earlier says more late =
    none-late S.shape free earlier (filter (is_written_by S c) says) late
    ∙ sym (none-late S.shape free earlier (filter (is_written_by S c) more) late)

-- the first free turn from that of a text on
abbrev pub due : Shape → ℕ → Say → ℕ
due shape free y = max (turn_at shape y.phase y.tick) free

-- what it is sent as
abbrev pub sending : ℕ → ℕ → Say → Sending
sending turn number y =
    record { turn = turn; log = y.log; number = number; text = y.text }

-- any other is sent
one_more : (S : Script) (c free : ℕ) (earlier : List Say) (y : Say) (says : List Say) →
    is_written_by S c y ≡ true → due S.shape free y < turn_count S.shape →
    sent_after S c free earlier (y ∷ says)
    ≡ sending (due S.shape free y) (of_log y.log earlier) y
    ∷ sent_after S c (due S.shape free y + 1) (y ∷ earlier) says
unfolding sent_after sendings_from
one_more S c free earlier y says mine soon =
    let others = filter (is_written_by S c) says in
    ap (λ (ys : List Say). filter (in_run S.shape) (sendings_from S.shape free earlier ys))
    (filter-passes (is_written_by S c) y says mine)
    ∙ filter-passes (in_run S.shape) (sending (due S.shape free y) (of_log y.log earlier) y)
    (sendings_from S.shape (due S.shape free y + 1) (y ∷ earlier) others)
    (lt-ltb (due S.shape free y) (turn_count S.shape) soon)

-- the number of a log with one text more
number-more : (numbers : List ℕ) (earlier : List Say) (y : Say) (n log : ℕ) →
    y.log < length numbers → n ≡ of_log y.log earlier →
    get_or numbers log 0 ≡ of_log log earlier →
    get_or (set numbers y.log (n + 1)) log 0 ≡ of_log log (y ∷ earlier)
number-more numbers earlier y n log own is before =
    elim (y.log == log) as (λ b. (y.log == log) ≡ b →
    get_or (set numbers y.log (n + 1)) log 0 ≡ of_log log (y ∷ earlier)) [
      | true ↦ λ e.
          let same : y.log ≡ log = eqb-true y.log log e in
          subst (λ (l : ℕ). get_or (set numbers y.log (n + 1)) l 0 ≡ of_log l (y ∷ earlier)) same
          (get_or-set_same numbers y.log (n + 1) 0 own
          ∙ ap (λ (k : ℕ). k + 1) is ∙ omega (
            arith,
            of_log-cons y.log y earlier,
            ap {B = ℕ} (λ b. cond b 1 0) (eq-eqb y.log y.log refl),
          ))
      | false ↦ λ e.
          get_or-set_other numbers y.log log (n + 1) 0
          (λ f. eqb-false y.log log e (sym f))
          ∙ before
          ∙ omega (arith, of_log-cons log y earlier, ap {B = ℕ} (λ b. cond b 1 0) e)
    ] refl

-- ---- what is listed of a client, with one text more

-- the text at a place is another client's
listed-other : (S : Script) (c place : ℕ) (y : Say) (free free' : ℕ) (numbers numbers' : List ℕ)
    (listed listed' : List Sending) → slice_get S.says place ≡ Some y →
    is_written_by S c y ≡ false → free' ≡ free → listed' ≡ listed →
    ((log : ℕ) → writer_of S log ≡ c → get_or numbers' log 0 ≡ get_or numbers log 0) →
    IsListed S c place free numbers listed → IsListed S c (place + 1) free' numbers' listed'
listed-other S c place y free free' numbers numbers' listed listed' at other same_turn same kept is =
    let rest = drop (place + 1) S.says in
    record {
      earlier = is.earlier;
      few = omega (arith, is.few, same_turn);
      counts = λ log low mine. kept log mine ∙ is.counts log low mine;
      split =
          ap (λ (zs : List Sending). zs ++ sent_after S c free' is.earlier rest) same
          ∙ ap (λ (g : ℕ). listed ++ sent_after S c g is.earlier rest) same_turn
          ∙ ap (λ (zs : List Sending). listed ++ zs)
          (sym (ap (sent_after S c free is.earlier) (at_place S.says place y at)
          ∙ another's S c free is.earlier y rest other))
          ∙ is.split;
    }

-- no turn is left for it
listed-late : (S : Script) (c place free : ℕ) (numbers : List ℕ) (listed : List Sending) →
    turn_count S.shape ≤ free → IsListed S c place free numbers listed →
    IsListed S c (place + 1) free numbers listed
listed-late S c place free numbers listed late is =
    record {
      earlier = is.earlier;
      few = is.few;
      counts = is.counts;
      split = ap (λ (zs : List Sending). listed ++ zs)
          (too_late S c free is.earlier (drop (place + 1) S.says) (drop place S.says) late)
          ∙ is.split;
    }

-- it is sent
listed-own : (S : Script) (c place n now : ℕ) (y : Say) (free free' : ℕ)
    (numbers numbers' : List ℕ) (listed listed' : List Sending) →
    slice_get S.says place ≡ Some y → writer_of S y.log ≡ c → y.log < S.shape.logs →
    length numbers ≡ S.shape.logs → now ≡ due S.shape free y → now < turn_count S.shape →
    n ≡ get_or numbers y.log 0 → free' ≡ now + 1 → numbers' ≡ set numbers y.log (n + 1) →
    listed' ≡ listed ++ sending now n y ∷ [] → IsListed S c place free numbers listed →
    IsListed S c (place + 1) free' numbers' listed'
listed-own S c place n now y free free' numbers numbers' listed listed' at own log counted now_is
    soon n_is free_is numbers_is listed_is is =
    let number : n ≡ of_log y.log is.earlier = n_is ∙ is.counts y.log log own in
    let rest = drop (place + 1) S.says in
    let later = λ (g : ℕ) (k : ℕ). sending g k y ∷ sent_after S c (g + 1) (y ∷ is.earlier) rest in
    let next : sent_after S c free is.earlier (drop place S.says) ≡ later now n =
    ap (sent_after S c free is.earlier) (at_place S.says place y at)
    ∙ one_more S c free is.earlier y rest (eq-eqb (writer_of S y.log) c own)
    (subst (λ (g : ℕ). g < turn_count S.shape) now_is soon)
    ∙ ap (λ (g : ℕ). later g (of_log y.log is.earlier)) (sym now_is)
    ∙ ap (later now) (sym number)
    in
    record {
      earlier = y ∷ is.earlier;
      few = omega (arith, free_is, now_is, is.few);
      counts = λ other low mine.
          ap (λ (xs : List ℕ). get_or xs other 0) numbers_is
          ∙ number-more numbers is.earlier y n other (omega (arith, log, counted)) number
          (is.counts other low mine);
      split =
          ap (λ (zs : List Sending). zs ++ sent_after S c free' (y ∷ is.earlier) rest) listed_is
          ∙ append_assoc listed (sending now n y ∷ [])
          (sent_after S c free' (y ∷ is.earlier) rest)
          ∙ ap (λ (g : ℕ). listed ++ sending now n y ∷ sent_after S c g (y ∷ is.earlier) rest) free_is
          ∙ ap (λ (zs : List Sending). listed ++ zs) (sym next)
          ∙ is.split;
    }

-- what is listed of a client is in the order of its turns
listed-ascends : (S : Script) (c place free : ℕ) (numbers : List ℕ) (listed : List Sending) →
    IsListed S c place free numbers listed → IsNonDecreasingBy (λ (y : Sending). y.turn) listed
listed-ascends S c place free numbers listed is =
    let turn = λ (y : Sending). y.turn in
    let later = sent_after S c free is.earlier (drop place S.says) in
    let all = subst (IsNonDecreasingBy turn) (sym is.split) (sent_by-ascends S c) in
    subst (IsNonDecreasingBy turn) (take-append_seam listed later)
    (IsNonDecreasingBy-take turn (length listed) (listed ++ later) all)

-- ---- what is listed of all clients, with one text more

-- how many texts of a log are listed: no more than turns were taken
pub few_listed : (S : Script) (place log w : ℕ) (l : Listing) → IsListing S place l →
    log < S.shape.logs → writer_of S log ≡ w → w < S.shape.clients →
    get_or l.counts.items log 0 ≤ get_or l.free.items w 0
few_listed S place log w l is low own writer =
    let mine = is.each w writer in
    omega (
      arith,
      mine.few,
      mine.counts log low own,
      count_by-le-length (λ (y : Say). y.log == log) mine.earlier,
    )

-- no turn is left for its writer
pub listing-late : (S : Script) (place w : ℕ) (y : Say) (l : Listing) →
    slice_get S.says place ≡ Some y → writer_of S y.log ≡ w →
    turn_count S.shape ≤ get_or l.free.items w 0 → IsListing S place l →
    IsListing S (place + 1) l
listing-late S place w y l at own late is =
    record {
      turns = is.turns;
      numbers = is.numbers;
      clients = is.clients;
      each = λ c low.
          let free = get_or l.free.items c 0 in
          let listed = get_or l.sent.items c [] in
          elim (cases_eq c w) [
            | inl same ↦
                listed-late S c place free l.counts.items listed
                (subst (λ (k : ℕ). turn_count S.shape ≤ get_or l.free.items k 0) (sym same) late)
                (is.each c low)
            | inr other ↦
                listed-other S c place y free free l.counts.items l.counts.items listed listed at
                (ne_eqb (writer_of S y.log) c (λ e. other (sym e ∙ own))) refl refl
                (λ log mine. refl) (is.each c low)
          ];
    }

-- it is sent after what its writer sent before
pub own-ascends : (S : Script) (place n now w : ℕ) (y : Say) (l : Listing) →
    slice_get S.says place ≡ Some y → y.log < S.shape.logs → writer_of S y.log ≡ w →
    w < S.shape.clients → now ≡ due S.shape (get_or l.free.items w 0) y →
    now < turn_count S.shape → n ≡ get_or l.counts.items y.log 0 → IsListing S place l →
    IsNonDecreasingBy (λ (z : Sending). z.turn)
    (get_or l.sent.items w [] ++ sending now n y ∷ [])
own-ascends S place n now w y l at log own writer now_is soon n_is is =
    let counts = set l.counts.items y.log (n + 1) in
    let listed = get_or l.sent.items w [] in
    let next = listed ++ sending now n y ∷ [] in
    listed-ascends S w (place + 1) (now + 1) counts next
    (listed-own S w place n now y (get_or l.free.items w 0) (now + 1) l.counts.items counts
    listed next at own log is.numbers now_is soon n_is refl refl refl (is.each w writer))

-- it is sent
pub listing-own : (S : Script) (place n now w : ℕ) (y : Say) (l more : Listing) →
    slice_get S.says place ≡ Some y → y.log < S.shape.logs → writer_of S y.log ≡ w →
    w < S.shape.clients → now ≡ due S.shape (get_or l.free.items w 0) y →
    now < turn_count S.shape → n ≡ get_or l.counts.items y.log 0 →
    more.free.items ≡ set l.free.items w (now + 1) →
    more.counts.items ≡ set l.counts.items y.log (n + 1) →
    more.sent.items ≡ set l.sent.items w (get_or l.sent.items w [] ++ sending now n y ∷ []) →
    IsListing S place l → IsListing S (place + 1) more
listing-own S place n now w y l more at log own writer now_is soon n_is free counts sent is =
    let next = get_or l.sent.items w [] ++ sending now n y ∷ [] in
    let mine : IsListed S w (place + 1) (now + 1) more.counts.items next =
    listed-own S w place n now y (get_or l.free.items w 0) (now + 1) l.counts.items
    more.counts.items (get_or l.sent.items w []) next at own log is.numbers now_is soon n_is refl
    counts refl (is.each w writer)
    in
    record {
      turns = ap (λ (xs : List ℕ). length xs) free ∙ length-set l.free.items w (now + 1) ∙ is.turns;
      numbers = ap (λ (xs : List ℕ). length xs) counts
          ∙ length-set l.counts.items y.log (n + 1) ∙ is.numbers;
      clients = ap (λ (xs : List (List Sending)). length xs) sent
          ∙ length-set l.sent.items w next ∙ is.clients;
      each = λ c low.
          let free_at = ap (λ (xs : List ℕ). get_or xs c 0) free in
          let sent_at = ap (λ (xs : List (List Sending)). get_or xs c []) sent in
          elim (cases_eq c w) [
            | inl same ↦
                let free_is : get_or more.free.items c 0 ≡ now + 1 =
                free_at
                ∙ ap (λ (k : ℕ). get_or (set l.free.items w (now + 1)) k 0) same
                ∙ get_or-set_same l.free.items w (now + 1) 0 (omega (arith, is.turns, writer))
                in
                let sent_is : get_or more.sent.items c [] ≡ next =
                sent_at
                ∙ ap (λ (k : ℕ). get_or (set l.sent.items w next) k []) same
                ∙ get_or-set_same l.sent.items w next [] (omega (arith, is.clients, writer))
                in
                subst (λ (g : ℕ).
                IsListed S c (place + 1) g more.counts.items (get_or more.sent.items c []))
                (sym free_is)
                (subst (λ (zs : List Sending).
                IsListed S c (place + 1) (now + 1) more.counts.items zs) (sym sent_is)
                (subst (λ (k : ℕ). IsListed S k (place + 1) (now + 1) more.counts.items next)
                (sym same) mine))
            | inr other ↦
                listed-other S c place y (get_or l.free.items c 0) (get_or more.free.items c 0)
                l.counts.items more.counts.items (get_or l.sent.items c [])
                (get_or more.sent.items c []) at
                (ne_eqb (writer_of S y.log) c (λ e. other (sym e ∙ own)))
                (free_at ∙ get_or-set_other l.free.items w c (now + 1) 0 other)
                (sent_at ∙ get_or-set_other l.sent.items w c next [] other)
                (λ k writes.
                ap (λ (xs : List ℕ). get_or xs k 0) counts
                ∙ get_or-set_other l.counts.items y.log k (n + 1) 0
                (λ e. other (sym writes ∙ ap (writer_of S) e ∙ own)))
                (is.each c low)
          ];
    }

-- ---- the whole listing

-- before the first text
pub listing-none : (S : Script) (l : Listing) → l.free.items ≡ replicate S.shape.clients 0 →
    l.counts.items ≡ replicate S.shape.logs 0 → l.sent.items ≡ replicate S.shape.clients [] →
    IsListing S 0 l
unfolding sent_after
listing-none S l free counts sent =
    record {
      turns = ap (λ (xs : List ℕ). length xs) free ∙ length-replicate S.shape.clients 0;
      numbers = ap (λ (xs : List ℕ). length xs) counts ∙ length-replicate S.shape.logs 0;
      clients = ap (λ (xs : List (List Sending)). length xs) sent
          ∙ length-replicate {A = List Sending} S.shape.clients [];
      each = λ c low.
          let at : get_or l.free.items c 0 ≡ 0 =
          ap (λ (xs : List ℕ). get_or xs c 0) free ∙ get_or-replicate S.shape.clients c 0 0 low
          in
          let none : get_or l.sent.items c [] ≡ [] =
          ap (λ (xs : List (List Sending)). get_or xs c []) sent
          ∙ get_or-replicate {A = List Sending} S.shape.clients c [] [] low
          in
          record {
            earlier = [];
            few = omega (arith, at);
            counts = λ log inside mine.
                ap (λ (xs : List ℕ). get_or xs log 0) counts
                ∙ get_or-replicate S.shape.logs log 0 0 inside;
            split =
                ap (λ (zs : List Sending).
                zs ++ sent_after S c (get_or l.free.items c 0) [] S.says) none
                ∙ ap (λ (g : ℕ). sent_after S c g [] S.says) at;
          };
    }

-- after the last
pub listing-all : (S : Script) (l : Listing) → IsListing S (length S.says) l →
    l.sent.items ≡ map (sent_by S) (range_with_len 0 S.shape.clients)
unfolding sent_after sendings_from
listing-all S l is =
    fill_by_all (sent_by S) l.sent.items S.shape.clients [] is.clients (λ c low.
    let mine = is.each c low in
    let listed = get_or l.sent.items c [] in
    sym (append-nil listed)
    ∙ ap (λ (zs : List Sending). listed ++ zs)
    (sym (ap (sent_after S c (get_or l.free.items c 0) mine.earlier) (drop-length S.says)))
    ∙ mine.split)
