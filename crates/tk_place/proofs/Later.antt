-- A search ends at the first place with an empty slot, wherever it stands in the queue.
use Rattle.std.proofs.Common.{◌≡◌, ℕ, zero, suc, ◌+◌, ◌-◌, ◌<◌, ◌≤◌, List, [], ◌∷◌, ◌++◌, length, drop}
use Rattle.std.proofs.Common.{get_or, true, false, is_some, inl, inr, ap, sym, subst, ◌∙◌, arith, cond, refl, is_none}
use Rattle.std.specs.Prelude.{Option, Some, None}
use Rattle.std.specs.List.{list_all}
use Rattle.std.proofs.lemmas.Bool.{and_parts, cases_lt}
use Rattle.std.proofs.lemmas.List.{get_or_append_left, get_or-append_right, get_or-drop, length-append, length-drop}
use Rattle.tk_place.specs.Place.{Others, Reached, slots_of, lowest_empty, has_bucket, named_in, not_before}
use Rattle.tk_place.specs.Table.{IsTable, is_other_full, leads_to_full}
use Rattle.tk_place.specs.Search.{IsEnd, AreFull, IsFirst}
use Rattle.tk_place.specs.Views.{place_at}
use Rattle.tk_place.specs.declared.search.End.{End}
use Rattle.tk_place.proofs.Reaching.{few_distinct, AllOf}
use Rattle.tk_place.proofs.Ends.{IsSearching, searching_on, end_from, ends_here, goes_on, has_room, named_by}

ends_later : (T : Others) (n j : ℕ) (before places : List Reached) (d : Reached) →
    j < length places → j < n → ((i : ℕ) → i < j → has_room T (get_or places i d) ≡ false) →
    has_room T (get_or places j d) ≡ true → end_from T n before places ≡ Some (get_or places j d)
ends_later T n j before [] d low short full room = absurd (omega (arith, low))
ends_later T zero j before (p ∷ places) d low short full room = absurd (omega (arith, short))
ends_later T (suc n) zero before (p ∷ places) d low short full room =
    ends_here T n before p places room
ends_later T (suc n) (suc j) before (p ∷ places) d low short full room =
    let next = not_before before (named_by T p) in
    let more = length-append places next in
    let stays = λ (i : ℕ) (h : i < length places). get_or_append_left places next d i h in
    let here : j < length places = omega (arith, low) in
    goes_on T n before p places (full 0 (omega arith))
    ∙ ends_later T n j (before ++ next) (places ++ next) d (omega (arith, low, more))
    (omega (arith, short))
    (λ i h. ap (has_room T) (stays i (omega (arith, h, here))) ∙ full (suc i) (omega (arith, h)))
    (ap (has_room T) (stays j here) ∙ room)
    ∙ ap (λ x. Some x) (stays j here)

-- the search ends at the first place that has room, where those before it were found full
pub searching_ends_later : (T : Others) (new : ℕ × ℕ) (places : List Reached) (k tried : ℕ)
    (end : End) → IsSearching T new places k → k ≤ tried → AreFull T places 0 tried →
    IsFirst T places tried end → IsEnd T new places end
searching_ends_later T new places k tried end searching before full first =
    record {
      within = first.within;
      ended = sym searching.rest
          ∙ ends_later T (length T + 1 - k) (end.place - k) places (drop k places) nowhere
          (omega (arith, length-drop k places, first.within, k_low))
          (omega (arith, few_distinct (length T) places searching.distinct, first.within, k_low))
          (λ i low. ap (has_room T) (get_or-drop k places i nowhere)
          ∙ ap is_some (each (k + i) (omega (arith, low, k_low))))
          (ap (has_room T) at_end ∙ ap is_some first.empty)
          ∙ ap (λ x. Some x) at_end;
      empty = first.empty;
    }
  where
    nowhere : Reached
    nowhere = record { bucket = 0; through = [] }

    k_low : k ≤ end.place
    k_low = omega (arith, before, first.from)

    at_end : get_or (drop k places) (end.place - k) nowhere ≡ place_at places end.place
    at_end =
        get_or-drop k places (end.place - k) nowhere
        ∙ ap (place_at places) (omega (arith, k_low))

    each : (m : ℕ) → m < end.place → lowest_empty T (place_at places m).bucket ≡ None
    each m low =
        elim (cases_lt m tried) [
          | inl old ↦ full m (omega arith) old
          | inr new ↦ first.full m new low
        ]

abbrev pub IsFullAt : Others → Reached → Type 0
IsFullAt T p = lowest_empty T p.bucket ≡ None

-- each of the places from one on to another is such a one
abbrev pub EachAt : (Reached → Type 0) → List Reached → ℕ → ℕ → Type 0
EachAt P places from to = (k : ℕ) → from ≤ k → k < to → P (place_at places k)

-- those before and those after
pub each_joined : (P : Reached → Type 0) (places : List Reached) (tried : ℕ) → EachAt P places 0 tried →
    EachAt P places tried (length places) → EachAt P places 0 (length places)
each_joined P places tried before now k low high =
    elim (cases_lt k tried) [ inl old ↦ before k low old | inr new ↦ now k new high ]

-- what each was it is when more places have come
pub each_stays : (P : Reached → Type 0) (places more later : List Reached) (to : ℕ) → later ≡ places ++ more →
    to ≤ length places → EachAt P places 0 to → EachAt P later 0 to
each_stays P places more later to made within each k low high =
    subst (λ ps. P (place_at ps k)) (sym made)
    (subst P (sym (get_or_append_left places more (record { bucket = 0; through = [] }) k (omega (arith, high, within))))
    (each k low high))

-- all that were tried before and all that were tried now
pub full_joined : (T : Others) (places : List Reached) (tried : ℕ) → AreFull T places 0 tried →
    AreFull T places tried (length places) → AreFull T places 0 (length places)
full_joined T = each_joined (IsFullAt T)

-- what was full is so when more places have come
pub full_stays : (T : Others) (places more later : List Reached) → later ≡ places ++ more →
    AreFull T places 0 (length places) → AreFull T later 0 (length places)
full_stays T places more later made = each_stays (IsFullAt T) places more later (length places) made (omega arith)

-- ---- what full buckets lead to

pub none_of : (o : Option ℕ) → is_none o ≡ true → o ≡ None
none_of None e = refl
none_of (Some x) e = absurd cc

-- what a bucket's entries name is full where its slots pass the test
named_full : (T : Others) (from : Reached) (i : ℕ) (slots : List (Option ℕ)) →
    list_all (is_other_full T) slots ≡ true → AllOf (IsFullAt T) (named_in from i slots)
named_full T from i [] all = tt
named_full T from i (None ∷ slots) all = named_full T from (i + 1) slots all
named_full T from i (Some b ∷ slots) all =
    let parts = and_parts (is_none (lowest_empty T b)) (list_all (is_other_full T) slots) all in
    (none_of (lowest_empty T b) parts.0, named_full T from (i + 1) slots parts.1)

-- what is new among them, too
pub new_of : (P : Reached → Type 0) (before ps : List Reached) → AllOf P ps → AllOf P (not_before before ps)
new_of P before [] each = tt
new_of P before (p ∷ ps) each =
    elim (has_bucket before p.bucket) as (λ s.
    AllOf P (cond s (not_before before ps) (p ∷ not_before (p ∷ before) ps))) [
      | true ↦ new_of P before ps each.1
      | false ↦ (each.0, new_of P (p ∷ before) ps each.1)
    ]

each_of : (P : Reached → Type 0) (ps : List Reached) (k : ℕ) (d : Reached) → AllOf P ps →
    k < length ps → P (get_or ps k d)
each_of P [] k d each low = absurd (omega (arith, low))
each_of P (p ∷ ps) zero d each low = each.0
each_of P (p ∷ ps) (suc k) d each low = each_of P ps k d each.1 (omega (arith, low))

-- what is queued after is such a one where all that the entries name is
pub each_behind : (P : Reached → Type 0) (T : Others) (places later : List Reached) (from : Reached) →
    later ≡ places ++ not_before places (named_by T from) → AllOf P (named_by T from) →
    EachAt P later (length places) (length later)
each_behind P T places later from made all k low high =
    let next = not_before places (named_by T from) in
    let nowhere : Reached = record { bucket = 0; through = [] } in
    let long = ap length made ∙ length-append places next in
    let at : place_at later k ≡ get_or next (k - length places) nowhere =
    ap (λ ps. place_at ps k) made ∙ get_or-append_right places next (length places) k nowhere refl low in
    subst P (sym at)
    (each_of P next (k - length places) nowhere (new_of P places (named_by T from) all)
    (omega (arith, low, high, long)))

-- what comes after is full where the entries lead to full buckets
pub full_behind : (T : Others) (places later : List Reached) (from : Reached) →
    later ≡ places ++ not_before places (named_by T from) →
    leads_to_full T from.bucket ≡ true → AreFull T later (length places) (length later)
full_behind T places later from made all =
    each_behind (IsFullAt T) T places later from made (named_full T from 0 (slots_of T from.bucket) all)

-- What holds once the others of the bucket at a place were queued, where all places so far are full.
pub record IsStep (T : Others) (new : ℕ × ℕ) (places later : List Reached) (k : ℕ) : Type 0 where
  pub searching : IsSearching T new later (k + 1)
  pub longer : length places ≤ length later
  pub before : AreFull T later 0 (length places)
  pub behind : leads_to_full T (place_at later k).bucket ≡ true → AreFull T later (length places) (length later)

pub stepped : (T : Others) (depth : ℕ) (new : ℕ × ℕ) (places later : List Reached) (k : ℕ) → IsTable depth T →
    IsSearching T new places k → k < length places → AreFull T places 0 (length places) →
    later ≡ places ++ not_before places (named_by T (place_at places k)) → IsStep T new places later k
stepped T depth new places later k table searching low full made =
    let from = place_at places k in
    let next = not_before places (named_by T from) in
    let stays : place_at later k ≡ from =
    ap (λ ps. place_at ps k) made
    ∙ get_or_append_left places next (record { bucket = 0; through = [] }) k low in
    record {
      searching = subst (λ ps. IsSearching T new ps (k + 1)) (sym made)
          (searching_on T depth new places k table searching low (full k (omega arith) low));
      longer = omega (arith, ap length made, length-append places next);
      before = full_stays T places next later made full;
      behind = λ all. full_behind T places later from made
          (ap (λ (p : Reached). leads_to_full T p.bucket) (sym stays) ∙ all);
    }
