-- A search ends after the first place whose bucket leads to one that isn't full, before that place is gone through.
use Rattle.std.proofs.Common.{◌≡◌, ℕ, zero, suc, ◌+◌, ◌-◌, ◌<◌, ◌≤◌, ◌==◌, ◌||◌, List, [], ◌∷◌, ◌++◌, length}
use Rattle.std.proofs.Common.{get_or, true, false, true≢false, cond, is_some, is_none, refl, ap, ap₂, sym, subst, ◌∙◌, arith}
use Rattle.std.proofs.Common.{append_assoc, append-nil, eqb-true, map, ◌&&◌, All, inl, inr}
use Rattle.std.specs.Prelude.{Option, Some, None, MatchOption}
use Rattle.std.specs.List.{list_all}
use Rattle.std.proofs.lemmas.Bool.{and_parts, cases_lt}
use Rattle.std.proofs.lemmas.List.{get_or_append_left, get_or-append_right, length-append, get_or-map, length-map}
use Rattle.std.proofs.lemmas.List.Elements.{All-get_or}
use Rattle.tk_place.specs.Place.{Others, Reached, slots_of, lowest_empty, has_bucket, named_in, not_before, search_end}
use Rattle.tk_place.specs.Table.{IsTable, IsBelow, slot_at, is_other_full, leads_to_full, does_other_lead_to_full, others_lead_to_full}
use Rattle.tk_place.specs.Search.{IsEnd, AreFull, IsFirst, LeadToFull, IsLeading, IsFirstNamed, IsBehind}
use Rattle.tk_place.specs.Views.{place_at, reached_by}
use Rattle.tk_place.specs.declared.search.End.{End}
use Rattle.tk_place.proofs.Reaching.{not_before-append, AllOf, AllOf-append}
use Rattle.tk_place.proofs.Ends.{IsSearching, has_room, named_by, slots_below, all_below}
use Rattle.tk_place.proofs.Later.{IsFullAt, EachAt, stepped, searching_ends_later, full_joined, each_stays, each_joined, each_behind, new_of, none_of}

-- ---- what leads to full buckets alone

abbrev IsLedAt : Others → Reached → Type 0
IsLedAt T p = leads_to_full T p.bucket ≡ true

named_led : (T : Others) (from : Reached) (i : ℕ) (slots : List (Option ℕ)) →
    list_all (does_other_lead_to_full T) slots ≡ true → AllOf (IsLedAt T) (named_in from i slots)
named_led T from i [] all = tt
named_led T from i (None ∷ slots) all = named_led T from (i + 1) slots all
named_led T from i (Some b ∷ slots) all =
    let parts = and_parts (leads_to_full T b) (list_all (does_other_lead_to_full T) slots) all in
    (parts.0, named_led T from (i + 1) slots parts.1)

-- what comes after leads to full buckets alone where the others of the entries do
pub led_behind : (T : Others) (places later : List Reached) (from : Reached) →
    later ≡ places ++ not_before places (named_by T from) →
    others_lead_to_full T from.bucket ≡ true → LeadToFull T later (length places) (length later)
led_behind T places later from made all =
    each_behind (IsLedAt T) T places later from made (named_led T from 0 (slots_of T from.bucket) all)

-- what did so does so when more places have come
pub led_stays : (T : Others) (places more later : List Reached) (to : ℕ) → later ≡ places ++ more →
    to ≤ length places → LeadToFull T places 0 to → LeadToFull T later 0 to
led_stays T = each_stays (IsLedAt T)

pub led_joined : (T : Others) (places : List Reached) (tried : ℕ) → LeadToFull T places 0 tried →
    LeadToFull T places tried (length places) → LeadToFull T places 0 (length places)
led_joined T = each_joined (IsLedAt T)

-- ---- the first entry whose other bucket has room

-- the places that entries name: full ones at first, and then this one
record IsNamedUntil (T : Others) (found : Reached) (named : List Reached) : Type 0 where
  fulls : List Reached
  rest : List Reached
  full : AllOf (IsFullAt T) fulls
  parts : named ≡ fulls ++ found ∷ rest

named_until : (T : Others) (from found : Reached) (i slot : ℕ) (slots : List (Option ℕ)) →
    get_or slots slot None ≡ Some found.bucket → found.through ≡ (from.bucket, i + slot) ∷ from.through →
    ((j : ℕ) → j < slot → is_other_full T (get_or slots j None) ≡ true) → IsNamedUntil T found (named_in from i slots)
named_until T from found i slot [] named through before = absurd cc
named_until T from found i zero (None ∷ slots) named through before = absurd cc
named_until T from found i (suc slot) (None ∷ slots) named through before =
    named_until T from found (i + 1) slot slots named
    (through ∙ ap (λ n. (from.bucket, n) ∷ from.through) (omega arith))
    (λ j low. before (suc j) (omega (arith, low)))
named_until T from found i zero (Some b ∷ slots) named through before =
    record {
      fulls = [];
      rest = named_in from (i + 1) slots;
      full = tt;
      parts = ap₂ (λ bucket through. (let r : Reached = record { bucket = bucket; through = through } in r) ∷ named_in from (i + 1) slots)
          (some_is b found.bucket named) (ap (λ n. (from.bucket, n) ∷ from.through) (omega arith) ∙ sym through);
    }
  where
    some_is : (a b : ℕ) → (let x : Option ℕ = Some a in x) ≡ Some b → a ≡ b
    some_is a b e = cc
named_until T from found i (suc slot) (Some b ∷ slots) named through before =
    let here : Reached = record { bucket = b; through = (from.bucket, i) ∷ from.through } in
    let rest = named_until T from found (i + 1) slot slots named
    (through ∙ ap (λ n. (from.bucket, n) ∷ from.through) (omega arith))
    (λ j low. before (suc j) (omega (arith, low))) in
    record {
      fulls = here ∷ rest.fulls;
      rest = rest.rest;
      full = (none_of (lowest_empty T b) (before 0 (omega arith)), rest.full);
      parts = ap (λ ps. here ∷ ps) rest.parts;
    }

-- a bucket with room is none of full ones
apart : (T : Others) (places : List Reached) (found : Reached) → AllOf (IsFullAt T) places → has_room T found ≡ true →
    has_bucket places found.bucket ≡ false
apart T [] found full room = refl
apart T (p ∷ places) found full room =
    elim (found.bucket == p.bucket) as (λ s. (found.bucket == p.bucket) ≡ s → (s || has_bucket places found.bucket) ≡ false) [
      | true ↦ λ e. absurd (true≢false (sym room ∙ ap (λ b. is_some (lowest_empty T b)) (eqb-true found.bucket p.bucket e) ∙ ap is_some full.0))
      | false ↦ λ e. apart T places found full.1 room
    ] refl

all_of : (P : Reached → Type 0) (places : List Reached) → EachAt P places 0 (length places) → AllOf P places
all_of P [] each = tt
all_of P (p ∷ places) each = (each 0 (omega arith) (omega arith), all_of P places (λ k low high. each (suc k) (omega arith) (omega (arith, high))))

-- what of it is new: full ones, and then that one
new_until : (T : Others) (before : List Reached) (found : Reached) (named : List Reached) → AllOf (IsFullAt T) before →
    has_room T found ≡ true → IsNamedUntil T found named → IsNamedUntil T found (not_before before named)
new_until T before found named full room until =
    let fulls = not_before before until.fulls in
    let new = new_of (IsFullAt T) before until.fulls until.full in
    let all = before ++ fulls in
    let none : has_bucket all found.bucket ≡ false = apart T all found (AllOf-append (IsFullAt T) before fulls full new) room in
    record {
      fulls = fulls;
      rest = not_before (found ∷ all) until.rest;
      full = new;
      parts = ap (not_before before) until.parts
          ∙ not_before-append before until.fulls (found ∷ until.rest)
          ∙ ap (λ s. fulls ++ cond s (not_before all until.rest) (found ∷ not_before (found ∷ all) until.rest)) none;
    }

-- ---- where the search ends

-- The search up to a place, over which all that comes is full.
record IsFullUpto (T : Others) (new : ℕ × ℕ) (places : List Reached) (q : ℕ) : Type 0 where
  more : List Reached
  searching : IsSearching T new (places ++ more) q
  full : AreFull T (places ++ more) 0 (length (places ++ more))

full_upto : (T : Others) (depth : ℕ) (new : ℕ × ℕ) (n q k : ℕ) (places : List Reached) → IsTable depth T → q ≡ k + n →
    q < length places → IsSearching T new places k → AreFull T places 0 (length places) → LeadToFull T places 0 q →
    IsFullUpto T new places q
full_upto T depth new zero q k places table e low searching full led =
    let same : k ≡ q = omega arith in
    record {
      more = [];
      searching = rw (append-nil places) (subst (IsSearching T new places) same searching);
      full = rw (append-nil places) full;
    }
full_upto T depth new (suc n) q k places table e low searching full led =
    let from = place_at places k in
    let next = not_before places (named_by T from) in
    let later = places ++ next in
    let step = stepped T depth new places later k table searching (omega arith) full refl in
    let stays : place_at later k ≡ from = get_or_append_left places next (record { bucket = 0; through = [] }) k (omega arith) in
    let behind = step.behind (ap (λ (p : Reached). leads_to_full T p.bucket) stays ∙ led k (omega arith) (omega arith)) in
    let all = full_joined T later (length places) step.before behind in
    let rest = full_upto T depth new n q (k + 1) later table (omega arith) (omega (arith, low, length-append places next))
    step.searching all (led_stays T places next later q refl (omega arith) led) in
    record {
      more = next ++ rest.more;
      searching = subst (λ ps. IsSearching T new ps q) (append_assoc places next rest.more) rest.searching;
      full = subst (λ ps. AreFull T ps 0 (length ps)) (append_assoc places next rest.more) rest.full;
    }

-- the place that a queue goes on with
at_seam : (front : List Reached) (found : Reached) (rest : List Reached) → place_at (front ++ found ∷ rest) (length front) ≡ found
at_seam front found rest =
    let none : length front - length front ≡ 0 = omega arith in
    get_or-append_right front (found ∷ rest) (length front) (length front) (record { bucket = 0; through = [] }) refl (omega arith)
    ∙ ap (λ n. get_or (found ∷ rest) n (record { bucket = 0; through = [] })) none

ends_at : (T : Others) (depth : ℕ) (new : ℕ × ℕ) (places : List Reached) (q free : ℕ) (found : Reached) → IsTable depth T →
    IsSearching T new places q → AreFull T places 0 (length places) → q < length places →
    IsFirstNamed T (place_at places q) found free → search_end T new ≡ Some found
ends_at T depth new places q free found table searching full low first =
    let from = place_at places q in
    let next = not_before places (named_by T from) in
    let later = places ++ next in
    let step = stepped T depth new places later q table searching low full refl in
    let until = new_until T places found (named_by T from) (all_of (IsFullAt T) places full) (ap is_some first.empty)
    (named_until T from found 0 first.slot (slots_of T from.bucket) first.named
    (first.through ∙ ap (λ n. (from.bucket, n) ∷ from.through) (omega arith)) first.before) in
    let front = places ++ until.fulls in
    let shape : later ≡ front ++ found ∷ until.rest =
    ap (λ ps. places ++ ps) until.parts ∙ sym (append_assoc places until.fulls (found ∷ until.rest)) in
    let at : place_at later (length front) ≡ found = ap (λ ps. place_at ps (length front)) shape ∙ at_seam front found until.rest in
    let long : length front ≡ length places + length until.fulls = length-append places until.fulls in
    let end : End = record { place = length front; slot = free } in
    let all_front : EachAt (IsFullAt T) front 0 (length front) =
    index_of (IsFullAt T) front (AllOf-append (IsFullAt T) places until.fulls (all_of (IsFullAt T) places full) until.full) in
    let is_first : IsFirst T later (length places) end = record {
      from = omega (arith, long);
      within = omega (arith, ap length shape ∙ length-append front (found ∷ until.rest));
      full = λ k low high. each_stays (IsFullAt T) front (found ∷ until.rest) later (length front) shape (omega arith) all_front k (omega arith) high;
      empty = ap (λ (p : Reached). lowest_empty T p.bucket) at ∙ first.empty;
    } in
    (searching_ends_later T new later (q + 1) (length places) end step.searching (omega (arith, low)) step.before is_first).ended
    ∙ ap (λ x. Some x) at
  where
    index_of : (P : Reached → Type 0) (places : List Reached) → AllOf P places → EachAt P places 0 (length places)
    index_of P [] all k low high = absurd (omega (arith, high))
    index_of P (p ∷ places) all zero low high = all.0
    index_of P (p ∷ places) all (suc k) low high = index_of P places all.1 k (omega arith) (omega (arith, high))

-- A search ends after the first place that leads to a bucket that isn't full.
pub ends_behind : (T : Others) (depth : ℕ) (new : ℕ × ℕ) (old later : List Reached) (k q : ℕ) (end : End) → IsTable depth T →
    IsSearching T new old k → AreFull T old 0 (length old) → k ≤ q → q < length old → LeadToFull T old 0 q →
    IsBehind T (place_at old q) old later end → IsEnd T new later end
ends_behind T depth new old later k q end table searching full order low led behind =
    let upto = full_upto T depth new (q - k) q k old table (omega (arith, order)) low searching full led in
    let all = old ++ upto.more in
    let stays : place_at all q ≡ place_at old q = get_or_append_left old upto.more (record { bucket = 0; through = [] }) q low in
    let ended = ends_at T depth new all q end.slot behind.found table upto.searching upto.full
    (omega (arith, low, length-append old upto.more))
    (subst (λ p. IsFirstNamed T p behind.found end.slot) (sym stays) behind.first) in
    let at : place_at later end.place ≡ behind.found =
    ap₂ place_at behind.queued behind.last ∙ at_seam old behind.found [] in
    record {
      within = omega (arith, behind.last, ap length behind.queued ∙ length-append old (behind.found ∷ []));
      ended = ended ∙ ap (λ x. Some x) (sym at);
      empty = ap (λ (p : Reached). lowest_empty T p.bucket) at ∙ behind.first.empty;
    }

-- ---- what the code has at hand

-- a bucket's entries, whose other buckets are these
row_at : (T : Others) (b i : ℕ) (row : List ℕ) → slots_of T b ≡ map (λ other. Some other) row → i < length row →
    slot_at T b i ≡ Some (get_or row i 0)
row_at T b i row e low = ap (λ slots. get_or slots i None) e ∙ get_or-map (λ (o : ℕ). Some o) row i 0 None low

pub row_long : (T : Others) (depth b : ℕ) (row : List ℕ) → IsTable depth T → b < length T → slots_of T b ≡ map (λ other. Some other) row →
    length row ≡ depth
row_long T depth b row table within e =
    sym (length-map row (λ (o : ℕ). Some o)) ∙ ap length (sym e) ∙ All-get_or (λ s. length s ≡ depth) T b [] within table.sized

pub row_below : (T : Others) (depth b i : ℕ) (row : List ℕ) → IsTable depth T → slots_of T b ≡ map (λ other. Some other) row →
    i < length row → get_or row i 0 < length T
row_below T depth b i row table e low =
    all_below (length T) row (subst (All (IsBelow (length T))) e (slots_below (length T) T b table.named)) i 0 low

-- of a bucket that leads to full ones alone
pub row_full : (T : Others) (b i : ℕ) (row : List ℕ) → slots_of T b ≡ map (λ other. Some other) row → leads_to_full T b ≡ true →
    i < length row → lowest_empty T (get_or row i 0) ≡ None
row_full T b i row e led low = each row i (sym (ap (list_all (is_other_full T)) e) ∙ led) low
  where
    each : (row : List ℕ) (i : ℕ) → list_all (is_other_full T) (map (λ other. Some other) row) ≡ true → i < length row →
        lowest_empty T (get_or row i 0) ≡ None
    each [] i all low = absurd (omega (arith, low))
    each (o ∷ row) zero all low = none_of _ (and_parts (is_none (lowest_empty T o)) (list_all (is_other_full T) (map (λ other. Some other) row)) all).0
    each (o ∷ row) (suc i) all low =
        each row i (and_parts (is_none (lowest_empty T o)) (list_all (is_other_full T) (map (λ other. Some other) row)) all).1 (omega (arith, low))

pub others_by_row : (T : Others) (b : ℕ) (row : List ℕ) → slots_of T b ≡ map (λ other. Some other) row →
    others_lead_to_full T b ≡ list_all (leads_to_full T) row
others_by_row T b row e = ap (list_all (does_other_lead_to_full T)) e ∙ each row
  where
    each : (row : List ℕ) → list_all (does_other_lead_to_full T) (map (λ other. Some other) row) ≡ list_all (leads_to_full T) row
    each [] = refl
    each (o ∷ row) = ap (λ t. leads_to_full T o && t) (each row)

-- one more entry was looked at
pub full_so_far : (T : Others) (b slot : ℕ) (row : List ℕ) → slots_of T b ≡ map (λ other. Some other) row → slot < length row →
    lowest_empty T (get_or row slot 0) ≡ None → ((i : ℕ) → i < slot → is_other_full T (slot_at T b i) ≡ true) →
    (i : ℕ) → i < slot + 1 → is_other_full T (slot_at T b i) ≡ true
full_so_far T b slot row e low full before i less =
    elim (cases_lt i slot) [
      | inl old ↦ before i old
      | inr new ↦
          let same : i ≡ slot = omega (arith, less, new) in
          ap (λ k. is_other_full T (slot_at T b k)) same ∙ ap (is_other_full T) (row_at T b slot row e low) ∙ ap is_none full
    ]

-- all of them were
pub all_full : (T : Others) (depth b slot : ℕ) → IsTable depth T → b < length T → depth ≤ slot →
    ((i : ℕ) → i < slot → is_other_full T (slot_at T b i) ≡ true) → leads_to_full T b ≡ true
all_full T depth b slot table within past each =
    let long : length (slots_of T b) ≡ depth = All-get_or (λ s. length s ≡ depth) T b [] within table.sized in
    all (slots_of T b) (λ i low. each i (omega (arith, low, long, past)))
  where
    all : (slots : List (Option ℕ)) → ((i : ℕ) → i < length slots → is_other_full T (get_or slots i None) ≡ true) →
        list_all (is_other_full T) slots ≡ true
    all [] each = refl
    all (x ∷ slots) each = ap₂ (λ s t. s && t) (each 0 (omega arith)) (all slots (λ i low. each (suc i) (omega (arith, low))))

-- the first bucket with room was queued
pub found_behind : (T : Others) (old new : List Reached) (place slot free last : ℕ) (row : List ℕ) → AreFull T old 0 (length old) →
    slots_of T (place_at old place).bucket ≡ map (λ other. Some other) row → slot < length row →
    ((i : ℕ) → i < slot → is_other_full T (slot_at T (place_at old place).bucket i) ≡ true) →
    lowest_empty T (get_or row slot 0) ≡ Some free →
    new ≡ old ++ not_before old (reached_by old (get_or row slot 0) (Some (record { place = place; slot = slot })) ∷ []) →
    last ≡ length old → IsBehind T (place_at old place) old new (record { place = last; slot = free })
found_behind T old new place slot free last row full e low before room queued at =
    let found = reached_by old (get_or row slot 0) (Some (record { place = place; slot = slot })) in
    let none : has_bucket old found.bucket ≡ false = apart T old found (all_of (IsFullAt T) old full) (ap is_some room) in
    record {
      found = found;
      first = record {
        slot = slot;
        named = row_at T (place_at old place).bucket slot row e low;
        through = refl;
        before = before;
        empty = room;
      };
      queued = queued ∙ ap (λ s. old ++ cond s [] (found ∷ [])) none;
      last = at;
    }

-- the end, if one was found after the first place that leads to one
pub ended_behind : (T : Others) (depth : ℕ) (new : ℕ × ℕ) (old later : List Reached) (k start q : ℕ) (result : Option End) →
    IsTable depth T → IsSearching T new old k → AreFull T old 0 (length old) → k ≤ start → LeadToFull T old 0 start →
    IsLeading T old start q → MatchOption result (leads_to_full T (place_at old q).bucket ≡ true) (IsBehind T (place_at old q) old later) →
    MatchOption result (search_end T new ≡ None) (IsEnd T new later)
ended_behind T depth new old later k start q None table searching full order led first behind =
    absurd (true≢false (sym behind ∙ first.leads))
ended_behind T depth new old later k start q (Some end) table searching full order led first behind =
    ends_behind T depth new old later k q end table searching full (omega (arith, order, first.from)) first.within
    (λ j low high. elim (cases_lt j start) [ inl old ↦ led j low old | inr new ↦ first.before j new high ]) behind

-- What holds once the others of the bucket at a place were queued, where all places so far lead to full buckets alone.
pub record IsLedStep (T : Others) (new : ℕ × ℕ) (places later : List Reached) (k : ℕ) : Type 0 where
  pub searching : IsSearching T new later (k + 1)
  pub longer : length places ≤ length later
  pub full : AreFull T later 0 (length later)
  pub led : LeadToFull T later 0 (length places)
  pub behind : others_lead_to_full T (place_at later k).bucket ≡ true → LeadToFull T later (length places) (length later)

pub led_step : (T : Others) (depth : ℕ) (new : ℕ × ℕ) (places later : List Reached) (k : ℕ) → IsTable depth T →
    IsSearching T new places k → k < length places → AreFull T places 0 (length places) → LeadToFull T places 0 (length places) →
    later ≡ places ++ not_before places (named_by T (place_at places k)) → IsLedStep T new places later k
led_step T depth new places later k table searching low full led made =
    let from = place_at places k in
    let next = not_before places (named_by T from) in
    let step = stepped T depth new places later k table searching low full made in
    let stays : place_at later k ≡ from =
    ap (λ ps. place_at ps k) made ∙ get_or_append_left places next (record { bucket = 0; through = [] }) k low in
    record {
      searching = step.searching;
      longer = step.longer;
      full = full_joined T later (length places) step.before
          (step.behind (ap (λ (p : Reached). leads_to_full T p.bucket) stays ∙ led k (omega arith) low));
      led = led_stays T places next later (length places) made (omega arith) led;
      behind = λ all. led_behind T places later from made
          (ap (λ (p : Reached). others_lead_to_full T p.bucket) (sym stays) ∙ all);
    }
