-- The places that a queue has.
use Rattle.std.proofs.Common.{◌≡◌, ℕ, zero, suc, ◌+◌, ◌<◌, List, [], ◌∷◌, ◌++◌, length, Bool, true, false, ◌||◌, ◌==◌, get_or, set, take, refl, ap, sym, ◌∙◌, arith, length-set, IfSome, Option, Some, None, subst, add-zero, eqb-true, get_or-set_same, get_or-set_other, length-take-le, true≢false, eq-eqb}
use Rattle.std.proofs.lemmas.List.{take-set, length_push, get_or_push, get_or_append_left, take_more_set, get_or-take}
use Rattle.tk_place.specs.Place.{Reached, has_bucket}
use Rattle.tk_place.specs.Queue.{AreDistinct, AreLinked, IsLine}
use Rattle.tk_place.specs.Views.{place_at, reached_by, places_from}
use Rattle.tk_place.specs.declared.queue.Link.{Link}
use Rattle.tk_place.specs.declared.queue.Queued.{Queued}
use Rattle.tk_place.proofs.Reaching.{has-push, distinct-push, few_distinct, below_of_distinct}

pub length-places_from : (ps : List Reached) (qs : List Queued) → length (places_from ps qs) ≡ length ps + length qs
length-places_from ps [] = omega arith
length-places_from ps (q ∷ qs) =
    omega (arith, length-places_from (ps ++ reached_by ps q.bucket q.link ∷ []) qs, length_push ps (reached_by ps q.bucket q.link))

pub places_from-push : (ps : List Reached) (qs : List Queued) (q : Queued) →
    places_from ps (qs ++ q ∷ []) ≡ places_from ps qs ++ reached_by (places_from ps qs) q.bucket q.link ∷ []
places_from-push ps [] q = refl
places_from-push ps (p ∷ qs) q = places_from-push (ps ++ reached_by ps p.bucket p.link ∷ []) qs q

place_at-push : (ps : List Reached) (p : Reached) (k : ℕ) → k < length ps → place_at (ps ++ p ∷ []) k ≡ place_at ps k
place_at-push ps p k l = get_or_append_left ps (p ∷ []) (record { bucket = 0; through = [] }) k l

-- an earlier place stays
place_stays : (ps : List Reached) (qs : List Queued) (k : ℕ) → k < length ps → place_at (places_from ps qs) k ≡ place_at ps k
place_stays ps [] k l = refl
place_stays ps (q ∷ qs) k l =
    let p = reached_by ps q.bucket q.link in
    place_stays (ps ++ p ∷ []) qs k (omega (arith, length_push ps p)) ∙ place_at-push ps p k l

-- and so does what leads through it
reached_stays : (ps : List Reached) (qs : List Queued) (bucket : ℕ) (link : Option Link) → IfSome link (λ l. l.place < length ps) →
    reached_by ps bucket link ≡ reached_by (places_from ps qs) bucket link
reached_stays ps qs bucket None h = refl
reached_stays ps qs bucket (Some l) h = ap (λ (p : Reached). let r : Reached = record { bucket = bucket; through = (p.bucket, l.slot) ∷ p.through } in r) (sym (place_stays ps qs l.place h))

-- what is known of the place number i
pub record IsRead (ps : List Reached) (i : ℕ) (q : Queued) : Type 0 where
  pub place : place_at ps i ≡ reached_by ps q.bucket q.link
  pub earlier : IfSome q.link (λ link. link.place < i)

pub read_from : (ps : List Reached) (qs : List Queued) (k i : ℕ) (q : Queued) → AreLinked (length ps) qs → k < length qs → i ≡ length ps + k →
    q ≡ get_or qs k q → IsRead (places_from ps qs) i q
read_from ps [] k i q linked l at e = absurd (omega arith)
read_from ps (p ∷ qs) zero i q linked l at e =
    let r = reached_by ps p.bucket p.link in
    let here : i ≡ length ps = omega arith in
    subst (λ q. IsRead (places_from (ps ++ r ∷ []) qs) i q) (sym e) (
    let P : ℕ → Type 0 = λ i. IsRead (places_from (ps ++ r ∷ []) qs) i p in
    subst P (sym here) record {
      place = place_stays (ps ++ r ∷ []) qs (length ps) (omega (arith, length_push ps r))
          ∙ get_or_push ps r (record { bucket = 0; through = [] }) (length ps) refl
          ∙ reached_stays ps (p ∷ qs) p.bucket p.link linked.0;
      earlier = linked.0;
    })
read_from ps (p ∷ qs) (suc k) i q linked l at e =
    let r = reached_by ps p.bucket p.link in
    read_from (ps ++ r ∷ []) qs k i q (subst (λ n. AreLinked n qs) (sym (length_push ps r)) linked.1) (omega arith)
    (omega (arith, length_push ps r)) e

pub linked-push : (k : ℕ) (qs : List Queued) (q : Queued) → AreLinked k qs → IfSome q.link (λ link. link.place < k + length qs) → AreLinked k (qs ++ q ∷ [])
linked-push k [] q linked h = (subst (λ n. IfSome q.link (λ link. link.place < n)) (add-zero k) h, tt)
linked-push k (p ∷ qs) q linked h =
    let at : k + suc (length qs) ≡ (k + 1) + length qs = omega arith in
    (linked.0, linked-push (k + 1) qs q linked.1 (subst (λ n. IfSome q.link (λ link. link.place < n)) at h))

-- ---- over the queue's list and its marks

module _ (rooms : List Queued) (len : ℕ) (seen : List Bool) (n : ℕ) (line : IsLine rooms len seen n) where
  abbrev pub places : List Reached
  places = places_from [] (take len rooms)

  pub length-places : length places ≡ len
  length-places = length-places_from [] (take len rooms) ∙ omega (arith, length-take-le len rooms (omega (arith, line.room, line.within)))

  pub read_of_line : (k : ℕ) (q : Queued) → k < len → q ≡ get_or rooms k q → IsRead places k q
  read_of_line k q l e =
      read_from [] (take len rooms) k k q line.linked (omega (arith, length-take-le len rooms (omega (arith, line.room, line.within)))) (omega arith)
      (e ∙ sym (get_or-take len rooms k q l))

  pub below_of_line : (k : ℕ) (q : Queued) → k < len → q ≡ get_or rooms k q → q.bucket < n
  below_of_line k q l e =
      let read = (read_of_line k q l e).place in
      let below = below_of_distinct n places k line.distinct (omega (arith, length-places)) in
      omega (arith, ap (λ (p : Reached). p.bucket) read)

  -- what is written after the last place changes nothing
  pub line_beyond : (q : Queued) → IsLine (set rooms len q) len seen n
  line_beyond q =
      let same : take len rooms ≡ take len (set rooms len q) = sym (take-set rooms len q) in
      record {
        room = length-set rooms len q ∙ line.room;
        marks = line.marks;
        within = line.within;
        linked = subst (AreLinked 0) same line.linked;
        distinct = subst (λ qs. AreDistinct n (places_from [] qs)) same line.distinct;
        marked = λ b l. line.marked b l ∙ ap (λ qs. has_bucket (places_from [] qs) b) same;
      }

  module _ (q : Queued) (below : q.bucket < n) (earlier : IfSome q.link (λ link. link.place < len)) (unseen : has_bucket places q.bucket ≡ false) where
    abbrev pub more_places : List Reached
    more_places = places ++ reached_by places q.bucket q.link ∷ []

    distinct_more : AreDistinct n more_places
    distinct_more = distinct-push n places (reached_by places q.bucket q.link) line.distinct below unseen

    pub room_left : len < n
    room_left = omega (arith, few_distinct n more_places distinct_more, length_push places (reached_by places q.bucket q.link), length-places)

    taken : take (len + 1) (set rooms len q) ≡ take len rooms ++ q ∷ []
    taken = take_more_set rooms len q (omega (arith, room_left, line.room))

    pub places_more : places_from [] (take (len + 1) (set rooms len q)) ≡ more_places
    places_more = ap (places_from []) taken ∙ places_from-push [] (take len rooms) q

    pub line_more : IsLine (set rooms len q) (len + 1) (set seen q.bucket true) n
    line_more =
        record {
          room = length-set rooms len q ∙ line.room;
          marks = length-set seen q.bucket true ∙ line.marks;
          within = omega (arith, room_left);
          linked = subst (AreLinked 0) (sym taken) (linked-push 0 (take len rooms) q line.linked (
              let long : 0 + length (take len rooms) ≡ len = omega (arith, length-take-le len rooms (omega (arith, line.room, line.within))) in
              subst (λ k. IfSome q.link (λ link. link.place < k)) (sym long) earlier));
          distinct = subst (AreDistinct n) (sym places_more) distinct_more;
          marked = λ b l. marked_more b l ∙ sym (ap (λ ps. has_bucket ps b) places_more ∙ has-push places (reached_by places q.bucket q.link) b);
        }
      where
        marked_more : (b : ℕ) → b < n → get_or (set seen q.bucket true) b false ≡ ((b == q.bucket) || has_bucket places b)
        marked_more b l =
            elim (b == q.bucket) as (λ s. (b == q.bucket) ≡ s → get_or (set seen q.bucket true) b false ≡ (s || has_bucket places b)) [
              | true ↦ λ e.
                  let same : b ≡ q.bucket = eqb-true b q.bucket e in
                  ap (λ k. get_or (set seen q.bucket true) k false) same ∙ get_or-set_same seen q.bucket true false (omega (arith, line.marks, below))
              | false ↦ λ e.
                  get_or-set_other seen q.bucket b true false (λ same. true≢false (sym (eq-eqb b q.bucket same) ∙ e)) ∙ line.marked b l
            ] refl
