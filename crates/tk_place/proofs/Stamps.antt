-- The stamps of buckets, and which of them are marks of the search.
use Rattle.std.proofs.Common.{◌≡◌, ℕ, ◌+◌, ◌^◌, ◌<◌, ◌≤◌, List, [], length, true, false, set, take, get_or, not, cond, ◌∷◌, ◌++◌, append-nil}
use Rattle.std.proofs.Common.{replicate, refl, ap, subst, sym, ◌∙◌, arith, eq-eqb, All, IfSome}
use Rattle.std.specs.Prelude.{◌==◌}
use Rattle.std.specs.Int.{from_bool}
use Rattle.std.proofs.lemmas.Bool.{ne_eqb}
use Rattle.std.proofs.lemmas.List.{length-map, get_or-map, map-set, take-set}
use Rattle.std.proofs.Math.Seq.{map-set_same}
use Rattle.std.proofs.lemmas.List.Elements.{All-weaker, All-replicate, All-set}
use Rattle.tk_place.specs.Queue.{IsLine, IsStamped, marks_of}
use Rattle.tk_place.specs.declared.queue.Queued.{Queued}
use Rattle.tk_place.specs.Place.{Reached, has_bucket, not_before}
use Rattle.tk_place.specs.Views.{places_from, reached_by}
use Rattle.tk_place.proofs.Lines.{line_more, line_beyond, places_more}

-- with a stamp above all there is none that is marked
pub line_begun : (rooms : List Queued) (stamps : List ℕ) (stamp n : ℕ) → length rooms ≡ n + 1 →
    length stamps ≡ n → All (λ s. s < stamp) stamps → IsLine rooms 0 (marks_of stamp stamps) n
line_begun rooms stamps stamp n room many below =
    record {
      room = room;
      marks = length-map stamps (λ s. s == stamp) ∙ many;
      within = omega arith;
      linked = tt;
      distinct = tt;
      marked = λ b low.
          let within : b < length stamps = omega (arith, many, low) in
          let less = below b 0 within in
          get_or-map (λ s. s == stamp) stamps b 0 false within
          ∙ ne_eqb _ stamp (λ e. omega (arith, e, less));
    }

-- a bucket that gets the stamp is marked
pub marks-set : (stamp : ℕ) (stamps : List ℕ) (bucket : ℕ) →
    marks_of stamp (set stamps bucket stamp) ≡ set (marks_of stamp stamps) bucket true
marks-set stamp stamps bucket =
    map-set (λ s. s == stamp) stamps bucket stamp
    ∙ ap (set (marks_of stamp stamps) bucket) (eq-eqb stamp stamp refl)

-- what is queued once a bucket was met
abbrev pub places_with : List Reached → Queued → List Reached
places_with places q = places ++ not_before places (reached_by places q.bucket q.link ∷ [])

-- A bucket was met and written after the last place, and so many are queued now.
pub record IsMet (rooms : List Queued) (len : ℕ) (stamps : List ℕ) (stamp n : ℕ) (q : Queued) (taken : ℕ)
    : Type 0 where
  pub stamped : IsStamped (set rooms len q) taken (set stamps q.bucket stamp) stamp n
  pub places :
      places_from [] (take taken (set rooms len q)) ≡ places_with (places_from [] (take len rooms)) q

module _ (rooms : List Queued) (len : ℕ) (stamps : List ℕ) (stamp n : ℕ)
    (stamped : IsStamped rooms len stamps stamp n) where
  abbrev old : List Reached
  old = places_from [] (take len rooms)

  module _ (q : Queued) (below : q.bucket < n) (earlier : IfSome q.link (λ link. link.place < len)) where
    many : length stamps ≡ n
    many = sym (length-map stamps (λ s. s == stamp)) ∙ stamped.line.marks

    past_more : All (λ s. s ≤ stamp) (set stamps q.bucket stamp)
    past_more = All-set (λ s. s ≤ stamp) stamps q.bucket stamp (omega arith) stamped.past

    -- the stamp says whether it was queued
    pub has_by_stamp : (d : ℕ) → (get_or stamps q.bucket d == stamp) ≡ has_bucket old q.bucket
    has_by_stamp d =
        sym (get_or-map (λ s. s == stamp) stamps q.bucket d false (omega (arith, below, many)))
        ∙ stamped.line.marked q.bucket below

    -- it is new
    pub met_first : has_bucket old q.bucket ≡ false → IsMet rooms len stamps stamp n q (len + 1)
    met_first unseen =
        record {
          stamped = record {
            few = stamped.few;
            line = subst (λ marks. IsLine (set rooms len q) (len + 1) marks n)
                (sym (marks-set stamp stamps q.bucket))
                (line_more rooms len (marks_of stamp stamps) n stamped.line q below earlier unseen);
            past = past_more;
          };
          places =
              places_more rooms len (marks_of stamp stamps) n stamped.line q below earlier unseen
              ∙ ap (λ s. old ++ cond s [] (reached_by old q.bucket q.link ∷ [])) (sym unseen);
        }

    -- it was queued before
    pub met_again : has_bucket old q.bucket ≡ true → IsMet rooms len stamps stamp n q len
    met_again seen =
        let own : (stamp == stamp) ≡ (get_or stamps q.bucket 0 == stamp) =
        eq-eqb stamp stamp refl ∙ sym (has_by_stamp 0 ∙ seen) in
        record {
          stamped = record {
            few = stamped.few;
            line = subst (λ marks. IsLine (set rooms len q) len marks n)
                (sym (map-set_same (λ s. s == stamp) stamps q.bucket stamp 0 own))
                (line_beyond rooms len (marks_of stamp stamps) n stamped.line q);
            past = past_more;
          };
          places =
              ap (places_from []) (take-set rooms len q) ∙ sym (append-nil old)
              ∙ ap (λ s. old ++ cond s [] (reached_by old q.bucket q.link ∷ [])) (sym seen);
        }

    -- so many more are queued
    pub met : (more : ℕ) → more ≡ from_bool (not (get_or stamps q.bucket 0 == stamp)) →
        IsMet rooms len stamps stamp n q (len + more)
    met more is =
        let by_stamp : more ≡ from_bool (not (has_bucket old q.bucket)) =
        is ∙ ap (λ h. from_bool (not h)) (has_by_stamp 0) in
        elim (has_bucket old q.bucket) as (λ h. has_bucket old q.bucket ≡ h →
        more ≡ from_bool (not h) → IsMet rooms len stamps stamp n q (len + more)) [
          | true ↦ λ h none.
              let same : len ≡ len + more = omega (arith, none) in
              subst (IsMet rooms len stamps stamp n q) same (met_again h)
          | false ↦ λ h one.
              let same : len + 1 ≡ len + more = omega (arith, one) in
              subst (IsMet rooms len stamps stamp n q) same (met_first h)
        ] refl by_stamp

-- a queue with nothing in it
pub queue_begun : (rooms : List Queued) (stamps : List ℕ) (stamp n : ℕ) → n < 2 ^ 32 →
    length rooms ≡ n + 1 → length stamps ≡ n → All (λ s. s < stamp) stamps →
    IsStamped rooms 0 stamps stamp n
queue_begun rooms stamps stamp n few room many below =
    record {
      few = few;
      line = line_begun rooms stamps stamp n room many below;
      past = All-weaker (λ s. s < stamp) (λ s. s ≤ stamp) (λ s low. omega (arith, low)) stamps below;
    }

-- so many zeros are below any stamp
pub zeros_below : (stamps : List ℕ) (n stamp : ℕ) → stamps ≡ replicate n 0 → 1 ≤ stamp →
    All (λ s. s < stamp) stamps
zeros_below stamps n stamp are low =
    subst (All (λ s. s < stamp)) (sym are) (All-replicate (λ s. s < stamp) n 0 (omega (arith, low)))
