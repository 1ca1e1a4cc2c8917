-- Frames that are dealt to lists, one to each.
use Rattle.std.proofs.Common.{◌≡◌, refl, ap, ap₂, ◌∙◌, arith, inl, inr, ℕ, ◌+◌, ◌<◌, ◌≤◌, List, [], ◌∷◌, ◌++◌, length}
use Rattle.std.proofs.Common.{map, length-append}
use Rattle.std.specs.Prelude.{slice_index_or}
use Rattle.std.specs.List.{range_with_len}
use Rattle.std.proofs.Math.ListN.{get_or-append}
use Rattle.std.proofs.Math.Seq.{get_or-append_seam}
use Rattle.std.proofs.lemmas.Bool.{cases_lt}
use Rattle.std.proofs.lemmas.List.FromFn.{get_or-map-range_with_len}
use Rattle.tk_run.specs.Rows.{Frame, AreRows, AreAdded, no_frames}

-- ---- empty lists

pub rows-none : (row : ℕ → List Frame) (rows : List (List Frame)) → rows ≡ [] →
    AreRows 0 row rows
rows-none row rows none =
    record {
      counted = ap length none;
      each = λ i d within. absurd (omega (arith, within, ap length none));
    }

pub rows-push : (n : ℕ) (rows more : List (List Frame)) (x : List Frame) → x ≡ [] →
    more ≡ rows ++ x ∷ [] → AreRows n no_frames rows → AreRows (n + 1) no_frames more
rows-push n rows more x none pushed are =
    let long = ap length pushed ∙ length-append rows (x ∷ []) in
    record {
      counted = omega (arith, long, are.counted);
      each = λ i d within. elim (cases_lt i (length rows)) [
        | inl earlier ↦
            ap (λ (xs : List (List Frame)). slice_index_or xs i d) pushed
            ∙ get_or-append rows (x ∷ []) d i earlier ∙ are.each i d earlier
        | inr later ↦
            let last : i ≡ length rows = omega (arith, within, later, long) in
            ap₂ (λ (xs : List (List Frame)) (k : ℕ). slice_index_or xs k d) pushed last
            ∙ get_or-append_seam rows x [] d ∙ none
      ];
    }

-- ---- frames that are added

-- each list has one frame more
pub rows-next : (n : ℕ) (row next : ℕ → List Frame) (frame : ℕ → Frame)
    (old new : List (List Frame)) (frames : List Frame) →
    AreRows n row old → AreAdded old frames new →
    ((i : ℕ) (d : Frame) → i < n → slice_index_or frames i d ≡ frame i) →
    ((i : ℕ) → row i ++ frame i ∷ [] ≡ next i) →
    AreRows n next new
rows-next n row next frame old new frames rows added frames_are next_is =
    let same = added.counted in
    record {
      counted = same ∙ rows.counted;
      each = λ i d within.
          let low : i < length old = omega (arith, within, same) in
          added.each i d [] low
          ∙ ap₂ (λ (r : List Frame) (f : Frame). r ++ f ∷ []) (rows.each i d low)
          (frames_are i [] (omega (arith, low, rows.counted)))
          ∙ next_is i;
    }

-- a frame for each number from one on
pub frames-told : (f : ℕ → Frame) (a n : ℕ) (frames : List Frame) →
    frames ≡ map f (range_with_len a n) →
    (i : ℕ) (d : Frame) → i < n → slice_index_or frames i d ≡ f (a + i)
frames-told f a n frames are i d low =
    ap (λ (xs : List Frame). slice_index_or xs i d) are
    ∙ get_or-map-range_with_len f a n i (a + i) d low refl

pub rows-same : (n : ℕ) (row other : ℕ → List Frame) (rows : List (List Frame)) →
    ((i : ℕ) → row i ≡ other i) → AreRows n row rows → AreRows n other rows
rows-same n row other rows same are =
    record { counted = are.counted; each = λ i d within. are.each i d within ∙ same i }

-- ---- frames that are dealt

-- Of these frames the first ones are left, and each other lies after the list of its place.
pub record DealtFrom (left : List Frame) (old : List (List Frame)) (frames : List Frame)
    (new : List (List Frame)) : Type 0 where
  pub counted : length new ≡ length old
  pub shorter : length left ≤ length frames
  pub front : (k : ℕ) (d : Frame) → k < length left →
      slice_index_or left k d ≡ slice_index_or frames k d
  pub kept : (k : ℕ) (d : List Frame) → k < length left →
      slice_index_or new k d ≡ slice_index_or old k d
  pub dealt : (k : ℕ) (d : List Frame) (f : Frame) → length left ≤ k → k < length frames →
      slice_index_or new k d ≡ slice_index_or old k d ++ slice_index_or frames k f ∷ []

pub dealt-none : (frames : List Frame) (rows : List (List Frame)) → length frames ≡ length rows →
    DealtFrom frames rows frames rows
dealt-none frames rows same =
    record {
      counted = refl;
      shorter = omega arith;
      front = λ k d low. refl;
      kept = λ k d low. refl;
      dealt = λ k d f past low. absurd (omega (arith, past, low));
    }
