-- Frames that a server answers, row after row, and replies that are given to clients.
use Rattle.std.proofs.Common.{◌≡◌, refl, ap, ap₂, sym, ◌∙◌, subst, arith, inl, inr, ℕ, ◌+◌, ◌-◌, ◌<◌, ◌≤◌, List, []}
use Rattle.std.proofs.Common.{◌∷◌, ◌++◌, length, map, take, drop, set, All, append-nil, append_assoc, length-append}
use Rattle.std.proofs.Common.{length-drop, take-append-drop, length-set, get_or-set_same, get_or-set_other, get_or-drop}
use Rattle.std.proofs.Common.{get_or-take, length-take-le}
use Rattle.std.proofs.lemmas.List.{get_or_default, map-append}
use Rattle.std.proofs.lemmas.List.Elements.{All-drop}
use Rattle.std.proofs.lemmas.Bool.{cases_lt}
use Rattle.std.proofs.Math.ListN.{get_or-append}
use Rattle.std.proofs.Math.Seq.{get_or-append_seam}
use Rattle.std.specs.Prelude.{slice_index_or}
use Rattle.tk_shape.specs.declared.shape.Shape.{Shape}
use Rattle.tk_cluster.specs.Refusals.{IsAsked, SpellsRead}
use Rattle.tk_run.specs.declared.talk.Reading.{Reading}
use Rattle.tk_run.specs.Rows.{Frame}
use Rattle.tk_run.specs.Answering.{MayReply, IsGiven, AreGiven, set_of, epoch_of}

-- ---- rows

-- what is left of the frames are reads that the server is asked for too
pub reply-rest : {shape : Shape} {server : ℕ} {rs : List Reading} {frames : List Frame} (n : ℕ) →
    n ≤ length frames → MayReply shape server rs frames →
    MayReply shape server (drop n rs) (drop n frames)
reply-rest {shape} {server} {rs} {frames} n low may =
    record {
      low = may.low;
      high = may.high;
      counted =
          length-drop n frames ∙ ap (λ m. m - n) may.counted ∙ sym (length-drop n rs);
      same = All-drop (λ (r : Reading). (set_of r).shape ≡ shape) n rs may.same;
      asked = λ k d f within.
          subst (λ (r : Reading). IsAsked (set_of r) (slice_index_or (drop n frames) k f))
          (sym (get_or-drop n rs k d))
          (subst (IsAsked (set_of (slice_index_or rs (n + k) d))) (sym (get_or-drop n frames k f))
          (may.asked (n + k) d f (omega (arith, within, length-drop n frames, low))));
    }

-- the frames of a row are reads of the set of its first client
pub row-asked : {shape : Shape} {server : ℕ} {rs : List Reading} {frames : List Frame} (n : ℕ)
    (d : Reading) → MayReply shape server rs frames → n ≤ length frames → 0 < n →
    ((k : ℕ) (e : Reading) → k < n →
    epoch_of (slice_index_or rs k e) ≡ epoch_of (slice_index_or rs 0 e)) →
    All (IsAsked (set_of (slice_index_or rs 0 d))) (take n frames)
row-asked {shape} {server} {rs} {frames} n d may within some same k f low =
    let inside : k < n = omega (arith, low, length-take-le n frames within) in
    let first = slice_index_or rs 0 d in
    let asked = may.asked k d f (omega (arith, inside, within)) in
    let shapes : (set_of (slice_index_or rs k d)).shape ≡ (set_of first).shape =
    may.same k d (omega (arith, inside, within, may.counted))
    ∙ sym (may.same 0 d (omega (arith, some, within, may.counted)))
    in
    let here : IsAsked (set_of first) (slice_index_or frames k f) =
    record {
      read = asked.read;
      spells =
          subst (λ (x : Shape). SpellsRead x (slice_index_or frames k f) asked.read) shapes
          asked.spells;
      named = asked.named ∙ same k d inside;
    }
    in
    subst (IsAsked (set_of first)) (sym (get_or-take n frames k f inside)) here

-- what is replied so far, with what is due to the frames that are left
pub rows-next : (due : Frame → Frame) (all left replies row behind more new : List Frame) (n : ℕ) →
    row ≡ take n left → behind ≡ drop n left → more ≡ map due row → new ≡ replies ++ more →
    replies ++ map due left ≡ map due all → new ++ map due behind ≡ map due all
rows-next due all left replies row behind more new n row_is behind_is more_is new_is so_far =
    let parts : row ++ behind ≡ left =
    ap₂ (λ (x y : List Frame). x ++ y) row_is behind_is ∙ take-append-drop n left
    in
    ap (λ (xs : List Frame). xs ++ map due behind)
    (new_is ∙ ap (λ (ys : List Frame). replies ++ ys) more_is)
    ∙ append_assoc replies (map due row) (map due behind)
    ∙ ap (λ (ys : List Frame). replies ++ ys)
    (sym (map-append due row behind) ∙ ap (map due) parts)
    ∙ so_far

none-left : {X : Type 0} (xs : List X) → length xs ≡ 0 → xs ≡ []
none-left [] none = refl
none-left (x ∷ xs) none = absurd (omega (arith, none))

-- and when none is left it is all that is due
pub rows-end : (due : Frame → Frame) (all left replies : List Frame) → length left ≡ 0 →
    replies ++ map due left ≡ map due all → replies ≡ map due all
rows-end due all left replies none so_far =
    sym (append-nil replies)
    ∙ ap (λ (xs : List Frame). replies ++ map due xs) (sym (none-left left none))
    ∙ so_far

-- ---- replies that are given

-- Of these replies the first ones are left, and each other lies with the client of its place.
pub record GivenFrom (left : List Frame) (old : List Reading) (replies : List Frame)
    (new : List Reading) : Type 0 where
  pub counted : length new ≡ length old
  pub shorter : length left ≤ length replies
  pub front : (k : ℕ) (f : Frame) → k < length left →
      slice_index_or left k f ≡ slice_index_or replies k f
  pub kept : (k : ℕ) (d : Reading) → k < length left →
      slice_index_or new k d ≡ slice_index_or old k d
  pub given : (k : ℕ) (d : Reading) (f : Frame) → length left ≤ k → k < length replies →
      IsGiven (slice_index_or replies k f) (slice_index_or old k d) (slice_index_or new k d)

pub given-none : (replies : List Frame) (rs : List Reading) → length replies ≡ length rs →
    GivenFrom replies rs replies rs
given-none replies rs same =
    record {
      counted = refl;
      shorter = omega arith;
      front = λ k f low. refl;
      kept = λ k d low. refl;
      given = λ k d f past low. absurd (omega (arith, past, low));
    }

-- the last that is left is given
pub given-next : {left less : List Frame} {x : Frame} {old : List Reading} {replies : List Frame}
    {new : List Reading} (n : ℕ) (d r : Reading) → length replies ≡ length old →
    left ≡ less ++ x ∷ [] → length less ≡ n → IsGiven x (slice_index_or new n d) r →
    GivenFrom left old replies new → GivenFrom less old replies (set new n r)
given-next {left} {less} {x} {old} {replies} {new} n d r same split place is h =
    let long : length left ≡ n + 1 =
    ap length split ∙ length-append less (x ∷ []) ∙ ap (λ m. m + 1) place
    in
    let shorter = h.shorter in
    let within : n < length new = omega (arith, long, shorter, h.counted, same) in
    let last : (f : Frame) → slice_index_or replies n f ≡ x = λ f.
    sym (h.front n f (omega (arith, long)))
    ∙ ap (λ (xs : List Frame). slice_index_or xs n f) split
    ∙ ap (λ i. slice_index_or (less ++ x ∷ []) i f) (sym place)
    ∙ get_or-append_seam less x [] f
    in
    record {
      counted = length-set new n r ∙ h.counted;
      shorter = omega (arith, long, shorter, place);
      front = λ k f low.
          sym (get_or-append less (x ∷ []) f k low)
          ∙ ap (λ (xs : List Frame). slice_index_or xs k f) (sym split)
          ∙ h.front k f (omega (arith, low, long, place));
      kept = λ k e low.
          get_or-set_other new n k r e (omega (arith, low, place))
          ∙ h.kept k e (omega (arith, low, long, place));
      given = λ k e f past low. elim (cases_lt n k) [
        | inl later ↦
            subst (IsGiven (slice_index_or replies k f) (slice_index_or old k e))
            (sym (get_or-set_other new n k r e (omega (arith, later))))
            (h.given k e f (omega (arith, later, long)) low)
        | inr first ↦
            let here : n ≡ k = omega (arith, past, first, place) in
            let was : slice_index_or new n d ≡ slice_index_or old n e =
            h.kept n d (omega (arith, long))
            ∙ get_or_default old n d e (omega (arith, within, h.counted))
            in
            subst (λ (i : ℕ). IsGiven (slice_index_or replies i f) (slice_index_or old i e)
            (slice_index_or (set new n r) i e)) here
            (subst (IsGiven (slice_index_or replies n f) (slice_index_or old n e))
            (sym (get_or-set_same new n r e within))
            (subst (λ (y : Frame). IsGiven y (slice_index_or old n e) r) (sym (last f))
            (subst (λ (o : Reading). IsGiven x o r) was is)))
      ];
    }

-- and at the end all are
pub given-all : {left : List Frame} {old : List Reading} {replies : List Frame}
    {new : List Reading} → length left ≡ 0 → length replies ≡ length old →
    GivenFrom left old replies new → AreGiven replies old new
given-all none same h k d f low =
    h.given k d f (omega (arith, none)) (omega (arith, low, same))
