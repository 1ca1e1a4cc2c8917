-- What servers told, where it is kept as one list of marks and how far each server told it.
use Rattle.std.proofs.Common.{◌≡◌, refl, ap, sym, ◌∙◌, arith, ℕ, zero, suc, ◌+◌, ◌-◌, ◌<◌, ◌≤◌}
use Rattle.std.proofs.Common.{List, [], ◌∷◌, ◌++◌, length, map, take, drop, get_or}
use Rattle.std.proofs.Common.{true, false, cond, length-append, length-take, inl, inr}
use Rattle.std.proofs.Math.ListN.{set}
use Rattle.std.specs.Prelude.{◌&&◌, nat_lt, All, replicate, slice_get, slice_index_or, slice_set}
use Rattle.std.specs.Prelude.{Some, None, Result, Ok, Err}
use Rattle.std.specs.Option.{option_or}
use Rattle.std.specs.Str.{bytes_eq}
use Rattle.std.proofs.lemmas.List.Elements.{All-tail}
use Rattle.std.proofs.lemmas.List.{map-set, take-append-le, get_or_default, get_or-take, take_all, take_more}
use Rattle.std.proofs.lemmas.Option.{slice_get-get_or, slice_get_past}
use Rattle.std.proofs.lemmas.Bool.{cases_lt, lt-ltb, le-ltb}
use Rattle.std.proofs.lemmas.Slice.Eq.{bytes_eq-Decides}
use Rattle.tk_shape.specs.declared.shape.Shape.{Shape}
use Rattle.tk_frames.specs.Lists.{first_some}
use Rattle.tk_member.specs.declared.fault.Fault.{Fault}
use Rattle.tk_member.specs.declared.fault.Fault.TheVariants.{Peer, Differ}
use Rattle.tk_member.specs.Epochs.{Marks, ToldMarks, least_of, epochs_in, known, marks_at}
use Rattle.tk_member.specs.Epochs.{is_epoch_frame, told_behind, agrees, with_epoch}
use Rattle.tk_member.specs.Keeping.{told_so_far, AreToldByServers, IsToldByOne, kept_with}

-- ---- how far each server told

pub lengths-told : (marks : List Marks) (last : List ℕ) → All (λ n. n ≤ length marks) last →
    map epochs_in (told_so_far marks last) ≡ last
lengths-told marks [] within = refl
lengths-told marks (n ∷ last) within =
    let low : n ≤ length marks = within 0 n (omega arith) in
    let here : length (take n marks) ≡ n = omega (arith, length-take n marks, low) in
    ap (λ k. k ∷ map epochs_in (told_so_far marks last)) here
    ∙ ap (λ ks. n ∷ ks)
    (lengths-told marks last (All-tail (λ k. k ≤ length marks) n last within))

pub known-is : (shape : Shape) (marks : List Marks) (last : List ℕ) →
    All (λ n. n ≤ length marks) last →
    least_of shape.phases last ≡ known shape (told_so_far marks last)
known-is shape marks last within = ap (least_of shape.phases) (sym (lengths-told marks last within))

-- ---- the marks of an epoch that is known

-- server 1 told them
pub marks-known : (shape : Shape) (marks : List Marks) (last : List ℕ) (e : ℕ) (d : Marks) →
    All (λ n. n ≤ length marks) last → 1 ≤ length last → 1 ≤ e →
    e ≤ known shape (told_so_far marks last) →
    (e - 1 < length marks) × (marks_at shape (told_so_far marks last) e ≡ get_or marks (e - 1) d)
marks-known shape marks last zero d within some low below = absurd (omega (arith, low))
marks-known shape marks [] (suc e) d within some low below = absurd (omega (arith, some))
marks-known shape marks (n ∷ last) (suc e) d within some low below =
    let is = known-is shape marks (n ∷ last) within in
    let near : suc e ≤ n = omega (arith, below, is) in
    let far : n ≤ length marks = within 0 n (omega arith) in
    let back : suc e - 1 ≡ e = omega arith in
    let at : e < length marks = omega (arith, near, far) in
    let first : slice_index_or (take n marks) e [] ≡ get_or marks e [] = get_or-take n marks e [] near in (
      omega (arith, near, far),
      first ∙ get_or_default marks e [] d at ∙ ap (λ k. get_or marks k d) (sym back),
    )

-- ---- one epoch more

told-before : (marks : List Marks) (last : List ℕ) (j : ℕ) → j < length last →
    slice_index_or (told_so_far marks last) j [] ≡ take (get_or last j 0) marks
told-before marks [] j low = absurd (omega (arith, low))
told-before marks (n ∷ last) zero low = refl
told-before marks (n ∷ last) (suc j) low = told-before marks last j (omega (arith, low))

-- of an epoch one server at least told all, or none did
get-take : (marks : List Marks) (n i : ℕ) → i < n → slice_get (take n marks) i ≡ slice_get marks i
get-take [] zero i low = refl
get-take [] (suc n) i low = refl
get-take (m ∷ marks) zero i low = absurd (omega (arith, low))
get-take (m ∷ marks) (suc n) zero low = refl
get-take (m ∷ marks) (suc n) (suc i) low = get-take marks n i (omega (arith, low))

get-past : (marks : List Marks) (n i : ℕ) → n ≤ i → slice_get (take n marks) i ≡ None
get-past marks n i low = slice_get_past (take n marks) i (omega (arith, length-take n marks, low))

-- past all that were told
first-none : (marks : List Marks) (last : List ℕ) (i : ℕ) → length marks ≤ i →
    first_some (λ (t : ToldMarks). slice_get t i) (told_so_far marks last) ≡ None
first-none marks [] i past = refl
first-none marks (n ∷ last) i past =
    ap (λ o. option_or o (first_some (λ (t : ToldMarks). slice_get t i) (told_so_far marks last)))
    (slice_get_past (take n marks) i (omega (arith, length-take n marks, past)))
    ∙ first-none marks last i past

first-here : (marks : List Marks) (n : ℕ) (last : List ℕ) (i : ℕ) (m : Marks) →
    slice_get marks i ≡ Some m → i < n →
    first_some (λ (t : ToldMarks). slice_get t i) (told_so_far marks (n ∷ last)) ≡ Some m
first-here marks n last i m there low =
    ap (λ o. option_or o (first_some (λ (t : ToldMarks). slice_get t i) (told_so_far marks last)))
    (get-take marks n i low ∙ there)

-- one at least told it
first-told : (marks : List Marks) (last : List ℕ) (i k : ℕ) (m : Marks) → slice_get marks i ≡ Some m →
    k < length last → i < get_or last k 0 →
    first_some (λ (t : ToldMarks). slice_get t i) (told_so_far marks last) ≡ Some m
first-told marks [] i k m there low at = absurd (omega (arith, low))
first-told marks (n ∷ last) i zero m there low at = first-here marks n last i m there at
first-told marks (n ∷ last) i (suc k) m there low at =
    let later = first-told marks last i k m there (omega (arith, low)) at in
    elim (cases_lt i n) [
      | inl near ↦ first-here marks n last i m there near
      | inr far ↦
          ap (λ o. option_or o (first_some (λ (t : ToldMarks). slice_get t i) (told_so_far marks last)))
          (get-past marks n i far)
          ∙ later
    ]

-- where marks come behind, servers told what they told
told-longer : (marks more : List Marks) (last : List ℕ) → All (λ n. n ≤ length marks) last →
    told_so_far (marks ++ more) last ≡ told_so_far marks last
told-longer marks more [] within = refl
told-longer marks more (n ∷ last) within =
    let low : n ≤ length marks = within 0 n (omega arith) in
    ap (λ t. t ∷ told_so_far (marks ++ more) last) (take-append-le n marks more low)
    ∙ ap (λ ts. take n marks ∷ ts)
    (told-longer marks more last (All-tail (λ k. k ≤ length marks) n last within))

abbrev map_ok : {X Y : Type 0} → (X → Y) → Result X Fault → Result Y Fault
map_ok f (Ok x) = Ok (f x)
map_ok f (Err e) = Err e

-- the epoch of place j's next telling
abbrev next_told : List ℕ → ℕ → ℕ
next_told last j = get_or last j 0 + 1

-- what server j + 1 told before, and this
record Advances (marks : List Marks) (last : List ℕ) (j : ℕ) (m : Marks)
    (kept : List Marks) : Type 0 where
  pub told : slice_set (told_so_far marks last) j (take (get_or last j 0) marks ++ m ∷ [])
      ≡ told_so_far kept (set last j (next_told last j))

-- the marks are there already
advances-told : (marks : List Marks) (last : List ℕ) (j : ℕ) (m : Marks) →
    get_or last j 0 < length marks → get_or marks (get_or last j 0) [] ≡ m →
    Advances marks last j m marks
advances-told marks last j m low same =
    let n = get_or last j 0 in
    record {
      told =
          ap (λ (x : Marks). slice_set (told_so_far marks last) j (take n marks ++ x ∷ [])) (sym same)
          ∙ ap (λ (t : ToldMarks). slice_set (told_so_far marks last) j t) (sym (take_more marks n [] low))
          ∙ sym (map-set (λ (k : ℕ). take k marks) last j (n + 1));
    }

-- they come behind
advances-new : (marks : List Marks) (last : List ℕ) (j : ℕ) (m : Marks) →
    All (λ n. n ≤ length marks) last → get_or last j 0 ≡ length marks →
    Advances marks last j m (marks ++ m ∷ [])
advances-new marks last j m within all =
    let n = get_or last j 0 in
    let longer = told-longer marks (m ∷ []) last within in
    let front : take n marks ≡ marks = take_all n marks (omega (arith, all)) in
    let whole : take (n + 1) (marks ++ m ∷ []) ≡ marks ++ m ∷ [] =
    take_all (n + 1) (marks ++ m ∷ []) (omega (arith, all, length-append marks (m ∷ [])))
    in
    record {
      told =
          ap (λ (t : List Marks). slice_set (told_so_far marks last) j (t ++ m ∷ [])) front
          ∙ ap (λ (t : ToldMarks). slice_set (told_so_far marks last) j t) (sym whole)
          ∙ ap (λ (ts : List ToldMarks). slice_set ts j (take (n + 1) (marks ++ m ∷ []))) (sym longer)
          ∙ sym (map-set (λ (k : ℕ). take k (marks ++ m ∷ [])) last j (n + 1));
    }

-- ---- the frame of an epoch

-- what becomes of the marks
inner-is : (marks : List Marks) (last : List ℕ) (j : ℕ) (m : Marks) →
    All (λ n. n ≤ length marks) last → IsToldByOne last (length marks) → j < length last →
    let n = get_or last j 0 in
    let told = told_so_far marks last in
    cond (agrees (first_some (told_behind n) told) m)
    (Ok (slice_set told j (take n marks ++ m ∷ []))) (Err Differ)
    ≡ map_ok (λ kept. told_so_far kept (set last j (n + 1))) (kept_with marks n m)
inner-is marks last j m within longest low =
    let n = get_or last j 0 in
    let told = told_so_far marks last in
    let X = slice_set told j (take n marks ++ m ∷ []) in
    let F = λ (kept : List Marks). told_so_far kept (set last j (n + 1)) in
    let most : n ≤ length marks = within j 0 low in
    elim (cases_lt n (length marks)) [
      | inl near ↦
          let x = get_or marks n [] in
          let at : n < get_or last longest.place 0 = omega (arith, near, longest.whole) in
          let found : first_some (told_behind n) told ≡ Some x =
          first-told marks last n longest.place x (slice_get-get_or marks n [] near) longest.low at
          in
          let same : bytes_eq x m ≡ true → X ≡ F marks =
          λ e. (advances-told marks last j m near ((bytes_eq-Decides x m).0 e)).told
          in
          ap (λ o. cond (agrees o m) (Ok X) (Err Differ)) found
          ∙ (elim (bytes_eq x m) as (λ b. (b ≡ true → X ≡ F marks) →
          cond b (Ok X) (Err Differ) ≡ map_ok F (cond b (Ok marks) (Err Differ))) [
            | true ↦ λ is. ap Ok (is refl)
            | false ↦ λ is. refl
          ]) same
          ∙ ap (λ b. map_ok F (cond b (cond (bytes_eq x m) (Ok marks) (Err Differ)) (Ok (marks ++ m ∷ []))))
          (sym (lt-ltb n (length marks) near))
      | inr far ↦
          let all : n ≡ length marks = omega (arith, most, far) in
          let none : first_some (told_behind n) told ≡ None = first-none marks last n far in
          ap (λ o. cond (agrees o m) (Ok X) (Err Differ)) none
          ∙ ap Ok (advances-new marks last j m within all).told
          ∙ ap (λ b. map_ok F (cond b (cond (bytes_eq (get_or marks n []) m) (Ok marks) (Err Differ))
          (Ok (marks ++ m ∷ [])))) (sym (le-ltb n (length marks) far))
    ]

-- a server tells one epoch more, or ends it, as it is kept
pub epoch-is : (shape : Shape) (marks : List Marks) (last : List ℕ) (j : ℕ) (frame : List ℕ) →
    All (λ n. n ≤ length marks) last → IsToldByOne last (length marks) → 1 ≤ j → j ≤ length last →
    let n = get_or last (j - 1) 0 in
    with_epoch shape (told_so_far marks last) j frame
    ≡ cond (nat_lt n shape.phases && is_epoch_frame shape (n + 1) frame)
    (map_ok (λ kept. told_so_far kept (set last (j - 1) (n + 1))) (kept_with marks n (drop 6 frame)))
    (Err Peer)
epoch-is shape marks last j frame within longest some most =
    let i = j - 1 in
    let low : j - 1 < length last = omega (arith, some, most) in
    let n = get_or last i 0 in
    let told = told_so_far marks last in
    let m = drop 6 frame in
    let fits : n ≤ length marks = within i 0 low in
    let body = λ (before : ToldMarks) (k : ℕ).
    cond (nat_lt k shape.phases && is_epoch_frame shape (k + 1) frame)
    (cond (agrees (first_some (told_behind k) told) m)
    (Ok (slice_set told i (before ++ m ∷ []))) (Err Differ))
    (Err Peer)
    in
    let long : length (take n marks) ≡ n = omega (arith, length-take n marks, fits) in
    ap (λ (t : ToldMarks). body t (length t)) (told-before marks last i low)
    ∙ ap (body (take n marks)) long
    ∙ ap (λ (r : Result (List ToldMarks) Fault).
    cond (nat_lt n shape.phases && is_epoch_frame shape (n + 1) frame) r (Err Peer))
    (inner-is marks last i m within longest low)

-- ---- as it is kept

pub none-told : (n : ℕ) → told_so_far [] (replicate n 0) ≡ replicate n []
none-told zero = refl
none-told (suc n) = ap (λ ts. [] ∷ ts) (none-told n)

abbrev body_of : Shape → List Marks → List ℕ → ℕ → List ℕ → ℕ → Result (List ToldMarks) Fault
body_of shape marks last i frame n =
    cond (nat_lt n shape.phases && is_epoch_frame shape (n + 1) frame)
    (map_ok (λ kept. told_so_far kept (set last i (n + 1))) (kept_with marks n (drop 6 frame)))
    (Err Peer)

pub epoch-body : (shape : Shape) (last : List ℕ) (none : Marks) (marks : List Marks) (j : ℕ)
    (frame : List ℕ) (n : ℕ) → AreToldByServers shape last none marks → 1 ≤ j → j ≤ shape.servers →
    n ≡ get_or last (j - 1) n →
    with_epoch shape (told_so_far marks last) j frame ≡ body_of shape marks last (j - 1) frame n
epoch-body shape last none marks j frame n are some most here =
    let low : j - 1 < length last = omega (arith, some, most, are.counted) in
    epoch-is shape marks last j frame are.within are.longest some (omega (arith, most, are.counted))
    ∙ ap (body_of shape marks last (j - 1) frame)
    (sym (here ∙ get_or_default last (j - 1) n 0 low))

pub epoch-goes : (shape : Shape) (marks : List Marks) (last : List ℕ) (i : ℕ) (frame : List ℕ)
    (n : ℕ) (r : Result (List Marks) Fault) → n < shape.phases →
    is_epoch_frame shape (n + 1) frame ≡ true → kept_with marks n (drop 6 frame) ≡ r →
    body_of shape marks last i frame n
    ≡ map_ok (λ kept. told_so_far kept (set last i (n + 1))) r
epoch-goes shape marks last i frame n r low is kept =
    let inner = λ (x : Result (List Marks) Fault).
    map_ok (λ kept. told_so_far kept (set last i (n + 1))) x
    in
    ap (λ b. cond (b && is_epoch_frame shape (n + 1) frame)
    (inner (kept_with marks n (drop 6 frame))) (Err Peer)) (lt-ltb n shape.phases low)
    ∙ ap (λ b. cond b (inner (kept_with marks n (drop 6 frame))) (Err Peer)) is
    ∙ ap inner kept
