-- Reads: what is read is spelled so and in range where no check fails, and what is in range is read from its spelling.
use Rattle.std.proofs.Common.{◌≡◌, ℕ, Bool, true, false, ◌||◌, List, ◌∷◌, ◌++◌, length, take, drop, get_or, Some, None, refl, sym, ap, subst, ◌∙◌, arith, eqb, cond, leb, inl, inr}
use Rattle.std.specs.Prelude.{◌⊎◌}
use Rattle.std.proofs.lemmas.Bool.{eqb-true, le-leb}
use Rattle.std.proofs.lemmas.Option.{none-some}
use Rattle.std.proofs.lemmas.List.{drop_at, take_at, length-append, length-drop, length-take, take-append-drop}
use Rattle.tk_shape.specs.declared.shape.Shape.{Shape}
use Rattle.tk_shape.specs.Lengths.{vector_len, read_len}
use Rattle.tk_handle.specs.Handle.{expanded}
use Rattle.tk_handle.proofs.Offers.{length-key_bytes}
use Rattle.tk_frames.specs.declared.read_frame.ReadFrame.{ReadFrame}
use Rattle.tk_frames.specs.declared.seeds.Seeds.{Seeds}
use Rattle.tk_frames.specs.declared.seeds.Seeds.TheVariants.{Plain, Seeded, Shown}
use Rattle.tk_frames.specs.declared.fault.FrameError.{FrameError}
use Rattle.tk_frames.specs.declared.fault.FrameError.TheVariants as fault
use Rattle.tk_frames.specs.Spelling.{read_frame, read_kind}
use Rattle.tk_frames.specs.Ranges.{IsRead}
use Rattle.tk_frames.specs.Fields.{number_at, seeds_by, read_with, read_in}
use Rattle.tk_frames.specs.Faults.{Check, first_fault, asker_checks, read_len_of, read_checks_of, any_read_checks, read_checks}
use Rattle.tk_frames.proofs.BigEndian.{IsBytes}
use Rattle.tk_frames.proofs.Checking.{none-first, none-both}
use Rattle.tk_frames.proofs.Heads.{HasHead, head-join, head_stands, head_passes}
use Rattle.tk_frames.proofs.Asked.{AskerFits, asker_stands, asker_passes, asker-again, parts-join}

abbrev frame_of : ℕ → ℕ → ℕ → List ℕ → List ℕ → Seeds → ReadFrame
frame_of client turn epoch first second seeds =
    record { client = client; turn = turn; epoch = epoch; first = first; second = second; seeds = seeds }

-- ---- a read is read from its spelling

asker_fits : (shape : Shape) (r : ReadFrame) → IsRead shape r → AskerFits shape r.client r.turn r.epoch
asker_fits shape r fits = record { client_fits = fits.client; turn_fits = fits.turn; epoch_fits = fits.epoch }

again_at : (shape : Shape) (client turn epoch : ℕ) (first second : List ℕ) (seeds : Seeds) →
    IsRead shape (frame_of client turn epoch first second seeds) →
    read_in shape (read_frame (frame_of client turn epoch first second seeds)) ≡ frame_of client turn epoch first second seeds
again_at shape client turn epoch first second Plain fits =
    let asker = asker-again shape 2 client turn epoch (first ++ second) (asker_fits shape _ fits) in
    let one = take_at first second (vector_len shape) fits.first_len in
    let other = drop_at first second (vector_len shape) fits.first_len in
    λ i. record {
      client = asker.client_again i;
      turn = asker.turn_again i;
      epoch = asker.epoch_again i;
      first = one i;
      second = other i;
      seeds = Plain;
    }
again_at shape client turn epoch first second (Seeded seeds) fits =
    let asker = asker-again shape 6 client turn epoch seeds (asker_fits shape _ fits) in
    let one = sym (fits.told.first_is ∙ ap (λ n. expanded n (take 32 seeds)) fits.first_len) in
    let other = sym (fits.told.second_is ∙ ap (λ n. expanded n (drop 32 seeds)) fits.second_len) in
    λ i. record {
      client = asker.client_again i;
      turn = asker.turn_again i;
      epoch = asker.epoch_again i;
      first = one i;
      second = other i;
      seeds = Seeded seeds;
    }
again_at shape client turn epoch first second (Shown seeds) fits =
    let asker = asker-again shape 7 client turn epoch (seeds ++ (first ++ second)) (asker_fits shape _ fits) in
    let vectors = drop_at seeds (first ++ second) 64 fits.seeds.long in
    let one = ap (take (vector_len shape)) vectors ∙ take_at first second (vector_len shape) fits.first_len in
    let other = ap (drop (vector_len shape)) vectors ∙ drop_at first second (vector_len shape) fits.first_len in
    let own = take_at seeds (first ++ second) 64 fits.seeds.long in
    λ i. record {
      client = asker.client_again i;
      turn = asker.turn_again i;
      epoch = asker.epoch_again i;
      first = one i;
      second = other i;
      seeds = Shown (own i);
    }

pub read-again : (shape : Shape) (r : ReadFrame) → IsRead shape r → read_in shape (read_frame r) ≡ r
read-again shape r fits = again_at shape r.client r.turn r.epoch r.first r.second r.seeds fits

-- ---- a read has the length of its kind

length-told : (shape : Shape) (client turn epoch : ℕ) (first second : List ℕ) (seeds : Seeds) →
    IsRead shape (frame_of client turn epoch first second seeds) →
    length (read_frame (frame_of client turn epoch first second seeds)) ≡ read_len_of shape (read_kind seeds)
length-told shape client turn epoch first second Plain fits =
    omega (arith, length-append first second, fits.first_len, fits.second_len)
length-told shape client turn epoch first second (Seeded seeds) fits = omega (arith, fits.seeds.long)
length-told shape client turn epoch first second (Shown seeds) fits =
    omega (
      arith,
      length-append seeds (first ++ second),
      length-append first second,
      fits.seeds.long,
      fits.first_len,
      fits.second_len,
    )

pub length-read_frame : (shape : Shape) (r : ReadFrame) → IsRead shape r → length (read_frame r) ≡ read_len_of shape (read_kind r.seeds)
length-read_frame shape r fits = length-told shape r.client r.turn r.epoch r.first r.second r.seeds fits

-- one that begins another has its length
pub same_read_len : (shape : Shape) (a b : ReadFrame) (rest : List ℕ) → IsRead shape a → IsRead shape b →
    read_frame b ≡ read_frame a ++ rest → length (read_frame a) ≡ length (read_frame b)
same_read_len shape a b rest fits_a fits_b same =
    let kind : read_kind b.seeds ≡ read_kind a.seeds = ap (λ (bytes : List ℕ). get_or bytes 0 0) same in
    length-read_frame shape a fits_a ∙ ap (read_len_of shape) (sym kind) ∙ sym (length-read_frame shape b fits_b)

-- ---- a read in range has no fault

abbrev on_length : Shape → List ℕ → Check
on_length shape bytes = record { fault = fault.Length (read_len shape) (length bytes); passed = leb 2 (length bytes) }

abbrev on_kind : List ℕ → Check
on_kind bytes =
    record {
      fault = fault.Kind (get_or bytes 0 0);
      passed = eqb (get_or bytes 0 0) 2 || eqb (get_or bytes 0 0) 6 || eqb (get_or bytes 0 0) 7;
    }

-- by its own kind it has none
own_passes : (shape : Shape) (r : ReadFrame) → IsRead shape r →
    first_fault (read_checks_of shape (read_kind r.seeds) (read_frame r)) ≡ None
own_passes shape r fits =
    let bytes = read_frame r in
    let again : IsRead shape (read_in shape bytes) = subst (IsRead shape) (sym (read-again shape r fits)) fits in
    head_passes (read_len_of shape (read_kind r.seeds)) (read_kind r.seeds) bytes (asker_checks shape bytes)
    (record { long = length-read_frame shape r fits; first = refl; second = refl })
    (asker_passes shape bytes (record { client_fits = again.client; turn_fits = again.turn; epoch_fits = again.epoch }))

passes_at : (shape : Shape) (client turn epoch : ℕ) (first second : List ℕ) (seeds : Seeds) →
    IsRead shape (frame_of client turn epoch first second seeds) →
    first_fault (read_checks shape (read_frame (frame_of client turn epoch first second seeds))) ≡ None
passes_at shape client turn epoch first second Plain fits =
    let r = frame_of client turn epoch first second Plain in
    let bytes = read_frame r in
    let own = own_passes shape r fits in
    elim (eqb shape.format 2) as
    (λ two. first_fault (cond two (any_read_checks shape bytes) (read_checks_of shape 2 bytes)) ≡ None) [
      | true ↦ none-both (on_length shape bytes) (on_kind bytes ∷ read_checks_of shape 2 bytes)
          (le-leb 2 (length bytes) (omega arith)) own
      | false ↦ own
    ]
passes_at shape client turn epoch first second (Seeded seeds) fits =
    let r = frame_of client turn epoch first second (Seeded seeds) in
    let bytes = read_frame r in
    ap (λ format. first_fault (cond (eqb format 2) (any_read_checks shape bytes) (read_checks_of shape 2 bytes))) fits.seeds.format
    ∙ none-both (on_length shape bytes) (on_kind bytes ∷ read_checks_of shape 6 bytes)
    (le-leb 2 (length bytes) (omega arith)) (own_passes shape r fits)
passes_at shape client turn epoch first second (Shown seeds) fits =
    let r = frame_of client turn epoch first second (Shown seeds) in
    let bytes = read_frame r in
    ap (λ format. first_fault (cond (eqb format 2) (any_read_checks shape bytes) (read_checks_of shape 2 bytes))) fits.seeds.format
    ∙ none-both (on_length shape bytes) (on_kind bytes ∷ read_checks_of shape 7 bytes)
    (le-leb 2 (length bytes) (omega arith)) (own_passes shape r fits)

pub read_passes : (shape : Shape) (r : ReadFrame) → IsRead shape r → first_fault (read_checks shape (read_frame r)) ≡ None
read_passes shape r fits = passes_at shape r.client r.turn r.epoch r.first r.second r.seeds fits

pub read_never_refused : (shape : Shape) (bytes : List ℕ) (r : ReadFrame) (f : FrameError) → IsRead shape r → bytes ≡ read_frame r →
    Some f ≡ first_fault (read_checks shape bytes) → ⊥
read_never_refused shape bytes r f fits e failed =
    none-some f (sym (failed ∙ ap (λ xs. first_fault (read_checks shape xs)) e ∙ read_passes shape r fits))

-- ---- what has no fault is a read in range

-- a kind that reads of the shape may have
abbrev IsKind : Shape → ℕ → Type 0
IsKind shape kind = (kind ≡ 2) ⊎ ((shape.format ≡ 2) × ((kind ≡ 6) ⊎ (kind ≡ 7)))

-- bytes whose kind, length, version and asker are those of a read
pub record IsHeaded (shape : Shape) (bytes : List ℕ) : Type 0 where
  pub kind : IsKind shape (get_or bytes 0 0)
  pub head : HasHead (read_len_of shape (get_or bytes 0 0)) (get_or bytes 0 0) bytes
  pub asker : first_fault (asker_checks shape bytes) ≡ None

one_of : (a b c : Bool) → (a || b || c) ≡ true → (a ≡ true) ⊎ ((b ≡ true) ⊎ (c ≡ true))
one_of true b c e = inl refl
one_of false true c e = inr (inl refl)
one_of false false c e = inr (inr e)

kind_of : (shape : Shape) (kind : ℕ) → shape.format ≡ 2 → (eqb kind 2 || eqb kind 6 || eqb kind 7) ≡ true → IsKind shape kind
kind_of shape kind format e =
    elim (one_of (eqb kind 2) (eqb kind 6) (eqb kind 7) e) [
      | inl two ↦ inl (eqb-true kind 2 two)
      | inr (inl six) ↦ inr (format, inl (eqb-true kind 6 six))
      | inr (inr seven) ↦ inr (format, inr (eqb-true kind 7 seven))
    ]

pub read_stands : (shape : Shape) (bytes : List ℕ) → first_fault (read_checks shape bytes) ≡ None → IsHeaded shape bytes
read_stands shape bytes e =
    elim (eqb shape.format 2) as
    (λ two. eqb shape.format 2 ≡ two →
    first_fault (cond two (any_read_checks shape bytes) (read_checks_of shape 2 bytes)) ≡ None → IsHeaded shape bytes) [
      | true ↦ λ format none.
          let kind = get_or bytes 0 0 in
          let on = none-first (on_length shape bytes) (on_kind bytes ∷ read_checks_of shape kind bytes) none in
          let others = none-first (on_kind bytes) (read_checks_of shape kind bytes) on.1 in
          let head = head_stands (read_len_of shape kind) kind bytes (asker_checks shape bytes) others.1 in
          record {
            kind = kind_of shape kind (eqb-true shape.format 2 format) others.0;
            head = head.0;
            asker = head.1;
          }
      | false ↦ λ format none.
          let head = head_stands (read_len shape) 2 bytes (asker_checks shape bytes) none in
          record {
            kind = inl head.0.first;
            head = record {
              long = head.0.long ∙ ap (read_len_of shape) (sym head.0.first);
              first = refl;
              second = head.0.second;
            };
            asker = head.1;
          }
    ] refl e

-- what is found where the seeds are these
abbrev Found : Shape → List ℕ → Seeds → Type 0
Found shape bytes seeds = IsRead shape (read_with shape seeds bytes) × (bytes ≡ read_frame (read_with shape seeds bytes))

module _ (shape : Shape) (bytes : List ℕ) (fits : IsBytes bytes) (is : IsHeaded shape bytes) where
  asker : AskerFits shape (number_at 2 bytes) (number_at 6 bytes) (number_at 10 bytes)
  asker = asker_stands shape bytes is.asker

  -- the length of a read of this kind
  long_of : (kind : ℕ) → get_or bytes 0 0 ≡ kind → length bytes ≡ read_len_of shape kind
  long_of kind e = is.head.long ∙ ap (read_len_of shape) e

  plain_found : get_or bytes 0 0 ≡ 2 → Found shape bytes Plain
  plain_found e =
      let rest = drop 14 bytes in
      let long = long_of 2 e in
      let spelled = parts-join bytes _ fits (omega (arith, long)) (take-append-drop (vector_len shape) rest) in (
        record {
          client = asker.client_fits;
          turn = asker.turn_fits;
          epoch = asker.epoch_fits;
          first_len = omega (arith, length-take (vector_len shape) rest, length-drop 14 bytes, long);
          second_len = omega (arith, length-drop (vector_len shape) rest, length-drop 14 bytes, long);
          seeds = tt;
          told = tt;
        },
        head-join 2 bytes (omega (arith, long)) e is.head.second ∙ ap (λ xs. 2 ∷ 1 ∷ xs) (sym spelled),
      )

  seeded_found : shape.format ≡ 2 → get_or bytes 0 0 ≡ 6 → Found shape bytes (Seeded (drop 14 bytes))
  seeded_found format e =
      let seeds = drop 14 bytes in
      let size = vector_len shape in
      let long = long_of 6 e in
      let first_len : length (expanded size (take 32 seeds)) ≡ size = length-key_bytes (take 32 seeds) 0 0 size in
      let second_len : length (expanded size (drop 32 seeds)) ≡ size = length-key_bytes (drop 32 seeds) 0 0 size in
      let spelled = parts-join bytes seeds fits (omega (arith, long)) refl in (
        record {
          client = asker.client_fits;
          turn = asker.turn_fits;
          epoch = asker.epoch_fits;
          first_len = first_len;
          second_len = second_len;
          seeds = record { format = format; long = omega (arith, length-drop 14 bytes, long) };
          told = record {
            first_is = ap (λ n. expanded n (take 32 seeds)) (sym first_len);
            second_is = ap (λ n. expanded n (drop 32 seeds)) (sym second_len);
          };
        },
        head-join 6 bytes (omega (arith, long)) e is.head.second ∙ ap (λ xs. 6 ∷ 1 ∷ xs) (sym spelled),
      )

  shown_found : shape.format ≡ 2 → get_or bytes 0 0 ≡ 7 → Found shape bytes (Shown (take 64 (drop 14 bytes)))
  shown_found format e =
      let rest = drop 14 bytes in
      let vectors = drop 64 rest in
      let size = vector_len shape in
      let long = long_of 7 e in
      let parts : take 64 rest ++ (take size vectors ++ drop size vectors) ≡ rest =
      ap (λ (xs : List ℕ). take 64 rest ++ xs) (take-append-drop size vectors) ∙ take-append-drop 64 rest
      in
      let spelled = parts-join bytes _ fits (omega (arith, long)) parts in (
        record {
          client = asker.client_fits;
          turn = asker.turn_fits;
          epoch = asker.epoch_fits;
          first_len = omega (arith, length-take size vectors, length-drop 64 rest, length-drop 14 bytes, long);
          second_len = omega (arith, length-drop size vectors, length-drop 64 rest, length-drop 14 bytes, long);
          seeds = record { format = format; long = omega (arith, length-take 64 rest, length-drop 14 bytes, long) };
          told = tt;
        },
        head-join 7 bytes (omega (arith, long)) e is.head.second ∙ ap (λ xs. 7 ∷ 1 ∷ xs) (sym spelled),
      )

  found_by : (kind : ℕ) (seeds : Seeds) → get_or bytes 0 0 ≡ kind → seeds_by kind (drop 14 bytes) ≡ seeds →
      Found shape bytes seeds → Found shape bytes (seeds_by (get_or bytes 0 0) (drop 14 bytes))
  found_by kind seeds e is_seeds found =
      subst (Found shape bytes) (sym (ap (λ k. seeds_by k (drop 14 bytes)) e ∙ is_seeds)) found

pub read_found : (shape : Shape) (bytes : List ℕ) → IsBytes bytes → first_fault (read_checks shape bytes) ≡ None →
    IsRead shape (read_in shape bytes) × (bytes ≡ read_frame (read_in shape bytes))
read_found shape bytes fits e =
    let is = read_stands shape bytes e in
    elim is.kind [
      | inl two ↦ found_by shape bytes fits is 2 Plain two refl (plain_found shape bytes fits is two)
      | inr (format, inl six) ↦
          found_by shape bytes fits is 6 (Seeded (drop 14 bytes)) six refl (seeded_found shape bytes fits is format six)
      | inr (format, inr seven) ↦
          found_by shape bytes fits is 7 (Shown (take 64 (drop 14 bytes))) seven refl
          (shown_found shape bytes fits is format seven)
    ]
