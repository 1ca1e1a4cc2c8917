-- What is kept of epochs, once a server told one epoch more.
use Rattle.std.proofs.Common.{◌≡◌, refl, ap, sym, ◌∙◌, subst, arith, ℕ, ◌+◌, ◌*◌, ◌<◌, ◌≤◌, inl, inr}
use Rattle.std.proofs.Common.{List, [], ◌∷◌, ◌++◌, length, get_or, Bool, true, false, cond, length-append}
use Rattle.std.proofs.Common.{◌-◌, take, drop, length-drop}
use Rattle.std.specs.Prelude.{Result, Ok, Err, ◌==◌, ◌&&◌, slice_index}
use Rattle.std.specs.Str.{bytes_eq}
use Rattle.std.proofs.Math.ListN.{set}
use Rattle.std.proofs.lemmas.List.{length-set, get_or-set_same, get_or-set_other, take_rest}
use Rattle.std.proofs.lemmas.List.Elements.{All-set, All-append, All-cons, All-nil}
use Rattle.std.proofs.lemmas.Bool.{cases_lt, cases_eq, lt-ltb, le-ltb, eqb-true}
use Rattle.tk_shape.specs.declared.shape.Shape.{Shape}
use Rattle.tk_member.specs.declared.fault.Fault.{Fault}
use Rattle.tk_member.specs.declared.fault.Fault.TheVariants.{Differ}
use Rattle.tk_frames.specs.Fields.{number_at}
use Rattle.tk_packets.specs.Frames.{marks_len}
use Rattle.tk_member.specs.Epochs.{Marks, is_epoch_frame}
use Rattle.tk_packets.proofs.Offers.{marks-whole}
use Rattle.tk_member.specs.Keeping.{AreToldByServers, kept_with}

-- the marks are there already
told-again : (shape : Shape) (last : List ℕ) (none : Marks) (marks : List Marks) (i n : ℕ) →
    AreToldByServers shape last none marks → i < length last → n ≡ get_or last i 0 → n < length marks →
    AreToldByServers shape (set last i (n + 1)) none marks
told-again shape last none marks i n are low here near =
    let longest = are.longest in
    record {
      counted = length-set last i (n + 1) ∙ are.counted;
      within =
          All-set (λ k. k ≤ length marks) last i (n + 1) (omega (arith, near)) are.within;
      longest = elim (cases_eq longest.place i) [
        | inl same ↦
            let all : get_or last i 0 ≡ length marks =
            subst (λ k. get_or last k 0 ≡ length marks) same longest.whole
            in
            absurd (omega (arith, near, here, all))
        | inr other ↦
            record {
              place = longest.place;
              low = omega (arith, longest.low, length-set last i (n + 1));
              whole = get_or-set_other last i longest.place (n + 1) 0 other ∙ longest.whole;
            }
      ];
      few = are.few;
      none_is = are.none_is;
      sized = are.sized;
    }

-- they come behind all others
told-next : (shape : Shape) (last : List ℕ) (none : Marks) (marks : List Marks) (i n : ℕ) (m : Marks) →
    AreToldByServers shape last none marks → i < length last → n ≡ length marks → n < shape.phases →
    8 * length m ≡ shape.filter_bits → AreToldByServers shape (set last i (n + 1)) none (marks ++ m ∷ [])
told-next shape last none marks i n m are low all few long =
    let longer : length (marks ++ m ∷ []) ≡ length marks + 1 =
    omega (arith, length-append marks (m ∷ []))
    in
    let wide = λ (x : Marks). 8 * length x ≡ shape.filter_bits in
    let one = All-cons wide m [] long (All-nil wide) in
    record {
      counted = length-set last i (n + 1) ∙ are.counted;
      within =
          All-set (λ k. k ≤ length (marks ++ m ∷ [])) last i (n + 1) (omega (arith, all, longer))
          (λ k d near. omega (arith, are.within k d near, longer));
      longest =
          record {
            place = i;
            low = omega (arith, low, length-set last i (n + 1));
            whole = get_or-set_same last i (n + 1) 0 low ∙ omega (arith, all, longer);
          };
      few = omega (arith, few, all, longer);
      none_is = are.none_is;
      sized = All-append (λ (x : Marks). 8 * length x ≡ shape.filter_bits) marks (m ∷ []) are.sized one;
    }

abbrev kept_or : List Marks → Result (List Marks) Fault → List Marks
kept_or marks (Ok kept) = kept
kept_or marks (Err e) = marks

same-kept : (marks kept : List Marks) (b : Bool) → cond b (Ok marks) (Err Differ) ≡ Ok kept →
    marks ≡ kept
same-kept marks kept true is = ap (kept_or marks) is
same-kept marks kept false is = ap (kept_or marks) is

-- what is kept is told
pub still-told : (shape : Shape) (last : List ℕ) (none : Marks) (marks : List Marks) (i n : ℕ)
    (m : Marks) (kept : List Marks) → AreToldByServers shape last none marks → i < length last →
    n ≡ get_or last i 0 → n < shape.phases → 8 * length m ≡ shape.filter_bits →
    kept_with marks n m ≡ Ok kept → AreToldByServers shape (set last i (n + 1)) none kept
still-told shape last none marks i n m kept are low here few long is =
    let next = Ok (marks ++ m ∷ []) in
    let same = bytes_eq (get_or marks n []) m in
    let old = cond same (Ok marks) (Err Differ) in
    let fits : get_or last i 0 ≤ length marks = are.within i 0 low in
    elim (cases_lt n (length marks)) [
      | inl near ↦
          let old_is : old ≡ Ok kept =
          ap (λ b. cond b old next) (sym (lt-ltb n (length marks) near)) ∙ is
          in
          subst (λ (k : List Marks). AreToldByServers shape (set last i (n + 1)) none k)
          (same-kept marks kept same old_is)
          (told-again shape last none marks i n are low here near)
      | inr far ↦
          let all : n ≡ length marks = omega (arith, far, fits, here) in
          let new_is : next ≡ Ok kept =
          ap (λ b. cond b old next) (sym (le-ltb n (length marks) far)) ∙ is
          in
          subst (λ (k : List Marks). AreToldByServers shape (set last i (n + 1)) none k)
          (ap (kept_or marks) new_is)
          (told-next shape last none marks i n m are low all few long)
    ]

-- the marks in the frame of an epoch are of the shape
pub frame-marks : (shape : Shape) (e : ℕ) (frame : List ℕ) → is_epoch_frame shape e frame ≡ true →
    8 * length (take (length frame - 6) (drop 6 frame)) ≡ shape.filter_bits
frame-marks shape e frame is =
    let right = length frame == 6 + marks_len shape in
    let same : right ≡ true =
    (elim right as (λ b. (b && slice_index frame 1 == 1 && number_at 2 frame == e) ≡ true → b ≡ true) [
      | true ↦ λ h. refl
      | false ↦ λ h. h
    ]) is
    in
    let whole : length frame ≡ 6 + marks_len shape =
    eqb-true (length frame) (6 + marks_len shape) same
    in
    let rest : length (drop 6 frame) ≡ marks_len shape = omega (arith, whole, length-drop 6 frame) in
    ap (λ (bs : List ℕ). 8 * length bs) (take_rest frame 6) ∙ ap (λ (n : ℕ). 8 * n) rest ∙ marks-whole shape
