-- The earliest of accepted texts, and the first record that gives one.
use Rattle.std.proofs.Common.{◌≡◌, ℕ, ◌+◌, ◌⊎◌, inl, inr, refl, ap, sym, ◌∙◌, subst, arith, List}
use Rattle.std.proofs.Common.{[], ◌∷◌, true, false, cond, ◌≤◌, le-leb}
use Rattle.std.specs.Prelude.{Option, Some, None, nat_le}
use Rattle.std.proofs.lemmas.Bool.{cases_lt, lt-leb}
use Rattle.std.specs.Option.{option_or}
use Rattle.tk_frames.specs.Order.{Record}
use Rattle.tk_table.specs.Ordered.{AscendFrom}
use Rattle.tk_frames.specs.Lists.{first_some, IsIn}
use Rattle.tk_frames.specs.Slots.{Accepted, earlier_of, earliest}
use Rattle.tk_table.proofs.Ascending.{ascend-above}

-- no other comes earlier or at the same position
abbrev pub IsLeast : Accepted → List Accepted → Type 0
IsLeast x ys = (y : Accepted) → IsIn ys y → (x.0 ≤ y.0) × (y.0 ≤ x.0 → y ≡ x)

earliest-in : (ys : List Accepted) (x : Accepted) → earliest ys ≡ Some x → IsIn ys x
earliest-in [] x h = absurd (cc h)
earliest-in (y ∷ ys) x h =
    elim (earliest ys) as (λ o. earliest ys ≡ o → earlier_of y o ≡ x → (y ≡ x) ⊎ IsIn ys x) [
      | None ↦ λ _ same. inl same
      | Some z ↦ λ e same. elim (nat_le y.0 z.0) as (λ b. cond b y z ≡ x → (y ≡ x) ⊎ IsIn ys x) [
        | true ↦ λ same. inl same
        | false ↦ λ same. inr (subst (λ v. IsIn ys v) same (earliest-in ys z e))
      ] same
    ] refl (cc h)

pub earliest-least : (ys : List Accepted) (x : Accepted) → IsIn ys x → IsLeast x ys →
    earliest ys ≡ Some x
earliest-least [] x there least = absurd there
earliest-least (y ∷ ys) x (inl e) least = ap {B = Option Accepted} Some (first (earliest ys) refl)
  where
    first : (o : Option Accepted) → earliest ys ≡ o → earlier_of y o ≡ x
    first None h = e
    first (Some z) h =
        let no_later : y.0 ≤ z.0 = subst (λ v. v.0 ≤ z.0) (sym e)
        (least z (inr (earliest-in ys z h))).0 in
        ap (λ b. cond b y z) (le-leb y.0 z.0 no_later) ∙ e
earliest-least (y ∷ ys) x (inr there) least =
    ap (λ o. Some (earlier_of y o)) (earliest-least ys x there (λ z h. least z (inr h)))
    ∙ ap {B = Option Accepted} Some (elim (cases_lt x.0 y.0) [
      | inl later ↦ ap (λ b. cond b y x) (lt-leb y.0 x.0 later)
      | inr same ↦ let equal : y ≡ x = (least y (inl refl)).1 same in
          elim (nat_le y.0 x.0) as (λ b. cond b y x ≡ x) [ true ↦ equal | false ↦ refl ]
    ])

-- ---- records

-- it gives the text, and no other that gives one has a lower position or the same
pub record IsFirst (gives : Record → Option (List ℕ)) (K : List Record)
    (text : List ℕ) : Type 0 where
  pub chosen : Record
  pub there : IsIn K chosen
  pub gives_text : gives chosen ≡ Some text
  pub least : (r : Record) (other : List ℕ) → IsIn K r → gives r ≡ Some other →
      (chosen.position ≤ r.position) × (r.position ≤ chosen.position → other ≡ text)

pub first_some-none : (gives : Record → Option (List ℕ)) (K : List Record) (r : Record) →
    first_some gives K ≡ None → IsIn K r → gives r ≡ None
first_some-none gives [] r h there = absurd there
first_some-none gives (k ∷ K) r h there =
    elim (gives k) as (λ o. gives k ≡ o → option_or o (first_some gives K) ≡ None →
    gives r ≡ None) [
      | None ↦ λ e h. elim there [
        | inl same ↦ ap gives (sym same) ∙ e
        | inr later ↦ first_some-none gives K r h later
      ]
      | Some text ↦ λ _ h. absurd (cc h)
    ] refl h

pub first_some-first : (gives : Record → Option (List ℕ)) (p : ℕ) (K : List Record)
    (text : List ℕ) →
    AscendFrom p K → first_some gives K ≡ Some text → IsFirst gives K text
first_some-first gives p [] text ascend h = absurd (cc h)
first_some-first gives p (k ∷ K) text ascend h =
    elim (gives k) as (λ o. gives k ≡ o → option_or o (first_some gives K) ≡ Some text →
    IsFirst gives (k ∷ K) text) [
      | None ↦ λ e h. behind e (first_some-first gives (k.position + 1) K text ascend.1 h)
      | Some other ↦ λ e h. here (e ∙ h)
    ] refl h
  where
    here_least : gives k ≡ Some text → (r : Record) (other : List ℕ) → IsIn (k ∷ K) r →
        gives r ≡ Some other →
        (k.position ≤ r.position) × (r.position ≤ k.position → other ≡ text)
    here_least e r other (inl same) g = (
      subst (λ v. k.position ≤ v.position) same (omega arith),
      λ _. let both =
          sym g ∙ ap gives (sym same) ∙ e in cc both,
    )
    here_least e r other (inr later) g =
        let above = ascend-above (k.position + 1) K r ascend.1 later in
        (omega (arith, above), λ low. absurd (omega (arith, above, low)))

    here : gives k ≡ Some text → IsFirst gives (k ∷ K) text
    here e = record { chosen = k; there = inl refl; gives_text = e; least = here_least e }

    behind_least : gives k ≡ None → (f : IsFirst gives K text) → (r : Record) (other : List ℕ) →
        IsIn (k ∷ K) r → gives r ≡ Some other →
        (f.chosen.position ≤ r.position) × (r.position ≤ f.chosen.position → other ≡ text)
    behind_least e f r other (inl same) g =
        absurd (let both = sym g ∙ ap gives (sym same) ∙ e in cc both)
    behind_least e f r other (inr later) g = f.least r other later g

    behind : gives k ≡ None → IsFirst gives K text → IsFirst gives (k ∷ K) text
    behind e f = record {
      chosen = f.chosen;
      there = inr f.there;
      gives_text = f.gives_text;
      least = behind_least e f;
    }
