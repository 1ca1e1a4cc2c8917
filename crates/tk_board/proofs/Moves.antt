-- Each step keeps the rule.
use Rattle.std.proofs.Common.{◌≡◌, ◌≢◌, ℕ, zero, suc, ◌+◌, ◌<◌, ◌==◌, Bool, true, false}
use Rattle.std.proofs.Common.{Option, Some, List, [], ◌∷◌, ◌++◌, length, set}
use Rattle.std.proofs.Common.{refl, ap, sym, ◌∙◌, subst, arith, ◌⊎◌, inl, inr, ⊎_elim}
use Rattle.std.specs.Prelude.{slice_index}
use Rattle.std.proofs.lemmas.List.{get_or-set_same, length-set, set-get_or}
use Rattle.std.proofs.lemmas.Bool.Decides.{nat_tests}
use mathlib.Core.Option.{none, some, some-injective, some-ne-none}
use mathlib.Core.List.{IsPrefix}
use mathlib.Core.Logic.{dite}
use native.Mathlib.Decide.{dec_le}
use lib.ListN.{get_elem?}
use prog.Atomic.{either}
use Rattle.atomic_table.specs.Table.{State, step, keeps, opening, Allows, Splits}
use Rattle.atomic_table.specs.Table as table
use Rattle.atomic_table.proofs.Lists.{at_set}
use Rattle.tk_board.specs.declared.rule.View.{View}
use Rattle.tk_board.specs.Rules.{noted, claimed, drafting, whole, informed, Fits, Joins, Kept, Sat}
use Rattle.tk_board.specs.Rules.{At, Proposed, Extended, Checked, Met}
use Rattle.tk_lists.proofs.Offers.{prefix_self, prefix_trans, prefix_shorter, prefix_whole, prefix_length}

off : {A : Type 0} → false ≡ true → A
off e = absurd (Rattle.std.proofs.Common.true≢false (sym e))

on : {A : Type 0} → true ≡ false → A
on e = absurd (Rattle.std.proofs.Common.true≢false e)

-- where the last one stands
at_end : {A : Type 0} (l : List A) (a b : A) (j : ℕ) → get_elem? (l ++ a ∷ []) j ≡ some b
    → (get_elem? l j ≡ some b) ⊎ ((a ≡ b) × (j ≡ length l))
at_end [] a b zero e = inr (some-injective a b e, refl)
at_end [] a b (suc j) e = absurd (some-ne-none b (sym e))
at_end (x ∷ xs) a b zero e = inl e
at_end (x ∷ xs) a b (suc j) e = ⊎_elim (λ t. inl t) (λ t. inr (t.0, ap suc t.1)) (at_end xs a b j e)

module _ {M : Type 0} where
  pub views_set : (P : ℕ → View M → Type 0) (views : List (View M)) (id : ℕ) (w : View M)
      → ((j : ℕ) (u : View M) → j ≢ id → get_elem? views j ≡ some u → P j u) → P id w
      → (j : ℕ) (u : View M) → get_elem? (set views id w) j ≡ some u → P j u
  views_set P views id w others mine j u e =
      ⊎_elim
      (λ (x : (j ≡ id) × (w ≡ u)). subst (λ (k : ℕ). P k u) (sym x.0) (subst (P id) x.1 mine))
      (λ (x : (j ≢ id) × (get_elem? views j ≡ some u)). others j u x.0 x.1)
      (at_set views id j w u e)

  pub views_snoc : (P : ℕ → View M → Type 0) (views : List (View M)) (w : View M)
      → ((j : ℕ) (u : View M) → get_elem? views j ≡ some u → P j u) → P (length views) w
      → (j : ℕ) (u : View M) → get_elem? (views ++ w ∷ []) j ≡ some u → P j u
  views_snoc P views w others mine j u e =
      ⊎_elim (λ was. others j u was) (λ (t : (w ≡ u) × (j ≡ length views)). subst (λ (k : ℕ). P k u)
      (sym t.1) (subst (P (length views)) t.0 mine)) (at_end views w u j e)

  note_fits : (list plan seen : List M) (out : Bool) (p d j : ℕ) → IsPrefix seen list
      → Fits list plan out p d j (noted seen)
  note_fits list plan seen out p d j h = record
      { seen = (λ _. h); claim = (λ e. on e); told = (list, refl); shows = (λ e. off e) }

  claim_fits : (list plan seen : List M) (out : Bool) (p d j : ℕ)
      → (IsPrefix seen list) ⊎ ((out ≡ true) × (j ≡ d) × (seen ≡ plan))
      → Fits list plan out p d j (claimed seen)
  claim_fits list plan seen out p d j h = record
      { seen = (λ e. off e); claim = (λ _. h); told = (list, refl); shows = (λ e. off e) }

  whole_fits : (list plan : List M) (out : Bool) (p d : ℕ)
      → Fits list plan out p d p (drafting list plan out)
  whole_fits list plan out p d = record {
    seen = (λ _. prefix_self list);
    claim = (λ e. on e);
    told = (list, refl);
    shows =
        (λ _. (refl, refl, refl, refl));
  }

  -- where no claim is out, each seat's list begins the shown one, whatever is planned
  settled : (list plan plan' list' : List M) (out out' : Bool) (p d d' j : ℕ) (v : View M)
      → out ≡ false → IsPrefix list list' → v.shows ≡ false → Fits list plan out p d j v
      → Fits list' plan' out' p d' j v
  settled list plan plan' list' out out' p d d' j v clear more quiet h = record {
    seen = (λ e. prefix_trans v.seen list list' (h.seen e) more);
    claim = (λ e. inl (prefix_trans v.seen list list'
        (⊎_elim (λ x. x) (λ (x : (out ≡ true) × (j ≡ d) × (v.seen ≡ plan)). on (sym x.0 ∙ clear))
        (h.claim e)) more));
    told = prefix_trans v.told list list' h.told more;
    shows = (λ e. on (sym e ∙ quiet));
  }

  -- a seat that is not the publisher's
  quiet_of : (list plan : List M) (out : Bool) (p d j : ℕ) (v : View M) → j ≢ p
      → Fits list plan out p d j v → v.shows ≡ false
  quiet_of list plan out p d j v apart h = go v.shows refl
    where
      go : (b : Bool) → v.shows ≡ b → v.shows ≡ false
      go true e = absurd (apart ((h.shows e).1))
      go false e = e

  -- where the claim that is out is not this seat's, its list begins the shown one
  begun : (list plan : List M) (out : Bool) (p d j : ℕ) (v : View M) → j ≢ d → v.shows ≡ false
      → Fits list plan out p d j v → Fits list [] false p d j v
  begun list plan out p d j v apart quiet h = record {
    seen = h.seen;
    claim = (λ e. inl (⊎_elim (λ x. x)
        (λ (x : (out ≡ true) × (j ≡ d) × (v.seen ≡ plan)). absurd (apart x.1)) (h.claim e)));
    told = h.told;
    shows = (λ e. on (sym e ∙ quiet));
  }

  -- of two lists that begin one, the longer
  chosen : (list plan : List M) (out : Bool) (p d j : ℕ) (v : View M) → v.sure ≡ true
      → Fits list plan out p d j v → (w : View M) × Fits list plan out p d j w × Joins v w
  chosen list plan out p d j v sure h = dite (dec_le (length v.told) (length v.seen))
      (λ le. let w : View M = record v { told = [] } in (
        w,
        record {
          seen = (λ _. h.seen sure);
          claim = (λ e. on (sym sure ∙ e));
          told = (list, refl);
          shows = h.shows;
        },
        record {
          seen = prefix_self v.seen;
          told = prefix_shorter v.told v.seen list h.told
              (h.seen sure) le;
          one = inl refl;
          same = (λ e. refl);
          is = refl;
        },
      ))
      (λ more. let w : View M = record v { seen = v.told; told = [] } in let up = prefix_shorter
      v.seen v.told list (h.seen sure) h.told (omega (arith, more)) in
      let same : v.shows ≡ true → v.told ≡ v.seen = λ e.
      (let t = (h.shows e).0 in sym (prefix_whole v.seen v.told up
      (omega (arith, ap length t, prefix_length v.told list h.told)))) in (
        w,
        record {
          seen = (λ _. h.told);
          claim = (λ e. on (sym sure ∙ e));
          told = (list, refl);
          shows = (λ e. (let t = h.shows e in (same e ∙ t.0, t.1, t.2, t.3)));
        },
        record { seen = up; told = prefix_self v.told; one = inr refl; same = same; is = refl },
      ))

module _ {T M : Type 0} where
  pub begins : Kept {T = T} {M = M} (opening (0 ∷ []) [] (whole []))
  begins =
      record {
        list = [];
        plan = [];
        out = false;
        publisher = 0;
        draft = 0;
        wide = omega arith;
        count = refl;
        longer = (λ e. off e);
        fits = one;
      }
    where
      one : (j : ℕ) (v : View M) → get_elem? (whole [] ∷ []) j ≡ some v → Fits [] [] false 0 0 j v
      one zero v e = subst (Fits [] [] false 0 0 0) (some-injective _ _ e)
          (whole_fits [] [] false 0 0)
      one (suc j) v e = absurd (some-ne-none v (sym e))

  -- a seat of a list that is sure gives another of it
  pub forks : (id : ℕ) (v w : View M) → v.sure ≡ true
      → ((list plan : List M) (out : Bool) (p d j : ℕ) → IsPrefix v.seen list
      → Fits list plan out p d j w) → Splits (Kept {T = T}) id v v w
  forks id v w sure fit s h at =
      record {
        list = h.list;
        plan = h.plan;
        out = h.out;
        publisher = h.publisher;
        draft = h.draft;
        wide = h.wide;
        count = h.count;
        longer = h.longer;
        fits = views_snoc (Fits h.list h.plan h.out h.publisher h.draft) (set s.views id v) w
            (views_set (Fits h.list h.plan h.out h.publisher h.draft) s.views id v
            (λ j u _ x. h.fits j u x) (h.fits id v at))
            (fit h.list h.plan h.out h.publisher h.draft _ ((h.fits id v at).seen sure));
      }

  pub notes : (id : ℕ) (v : View M) → v.sure ≡ true → Splits (Kept {T = T}) id v v (noted v.seen)
  notes id v sure = forks id v (noted v.seen) sure
      (λ list plan out p d j h. note_fits list plan v.seen out p d j h)

  pub stakes : (id : ℕ) (v : View M) → v.sure ≡ true → Splits (Kept {T = T}) id v v (claimed v.seen)
  stakes id v sure = forks id v (claimed v.seen) sure
      (λ list plan out p d j h. claim_fits list plan v.seen out p d j (inl h))

  pub hears : (id : ℕ) (v : View M) (other : ℕ) (w : View M) → w.sure ≡ true
      → table.Joins (Kept {T = T}) id v other w (informed v w) (noted [])
  hears id v other w sure s h at apart there =
      let F = Fits h.list h.plan h.out h.publisher h.draft in
      let mine = h.fits id v at in
      let theirs : F other w = ⊎_elim
      (λ (t : (other ≡ id) × (informed v w ≡ w)). absurd (apart t.0))
      (λ (t : (other ≢ id) × (get_elem? s.views other ≡ some w)). h.fits other w t.1)
      (at_set s.views id other (informed v w) w there) in
      record {
        list = h.list;
        plan = h.plan;
        out = h.out;
        publisher = h.publisher;
        draft = h.draft;
        wide = h.wide;
        count = h.count;
        longer = h.longer;
        fits = views_set F (set s.views id (informed v w)) other (noted [])
            (λ j u _ x. views_set F s.views id (informed v w) (λ k y _ z. h.fits k y z)
            (record {
              seen = mine.seen;
              claim = mine.claim;
              told = theirs.seen sure;
              shows =
                  mine.shows;
            }) j u x)
            (note_fits h.list h.plan [] h.out h.publisher h.draft other (h.list, refl));
      }

  -- the rule, where the words stay
  kept_view : (s : State (Option T) (View M)) (h : Kept s) (id : ℕ) (w : View M)
      → Fits h.list h.plan h.out h.publisher h.draft id w
      → Kept {T = T} record {
        words = set s.words 0 (slice_index s.words 0);
        homes = s.homes;
        views = set s.views id w;
      }
  kept_view s h id w fit =
      let same : set s.words 0 (slice_index s.words 0) ≡ s.words = set-get_or s.words 0 0 in
      record {
        list = h.list;
        plan = h.plan;
        out = h.out;
        publisher = h.publisher;
        draft = h.draft;
        wide = rw same h.wide;
        count = rw same h.count;
        longer = h.longer;
        fits = views_set (Fits h.list h.plan h.out h.publisher h.draft) s.views id w
            (λ j u _ x. h.fits j u x) fit;
      }

  pub meets : (slots id : ℕ) (m : Sat T M) (st : At T) → m.0.sure ≡ true
      → Allows (Kept {T = T} {M = M}) slots id m 0 (λ n. n) (Met {T = T} st m)
  meets slots id m st sure s h len at lim =
      let x = chosen h.list h.plan h.out h.publisher h.draft id m.0 sure (h.fits id m.0 at) in
      (x.0, keeps, tt, kept_view s h id x.0 x.1, (x.2, refl))

  pub checks : (slots id : ℕ) (seen : List M) (st : At T)
      → Allows (Kept {T = T} {M = M}) slots id (claimed seen, []) 0 (λ n. n)
      (Checked {T = T} st (claimed seen, []))
  checks slots id seen st s h len at lim = dite (dec_le (length seen) (slice_index s.words 0))
      (λ le.
      let mine = h.fits id (claimed seen) at in
      let pre : IsPrefix seen h.list = ⊎_elim (λ x. x)
      (λ (x : (h.out ≡ true) × (id ≡ h.draft) × (seen ≡ h.plan)). absurd
      (omega (arith, le, h.count, h.longer x.0, ap length x.2))) (mine.claim refl) in (
        noted seen,
        keeps,
        tt,
        kept_view s h id (noted seen)
            (note_fits h.list h.plan seen h.out h.publisher h.draft id pre),
        (λ _. refl),
      ))
      (λ more. (
        claimed seen,
        keeps,
        tt,
        kept_view s h id (claimed seen)
            (h.fits id (claimed seen) at),
        (λ le. absurd (more le)),
      ))

  -- the publisher plans to add a value
  pub proposes : (meaning : T → M) (slots id : ℕ) (seen : List M) (old : ℕ) (y : T)
      → length seen ≡ old
      → Allows (Kept {T = T} {M = M}) slots id (whole seen, []) 0 (λ n. either (n == old) old n)
      (Proposed meaning (step slots 0 old old (some (Some y))) (whole seen, []))
  proposes meaning slots id seen old y long s h len at lim =
      let mine = (h.fits id (whole seen) at).shows refl in
      let found : slice_index s.words 0 ≡ old = h.count ∙ (sym (ap length mine.0) ∙ long) in
      let is : (slice_index s.words 0 == old) ≡ true = grind (arith, nat_tests, found) in
      let e : either (slice_index s.words 0 == old) old (slice_index s.words 0) ≡ slice_index
      s.words 0 = rw is (sym found) in
      let clear : h.out ≡ false = sym mine.3 in
      let plan = seen ++ meaning y ∷ [] in
      let w = drafting seen plan false in
      let same : set s.words 0 (slice_index s.words 0) ≡ s.words = set-get_or s.words 0 0 in
      let mine' : Fits h.list plan false h.publisher h.draft id w = subst
      (λ (k : ℕ). Fits h.list plan false h.publisher h.draft k w) (sym mine.1)
      (subst (λ (xs : List M). Fits xs plan false h.publisher h.draft h.publisher w) mine.0
      (whole_fits seen plan false h.publisher h.draft)) in
      let kept : Kept {T = T} record {
        words = set s.words 0 (slice_index s.words 0);
        homes =
            s.homes;
        views = set s.views id w;
      } = record {
        list = h.list;
        plan = plan;
        out = false;
        publisher = h.publisher;
        draft = h.draft;
        wide = rw same h.wide;
        count = rw same h.count;
        longer = (λ x. off x);
        fits = views_set (Fits h.list plan false h.publisher h.draft) s.views id w
            (λ j u apart z. let f = h.fits j u z in settled h.list h.plan plan h.list h.out false
            h.publisher h.draft h.draft j u clear (prefix_self h.list)
            (quiet_of h.list h.plan h.out h.publisher h.draft j u
            (λ (i : j ≡ h.publisher). apart (i ∙ sym mine.1)) f) f)
            mine';
      } in (
        w,
        keeps,
        tt,
        rw e kept,
        (λ x means. ap (λ z. (drafting seen (seen ++ z ∷ []) false, []))
            means),
      )

  -- a claim of the planned list goes out
  pub drafts : (id : ℕ) (seen plan : List M) → length seen < length plan
      → Splits (Kept {T = T} {M = M}) id (drafting seen plan false) (drafting seen plan true)
      (claimed plan)
  drafts id seen plan long s h at =
      let mine = (h.fits id (drafting seen plan false) at).shows refl in
      let clear : h.out ≡ false = sym mine.3 in
      let d = length (set s.views id (drafting seen plan true)) in
      let F = Fits h.list plan true h.publisher d in
      let mine' : F id (drafting seen plan true) = subst (λ (k : ℕ). F k (drafting seen plan true))
      (sym mine.1) (subst (λ (xs : List M). Fits xs plan true h.publisher d h.publisher
      (drafting seen plan true)) mine.0 (whole_fits seen plan true h.publisher d)) in
      record {
        list = h.list;
        plan = plan;
        out = true;
        publisher = h.publisher;
        draft = d;
        wide = h.wide;
        count = h.count;
        longer = (λ _. omega (arith, long, ap length mine.0));
        fits = views_snoc F (set s.views id (drafting seen plan true)) (claimed plan)
            (views_set F s.views id (drafting seen plan true)
            (λ j u apart z. let f = h.fits j u z in settled h.list h.plan plan h.list h.out true
            h.publisher h.draft d j u clear (prefix_self h.list)
            (quiet_of h.list h.plan h.out h.publisher h.draft j u
            (λ (i : j ≡ h.publisher). apart (i ∙ sym mine.1)) f) f)
            mine')
            (claim_fits h.list plan plan true h.publisher d d (inr (refl, refl, refl)));
      }

  -- the claim comes back, and the plan is given up
  pub withdraws : (id : ℕ) (seen plan : List M) (other : ℕ) → length seen < length plan
      → table.Joins (Kept {T = T} {M = M}) id (drafting seen plan true) other (claimed plan)
      (whole seen) (noted [])
  withdraws id seen plan other long s h at apart there =
      let v = drafting seen plan true in
      let mine = (h.fits id v at).shows refl in
      let theirs : Fits h.list h.plan h.out h.publisher h.draft other (claimed plan) = ⊎_elim
      (λ (t : (other ≡ id) × (whole seen ≡ claimed plan)). absurd (apart t.0))
      (λ (t : (other ≢ id) × (get_elem? s.views other ≡ some (claimed plan))). h.fits other
      (claimed plan) t.1) (at_set s.views id other (whole seen) (claimed plan) there) in
      let its : other ≡ h.draft = ⊎_elim
      (λ (x : IsPrefix plan h.list). absurd
      (omega (arith, long, ap length mine.0, prefix_length plan h.list x)))
      (λ (x : (h.out ≡ true) × (other ≡ h.draft) × (plan ≡ h.plan)). x.1) (theirs.claim refl) in
      let F = Fits h.list [] false h.publisher h.draft in
      let mine' : F id (whole seen) = subst (λ (k : ℕ). F k (whole seen)) (sym mine.1)
      (subst (λ (xs : List M). Fits xs [] false h.publisher h.draft h.publisher (whole seen))
      mine.0 (whole_fits seen [] false h.publisher h.draft)) in
      record {
        list = h.list;
        plan = [];
        out = false;
        publisher = h.publisher;
        draft = h.draft;
        wide = h.wide;
        count = h.count;
        longer = (λ e. off e);
        fits = views_set F (set s.views id (whole seen)) other (noted [])
            (λ j u away x. ⊎_elim
            (λ (t : (j ≡ id) × (whole seen ≡ u)). subst (λ (k : ℕ). F k u) (sym t.0)
            (subst (F id) t.1 mine'))
            (λ (t : (j ≢ id) × (get_elem? s.views j ≡ some u)). let f = h.fits j u t.1 in begun
            h.list h.plan h.out h.publisher h.draft j u
            (λ (i : j ≡ h.draft). away (i ∙ sym its))
            (quiet_of h.list h.plan h.out h.publisher h.draft j u
            (λ (i : j ≡ h.publisher). t.0 (i ∙ sym mine.1)) f) f)
            (at_set s.views id j (whole seen) u x))
            (note_fits h.list [] [] false h.publisher h.draft other (h.list, refl));
      }

  -- the planned list is the shown one from now on
  pub extends : (slots id : ℕ) (seen plan : List M) (old : ℕ) → IsPrefix seen plan
      → length seen ≡ old → length plan ≡ old + 1
      → Allows (Kept {T = T} {M = M}) slots id (drafting seen plan true, []) 0
      (λ n. either (n == old) (old + 1) n)
      (Extended {T = T} (step slots 0 old (old + 1) none) (drafting seen plan true, []))
  extends slots id seen plan old more long longer s h len at lim =
      let mine = (h.fits id (drafting seen plan true) at).shows refl in
      let found : slice_index s.words 0 ≡ old = h.count ∙ (sym (ap length mine.0) ∙ long) in
      let is : (slice_index s.words 0 == old) ≡ true = grind (arith, nat_tests, found) in
      let e : either (slice_index s.words 0 == old) (old + 1) (slice_index s.words 0) ≡ old + 1 = rw
      is refl in
      let w = whole plan in
      let up : IsPrefix h.list plan = subst (λ (xs : List M). IsPrefix xs plan) mine.0 more in
      let F = Fits plan [] false h.publisher h.draft in
      let mine' : F id w = subst (λ (k : ℕ). F k w) (sym mine.1)
      (whole_fits plan [] false h.publisher h.draft) in
      let other : (j : ℕ) (u : View M) → j ≢ id → get_elem? s.views j ≡ some u
      → F j u = λ j u apart z. let f = h.fits j u z in record {
        seen = (λ x. prefix_trans u.seen h.list plan (f.seen x) up);
        claim = (λ x. inl (⊎_elim (λ b. prefix_trans u.seen h.list plan b up)
            (λ (b : (h.out ≡ true) × (j ≡ h.draft) × (u.seen ≡ h.plan)). subst
            (λ (xs : List M). IsPrefix xs plan) (sym (b.2 ∙ sym mine.2)) (prefix_self plan))
            (f.claim x)));
        told = prefix_trans u.told h.list plan f.told up;
        shows = (λ x. absurd (apart ((f.shows x).1 ∙ sym mine.1)));
      } in
      let kept : Kept {T = T} record {
        words = set s.words 0 (old + 1);
        homes = s.homes;
        views = set
            s.views id w;
      } = record {
        list = plan;
        plan = [];
        out = false;
        publisher = h.publisher;
        draft = h.draft;
        wide = omega (arith, h.wide, length-set s.words 0 (old + 1));
        count = get_or-set_same s.words 0 (old + 1) 0 h.wide ∙ sym longer;
        longer = (λ x. off x);
        fits = views_set F s.views id w other mine';
      } in
      (w, keeps, tt, rw e kept, refl)
