-- Each step keeps the rule.
use Rattle.std.proofs.Common.{if◌then◌else◌, ◌≡◌, ◌≢◌, ℕ, zero, suc, ◌+◌, ◌==◌, Bool, true, false, List, [], ◌∷◌, ◌++◌, length, set, refl, ap, sym, ◌∙◌, subst, arith, length-append, ◌⊎◌, inl, inr, ⊎_elim}
use Rattle.std.specs.Prelude.{slice_index, slice_set}
use Rattle.std.proofs.lemmas.Bool.Decides.{nat_tests}
use mathlib.Core.Option.{none, some, some-injective, some-ne-none}
use mathlib.Core.List.{IsPrefix}
use mathlib.Core.Logic.{dite}
use native.Mathlib.Decide.{dec_le}
use lib.ListN.{get_elem?}
use prog.Atomic.{either}
use Rattle.atomic_table.specs.Table.{Me, Step, step, keeps, stepped, opening, Allows, Splits, Joins}
use Rattle.atomic_table.proofs.Lists.{at_set, at_snoc}
use Rattle.tk_frames.specs.declared.entry.Placed.{Placed}
use Rattle.tk_shape.specs.declared.shape.Shape.{Shape}
use Rattle.tk_order.specs.declared.rule.View.{View}
use Rattle.tk_order.specs.Legality.{seat_of, of, MayFollow}
use Rattle.tk_order.specs.Rules as rules
use Rattle.tk_order.specs.Rules.{view, blank_view, note_of, informed, gathered, Owned, Holds, Fits, Kept, Looked, Met, added, Appends, Appended, DrawsIf, Drew}
use Rattle.tk_order.proofs.Legal.{of_added, of_else, of_prefix, of_between, legal_first, legal_after}
use Rattle.tk_lists.proofs.Offers.{prefix_self, prefix_trans, prefix_shorter, prefix_whole}

-- a fact of each view, after one view changed
pub views_set : (P : ℕ → View → Type 0) (views : List View) (id : ℕ) (w : View) → ((j : ℕ) (u : View) → j ≢ id → get_elem? views j ≡ some u → P j u) → P id w
    → (j : ℕ) (u : View) → get_elem? (set views id w) j ≡ some u → P j u
views_set P views id w others mine j u e =
    ⊎_elim
    (λ (x : (j ≡ id) × (w ≡ u)). subst (λ (k : ℕ). P k u) (sym x.0) (subst (P id) x.1 mine))
    (λ (x : (j ≢ id) × (get_elem? views j ≡ some u)). others j u x.0 x.1)
    (at_set views id j w u e)

-- and with one more view
pub views_snoc : (P : ℕ → View → Type 0) (views : List View) (w : View) → ((j : ℕ) (u : View) → get_elem? views j ≡ some u → P j u) → ((j : ℕ) → P j w)
    → (j : ℕ) (u : View) → get_elem? (views ++ w ∷ []) j ≡ some u → P j u
views_snoc P views w others mine j u e = ⊎_elim (λ was. others j u was) (λ (same : w ≡ u). subst (P j) same (mine j)) (at_snoc views w u j e)

nil_prefix : (xs : List Placed) → IsPrefix [] xs
nil_prefix xs = (xs, refl)

-- a view with nothing in it fits everything
blank_fits : (log : List Placed) (drawn : ℕ) (owner : ℕ → ℕ) (j : ℕ) → Fits log drawn owner j blank_view
blank_fits log drawn owner j = record { seen = nil_prefix log; told = nil_prefix log; owned = tt; mine = (λ n h. absurd h) }

note_fits : (log : List Placed) (drawn : ℕ) (owner : ℕ → ℕ) (j k : ℕ) (v : View) → Fits log drawn owner j v → Fits log drawn owner k (note_of v)
note_fits log drawn owner j k v h = record { seen = h.seen; told = nil_prefix log; owned = tt; mine = (λ n x. absurd x) }

pub begins : (shape : Shape) → Kept shape (opening (0 ∷ 0 ∷ []) [] blank_view)
begins shape =
    record {
      log = [];
      drawn = 0;
      owner = (λ n. 0);
      words = refl;
      legal = legal_first shape;
      named = (λ n h. refl);
      fits = one;
    }
  where
    one : (j : ℕ) (v : View) → get_elem? (blank_view ∷ []) j ≡ some v → Fits [] 0 (λ n. 0) j v
    one zero v e = subst (Fits [] 0 (λ n. 0) 0) (some-injective _ _ e) (blank_fits [] 0 (λ n. 0) 0)
    one (suc j) v e = absurd (some-ne-none v (sym e))

pub looks : (shape : Shape) (slots id : ℕ) (m : Me Placed View) (st : Step Placed) → Allows (Kept shape) slots id m 0 (λ n. n) (Looked shape st m)
looks shape slots id m st s h len at lim =
    let mine = h.fits id m.0 at in
    let w = view h.log [] m.0.claims in
    let same : slice_set s.words 0 (slice_index s.words 0) ≡ length h.log ∷ h.drawn ∷ [] = rw h.words refl in (
      w,
      keeps,
      tt,
      record {
        log = h.log;
        drawn = h.drawn;
        owner = h.owner;
        words = same;
        legal = h.legal;
        named = h.named;
        fits = views_set (Fits h.log h.drawn h.owner) s.views id w (λ j u _ e. h.fits j u e) (record { seen = prefix_self h.log; told = nil_prefix h.log; owned = mine.owned; mine = mine.mine });
      },
      (record { seen = mine.seen; told = mine.told; count = rw h.words refl; claims = refl; owned = mine.owned; legal = h.legal }, refl),
    )

owned_between : (cs : List (ℕ × List Placed)) (xs ys zs : List Placed) → IsPrefix xs ys → IsPrefix ys zs → Owned xs cs → Owned zs cs → Owned ys cs
owned_between [] xs ys zs p q a b = tt
owned_between (c ∷ cs) xs ys zs p q a b = (of_between c.0 xs ys zs c.1 p q a.0 b.0, owned_between cs xs ys zs p q a.1 b.1)

-- of two lists that begin one, the longer
chosen : (log : List Placed) (drawn : ℕ) (owner : ℕ → ℕ) (j : ℕ) (v : View) → Fits log drawn owner j v
    → (w : View) × Fits log drawn owner j w × rules.Joins v w
chosen log drawn owner j v h = dite (dec_le (length v.told) (length v.seen))
    (λ le. let w = view v.seen [] v.claims in (
      w,
      record { seen = h.seen; told = nil_prefix log; owned = h.owned; mine = h.mine },
      record { seen = prefix_self v.seen; told = prefix_shorter v.told v.seen log h.told h.seen le; one = inl refl; claims = refl; owned = (λ o. o) },
    ))
    (λ more. let w = view v.told [] v.claims in let up = prefix_shorter v.seen v.told log h.seen h.told (omega (arith, more)) in (
      w,
      record { seen = h.told; told = nil_prefix log; owned = h.owned; mine = h.mine },
      record { seen = up; told = prefix_self v.told; one = inr refl; claims = refl; owned = (λ o. owned_between v.claims v.seen v.told log up h.told o h.owned) },
    ))

pub meets : (shape : Shape) (slots id : ℕ) (m : Me Placed View) (st : Step Placed) → Allows (Kept shape) slots id m 0 (λ n. n) (Met st m)
meets shape slots id m st s h len at lim =
    let x = chosen h.log h.drawn h.owner id m.0 (h.fits id m.0 at) in
    let same : slice_set s.words 0 (slice_index s.words 0) ≡ length h.log ∷ h.drawn ∷ [] = rw h.words refl in (
      x.0,
      keeps,
      tt,
      record {
        log = h.log;
        drawn = h.drawn;
        owner = h.owner;
        words = same;
        legal = h.legal;
        named = h.named;
        fits = views_set (Fits h.log h.drawn h.owner) s.views id x.0 (λ j u _ e. h.fits j u e) x.1;
      },
      (x.2, refl),
    )

-- an entry under another number changes nothing of what is claimed
owned_else : (cs : List (ℕ × List Placed)) (log : List Placed) (e : Placed) → ¬ Holds (seat_of e) cs → Owned log cs → Owned (log ++ e ∷ []) cs
owned_else [] log e not h = tt
owned_else (c ∷ cs) log e not h = (of_else c.0 log c.1 e (λ is. not (inl (sym is))) h.0, owned_else cs log e (λ x. not (inr x)) h.1)

prefix_more : (xs ys : List Placed) (e : Placed) → IsPrefix xs ys → IsPrefix xs (ys ++ e ∷ [])
prefix_more xs ys e p = prefix_trans xs ys (ys ++ e ∷ []) p (e ∷ [], refl)

-- what the rule says of another seat's view stays when a seat puts its entry after the list
fits_else : (log : List Placed) (drawn : ℕ) (owner : ℕ → ℕ) (j id : ℕ) (v : View) (e : Placed) → owner (seat_of e) ≡ id → j ≢ id → Fits log drawn owner j v → Fits (log ++ e ∷ []) drawn owner j v
fits_else log drawn owner j id v e own apart h =
    record {
      seen = prefix_more v.seen log e h.seen;
      told = prefix_more v.told log e h.told;
      owned = owned_else v.claims log e (λ has. apart (sym (h.mine (seat_of e) has).1 ∙ own)) h.owned;
      mine = h.mine;
    }

pub appends : (shape : Shape) (slots id : ℕ) (v : View) (held : List (ℕ × Placed)) (own : List Placed) (old : ℕ) (e : Placed) → v.claims ≡ (seat_of e, own) ∷ [] → MayFollow shape own e.entry → e.position ≡ old + 1
    → Allows (Kept shape) slots id (v, held) 0 (λ n. either (n == old) (old + 1) n) (Appended shape (step slots 0 old (old + 1) (some e)) (v, held))
appends shape slots id v held own old e claims may place s h len at lim = go (length h.log == old) refl
  where
    mine : Fits h.log h.drawn h.owner id v
    mine = h.fits id v at

    first : slice_index s.words 0 ≡ length h.log
    first = rw h.words refl

    Goal : ℕ → Type 0
    Goal n = (w : View) × (a : Rattle.atomic_table.specs.Table.Act Placed) × Rattle.atomic_table.specs.Table.Valid s.homes held a × Kept shape (stepped s 0 (either (n == old) (old + 1) n) id held w a)
        × Appended shape (step slots 0 old (old + 1) (some e)) (v, held) n (w, Rattle.atomic_table.specs.Table.carried_after held a)

    my_owned : Owned h.log ((seat_of e, own) ∷ [])
    my_owned = subst (Owned h.log) claims mine.owned

    has : Holds (seat_of e) v.claims
    has = subst (Holds (seat_of e)) (sym claims) (inl refl)

    go : (b : Bool) → (length h.log == old) ≡ b → Goal (slice_index s.words 0)
    go true is =
        let there = mine.mine (seat_of e) has in
        let here : length h.log ≡ old = grind (arith, nat_tests) in
        let log = h.log ++ e ∷ [] in
        let long : length log ≡ old + 1 = omega (arith, length-append h.log (e ∷ []), here) in
        let t : (slice_index s.words 0 == old) ≡ true = ap (λ k. k == old) first ∙ is in
        let w = view log [] ((seat_of e, own ++ e ∷ []) ∷ []) in
        let words : slice_set s.words 0 (either (slice_index s.words 0 == old) (old + 1) (slice_index s.words 0)) ≡ length log ∷ h.drawn ∷ [] = rw t (rw h.words (ap (λ k. k ∷ h.drawn ∷ []) (sym long))) in
        let after : Owned log ((seat_of e, own ++ e ∷ []) ∷ []) = (of_added (seat_of e) h.log own e refl my_owned.0, tt) in
        let legal = legal_after shape h.log own e h.legal my_owned.0 may (place ∙ ap (λ k. k + 1) (sym here)) in (
          w,
          keeps,
          tt,
          record {
            log = log;
            drawn = h.drawn;
            owner = h.owner;
            words = words;
            legal = legal;
            named = (λ n out. of_else n h.log [] e (λ x. omega (arith, x, out, there.0)) (h.named n out));
            fits = views_set (Fits log h.drawn h.owner) s.views id w (λ j u apart x. fits_else h.log h.drawn h.owner j id u e there.1 apart (h.fits j u x))
                (record { seen = prefix_self log; told = nil_prefix log; owned = after; mine = (λ n x. mine.mine n (subst (Holds n) (sym claims) x)) });
          },
          (
            subst (λ (b : Bool). Appends b shape v (some e) (slice_index s.words 0) w) (sym t)
                (record { log = h.log; count = sym first; seen = mine.seen; told = mine.told; before = mine.owned; after = refl; claims = ap (added e) (sym claims); owned = after; legal = legal }),
            refl,
          ),
        )
    go false is =
        let t : (slice_index s.words 0 == old) ≡ false = ap (λ k. k == old) first ∙ is in
        let w = view h.log [] v.claims in
        let words : slice_set s.words 0 (either (slice_index s.words 0 == old) (old + 1) (slice_index s.words 0)) ≡ length h.log ∷ h.drawn ∷ [] = rw t (rw h.words refl) in (
          w,
          keeps,
          tt,
          record {
            log = h.log;
            drawn = h.drawn;
            owner = h.owner;
            words = words;
            legal = h.legal;
            named = h.named;
            fits = views_set (Fits h.log h.drawn h.owner) s.views id w (λ j u _ x. h.fits j u x) (record { seen = prefix_self h.log; told = nil_prefix h.log; owned = mine.owned; mine = mine.mine });
          },
          (
            subst (λ (b : Bool). Appends b shape v (some e) (slice_index s.words 0) w) (sym t)
                (record { seen = mine.seen; told = mine.told; count = sym first; claims = refl; owned = mine.owned; legal = h.legal }),
            refl,
          ),
        )

-- a number of which nothing is claimed has no entry
fits_drawn : (log : List Placed) (drawn : ℕ) (owner : ℕ → ℕ) (j id : ℕ) (v : View) → Fits log drawn owner j v → Fits log (drawn + 1) (λ n. if n == drawn then id else owner n) j v
fits_drawn log drawn owner j id v h =
    record {
      seen = h.seen;
      told = h.told;
      owned = h.owned;
      mine = (λ n x. let t = h.mine n x in let not : (n == drawn) ≡ false = grind (arith, nat_tests, t.0) in (omega (arith, t.0), rw not t.1));
    }

pub draws : (shape : Shape) (slots id : ℕ) (v : View) (held : List (ℕ × Placed)) (old : ℕ) → v.claims ≡ []
    → Allows (Kept shape) slots id (v, held) 1 (λ n. either (n == old) (old + 1) n) (Drew (step slots 1 old (old + 1) none) (v, held))
draws shape slots id v held old claims s h len at lim = go (h.drawn == old) refl
  where
    mine : Fits h.log h.drawn h.owner id v
    mine = h.fits id v at

    second : slice_index s.words 1 ≡ h.drawn
    second = rw h.words refl

    Goal : ℕ → Type 0
    Goal n = (w : View) × (a : Rattle.atomic_table.specs.Table.Act Placed) × Rattle.atomic_table.specs.Table.Valid s.homes held a × Kept shape (stepped s 1 (either (n == old) (old + 1) n) id held w a)
        × Drew (step slots 1 old (old + 1) none) (v, held) n (w, Rattle.atomic_table.specs.Table.carried_after held a)

    go : (b : Bool) → (h.drawn == old) ≡ b → Goal (slice_index s.words 1)
    go true is =
        let t : (slice_index s.words 1 == old) ≡ true = ap (λ k. k == old) second ∙ is in
        let same : h.drawn ≡ old = grind (arith, nat_tests) in
        let w = view v.seen v.told ((h.drawn, []) ∷ []) in
        let owner : ℕ → ℕ = λ n. if n == h.drawn then id else h.owner n in
        let self : (h.drawn == h.drawn) ≡ true = grind (arith, nat_tests) in
        let words : slice_set s.words 1 (either (slice_index s.words 1 == old) (old + 1) (slice_index s.words 1)) ≡ length h.log ∷ (h.drawn + 1) ∷ [] = rw t (rw h.words (ap (λ k. length h.log ∷ k ∷ []) (omega (arith, same)))) in
        let empty : of h.drawn h.log ≡ [] = h.named h.drawn (omega arith) in (
          w,
          keeps,
          tt,
          record {
            log = h.log;
            drawn = h.drawn + 1;
            owner = owner;
            words = words;
            legal = h.legal;
            named = (λ n out. h.named n (omega (arith, out)));
            fits = views_set (Fits h.log (h.drawn + 1) owner) s.views id w (λ j u _ x. fits_drawn h.log h.drawn h.owner j id u (h.fits j u x))
                (record { seen = mine.seen; told = mine.told; owned = (empty, tt); mine = (λ n x. ⊎_elim (λ (is : h.drawn ≡ n). let eq : (n == h.drawn) ≡ true = grind (arith, nat_tests, is) in (omega (arith, is), rw eq refl)) (λ f. absurd f) x) });
          },
          (
            subst (λ (b : Bool). DrawsIf b v (slice_index s.words 1) w) (sym t)
                (ap (λ k. view v.seen v.told ((k, []) ∷ [])) (sym second), ap (λ k. of k v.seen) second ∙ (prefix_whole (of h.drawn v.seen) (of h.drawn h.log) (of_prefix h.drawn v.seen h.log mine.seen) (omega (arith, ap length empty)) ∙ empty)),
            refl,
          ),
        )
    go false is =
        let t : (slice_index s.words 1 == old) ≡ false = ap (λ k. k == old) second ∙ is in
        let words : slice_set s.words 1 (either (slice_index s.words 1 == old) (old + 1) (slice_index s.words 1)) ≡ length h.log ∷ h.drawn ∷ [] = rw t (rw h.words refl) in (
          v,
          keeps,
          tt,
          record {
            log = h.log;
            drawn = h.drawn;
            owner = h.owner;
            words = words;
            legal = h.legal;
            named = h.named;
            fits = views_set (Fits h.log h.drawn h.owner) s.views id v (λ j u _ x. h.fits j u x) mine;
          },
          (subst (λ (b : Bool). DrawsIf b v (slice_index s.words 1) v) (sym t) refl, refl),
        )

pub notes : (shape : Shape) (id : ℕ) (v : View) → Splits (Kept shape) id v v (note_of v)
notes shape id v s h at =
    record {
      log = h.log;
      drawn = h.drawn;
      owner = h.owner;
      words = h.words;
      legal = h.legal;
      named = h.named;
      fits = views_snoc (λ j u. Fits h.log h.drawn h.owner j u) (set s.views id v) (note_of v)
          (views_set (Fits h.log h.drawn h.owner) s.views id v (λ j u _ x. h.fits j u x) (h.fits id v at))
          (λ j. note_fits h.log h.drawn h.owner id j v (h.fits id v at));
    }

pub learns : (shape : Shape) (id : ℕ) (v : View) (other : ℕ) (w : View) → Joins (Kept shape) id v other w (informed v w) blank_view
learns shape id v other w s h at apart there =
    let mine = h.fits id v at in
    let theirs : Fits h.log h.drawn h.owner other w = ⊎_elim (λ (t : (other ≡ id) × (informed v w ≡ w)). absurd (apart t.0)) (λ (t : (other ≢ id) × (get_elem? s.views other ≡ some w)). h.fits other w t.1) (at_set s.views id other (informed v w) w there) in
    record {
      log = h.log;
      drawn = h.drawn;
      owner = h.owner;
      words = h.words;
      legal = h.legal;
      named = h.named;
      fits = views_set (Fits h.log h.drawn h.owner) (set s.views id (informed v w)) other blank_view
          (λ j u _ x. views_set (Fits h.log h.drawn h.owner) s.views id (informed v w) (λ k y _ z. h.fits k y z) (record { seen = mine.seen; told = theirs.seen; owned = mine.owned; mine = mine.mine }) j u x)
          (blank_fits h.log h.drawn h.owner other);
    }

holds_in : (n : ℕ) (xs ys : List (ℕ × List Placed)) → Holds n (xs ++ ys) → Holds n xs ⊎ Holds n ys
holds_in n [] ys h = inr h
holds_in n (a ∷ xs) ys h = ⊎_elim (λ (is : a.0 ≡ n). inl (inl is)) (λ more. ⊎_elim (λ one. inl (inr one)) (λ r. inr r) (holds_in n xs ys more)) h

owned-append : (log : List Placed) (xs ys : List (ℕ × List Placed)) → Owned log xs → Owned log ys → Owned log (xs ++ ys)
owned-append log [] ys h k = k
owned-append log (a ∷ xs) ys h k = (h.0, owned-append log xs ys h.1 k)

pub collects : (shape : Shape) (id : ℕ) (v : View) (other : ℕ) (w : View) → Joins (Kept shape) id v other w (gathered v w) blank_view
collects shape id v other w s h at apart there =
    let mine = h.fits id v at in
    let theirs : Fits h.log h.drawn h.owner other w = ⊎_elim (λ (t : (other ≡ id) × (gathered v w ≡ w)). absurd (apart t.0)) (λ (t : (other ≢ id) × (get_elem? s.views other ≡ some w)). h.fits other w t.1) (at_set s.views id other (gathered v w) w there) in
    let owner : ℕ → ℕ = λ n. if h.owner n == other then id else h.owner n in
    let still : (n j : ℕ) → j ≢ other → h.owner n ≡ j → owner n ≡ j = λ n j not is. (let t : (h.owner n == other) ≡ false = grind (arith, nat_tests, is, not) in rw t is) in
    let moved : (n : ℕ) → h.owner n ≡ other → owner n ≡ id = λ n is. (let t : (h.owner n == other) ≡ true = grind (arith, nat_tests, is) in rw t refl) in
    record {
      log = h.log;
      drawn = h.drawn;
      owner = owner;
      words = h.words;
      legal = h.legal;
      named = h.named;
      fits = views_set (Fits h.log h.drawn owner) (set s.views id (gathered v w)) other blank_view
          (λ j u not x. views_set (λ k y. k ≢ other → Fits h.log h.drawn owner k y) s.views id (gathered v w)
          (λ k y _ z no. let f = h.fits k y z in record { seen = f.seen; told = f.told; owned = f.owned; mine = (λ n c. let t = f.mine n c in (t.0, still n k no t.1)) })
          (λ no. record {
            seen = mine.seen;
            told = theirs.seen;
            owned = owned-append h.log v.claims w.claims mine.owned theirs.owned;
            mine = (λ n c. ⊎_elim (λ a. let t = mine.mine n a in (t.0, still n id no t.1)) (λ b. let t = theirs.mine n b in (t.0, moved n t.1)) (holds_in n v.claims w.claims c));
          }) j u x not)
          (blank_fits h.log h.drawn owner other);
    }
