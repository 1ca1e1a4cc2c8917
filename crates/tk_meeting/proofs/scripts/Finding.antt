-- What a script that lists the texts of a meeting has in each turn, of each client.
use Rattle.tk_meeting.proofs.Terms.{◌≡◌, ℕ, ◌<◌, List, [], ◌∷◌, map, flat_map, ◌+◌, ◌/◌, ◌==◌, cond, ◌++◌, ◌-◌, ◌*◌}
use Rattle.tk_meeting.proofs.Terms.{Bool, true, false, filter, ◌∙◌, refl, ap, sym, arith, ◌%◌, eq-eqb, ap₂, ne_eqb, ◌≢◌}
use Rattle.tk_meeting.proofs.Terms.{filter-append, div-add-mod', range_with_len, AllByRecursion, Shape, writer_of}
use Rattle.tk_meeting.proofs.Terms.{Script, turn_said, flat_map-one, saying_of, Saying}
use Rattle.tk_script.specs.declared.say.Say.{Say}
use Rattle.tk_meeting.proofs.scripts.Sayable.{MaySay}
use Rattle.tk_meeting.proofs.scripts.Listing.{say_in, says_from}

filter-flat_map : {X Y : Type 0} (p : Y → Bool) (f : X → List Y) (xs : List X) →
    filter p (flat_map f xs) ≡ flat_map (λ x. filter p (f x)) xs
filter-flat_map p f [] = refl
filter-flat_map {X} {Y} p f (x ∷ xs) =
    filter-append p (f x) (flat_map f xs)
    ∙ ap (λ (ys : List Y). filter p (f x) ++ ys) (filter-flat_map p f xs)

-- ---- turns

one-less : (n : ℕ) → n + 1 - 1 ≡ n
one-less n = omega arith

turn-is : (shape : Shape) (g : ℕ) (y : Saying) → turn_said shape (say_in shape g y) ≡ g
turn-is shape g y =
    ap₂ (λ (a b : ℕ). a * shape.ticks + b) (one-less (g / shape.ticks)) (one-less (g % shape.ticks))
    ∙ div-add-mod' g shape.ticks

module _ (shape : Shape) (g : ℕ) where
  abbrev in_turn : Say → Bool
  in_turn y = turn_said shape y == g

  turn-all : (zs : List Saying) → filter in_turn (map (say_in shape g) zs) ≡ map (say_in shape g) zs
  turn-all [] = refl
  turn-all (z ∷ zs) =
      rw (eq-eqb (turn_said shape (say_in shape g z)) g (turn-is shape g z))
      (ap (λ (ys : List Say). say_in shape g z ∷ ys) (turn-all zs))

  turn-none : (k : ℕ) (zs : List Saying) → k ≢ g → filter in_turn (map (say_in shape k) zs) ≡ []
  turn-none k [] other = refl
  turn-none k (z ∷ zs) other =
      rw
      (ne_eqb (turn_said shape (say_in shape k z)) g
      (λ (e : turn_said shape (say_in shape k z) ≡ g). other (sym (turn-is shape k z) ∙ e)))
      (turn-none k zs other)

  -- the texts of a turn are those that were said for it
  pub turn-has : (said : ℕ → List Saying) (n : ℕ) → g < n →
      filter (λ y. turn_said shape y == g) (says_from shape said 0 n) ≡ map (say_in shape g) (said g)
  turn-has said n low =
      filter-flat_map in_turn (λ k. map (say_in shape k) (said k)) (range_with_len 0 n)
      ∙ flat_map-one (λ k. filter in_turn (map (say_in shape k) (said k))) n g low
      (λ k within other. turn-none k (said k) other)
      ∙ turn-all (said g)

-- ---- clients

module _ (S : Script) where
  abbrev by_writer : ℕ → Saying → Bool
  by_writer c y = writer_of S y.log == c

  client-all : (c : ℕ) (zs : List Saying) → AllByRecursion (MaySay S c) zs → filter (by_writer c) zs ≡ zs
  client-all c [] may = refl
  client-all c (z ∷ zs) may =
      rw (eq-eqb (writer_of S z.log) c may.0.of.mine)
      (ap (λ (ys : List Saying). z ∷ ys) (client-all c zs may.1))

  client-none : (d c : ℕ) (zs : List Saying) → d ≢ c → AllByRecursion (MaySay S d) zs →
      filter (by_writer c) zs ≡ []
  client-none d c [] other may = refl
  client-none d c (z ∷ zs) other may =
      rw
      (ne_eqb (writer_of S z.log) c
      (λ (e : writer_of S z.log ≡ c). other (sym may.0.of.mine ∙ e)))
      (client-none d c zs other may.1)

  -- of what was said to all, the texts of a client's logs are those that were said to it
  client-has : (said : ℕ → List Saying) (n c : ℕ) → c < n →
      ((d : ℕ) → AllByRecursion (MaySay S d) (said d)) →
      filter (by_writer c) (flat_map said (range_with_len 0 n)) ≡ said c
  client-has said n c low may =
      filter-flat_map (by_writer c) said (range_with_len 0 n)
      ∙ flat_map-one (λ d. filter (by_writer c) (said d)) n c low
      (λ d within other. client-none d c (said d) other (may d))
      ∙ client-all c (said c) (may c)

  -- as texts of a script
  said-by : (g c : ℕ) (zs : List Saying) →
      map saying_of (filter (λ y. writer_of S y.log == c) (map (say_in S.shape g) zs))
      ≡ filter (by_writer c) zs
  said-by g c [] = refl
  said-by g c (z ∷ zs) =
      let kept : List Say = filter (λ y. writer_of S y.log == c) (map (say_in S.shape g) zs) in
      elim (writer_of S z.log == c)
      as (λ t. map saying_of (cond t (say_in S.shape g z ∷ kept) kept)
      ≡ cond t (z ∷ filter (by_writer c) zs) (filter (by_writer c) zs)) [
        | true ↦ ap (λ (ys : List Saying). z ∷ ys) (said-by g c zs)
        | false ↦ said-by g c zs
      ]

  pub client-says : (said : ℕ → List Saying) (n g c : ℕ) → c < n →
      ((d : ℕ) → AllByRecursion (MaySay S d) (said d)) →
      map saying_of
      (filter (λ y. writer_of S y.log == c) (map (say_in S.shape g) (flat_map said (range_with_len 0 n))))
      ≡ said c
  client-says said n g c low may =
      said-by g c (flat_map said (range_with_len 0 n)) ∙ client-has said n c low may
