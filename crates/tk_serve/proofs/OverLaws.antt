-- Whether a run is over, by what its server keeps.
use Rattle.std.proofs.Common.{◌≡◌, ℕ, ◌∙◌, refl, ap, sym, true, Bool, List, [], ◌∷◌, length, eq-eqb}
use Rattle.std.specs.Prelude.{◌==◌, ◌&&◌}
use Rattle.std.specs.List.{list_all, AllByRecursion}
use Rattle.std.proofs.lemmas.Bool.{eqb-true, and_parts}
use Rattle.std.proofs.lemmas.List.Folds.{list_all-map}
use Rattle.tk_shape.specs.declared.shape.Shape.{Shape}
use Rattle.tk_shape.specs.Lengths.{turn_count}
use Rattle.tk_serve.specs.declared.server.Server.{Server}
use Rattle.tk_serve.specs.Seats.{Seat, turns_written, newest}
use Rattle.tk_serve.specs.Steps.{IsOver}
use Rattle.tk_serve.specs.Desks.{DeskView, desk_by}
use Rattle.tk_serve.specs.Stands.{HasApplied}

-- each element has a number where all pass the test of it
all-equal : {X : Type 0} (f : X → ℕ) (n : ℕ) (xs : List X) → list_all (λ x. f x == n) xs ≡ true →
    AllByRecursion (λ x. f x ≡ n) xs
all-equal f n [] pass = tt
all-equal f n (x ∷ xs) pass =
    let both = and_parts (f x == n) (list_all (λ y. f y == n) xs) pass in
    (eqb-true (f x) n both.0, all-equal f n xs both.1)

all-pass : {X : Type 0} (f : X → ℕ) (n : ℕ) (xs : List X) → AllByRecursion (λ x. f x ≡ n) xs →
    list_all (λ x. f x == n) xs ≡ true
all-pass f n [] each = refl
all-pass f n (x ∷ xs) each =
    ap (λ b. b && list_all (λ y. f y == n) xs) (eq-eqb (f x) n each.0) ∙ all-pass f n xs each.1

-- as many reads of each client came as there are turns
abbrev pub have_read : Server → Bool
have_read s = list_all (λ (d : DeskView). d.asked == turn_count s.shape) s.desks.items

module _ (shape : Shape) (seats : List Seat) (s : Server) (stands : HasApplied shape seats s) where
  turns-same : turn_count s.shape ≡ turn_count shape
  turns-same = ap turn_count stands.same

  read-same : have_read s ≡ list_all (λ (t : Seat). length t.reads == turn_count shape) seats
  read-same =
      ap (λ n. list_all (λ (d : DeskView). d.asked == n) s.desks.items) turns-same
      ∙ ap (list_all (λ (d : DeskView). d.asked == turn_count shape)) stands.desks_are
      ∙ list_all-map (λ (d : DeskView). d.asked == turn_count shape)
      (desk_by shape (turns_written shape seats) (newest shape seats)) seats

  pub over-by : s.turn ≡ turn_count s.shape → have_read s ≡ true → IsOver shape seats
  over-by turn read =
      record {
        written = sym stands.turn_is ∙ turn ∙ turns-same;
        all_read = all-equal (λ (t : Seat). length t.reads) (turn_count shape) seats (sym read-same ∙ read);
      }

  pub over-turn : IsOver shape seats → s.turn ≡ turn_count s.shape
  over-turn over = stands.turn_is ∙ over.written ∙ sym turns-same

  pub over-read : IsOver shape seats → have_read s ≡ true
  over-read over = read-same ∙ all-pass (λ (t : Seat). length t.reads) (turn_count shape) seats over.all_read
