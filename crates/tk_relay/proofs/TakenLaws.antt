-- The entries of a turn, as a cluster takes them.
use Rattle.std.proofs.Common.{◌≡◌, ℕ, List, [], ◌∷◌, ◌++◌, length, flat_map, ap, sym, ◌∙◌, subst}
use Rattle.std.proofs.Common.{append-nil, append_assoc, length-append}
use Rattle.std.proofs.lemmas.Grind.{flat_map-append}
use Rattle.tk_shape.specs.declared.shape.Shape.{Shape}
use Rattle.tk_frames.specs.declared.entry.Placed.{Placed}
use Rattle.tk_frames.specs.InOrder.{IsNext}
use Rattle.tk_frames.specs.Spelling.{placed_frame}
use Rattle.tk_cluster.specs.Passes.{Passing}
use Rattle.tk_cluster.specs.Tellings.{Telling}
use Rattle.tk_relay.specs.Ordered.{HaveOrdered, OrderedAfter}

-- before any entry of the turn
pub taken-none : (own shape : Shape) (E : List Placed) (xs : List Passing) (p : Telling)
    (count : ℕ) (bytes : List ℕ) → shape ≡ own → HaveOrdered own E xs p → count ≡ length E →
    bytes ≡ [] → OrderedAfter own shape E [] xs p count bytes
taken-none own shape E xs p count bytes same have counted none =
    record {
      same = same;
      ordered =
          subst (λ (sh : Shape). HaveOrdered sh (E ++ []) xs p) (sym same)
          (subst (λ (F : List Placed). HaveOrdered own F xs p) (sym (append-nil E)) have);
      counted = counted ∙ ap length (sym (append-nil E));
      seen = none;
    }

-- one entry more
pub taken-more : (own shape : Shape) (E F : List Placed) (e : Placed) (xs ys : List Passing)
    (p q : Telling) (count : ℕ) (old new : List ℕ) → OrderedAfter own shape E F xs p count old →
    IsNext shape (E ++ F) e → HaveOrdered own ((E ++ F) ++ e ∷ []) ys q →
    new ≡ old ++ placed_frame e → OrderedAfter own shape E (F ++ e ∷ []) ys q e.position new
taken-more own shape E F e xs ys p q count old new have next ordered seen =
    let same = append_assoc E F (e ∷ []) in
    record {
      same = have.same;
      ordered =
          subst (λ (G : List Placed). HaveOrdered shape G ys q) same
          (subst (λ (sh : Shape). HaveOrdered sh ((E ++ F) ++ e ∷ []) ys q) (sym have.same) ordered);
      counted = next.at ∙ sym (length-append (E ++ F) (e ∷ [])) ∙ ap length same;
      seen =
          seen ∙ ap (λ (xs : List ℕ). xs ++ placed_frame e) have.seen
          ∙ ap (λ (xs : List ℕ). flat_map placed_frame F ++ xs) (sym (append-nil (placed_frame e)))
          ∙ sym (flat_map-append placed_frame F (e ∷ []));
    }
