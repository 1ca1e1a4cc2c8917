-- The first two of all passes, and all of them where the publisher stays.
use Rattle.std.proofs.Common.{◌≡◌, List, ◌∷◌, All, ap, sym, ◌∙◌, subst, arith}
use Rattle.atomic_table.specs.Seated.{TableId}
use Rattle.tk_shape.specs.declared.shape.Shape.{Shape}
use Rattle.tk_cluster.specs.Passes.{Passing, Stays}
use Rattle.tk_cluster.specs.Clusters.{Each}
use Rattle.tk_cluster.specs.Closings.{AllOnce}
use Rattle.tk_cluster.proofs.Offers.{each_self, once_stays}

pub each_two : (xs rest more : List Passing) (a b c d : Passing) → xs ≡ a ∷ rest →
    rest ≡ b ∷ more → Stays a c → Stays b d → Each Stays xs (c ∷ d ∷ more)
each_two xs rest more a b c d one two first second =
    subst (λ ys. Each Stays ys (c ∷ d ∷ more)) (sym one)
    (subst (λ ys. Each Stays (a ∷ ys) (c ∷ d ∷ more)) (sym two)
    (first, (second, each_self more)))

-- the first two passes are of the board
pub board_first : (board : TableId) (xs ys : List Passing) (x : Passing) → xs ≡ x ∷ ys →
    All (λ a. a.reads.board ≡ board) xs → x.reads.board ≡ board
board_first board xs ys x is all = (subst (All (λ a. a.reads.board ≡ board)) is all) 0 x (omega arith)

pub board_second : (board : TableId) (xs ys zs : List Passing) (x y : Passing) → xs ≡ x ∷ ys →
    ys ≡ y ∷ zs → All (λ a. a.reads.board ≡ board) xs → y.reads.board ≡ board
board_second board xs ys zs x y is next all =
    (subst (All (λ a. a.reads.board ≡ board)) (is ∙ ap (λ ws. x ∷ ws) next) all) 1 y (omega arith)

-- all stay, each once, where the publisher stays that of its board
pub once_on : (shape : Shape) (board now : TableId) (xs ys : List Passing) → now ≡ board →
    Each Stays xs ys → AllOnce shape board xs → AllOnce shape now ys
once_on shape board now xs ys same h once =
    subst (λ b. AllOnce shape b ys) (sym same) (once_stays shape board xs ys h once)
