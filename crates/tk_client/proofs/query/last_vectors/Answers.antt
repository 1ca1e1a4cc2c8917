-- Either half of what is written completes its half of what is drawn.
use Rattle.std.proofs.Common.{◌≡◌, ◌∙◌, ap, ap₂, sym, List, ℕ, ◌++◌, ◌-◌, ◌*◌, take, drop, length, arith, length-append}
use Rattle.std.proofs.lemmas.List.{take_at, drop_at}
use Rattle.tk_shape.specs.Lengths.{vector_len}
use Rattle.tk_kernel.specs.Pieces.{all_pieces}
use Rattle.tk_bits.specs.Shares.{completed}
use Rattle.tk_client.proofs.AskingLaws.{written_back}
use Rattle.tk_client.proofs.query.last_vectors.Goals as goal

first_long : (c : goal.After-from_vec) → length c.complete.new.last ≡ vector_len c.args.shape.now
first_long c =
    omega (arith, c.complete.auto.last, c.split_at_mut-first.ensures.front_len, c.vector_len-size.ensures)

both : (c : goal.After-from_vec) → c.from_vec.result ≡ c.complete.new.last ++ c.complete-2.new.last
both c =
    let first = c.complete.new.last in
    let second = c.complete-2.new.last in
    let vector = c.in_ok-last.last in
    let same : vector.len ≡ length (first ++ second) =
    omega (
      arith,
      length-append first second,
      c.complete.auto.last,
      c.complete-2.auto.last,
      c.as_mut_slice.ensures.len,
      c.split_at_mut-first.ensures.front_len,
      c.split_at_mut-first.ensures.back_len,
    )
    in
    c.from_vec.ensures ∙ written_back vector.len vector.items (first ++ second) same

pub returns-clause-first : goal.returns-clause-first
returns-clause-first c =
    let shape = c.args.shape.now in
    let size = vector_len shape in
    let first = c.complete.new.last in
    let second = c.complete-2.new.last in
    let half =
    c.split_at.ensures.front ∙ ap (λ n. take ((shape.servers - 1) * n) c.args.drawn.now) c.vector_len-size.ensures
    in
    let own = ap (take size) (both c) ∙ take_at first second size (first_long c) in
    ap₂ (λ (d l : List ℕ). all_pieces size (d ++ l)) (sym half) own
    ∙ c.complete.ensures.vectors
    ∙ ap (λ (d : List ℕ). completed size c.args.pair.0 (all_pieces size d)) half

pub returns-clause-second : goal.returns-clause-second
returns-clause-second c =
    let shape = c.args.shape.now in
    let size = vector_len shape in
    let first = c.complete.new.last in
    let second = c.complete-2.new.last in
    let half =
    c.split_at.ensures.back ∙ ap (λ n. drop ((shape.servers - 1) * n) c.args.drawn.now) c.vector_len-size.ensures
    in
    let own = ap (drop size) (both c) ∙ drop_at first second size (first_long c) in
    ap₂ (λ (d l : List ℕ). all_pieces size (d ++ l)) (sym half) own
    ∙ c.complete-2.ensures.vectors
    ∙ ap (λ (d : List ℕ). completed size c.args.pair.1 (all_pieces size d)) half
