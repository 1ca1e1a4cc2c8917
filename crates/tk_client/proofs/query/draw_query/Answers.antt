-- What is drawn has the parts of either bucket, and the vectors of each are completed.
use Rattle.std.proofs.Common.{◌≡◌, refl, ◌∙◌, ap, sym, subst, List, ℕ, ◌++◌, ◌-◌, ◌*◌, length, arith}
use Rattle.std.proofs.Common.{take, drop, map, Bool, length-take-le, length-drop}
use Rattle.std.specs.List.{range_with_len}
use Rattle.tk_shape.specs.declared.shape.Shape.{Shape}
use Rattle.tk_shape.specs.Lengths.{seed_len, vector_len}
use Rattle.tk_kernel.specs.Pieces.{all_pieces}
use Rattle.tk_bits.specs.Shares.{completed}
use Rattle.tk_words.specs.Words.{IsBook, fresh_seeds, fresh_vectors, joined}
use Rattle.tk_client.specs.declared.query.Asker.{Asker}
use Rattle.tk_client.specs.Framing.{cut, frame_from, seeds_each, drawn_each}
use Rattle.tk_client.proofs.AskingLaws.{written_back, fresh_joined, halves, all-pieces, IsCut}
use Rattle.tk_client.proofs.AskingLaws.{vector_some, frames_asked}
use Rattle.tk_client.proofs.InRangeLaws.{fresh-whole, seeds-whole}
use Rattle.tk_client.proofs.query.draw_query.Given as given
use Rattle.tk_client.proofs.query.draw_query.Goals as goal

serving : (g : given.Over) (c : goal.After-from_vec-2 g) →
    IsBook c.args.shape.now (g.D.Draws.book c.args.draws.now)
serving g c =
    let world = g.world in
    let laws = g.met.D.Draws world.𝓛 world.𝓜 world.𝓡 ((λ s x. x), (λ x. x), (λ x. x), λ x. x) in
    subst (λ s. IsBook s (g.D.Draws.book c.args.draws.now)) c.requires.one_shape
    (laws.serves c.args.draws.now)

seeds_joined : (g : given.Over) (c : goal.After-from_vec-2 g) →
    c.from_vec.result
    ≡ joined (fresh_seeds c.args.shape.now (g.D.Draws.book c.args.draws.now) c.args.read.turn c.args.client)
seeds_joined g c =
    let book = g.D.Draws.book c.args.draws.now in
    let seeds = c.in_ok-seeds.seeds in
    let fresh = c.fresh_read-fresh in
    let same : seeds.len ≡ length fresh.new.seeds =
    omega (arith, fresh.auto.seeds, c.as_mut_slice.ensures.len)
    in
    c.from_vec.ensures ∙ written_back seeds.len seeds.items fresh.new.seeds same
    ∙ fresh_joined (λ (s : Shape). fresh_seeds s book c.args.read.turn c.args.client)
    (g.D.Draws.shape c.args.draws.now) c.args.shape.now fresh.new.seeds c.requires.one_shape
    fresh.ensures.seeds

drawn_joined : (g : given.Over) (c : goal.After-from_vec-2 g) →
    c.from_vec-2.result
    ≡ joined (fresh_vectors c.args.shape.now (g.D.Draws.book c.args.draws.now) c.args.read.turn c.args.client)
drawn_joined g c =
    let book = g.D.Draws.book c.args.draws.now in
    let drawn = c.in_ok-drawn.drawn in
    let fresh = c.fresh_read-fresh in
    let same : drawn.len ≡ length fresh.new.vectors =
    omega (arith, fresh.auto.vectors, c.as_mut_slice-2.ensures.len)
    in
    c.from_vec-2.ensures ∙ written_back drawn.len drawn.items fresh.new.vectors same
    ∙ fresh_joined (λ (s : Shape). fresh_vectors s book c.args.read.turn c.args.client)
    (g.D.Draws.shape c.args.draws.now) c.args.shape.now fresh.new.vectors c.requires.one_shape
    fresh.ensures.vectors

lent_alike : (g : given.Over) (c : goal.After-from_vec-2 g) →
    c.as_slice.result.now ≡ c.from_vec-2.result
lent_alike g c = c.as_slice.ensures.value ∙ sym c.from_vec-2.ensures

drawn_long : (g : given.Over) (c : goal.After-from_vec-2 g) →
    length c.from_vec-2.result ≡ 2 * drawn_each c.args.shape.now
drawn_long g c =
    let each = ap (λ n. (c.args.shape.now.servers - 1) * n) c.vector_len.ensures in
    let same = ap length (lent_alike g c) in
    omega (arith, same, each, c.as_slice.ensures.len, c.in_ok-drawn.ensures)

pub returns-clause-asked : goal.returns-clause-asked
returns-clause-asked g c =
    let own = g.D.Draws.shape c.args.draws.now in
    let book = g.D.Draws.book c.args.draws.now in
    let shape = c.args.shape.now in
    let turn = c.args.read.turn in
    let client = c.args.client in
    let asker : Asker = record { client = client; turn = turn; epoch = c.args.read.epoch } in
    let others = shape.servers - 1 in
    let size = vector_len shape in
    let some = vector_some shape in
    let served = serving g c in
    let seeds_whole = seeds-whole shape book turn client served c.requires.turn_in c.requires.client_in in
    let drawn_whole = fresh-whole shape book turn client served c.requires.turn_in c.requires.client_in in
    let seeds = c.from_vec.result in
    let drawn = c.from_vec-2.result in
    let last = c.in_ok-last.last in
    let first_seeds = take (seeds_each shape) seeds in
    let second_seeds = drop (seeds_each shape) seeds in
    let first_drawn = take (drawn_each shape) drawn in
    let second_drawn = drop (drawn_each shape) drawn in
    let first = first_drawn ++ take size last in
    let second = second_drawn ++ drop size last in
    let of_seeds =
    halves shape (seed_len shape) (fresh_seeds shape book turn client) seeds first_seeds second_seeds
    (seeds_each shape) seeds_whole (seeds_joined g c) refl refl refl
    in
    let of_drawn =
    halves shape size (fresh_vectors shape book turn client) drawn first_drawn second_drawn
    (drawn_each shape) drawn_whole (drawn_joined g c) refl refl refl
    in
    let long = drawn_long g c in
    let same = lent_alike g c in
    let first_long : length first_drawn ≡ others * size =
    length-take-le (drawn_each shape) drawn (omega (arith, long))
    in
    let second_long : length second_drawn ≡ others * size =
    let behind = length-drop (drawn_each shape) drawn in
    omega (arith, long, behind)
    in
    let pair = c.buckets-kept.result.pair in
    let one : IsCut shape pair.0 (fresh_seeds shape book turn client).first
    (fresh_vectors shape book turn client).first first_seeds first =
    record {
      seeds_each = seeds_whole.first_each;
      drawn_each = drawn_whole.first_each;
      seeds_are = of_seeds.front_is;
      vectors_are =
          ap (λ (d : List ℕ). all_pieces size (take (drawn_each shape) d ++ take size last)) (sym same)
          ∙ c.in_ok-last.ensures.first
          ∙ ap (λ (d : List ℕ). completed size pair.0 (all_pieces size (take (drawn_each shape) d))) same
          ∙ ap (completed size pair.0)
          (all-pieces size others first_drawn some first_long ∙ of_drawn.front_is);
    }
    in
    let other : IsCut shape pair.1 (fresh_seeds shape book turn client).second
    (fresh_vectors shape book turn client).second second_seeds second =
    record {
      seeds_each = seeds_whole.second_each;
      drawn_each = drawn_whole.second_each;
      seeds_are = of_seeds.back_is;
      vectors_are =
          ap (λ (d : List ℕ). all_pieces size (drop (drawn_each shape) d ++ drop size last)) (sym same)
          ∙ c.in_ok-last.ensures.second
          ∙ ap (λ (d : List ℕ). completed size pair.1 (all_pieces size (drop (drawn_each shape) d))) same
          ∙ ap (completed size pair.1)
          (all-pieces size others second_drawn some second_long ∙ of_drawn.back_is);
    }
    in
    ap (λ (shows : Bool).
    map (frame_from shape shows asker (cut shape first_seeds first) (cut shape second_seeds second))
    (range_with_len 1 shape.servers)) c.shows.ensures
    ∙ frames_asked own shape book asker c.args.read.target pair first_seeds second_seeds first second
    c.requires.one_shape
    (c.buckets-kept.ensures.pair turn client c.fresh_read-fresh.ensures.pair) one other
