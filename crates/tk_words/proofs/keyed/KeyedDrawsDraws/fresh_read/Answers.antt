-- The pair and the seeds or vectors come from one stream, these from place 16 on.
use Rattle.std.proofs.Common.{◌≡◌, ◌+◌, ◌-◌, ◌*◌, ◌%◌, cond, ap, ap₂, ◌∙◌, arith}
use Rattle.std.specs.Prelude.{◌==◌}
use Rattle.std.specs.List.{flat_map}
use Rattle.tk_shape.specs.Lengths.{seed_len, vector_len}
use Rattle.tk_kernel.specs.Pieces.{pieces}
use Rattle.tk_handle.specs.Handle.{Place, word, key_bytes, expanded}
use Rattle.tk_words.specs.Words.{fresh_pair, fresh_seeds, fresh_vectors, seed_at}
use Rattle.tk_words.proofs.KeyedReads.{keyed_joined, keyed_vectors}
use Rattle.tk_words.proofs.keyed.KeyedDrawsDraws.fresh_read.Goals as goal

pub next_pair-pair-requires-clause-front : goal.next_pair-pair-requires-clause-front
next_pair-pair-requires-clause-front c = ap (λ (p : Place). p.place) c.at-words.ensures

pub skip-requires : goal.skip-requires
skip-requires c = omega (arith, ap (λ (p : Place). p.place) c.next_pair-pair.ensures.next)

pub fill_read-requires-clause-front : goal.fill_read-requires-clause-front
fill_read-requires-clause-front c =
    omega (arith, ap (λ (p : Place). p.place) c.skip.ensures, ap (λ (p : Place). p.place) c.next_pair-pair.ensures.next)

pub returns-clause-pair : goal.returns-clause-pair
unfolding fresh_pair
returns-clause-pair c =
    let buckets = c.args.self.now.shape.buckets in
    (rw c.at-words.ensures at c.next_pair-pair.ensures.pair)
    ∙ ap₂ (λ s n. (word s (2 * n + 1) 0 % buckets, word s (2 * n + 1) 1 % buckets)) c.seed.ensures c.from.ensures

-- the seeds, as bytes of the client's stream
seeds_are : (c : goal.After-slice_known-4-1) →
    c.fill_read.new.seeds
    ≡ key_bytes (seed_at c.args.self.now.seeds.items c.args.client) (2 * c.args.turn + 1) 16
    (2 * (c.args.self.now.shape.servers - 1) * seed_len c.args.self.now.shape)
seeds_are c =
    let shape = c.args.self.now.shape in
    let size = 2 * (shape.servers - 1) * seed_len shape in
    (rw (c.skip.ensures, c.next_pair-pair.ensures.next, c.at-words.ensures) at c.fill_read.ensures.seeds)
    ∙ ap (key_bytes c.seed.result.now (2 * c.from.result + 1) 16) c.requires.seeds_room
    ∙ ap₂ (λ s n. key_bytes s (2 * n + 1) 16 size) c.seed.ensures c.from.ensures

pub returns-clause-seeds : goal.returns-clause-seeds
unfolding fresh_seeds
returns-clause-seeds c =
    let shape = c.args.self.now.shape in
    let seed = seed_at c.args.self.now.seeds.items c.args.client in
    seeds_are c ∙ keyed_joined shape (seed_len shape) seed c.args.turn

pub returns-clause-vectors : goal.returns-clause-vectors
unfolding fresh_vectors
returns-clause-vectors c =
    let shape = c.args.self.now.shape in
    let seed = seed_at c.args.self.now.seeds.items c.args.client in
    let expansions = flat_map (expanded (vector_len shape)) (pieces 32 (2 * (shape.servers - 1)) c.fill_read.new.seeds) in
    let size = 2 * (shape.servers - 1) * vector_len shape in
    (rw (c.skip.ensures, c.next_pair-pair.ensures.next, c.at-words.ensures) at c.fill_read.ensures.vectors)
    ∙ ap (λ n. cond (shape.format == 2) expansions (key_bytes c.seed.result.now (2 * c.from.result + 1) 16 n)) c.requires.vectors_room
    ∙ ap₂ (λ s n. cond (shape.format == 2) expansions (key_bytes s (2 * n + 1) 16 size)) c.seed.ensures c.from.ensures
    ∙ keyed_vectors shape seed c.fill_read.new.seeds c.args.turn (seeds_are c)
