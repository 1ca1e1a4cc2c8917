-- All comes from one stream: the pair, the positions, and from place 16 on the block.
use Rattle.std.proofs.Common.{◌≡◌, ◌+◌, ◌-◌, ◌*◌, ◌%◌, length, map, ap, ap₂, ◌∙◌, arith}
use Rattle.std.specs.List.{range_with_len}
use Rattle.tk_handle.specs.Handle.{Place, word, key_bytes}
use Rattle.tk_words.specs.Words.{fresh_write, keyed_write}
use Rattle.tk_words.proofs.keyed.KeyedDrawsDraws.fresh_write.Goals as goal

pub next_pair-pair-requires-clause-front : goal.next_pair-pair-requires-clause-front
next_pair-pair-requires-clause-front c = ap (λ (p : Place). p.place) c.at-words.ensures

pub remainders-requires-clause-low : goal.remainders-requires-clause-low
remainders-requires-clause-low c = omega (arith, ap (λ (p : Place). p.place) c.next_pair-pair.ensures.next)

pub skip-requires : goal.skip-requires
skip-requires c =
    let hits = c.args.self.now.shape.in_range.hits_high in
    omega (
      arith,
      ap (λ (p : Place). p.place) c.remainders.ensures.next,
      ap (λ (p : Place). p.place) c.next_pair-pair.ensures.next,
      c.requires.hits_room,
      hits,
    )

pub fill-requires-clause-low : goal.fill-requires-clause-low
fill-requires-clause-low c =
    let hits = c.args.self.now.shape.in_range.hits_high in
    omega (
      arith,
      ap (λ (p : Place). p.place) c.skip.ensures,
      ap (λ (p : Place). p.place) c.remainders.ensures.next,
      ap (λ (p : Place). p.place) c.next_pair-pair.ensures.next,
      c.requires.hits_room,
      hits,
    )

pub returns-clause-first : goal.returns-clause-first
unfolding fresh_write
returns-clause-first c =
    ap (λ p. p.0) (rw c.at-words.ensures at c.next_pair-pair.ensures.pair)
    ∙ ap₂ (λ s n. (keyed_write c.args.self.now.shape s n).first) c.seed.ensures c.from.ensures

pub returns-clause-second : goal.returns-clause-second
unfolding fresh_write
returns-clause-second c =
    ap (λ p. p.1) (rw c.at-words.ensures at c.next_pair-pair.ensures.pair)
    ∙ ap₂ (λ s n. (keyed_write c.args.self.now.shape s n).second) c.seed.ensures c.from.ensures

pub returns-clause-hits : goal.returns-clause-hits
unfolding fresh_write
returns-clause-hits c =
    (rw (c.next_pair-pair.ensures.next, c.at-words.ensures) at c.remainders.ensures.words)
    ∙ ap (λ k. map (λ i. word c.seed.result.now (2 * c.from.result) i % c.args.self.now.shape.filter_bits) (range_with_len 2 k)) c.requires.hits_room
    ∙ ap₂ (λ s n. (keyed_write c.args.self.now.shape s n).hits) c.seed.ensures c.from.ensures

pub returns-clause-block : goal.returns-clause-block
unfolding fresh_write
returns-clause-block c =
    let hits = c.args.self.now.shape.in_range.hits_high in
    let behind : 2 + length c.args.hits.now + (14 - c.args.self.now.shape.hits) ≡ 16 = omega (arith, c.requires.hits_room, hits) in
    (rw (c.skip.ensures, c.remainders.ensures.next, c.next_pair-pair.ensures.next, c.at-words.ensures) at c.fill.ensures.bytes)
    ∙ ap₂ (key_bytes c.seed.result.now (2 * c.from.result)) behind c.requires.block_room
    ∙ ap₂ (λ s n. (keyed_write c.args.self.now.shape s n).block) c.seed.ensures c.from.ensures
