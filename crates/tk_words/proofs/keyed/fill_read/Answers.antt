-- In format 1 there are no seeds.
use Rattle.std.proofs.Common.{◌≡◌, ◌-◌, ◌*◌, ◌∙◌, ap, length, rules, arith}
use Rattle.tk_shape.specs.Lengths.{seed_len}
use Rattle.tk_words.proofs.KeyedReads.{no_key_bytes}
use Rattle.tk_words.proofs.keyed.fill_read.Goals as goal

pub returns-else-shape-eq2-clause-seeds : goal.returns-else-shape-eq2-clause-seeds
returns-else-shape-eq2-clause-seeds c =
    let shape = c.args.shape.now in
    let no_seed : seed_len shape ≡ 0 = search rules in
    let none : length c.args.seeds.now ≡ 0 = c.requires.seeds_room ∙ ap (λ n. 2 * (shape.servers - 1) * n) no_seed ∙ omega arith in
    no_key_bytes c.args.words.now.key c.args.seeds.now c.args.words.now.stream 16 none
