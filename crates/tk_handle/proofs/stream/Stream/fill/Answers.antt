-- The bytes of the next words, and the place after them.
use Rattle.std.proofs.Common.{◌<◌, ◌^◌, ap, length, arith}
use Rattle.rand_chacha.specs.ChaCha.{ChaCha}
use Rattle.tk_handle.specs.Handle.{Place}
use Rattle.tk_handle.proofs.KeyBytes.{filled, placed}
use Rattle.tk_handle.proofs.stream.Stream.fill.Goals as goal

pub invariant_of-self : goal.invariant_of-self
invariant_of-self c =
    let inside = c.self.inside in
    let low : c.self.inside.words.word_pos < 2 ^ 33 = omega (arith, c.requires.low, ap (λ (p : Place). p.place) c.self.view_is) in
    let all =
    filled inside.key inside.stream (length c.args.out.now) inside.words c.fill_bytes_via_u32.new.rng c.fill_bytes_via_u32.new.dst
    c.self.invariant.0 c.self.invariant.1 low c.requires.short c.fill_bytes_via_u32.ensures
    in
    (ap (λ (g : ChaCha). g.key) all.1, ap (λ (g : ChaCha). g.stream) all.1)

pub returns-clause-bytes : goal.returns-clause-bytes
returns-clause-bytes c =
    let inside = c.self.inside in
    let low : c.self.inside.words.word_pos < 2 ^ 33 = omega (arith, c.requires.low, ap (λ (p : Place). p.place) c.self.view_is) in
    let all =
    filled inside.key inside.stream (length c.args.out.now) inside.words c.fill_bytes_via_u32.new.rng c.fill_bytes_via_u32.new.dst
    c.self.invariant.0 c.self.invariant.1 low c.requires.short c.fill_bytes_via_u32.ensures
    in
    rw (← c.self.view_is) all.0

pub returns-clause-next : goal.returns-clause-next
returns-clause-next c =
    let inside = c.self.inside in
    let low : c.self.inside.words.word_pos < 2 ^ 33 = omega (arith, c.requires.low, ap (λ (p : Place). p.place) c.self.view_is) in
    let all =
    filled inside.key inside.stream (length c.args.out.now) inside.words c.fill_bytes_via_u32.new.rng c.fill_bytes_via_u32.new.dst
    c.self.invariant.0 c.self.invariant.1 low c.requires.short c.fill_bytes_via_u32.ensures
    in
    rw (← c.self.view_is) (ap (λ (g : ChaCha). placed inside.key inside.stream g.word_pos) all.1)
