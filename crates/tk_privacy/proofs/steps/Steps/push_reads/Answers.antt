-- Where the hidden server is the last, read cells stay; else each is changed by its read.
use Rattle.std.proofs.Common.{◌≡◌, ◌∙◌, ◌<◌, ◌≤◌, ◌++◌, ap, subst, arith, List, ℕ, OnOk, length}
use Rattle.tk_shape.specs.declared.shape.Shape.{Shape}
use Rattle.tk_shape.specs.Lengths.{tape_len}
use Rattle.tk_words.specs.Words.{read_part}
use Rattle.tk_privacy.specs.Hiding.{reads_hidden}
use Rattle.tk_privacy.proofs.StepsLaws.{reads-hidden, reads-open}
use Rattle.tk_privacy.proofs.steps.Steps.push_reads.Goals as goal

pub returns-then-self : goal.returns-then-self
returns-then-self c = λ H pairs are.
    let e = c.args.self.now in
    let S = e.script.now in
    let cells = c.args.cells.now in
    let u = cells.bytes.now in
    let whole : length u ≡ tape_len S.shape = cells.whole ∙ ap tape_len c.requires.one_shape in
    let last : S.shape.servers ≤ e.hidden = omega (arith, c.if-self.true) in
    let all =
    c.read_part.ensures
    ∙ ap (λ (shape : Shape). read_part shape u) c.requires.one_shape
    ∙ reads-open S.shape H e.hidden pairs u last whole
    in
    subst (λ (bytes : List ℕ). OnOk c.push.result
    (c.push.new.out.items ≡ c.args.out.now.items ++ bytes)) all c.push.ensures

pub returns : goal.returns
returns c = λ H pairs are.
    let e = c.args.self.now in
    let S = e.script.now in
    let u = c.args.cells.now.bytes.now in
    let reads = c.args.reads.now in
    let high : e.hidden < S.shape.servers = omega (arith, e.high, c.if-self.false) in
    let all =
    ap (λ (shape : Shape). reads_hidden shape reads e.hidden u) c.requires.one_shape
    ∙ reads-hidden S.shape H e.hidden pairs u reads high are
    in
    subst (λ (bytes : List ℕ). OnOk c.push_reads.result
    (c.push_reads.new.out.items ≡ c.args.out.now.items ++ bytes)) all c.push_reads.ensures
