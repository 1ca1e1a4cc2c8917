-- Bytes that set up a shape are 52, and the first number is a format.
use Rattle.std.proofs.Common.{arith}
use Rattle.tk_serve.proofs.SetupLaws.{setup-length, setup-low, setup-high, set_up-found, set_up-none}
use Rattle.tk_serve.proofs.setup.shape_in.Goals.{then-format-lt1-via-then-format-lt1}
use Rattle.tk_serve.proofs.setup.shape_in.Goals.{then-format-lt1-via-else-format-lt1+then-format-gt2}
use Rattle.tk_serve.proofs.setup.shape_in.Goals as goal

pub returns-then-bytes-ne52-clause-none : goal.returns-then-bytes-ne52-clause-none
returns-then-bytes-ne52-clause-none c = λ shape is.
    c.if-bytes-ne52.true (setup-length shape c.args.bytes.now is)

pub returns-then-format-lt1-clause-none : goal.returns-then-format-lt1-clause-none
returns-then-format-lt1-clause-none c = λ shape is.
    let bytes = c.args.bytes.now in
    let format = c.u32_at-format.ensures in
    elim c.then-format-lt1.branch [
      | then-format-lt1-via-then-format-lt1 w ↦ omega (arith, format, w.if-format-lt1.true, setup-low shape bytes is)
      | then-format-lt1-via-else-format-lt1+then-format-gt2 w ↦
          omega (arith, format, w.if-format-gt2.true, setup-high shape bytes is)
    ]

pub returns-clause-found : goal.returns-clause-found
returns-clause-found c =
    set_up-found c.args.bytes.now c.u32_at-format.result c.numbers_in.result (λ i. omega (arith, c.type_inv.bytes i))
    c.if-bytes-ne52.false c.u32_at-format.ensures c.numbers_in.ensures c.ok.result c.of.result c.ok.ensures.value
    c.of.ensures.format c.of.ensures.found

pub returns-clause-none : goal.returns-clause-none
returns-clause-none c =
    set_up-none c.args.bytes.now c.u32_at-format.result c.numbers_in.result (λ i. omega (arith, c.type_inv.bytes i))
    c.if-bytes-ne52.false c.u32_at-format.ensures c.numbers_in.ensures c.ok.result c.of.result c.ok.ensures.value
    c.of.ensures.broken
