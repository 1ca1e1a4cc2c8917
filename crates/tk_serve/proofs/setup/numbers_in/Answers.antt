-- Number by number.
use Rattle.tk_serve.proofs.SetupLaws.{numbers-step, numbers-end}
use Rattle.tk_serve.proofs.setup.numbers_in.Goals as goal

pub returns : goal.returns
returns c =
    let s0 = numbers-step 11 4 c.args.bytes.now in
    let s1 = numbers-step 10 8 c.args.bytes.now in
    let s2 = numbers-step 9 12 c.args.bytes.now in
    let s3 = numbers-step 8 16 c.args.bytes.now in
    let s4 = numbers-step 7 20 c.args.bytes.now in
    let s5 = numbers-step 6 24 c.args.bytes.now in
    let s6 = numbers-step 5 28 c.args.bytes.now in
    let s7 = numbers-step 4 32 c.args.bytes.now in
    let s8 = numbers-step 3 36 c.args.bytes.now in
    let s9 = numbers-step 2 40 c.args.bytes.now in
    let s10 = numbers-step 1 44 c.args.bytes.now in
    let s11 = numbers-step 0 48 c.args.bytes.now in
    let end = numbers-end c.args.bytes.now in
    let n0 = c.u32_at.ensures in
    let n1 = c.u32_at-2.ensures in
    let n2 = c.u32_at-3.ensures in
    let n3 = c.u32_at-4.ensures in
    let n4 = c.u32_at-5.ensures in
    let n5 = c.u32_at-6.ensures in
    let n6 = c.u32_at-7.ensures in
    let n7 = c.u32_at-8.ensures in
    let n8 = c.u32_at-9.ensures in
    let n9 = c.u32_at-10.ensures in
    let n10 = c.u32_at-11.ensures in
    let n11 = c.u32_at-12.ensures in
    cc
