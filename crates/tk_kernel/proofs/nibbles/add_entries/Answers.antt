use Rattle.std.proofs.Common.{◌≡◌, ◌∙◌, length, drop, ap, sym, arith}
use Rattle.std.specs.Simd.Lanes.{put_chunk}
use Rattle.tk_kernel.specs.Nibbles.{taken}
use Rattle.tk_kernel.proofs.Fours.{taken-next, taken-all}
use Rattle.tk_kernel.proofs.nibbles.add_entries.Goals as goal

pub returns : goal.returns
returns g c =
    let tables = c.args.tables.now in
    let count : length tables ≡ 16 = c.told-tables in
    ap (put_chunk c.args.i c.args.dst.now) (sym (
    taken-next tables 0 _ _ _ _ (omega (arith, count)) c.add_entry.ensures.sum c.add_entry.ensures.left
    ∙ taken-next tables 1 _ _ _ _ (omega (arith, count)) c.add_entry-2.ensures.sum c.add_entry-2.ensures.left
    ∙ taken-next tables 2 _ _ _ _ (omega (arith, count)) c.add_entry-3.ensures.sum c.add_entry-3.ensures.left
    ∙ taken-next tables 3 _ _ _ _ (omega (arith, count)) c.add_entry-4.ensures.sum c.add_entry-4.ensures.left
    ∙ taken-next tables 4 _ _ _ _ (omega (arith, count)) c.add_entry-5.ensures.sum c.add_entry-5.ensures.left
    ∙ taken-next tables 5 _ _ _ _ (omega (arith, count)) c.add_entry-6.ensures.sum c.add_entry-6.ensures.left
    ∙ taken-next tables 6 _ _ _ _ (omega (arith, count)) c.add_entry-7.ensures.sum c.add_entry-7.ensures.left
    ∙ taken-next tables 7 _ _ _ _ (omega (arith, count)) c.add_entry-8.ensures.sum c.add_entry-8.ensures.left
    ∙ taken-next tables 8 _ _ _ _ (omega (arith, count)) c.add_entry-9.ensures.sum c.add_entry-9.ensures.left
    ∙ taken-next tables 9 _ _ _ _ (omega (arith, count)) c.add_entry-10.ensures.sum c.add_entry-10.ensures.left
    ∙ taken-next tables 10 _ _ _ _ (omega (arith, count)) c.add_entry-11.ensures.sum c.add_entry-11.ensures.left
    ∙ taken-next tables 11 _ _ _ _ (omega (arith, count)) c.add_entry-12.ensures.sum c.add_entry-12.ensures.left
    ∙ taken-next tables 12 _ _ _ _ (omega (arith, count)) c.add_entry-13.ensures.sum c.add_entry-13.ensures.left
    ∙ taken-next tables 13 _ _ _ _ (omega (arith, count)) c.add_entry-14.ensures.sum c.add_entry-14.ensures.left
    ∙ taken-next tables 14 _ _ _ _ (omega (arith, count)) c.add_entry-15.ensures.sum c.add_entry-15.ensures.left
    ∙ taken-next tables 15 _ _ _ _ (omega (arith, count)) c.add_entry-16.ensures.sum c.add_entry-16.ensures.left
    ∙ ap (λ n. taken (drop n tables) c.add_entry-16.new.sum c.add_entry-16.new.left) (sym count)
    ∙ taken-all tables c.add_entry-16.new.sum c.add_entry-16.new.left))
