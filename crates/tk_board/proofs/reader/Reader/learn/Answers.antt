use Rattle.std.proofs.Common.{rules, ◌≡◌, ◌≤◌, length, ◌∙◌, arith}
use Rattle.tk_board.proofs.Knowing.{kept_list}
use Rattle.tk_board.proofs.reader.Reader.learn.Goals as goal

pub invariant_of-self-else-number : goal.invariant_of-self-else-number
invariant_of-self-else-number g c =
    let inside = c.self.inside in
    let longer = c.learn.ensures.longer in
    let told : c.number.result ≡ length c.note-seen.result.me.0.seen = search rules in
    let held : c.number-2.result ≡ length inside.place.me.0.seen = search rules in
    let less : length c.note-seen.result.me.0.seen ≤ length inside.place.me.0.seen =
    omega (arith, told, held, c.if-number.false) in (
      record {
        of_table = search rules;
        is = c.learn.ensures.note.1;
        of_board = c.self.invariant.0.of_board;
        same = c.self.invariant.0.same ∙ kept_list _ _ _ longer.mine longer.one less;
      },
      c.self.invariant.1,
    )
