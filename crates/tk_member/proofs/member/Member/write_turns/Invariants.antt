-- The turns so far, and those that are left.
use Rattle.std.proofs.Common.{◌≡◌, ◌+◌, ◌-◌}
use Rattle.tk_words.specs.Words.{words_of}
use Rattle.tk_member.specs.Acting.{behind, wrote}
use Rattle.tk_member.proofs.member.Member.write_turns.Given as goal

abbrev pub invariant-turns : goal.invariant-turns
invariant-turns g l =
    let words = words_of l.fn.self.client.shape (g.D.Draws.book l.draws) in
    record {
      same : l.self.client.shape ≡ l.fn.self.client.shape;
      written : l.self.written ≡ l.fn.self.written + l.turn;
      sent : behind l.sent.items (wrote words (l.count - l.turn) l.self)
          ≡ behind l.fn.sent.items (wrote words l.count l.fn.self);
    }
