-- The clients so far have asked, and their reads are on their way.
use Rattle.std.proofs.Common.{◌≡◌, ◌<◌, ℕ, List, length}
use Rattle.std.specs.Prelude.{slice_index_or}
use Rattle.tk_words.specs.Words.{words_of}
use Rattle.tk_report.proofs.Offers.{IsSplit}
use Rattle.tk_relay.specs.declared.relayed_read.RelayedRead.{RelayedRead}
use Rattle.tk_relay.specs.Pads.{paddings_of}
use Rattle.tk_relay.specs.Running.{client_wrote, client_asked, IsRelayed}
use Rattle.tk_relay.proofs.asked_reads.ask_all.Given as goal

abbrev pub invariant-asking : goal.invariant-asking
invariant-asking g l =
    let S = l.plan.script.now in
    let book = g.D.Draws.book l.plan.draws.now in
    let words = words_of S.shape book in
    let H = l.plan.history.now in
    record {
      counted : length l.clients ≡ length l.fn.clients;
      clients : IsSplit l.i (λ k s. s ≡ client_asked S words H l.turn k)
          (λ k s. s ≡ client_wrote S words H l.turn k) l.clients;
      sent : length l.reads.items ≡ l.i;
      reads : (seeds : List (List ℕ)) → l.pads ≡ paddings_of S.shape seeds l.turn →
          (c : ℕ) (d : RelayedRead) → c < length l.reads.items →
          IsRelayed S book seeds H l.turn 0 c (slice_index_or l.reads.items c d);
    }
