-- What is said, written and read makes the run as it is before the next turn.
use Rattle.std.proofs.Common.{◌≡◌, ◌∙◌, ◌+◌, ℕ, List, arith, sym, subst, length}
use Rattle.std.specs.Prelude.{All, IfOk}
use Rattle.std.proofs.lemmas.List.{with_items_is}
use Rattle.tk_words.specs.Words.{words_of}
use Rattle.tk_report.specs.Clients.{AreClients, client_before}
use Rattle.tk_relay.specs.Relayed.{relayed_turn}
use Rattle.tk_relay.specs.Reads.{IsReplied, sight_seen}
use Rattle.tk_relay.specs.Running.{AreRelayed, client_wrote}
use Rattle.tk_report.proofs.Offers.{map-range}
use Rattle.tk_relay.proofs.RelayedReads.{all-replied}
use Rattle.tk_io.proofs.Offers.{always}
use Rattle.tk_relay.proofs.SeenTurns.{seen-turn}
use Rattle.tk_relay.proofs.turns.meet.Goals as goal

pub read_turn-requires-clause-clients : goal.read_turn-requires-clause-clients
read_turn-requires-clause-clients g c κs within =
    let S = c.args.plan.now.script.now in
    let words = words_of S.shape (g.D.Draws.book c.args.plan.now.draws.now) in
    let H = c.args.plan.now.history.now in
    subst (AreClients S.shape.clients (client_wrote S words H c.args.turn))
    (sym c.as_mut_slice-clients.ensures.value) c.in_ok-set.ensures.clients

pub sights_of-requires-clause-few : goal.sights_of-requires-clause-few
sights_of-requires-clause-few g c = c.args.plan.now.script.now.shape.in_range.servers_high

pub sights_of-requires-clause-replied : goal.sights_of-requires-clause-replied
sights_of-requires-clause-replied g c =
    let S = c.args.plan.now.script.now in
    subst (All (IsReplied S.shape.servers)) (sym c.as_slice-reads.ensures.value)
    (all-replied c.in_ok-relayed.ensures.reads)

pub returns-clause-run : goal.returns-clause-run
returns-clause-run g c =
    let S = c.args.plan.now.script.now in
    let words = words_of S.shape (g.D.Draws.book c.args.plan.now.draws.now) in
    let H = c.args.plan.now.history.now in
    let old = c.write_turn.new.run.group.clients in
    let clients = c.read_turn.new.clients in
    let counted : length clients ≡ old.len =
    omega (arith, c.read_turn.auto.clients, c.as_mut_slice-clients.ensures.len)
    in
    let wrote = c.in_ok-set.ensures in
    always c.sights_of.result (record {
      same = c.requires.run.same;
      said = wrote.said;
      clients = subst (AreClients S.shape.clients (client_before S words H (c.args.turn + 1)))
          (sym (with_items_is old clients counted)) c.in_ok-relayed.ensures.clients;
      ordered = wrote.ordered;
      met = wrote.met;
      counted = wrote.counted;
    })

pub returns-clause-sights : goal.returns-clause-sights
returns-clause-sights g c =
    let S = c.args.plan.now.script.now in
    let book = g.D.Draws.book c.args.plan.now.draws.now in
    let H = c.args.plan.now.history.now in
    let turn = c.args.turn in
    let seeds = c.args.seeds.now in
    let entries = c.as_slice-entries.result.now in
    let reads = c.as_slice-reads.result.now in
    let are = subst (AreRelayed S book seeds H turn S.shape.servers)
    (sym c.as_slice-reads.ensures.value) c.in_ok-relayed.ensures.reads
    in
    subst (λ (xs : List (List ℕ)). IfOk c.sights_of.result (λ sights. sights.items ≡ xs))
    (map-range (sight_seen entries reads) (relayed_turn S book seeds H turn) 1 S.shape.servers
    (λ j low high. seen-turn S book seeds H turn j entries reads low (omega (arith, high)) are
    (c.as_slice-entries.ensures.value ∙ c.in_ok-set.ensures.seen)))
    c.sights_of.ensures
