-- A client of a script that has written and asked nothing.
use Rattle.std.proofs.Common.{◌≡◌, ◌∙◌, ◌<◌, sym, subst, arith, ℕ, List, get_or}
use Rattle.std.specs.Prelude.{IfOk}
use Rattle.tk_script.specs.declared.script.Script.{Script}
use Rattle.tk_client.specs.Client.{ClientState, new_client}
use Rattle.tk_report.specs.Queues.{writes_of}
use Rattle.tk_report.specs.Report.{follows_of}
use Rattle.tk_report.specs.Clients.{AreClients, client_knowing, known_first}
use Rattle.tk_member.specs.Members.{MemberState, new_member}
use Rattle.tk_member.specs.Pacing.{IsFresh}
use Rattle.tk_member.proofs.SetUpLaws.{knowing-first, fresh-new}
use Rattle.tk_member.proofs.setup.member_of.Goals as goal

client-is : (S : Script) (number : ℕ) (clients : List ClientState) (client : ClientState) →
    AreClients S.shape.clients (client_knowing S (known_first S) 0) clients →
    number < S.shape.clients → client ≡ get_or clients number client →
    client ≡ new_client S.shape number (writes_of S number) (follows_of S number)
client-is S number clients client are low here =
    here
    ∙ are.each number client (omega (arith, low, are.counted))
    ∙ knowing-first S number

pub open-requires-2 : goal.open-requires-2
open-requires-2 c =
    let S = c.args.script.now in
    let number = c.args.number in
    let client = c.swap_remove-client.result in
    subst IsFresh
    (sym (client-is S number c.in_ok-clients.field-0.clients.items client
    c.in_ok-clients.ensures.clients c.requires c.swap_remove-client.ensures.value))
    (fresh-new S.shape number (writes_of S number) (follows_of S number))

pub returns : goal.returns
returns c =
    let S = c.args.script.now in
    let number = c.args.number in
    let client = c.swap_remove-client.result in
    subst (λ (x : ClientState). IfOk c.open-2.result (λ (m : MemberState). m ≡ new_member x))
    (client-is S number c.in_ok-clients.field-0.clients.items client
    c.in_ok-clients.ensures.clients c.requires c.swap_remove-client.ensures.value)
    c.open-2.ensures
