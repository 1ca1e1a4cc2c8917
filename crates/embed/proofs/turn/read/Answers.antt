-- The filter is that of the epoch, and each server replies to what it is asked.
use Rattle.std.proofs.Common.{◌∙◌, ◌+◌, ◌++◌, ◌<◌, List, ℕ, ap, sym, subst, arith, length, map}
use Rattle.tk_words.specs.Words.{words_of}
use Rattle.tk_frames.specs.Spelling.{read_frame}
use Rattle.tk_replica.specs.declared.epoch.Epoch.{Epoch}
use Rattle.tk_replica.specs.Replica.{StandsFor}
use Rattle.tk_client.specs.Asked.{asked}
use Rattle.tk_client.specs.Client.{target_over}
use Rattle.embed.proofs.ReadLaws.{read-is}
use Rattle.embed.proofs.turn.read.Goals as goal

pub returns-clause-client : goal.returns-clause-client
returns-clause-client g c = λ E are.
    let s = c.args.client.now in
    let book = g.D.Draws.book c.args.draws.now in
    let turn = c.args.turn in
    let some : 0 < length c.args.servers.now =
    omega (arith, are.counted, s.shape.in_range.servers_low)
    in
    let stands =
    subst (StandsFor s.shape E) (sym c.index-servers-0.is)
    (are.each 0 c.index-servers-0.result some)
    in
    let epoch = c.in_ok-shown.ensures.stands s.shape E stands in
    let shown =
    c.filter.ensures ∙ ap (λ (e : Epoch). e.filter) c.deref.ensures ∙ epoch.stands.filter
    in
    let target = target_over (words_of s.shape book) c.filter.result.now (turn + 1) s in
    let asks =
    c.as_slice.ensures.value ∙ c.in_ok-read_frames.ensures.frames
    ∙ ap (λ (xs : List (List ℕ)). xs
    ++ map read_frame (asked s.shape book turn s.number (turn + 1) target))
    c.new-frames.ensures.items
    in
    read-is book turn E s c.read_frames.new.self c.take_replies.new.self c.filter.result.now
    c.as_slice.result.now c.as_slice-2.result.now shown c.in_ok-read_frames.ensures.opened asks
    (c.as_slice-2.ensures.value ∙ c.in_ok-replies.ensures.replies s.shape E are)
    c.in_ok-take_replies.ensures.taken
