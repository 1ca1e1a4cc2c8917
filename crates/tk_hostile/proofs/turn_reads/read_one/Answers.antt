-- The replies to what it asks make it what the definitions say.
use Rattle.std.proofs.Common.{◌≡◌, ◌∙◌, ◌-◌, ℕ, List, ap, ap₂, sym, subst, arith, length, map}
use Rattle.std.specs.Prelude.{slice_get, Result, Ok, Err, OnOk}
use Rattle.std.specs.List.{AllByRecursion}
use Rattle.tk_shape.specs.declared.shape.Shape.{Shape}
use Rattle.tk_words.specs.Words.{IsBook, words_of}
use Rattle.tk_frames.specs.declared.read_frame.ReadFrame.{ReadFrame}
use Rattle.tk_frames.specs.declared.reply_frame.ReplyFrame.{ReplyFrame}
use Rattle.tk_frames.specs.Ranges.{IsRead, IsReply}
use Rattle.tk_frames.specs.Spelling.{reply_frame}
use Rattle.tk_client.specs.Client.{ClientState}
use Rattle.tk_report.specs.Clients.{client_knowing}
use Rattle.tk_report.specs.Ledgers.{IsLeftBy}
use Rattle.tk_report.specs.Report.{read_over}
use Rattle.tk_hostile.specs.Choice.{replies_by}
use Rattle.tk_hostile.specs.Given.{sums_at}
use Rattle.tk_hostile.specs.Walks.{read_in}
use Rattle.tk_hostile.proofs.ReadingLaws.{frame-at, read-in_range, frames-counted, heard-is}
use Rattle.tk_hostile.proofs.ReplyingLaws.{replies-counted}
use Rattle.tk_hostile.proofs.turn_reads.read_one.Goals as goal

always : {T E : Type 0} (r : Result T E) (P : Type 0) → P → OnOk r P
always (Ok x) P p = p
always (Err e) P p = tt

pub read_of-requires-clause-high : goal.read_of-requires-clause-high
read_of-requires-clause-high g c =
    let walk = c.args.walk.now in
    let S = walk.plan.now.script.now in
    let book = g.D.Draws.book walk.plan.now.draws.now in
    let counted = ap length (c.as_slice.ensures.value ∙ c.in_ok-frames.ensures.frames)
    ∙ frames-counted S book walk.plan.now.history.now walk.sides (sums_at walk.replies.now)
    c.args.turn c.args.number in
    omega (arith, counted, walk.sides_in.asked_high)

pub read_of-requires-2-clause-high : goal.read_of-requires-2-clause-high
read_of-requires-2-clause-high g c =
    let walk = c.args.walk.now in
    let S = walk.plan.now.script.now in
    let book = g.D.Draws.book walk.plan.now.draws.now in
    let counted = ap length (c.as_slice-3.ensures.value ∙ c.in_ok-frames.ensures.frames)
    ∙ frames-counted S book walk.plan.now.history.now walk.sides (sums_at walk.replies.now)
    c.args.turn c.args.number in
    omega (arith, counted, walk.sides_in.seen_high)

pub replies-requires-clause-asked : goal.replies-requires-clause-asked
replies-requires-clause-asked g c =
    let walk = c.args.walk.now in
    let plan = walk.plan.now in
    let S = plan.script.now in
    let book = g.D.Draws.book plan.draws.now in
    let H = plan.history.now in
    let F = sums_at walk.replies.now in
    let turn = c.args.turn in
    let number = c.args.number in
    let j = walk.sides.asked in
    let low = walk.sides_in.asked_low in
    let high = walk.sides_in.asked_high in
    let world = g.world in
    let laws = g.met.D.Draws world.𝓛 world.𝓜 world.𝓡 ((λ s x. x), (λ x. x), (λ x. x), λ x. x) in
    let served =
    subst (λ (shape : Shape). IsBook shape book) plan.one_shape (laws.serves plan.draws.now)
    in
    let is = read-in_range S book H walk.sides F turn number j low high served plan.legal
    c.requires.turn_in c.requires.number_in in
    let there = ap (λ (xs : List (List ℕ)). slice_get xs (j - 1))
    (c.as_slice.ensures.value ∙ c.in_ok-frames.ensures.frames)
    ∙ frame-at S book H walk.sides F turn number j low high in
    let same = c.in_ok-asked.ensures (read_in S book H walk.sides F j turn number) is there in
    subst (λ (shape : Shape). IsRead shape c.in_ok-asked.asked) (sym walk.one_shape)
    (subst (IsRead S.shape) (sym same) is)

pub take_replies-requires-clause-one_shape : goal.take_replies-requires-clause-one_shape
unfolding client_knowing
take_replies-requires-clause-one_shape g c κs within =
    c.args.walk.now.plan.now.one_shape
    ∙ sym (ap (λ (s : ClientState). s.shape) c.in_ok-frames.ensures.opened)

pub take_replies-requires-clause-counted : goal.take_replies-requires-clause-counted
unfolding client_knowing
take_replies-requires-clause-counted g c κs within =
    let walk = c.args.walk.now in
    let plan = walk.plan.now in
    let S = plan.script.now in
    let book = g.D.Draws.book plan.draws.now in
    let given = walk.replies.now in
    let R = read_over S (words_of S.shape book) plan.history.now c.args.turn c.args.number in
    let left = subst (λ (shape : Shape). IsLeftBy shape R c.open_to-left.result.now)
    (sym walk.one_shape) c.open_to-left.ensures in
    ap length (c.as_slice-2.ensures.value ∙ c.in_ok-replies.ensures.replies R left)
    ∙ replies-counted given.shape walk.sides.hidden (sums_at given) R c.in_ok-asked.asked
    ∙ ap (λ (shape : Shape). shape.servers) walk.one_shape
    ∙ sym (ap (λ (s : ClientState). s.shape.servers) c.in_ok-frames.ensures.opened)

pub returns-clause-read : goal.returns-clause-read
returns-clause-read g c =
    let walk = c.args.walk.now in
    let plan = walk.plan.now in
    let S = plan.script.now in
    let book = g.D.Draws.book plan.draws.now in
    let H = plan.history.now in
    let F = sums_at walk.replies.now in
    let turn = c.args.turn in
    let number = c.args.number in
    let j = walk.sides.seen in
    let low = walk.sides_in.seen_low in
    let high = walk.sides_in.seen_high in
    let world = g.world in
    let laws = g.met.D.Draws world.𝓛 world.𝓜 world.𝓡 ((λ s x. x), (λ x. x), (λ x. x), λ x. x) in
    let served =
    subst (λ (shape : Shape). IsBook shape book) plan.one_shape (laws.serves plan.draws.now)
    in
    let is = read-in_range S book H walk.sides F turn number j low high served plan.legal
    c.requires.turn_in c.requires.number_in in
    let there = ap (λ (xs : List (List ℕ)). slice_get xs (j - 1))
    (c.as_slice-3.ensures.value ∙ c.in_ok-frames.ensures.frames)
    ∙ frame-at S book H walk.sides F turn number j low high in
    c.read_of-2.ensures (read_in S book H walk.sides F j turn number) is there

pub returns-clause-client : goal.returns-clause-client
returns-clause-client g c =
    let walk = c.args.walk.now in
    let plan = walk.plan.now in
    let S = plan.script.now in
    let book = g.D.Draws.book plan.draws.now in
    let H = plan.history.now in
    let given = walk.replies.now in
    let F = sums_at given in
    let turn = c.args.turn in
    let number = c.args.number in
    let j = walk.sides.asked in
    let low = walk.sides_in.asked_low in
    let high = walk.sides_in.asked_high in
    let world = g.world in
    let laws = g.met.D.Draws world.𝓛 world.𝓜 world.𝓡 ((λ s x. x), (λ x. x), (λ x. x), λ x. x) in
    let served =
    subst (λ (shape : Shape). IsBook shape book) plan.one_shape (laws.serves plan.draws.now)
    in
    let is = read-in_range S book H walk.sides F turn number j low high served plan.legal
    c.requires.turn_in c.requires.number_in in
    let there = ap (λ (xs : List (List ℕ)). slice_get xs (j - 1))
    (c.as_slice.ensures.value ∙ c.in_ok-frames.ensures.frames)
    ∙ frame-at S book H walk.sides F turn number j low high in
    let asked : c.in_ok-asked.asked ≡ read_in S book H walk.sides F j turn number =
    c.in_ok-asked.ensures (read_in S book H walk.sides F j turn number) is there
    in
    let R = read_over S (words_of S.shape book) H turn number in
    let left = subst (λ (shape : Shape). IsLeftBy shape R c.open_to-left.result.now)
    (sym walk.one_shape) c.open_to-left.ensures in
    let by : Shape → ReadFrame → List ReplyFrame =
    λ shape r. replies_by shape walk.sides.hidden F R r
    in
    let bytes = c.as_slice-2.result.now in
    let replied : bytes ≡ map reply_frame (by S.shape (read_in S book H walk.sides F j turn number)) =
    c.as_slice-2.ensures.value
    ∙ c.in_ok-replies.ensures.replies R left
    ∙ ap₂ (λ (shape : Shape) (r : ReadFrame). map reply_frame (by shape r)) walk.one_shape asked
    in
    let in_range = subst (λ (r : ReadFrame). AllByRecursion (IsReply S.shape) (by S.shape r)) asked
    (subst (λ (shape : Shape). AllByRecursion (IsReply shape) (by shape c.in_ok-asked.asked))
    walk.one_shape (c.in_ok-replies.ensures.in_range R left)) in
    always c.read_of-2.result _
    (heard-is S book H walk.sides F turn number c.ask.new.client c.take_replies.new.self bytes
    c.in_ok-frames.ensures.opened replied in_range c.in-Ok.ensures.taken)
