-- The text comes too late for its writer, or is the next that it sends.
use Rattle.std.proofs.Common.{◌≡◌, ◌∙◌, ◌<◌, ℕ, ap, sym, subst, refl, arith, List, [], ◌∷◌, ◌++◌, get_or, set, max}
use Rattle.std.specs.List.Sorted.{IsNonDecreasingBy}
use Rattle.std.proofs.lemmas.List.{get_or_default}
use Rattle.tk_shape.specs.Lengths.{turn_count}
use Rattle.tk_script.specs.Sent.{Sending}
use Rattle.tk_report.proofs.ListingLaws.{writer-of, due, sending, few_listed, listing-late, own-ascends, listing-own}
use Rattle.tk_report.proofs.sent_list.list_text.Goals as goal

pub returns-then-free-turns : goal.returns-then-free-turns
returns-then-free-turns c =
    let S = c.args.script.now in
    let y = c.say-say.result.now in
    let l = c.args.listing.now in
    let w = c.role.result.now.writer in
    let free : c.index-free.result.now ≡ get_or l.free.items w 0 =
    c.index-free.ensures
    ∙ get_or_default l.free.items w c.index-free.result.now 0
    (omega (arith, c.requires.listing.turns, c.role.ensures.writer_in))
    in
    listing-late S c.args.place w y l c.say-say.ensures.say
    (writer-of S y.log c.role.result.now c.role.ensures.role)
    (omega (arith, c.if-free-turns.true, c.turns.ensures.count, free)) c.requires.listing

pub overflow_add-number : goal.overflow_add-number
overflow_add-number c =
    let S = c.args.script.now in
    let l = c.args.listing.now in
    let y = c.say-say.result.now in
    let w = c.role.result.now.writer in
    let free : c.index-free.result.now ≡ get_or l.free.items w 0 =
    c.index-free.ensures
    ∙ get_or_default l.free.items w c.index-free.result.now 0
    (omega (arith, c.requires.listing.turns, c.role.ensures.writer_in))
    in
    let number : c.index-number.result.now ≡ get_or l.counts.items y.log 0 =
    c.index-number.ensures
    ∙ get_or_default l.counts.items y.log c.index-number.result.now 0
    (omega (arith, c.requires.listing.numbers, c.say-say.ensures.log_in))
    in
    let few = few_listed S c.args.place y.log w l c.requires.listing c.say-say.ensures.log_in
    (writer-of S y.log c.role.result.now c.role.ensures.role) c.role.ensures.writer_in
    in
    omega (arith, few, number, free, c.if-free-turns.false, c.turns.ensures.most)

pub push-requires : goal.push-requires
push-requires c =
    let S = c.args.script.now in
    let l = c.args.listing.now in
    let y = c.say-say.result.now in
    let w = c.role.result.now.writer in
    let n = c.index-number.result.now in
    let now = c.max-now.result in
    let free : c.index-free.result.now ≡ get_or l.free.items w 0 =
    c.index-free.ensures
    ∙ get_or_default l.free.items w c.index-free.result.now 0
    (omega (arith, c.requires.listing.turns, c.role.ensures.writer_in))
    in
    let number : n ≡ get_or l.counts.items y.log 0 =
    c.index-number.ensures
    ∙ get_or_default l.counts.items y.log n 0
    (omega (arith, c.requires.listing.numbers, c.say-say.ensures.log_in))
    in
    let now_is : now ≡ due S.shape (get_or l.free.items w 0) y =
    c.max-now.ensures ∙ ap (λ (t : ℕ). max t c.index-free.result.now) c.turn.ensures.turn
    ∙ ap (λ (g : ℕ). due S.shape g y) free
    in
    let soon : now < turn_count S.shape =
    omega (
      arith,
      c.max-now.ensures,
      c.turn.ensures.in_run,
      c.if-free-turns.false,
      c.turns.ensures.count,
    )
    in
    let was =
    c.index_mut-sendings.ensures.value
    ∙ get_or_default l.sent.items w c.index_mut-sendings.result.now []
    (omega (arith, c.requires.listing.clients, c.role.ensures.writer_in))
    in
    subst
    (λ (zs : List Sending). IsNonDecreasingBy (λ (z : Sending). z.turn) (zs ++ sending now n y ∷ []))
    (sym was)
    (own-ascends S c.args.place n now w y l c.say-say.ensures.say c.say-say.ensures.log_in
    (writer-of S y.log c.role.result.now c.role.ensures.role) c.role.ensures.writer_in now_is soon
    number c.requires.listing)

pub returns : goal.returns
returns c =
    let S = c.args.script.now in
    let l = c.args.listing.now in
    let y = c.say-say.result.now in
    let w = c.role.result.now.writer in
    let n = c.index-number.result.now in
    let now = c.max-now.result in
    let free : c.index-free.result.now ≡ get_or l.free.items w 0 =
    c.index-free.ensures
    ∙ get_or_default l.free.items w c.index-free.result.now 0
    (omega (arith, c.requires.listing.turns, c.role.ensures.writer_in))
    in
    let number : n ≡ get_or l.counts.items y.log 0 =
    c.index-number.ensures
    ∙ get_or_default l.counts.items y.log n 0
    (omega (arith, c.requires.listing.numbers, c.say-say.ensures.log_in))
    in
    let now_is : now ≡ due S.shape (get_or l.free.items w 0) y =
    c.max-now.ensures ∙ ap (λ (t : ℕ). max t c.index-free.result.now) c.turn.ensures.turn
    ∙ ap (λ (g : ℕ). due S.shape g y) free
    in
    let soon : now < turn_count S.shape =
    omega (
      arith,
      c.max-now.ensures,
      c.turn.ensures.in_run,
      c.if-free-turns.false,
      c.turns.ensures.count,
    )
    in
    let was =
    c.index_mut-sendings.ensures.value
    ∙ get_or_default l.sent.items w c.index_mut-sendings.result.now []
    (omega (arith, c.requires.listing.clients, c.role.ensures.writer_in))
    in
    listing-own S c.args.place n now w y l _ c.say-say.ensures.say c.say-say.ensures.log_in
    (writer-of S y.log c.role.result.now c.role.ensures.role) c.role.ensures.writer_in now_is soon
    number refl refl
    (ap (λ (zs : List Sending). set l.sent.items w zs)
    (c.in_ok-push.ensures ∙ ap (λ (zs : List Sending). zs ++ sending now n y ∷ []) was))
    c.requires.listing
