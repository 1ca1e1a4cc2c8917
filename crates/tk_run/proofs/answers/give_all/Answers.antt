-- The replies of one server more are given.
use Rattle.std.proofs.Common.{◌≡◌, ◌∷◌, [], ◌++◌, ◌+◌, List, length, ap, sym, ◌∙◌, subst, arith, append_assoc}
use Rattle.std.proofs.Common.{length-append, refl}
use Rattle.std.specs.Vec.Iter.{into_iter_items}
use Rattle.tk_run.specs.Reading.{EachAt}
use Rattle.tk_run.specs.Answering.{AllStand, Replies}
use Rattle.tk_run.proofs.AnsweredLaws.{IsReplied, replied-none, replied-next, replied-all, replies-counted}
use Rattle.tk_run.proofs.AnsweredLaws.{server-inside, server-replied}
use Rattle.tk_run.proofs.answers.give_all.Goals as goal

pub servers-init : goal.servers-init
servers-init c =
    let begins = c.into_iter-replies-iterator.ensures.into_iter_gives in
    record {
      whole = refl;
      left = omega (arith, begins.1, ap length begins.0);
      counted = refl;
      replied = λ due all.
          replied-none due c.requires.asked.0 (AllStand c.args.readings.now) c.args.readings.now
          c.requires.asked.2;
    }

pub give-requires : goal.give-requires
give-requires c =
    let old = c.args.readings.now in
    let so_far = c.servers.invariant in
    let shape = c.requires.stand.0 in
    let E = c.requires.stand.1 in
    let given = c.servers.yielded in
    let x = c.in-Some.replies in
    let rest = into_iter_items c.next.new.self in
    let steps : into_iter_items c.servers.replies-iterator ≡ x ∷ rest =
    c.in-Some.ensures.steps.0
    in
    let whole : given ++ x ∷ rest ≡ c.args.answers.items =
    ap (λ (xs : List Replies). given ++ xs) (sym steps) ∙ so_far.whole
    ∙ c.into_iter-replies-iterator.ensures.into_iter_gives.0
    in
    let due = c.requires.replies.0 in
    replies-counted due shape E (length given) old c.in_ok-replies.replies.items
    (server-replied shape old c.args.answers.items given rest x whole due c.in_ok-replies.replies
    c.in_ok-replies.was c.requires.replies.1 shape E c.requires.stand.2)
    ∙ sym so_far.counted

pub servers-preserved : goal.servers-preserved
servers-preserved c =
    let old = c.args.readings.now in
    let so_far = c.servers.invariant in
    let shape = c.requires.asked.0 in
    let given = c.servers.yielded in
    let x = c.in-Some.replies in
    let rest = into_iter_items c.next.new.self in
    let steps : into_iter_items c.servers.replies-iterator ≡ x ∷ rest =
    c.in-Some.ensures.steps.0
    in
    let whole : given ++ x ∷ rest ≡ c.args.answers.items =
    ap (λ (xs : List Replies). given ++ xs) (sym steps) ∙ so_far.whole
    ∙ c.into_iter-replies-iterator.ensures.into_iter_gives.0
    in
    let more : length (given ++ x ∷ []) ≡ length given + 1 = length-append given (x ∷ []) in
    record {
      whole = append_assoc given (x ∷ []) rest ∙ ap (λ (xs : List Replies). given ++ xs) (sym steps)
          ∙ so_far.whole;
      left =
          let was = so_far.left in
          let gone = c.in-Some.ensures.steps.1 in
          let short = ap length steps in
          omega arith;
      counted = c.give.auto.readings ∙ so_far.counted;
      replied = λ due all.
          subst (λ n. EachAt (IsReplied due (AllStand old) n) old c.give.new.readings) (sym more)
          (replied-next due shape (length given) old c.servers.readings c.give.new.readings
          c.in_ok-replies.replies.items so_far.counted c.requires.asked.2
          (server-inside shape old c.args.answers.items given rest x whole c.requires.asked.1)
          (so_far.replied due all)
          (server-replied shape old c.args.answers.items given rest x whole due
          c.in_ok-replies.replies c.in_ok-replies.was all)
          c.in_ok-give.ensures);
    }

pub returns : goal.returns
returns c due replied =
    let so_far = c.servers.invariant in
    let given = c.servers.yielded in
    let none = c.in-None.ensures.steps in
    let all : length given ≡ length c.args.answers.items =
    omega (
      arith,
      none.0,
      so_far.left,
      ap length so_far.whole,
      length-append given (into_iter_items c.servers.replies-iterator),
      ap length c.into_iter-replies-iterator.ensures.into_iter_gives.0,
    )
    in
    replied-all due c.requires.asked.0 (length given) c.args.readings.now c.servers.readings
    c.requires.asked.2 (all ∙ c.requires.asked.1) (so_far.replied due replied)
