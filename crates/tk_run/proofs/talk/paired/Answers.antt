-- One client more has its set.
use Rattle.std.proofs.Common.{◌≡◌, ◌<◌, refl, ap, ◌∙◌, arith, ℕ, length, false}
use Rattle.std.specs.Prelude.{slice_index_or}
use Rattle.tk_run.proofs.TalkAll.{paired-next}
use Rattle.tk_run.proofs.talk.paired.Goals as goal

pub pairing-preserved : goal.pairing-preserved
pairing-preserved c =
    let so_far = c.pairing.invariant in
    let deeds = c.args.deeds.now in
    let deed = c.in-Some-get.deed.now in
    let place : c.len.result ≡ length c.pairing.yielded =
    omega (arith, c.len.ensures, so_far.counted, c.pairing.readings.ok.0)
    in
    let found = c.in-Some-get.ensures.lookup in
    let low : length c.pairing.yielded < length deeds = omega (arith, found.3.0, place) in
    let at : deed ≡ slice_index_or deeds (length c.pairing.yielded) deed =
    found.1 ∙ ap (λ (n : ℕ). slice_index_or deeds n deed) place
    in
    paired-next c.args.turn deeds c.pairing.yielded c.pairing.readings.items c.push.new.self.items
    deed c.in-Some.client
    (record {
      client = c.in-Some.client;
      talk = record {
        turn = c.args.turn;
        set = c.in_ok-try_clone.field-0;
        asked = c.new.result;
        replies = c.new-in-pairing.result;
      };
      done = false;
    })
    low at so_far c.in_ok-push.ensures.items refl
    (record {
      turn_is = refl;
      set = c.in_ok-try_clone.ensures;
      none_asked = c.new.ensures.items;
      none_replied = c.new-in-pairing.ensures.items;
    })
