-- The words of a keyed script's book are those of its keys, with their seeds.
use Rattle.std.proofs.Common.{◌≡◌, ◌∙◌, ap, sym, subst, ℕ, List, Option, rules}
use Rattle.tk_io.specs.Tapped.{TapsGainFronts}
use Rattle.tk_schedule.specs.Schedule.{serial_history}
use Rattle.tk_script.specs.declared.keys.Keys.{Keys}
use Rattle.tk_script.specs.declared.script.Script.{Script}
use Rattle.tk_words.specs.Book.{words_in}
use Rattle.tk_words.specs.Words.{WordBook}
use Rattle.tk_report.specs.Exchange.{bytes_of}
use Rattle.tk_relay.specs.Relayed.{relayed_exchange, seeds_of}
use Rattle.tk_cli.proofs.relay_word.relayed_by.Goals as goal

-- what servers see of a script, with these words and seeds
abbrev HaveFronts :
    Script → (old new : ℕ → Option (List ℕ)) → WordBook × List (List ℕ) → Type 0
HaveFronts S old new x =
    TapsGainFronts S.shape.servers
    (λ j. bytes_of (relayed_exchange S x.0 x.1 (serial_history S.shape) j)) old new

fronts-as : (S : Script) (old new : ℕ → Option (List ℕ)) (b b' : WordBook)
    (seeds seeds' : List (List ℕ)) → b ≡ b' → seeds ≡ seeds' →
    HaveFronts S old new (b, seeds) → HaveFronts S old new (b', seeds')
fronts-as S old new b b' seeds seeds' p q h = subst (HaveFronts S old new) (λ i. (p i, q i)) h

pub returns-in-Err-Taps-clause-err : goal.returns-in-Err-Taps-clause-err
returns-in-Err-Taps-clause-err g c =
    let same : c.in-Some.keys ≡ c.requires.keyed.keys =
    cc (c.in-Some.is, c.requires.keyed.own) in
    let slice : c.as_slice.result.now ≡ c.in-Some.keys.seeds = search rules in
    fronts-as c.args.script.now (g.T.Taps.tap c.args.taps.now) (g.T.Taps.tap c.relayed.new.taps) _
    (words_in c.args.book.now) c.as_slice.result.now (seeds_of (words_in c.args.book.now))
    (sym (ap words_in c.in-Keyed.is))
    (slice ∙ ap (λ (k : Keys). k.seeds) same ∙ sym (ap seeds_of c.requires.keyed.book))
    c.in-Err-Taps.ensures.err

pub returns-in-Err-Memory-clause-err : goal.returns-in-Err-Memory-clause-err
returns-in-Err-Memory-clause-err g c =
    let same : c.in-Some.keys ≡ c.requires.keyed.keys =
    cc (c.in-Some.is, c.requires.keyed.own) in
    let slice : c.as_slice.result.now ≡ c.in-Some.keys.seeds = search rules in
    fronts-as c.args.script.now (g.T.Taps.tap c.args.taps.now) (g.T.Taps.tap c.relayed.new.taps) _
    (words_in c.args.book.now) c.as_slice.result.now (seeds_of (words_in c.args.book.now))
    (sym (ap words_in c.in-Keyed.is))
    (slice ∙ ap (λ (k : Keys). k.seeds) same ∙ sym (ap seeds_of c.requires.keyed.book))
    c.in-Err-Memory.ensures.err
