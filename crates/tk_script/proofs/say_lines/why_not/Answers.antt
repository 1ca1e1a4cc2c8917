-- The causes are tried one after the other.
use Rattle.std.proofs.Common.{◌≡◌, ◌-◌, ◌<◌, ◌≤◌, length, Some, None, true, false, sym, rules}
use Rattle.tk_seal.specs.Texts.{is_allowed}
use Rattle.tk_script.specs.Reading.{named, is_by, out_of_range}
use Rattle.tk_script.proofs.SaidLaws.{said_number, said_order, said_room, said_text, said_well, not_allowed}
use Rattle.tk_script.proofs.say_lines.why_not.Goals as goal

pub returns-in-Some : goal.returns-in-Some
returns-in-Some c =
    let first : out_of_range (named c.args.shape.now) c.args.when.0 c.args.when.1 c.args.log
    ≡ Some c.in-Some.value = search rules in
    sym (said_number (named c.args.shape.now) c.args.last c.args.when c.args.text.now _
    c.in-Some.value
    first)

pub returns-then-not-is_by : goal.returns-then-not-is_by
returns-then-not-is_by c =
    let none : out_of_range (named c.args.shape.now) c.args.when.0 c.args.when.1 c.args.log ≡ None
    = search rules in
    let early : is_by c.args.last c.args.when ≡ false = search rules in
    sym (said_order (named c.args.shape.now) c.args.last c.args.when c.args.text.now _ none early)

pub returns-then-text-room : goal.returns-then-text-room
returns-then-text-room c =
    let none : out_of_range (named c.args.shape.now) c.args.when.0 c.args.when.1 c.args.log ≡ None
    = search rules in
    let by : is_by c.args.last c.args.when ≡ true = search rules in
    let long : c.args.shape.now.block - 18 < length c.args.text.now = search rules in
    sym (said_room (named c.args.shape.now) c.args.last c.args.when c.args.text.now _ none by long)

pub returns-in-Some-allowed : goal.returns-in-Some-allowed
returns-in-Some-allowed c =
    let none : out_of_range (named c.args.shape.now) c.args.when.0 c.args.when.1 c.args.log ≡ None
    = search rules in
    let by : is_by c.args.last c.args.when ≡ true = search rules in
    let short : length c.args.text.now ≤ c.args.shape.now.block - 18 = search rules in
    let bad = not_allowed c.allowed.result c.in-Some-allowed.at (is_allowed c.args.text.now)
    c.in-Some-allowed.is c.allowed.ensures.none in
    sym (said_text (named c.args.shape.now) c.args.last c.args.when c.args.text.now _
    c.in-Some-allowed.at none by short bad c.in-Some-allowed.ensures.front)

pub returns-in-None : goal.returns-in-None
returns-in-None c =
    let none : out_of_range (named c.args.shape.now) c.args.when.0 c.args.when.1 c.args.log ≡ None
    = search rules in
    let by : is_by c.args.last c.args.when ≡ true = search rules in
    let short : length c.args.text.now ≤ c.args.shape.now.block - 18 = search rules in
    let good : is_allowed c.args.text.now ≡ true = search rules in
    sym (said_well (named c.args.shape.now) c.args.last c.args.when c.args.text.now _ none by
    short good)
