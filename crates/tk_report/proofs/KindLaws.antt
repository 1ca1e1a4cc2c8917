-- What a line says, and which line says it.
use Rattle.std.proofs.Common.{◌≡◌, refl, ap, sym, arith, ℕ, ◌<◌, ◌^◌, false, List, [], ◌∷◌, map, codes, decimal, Ok, Err}
use Rattle.std.specs.List.{AllByRecursion}
use Rattle.tk_schedule.specs.declared.item.Item.{Item}
use Rattle.tk_schedule.specs.declared.raw.RawKind.{RawKind}
use Rattle.tk_schedule.specs.declared.raw.RawKind.TheVariants.{Order, Reads, End}
use Rattle.tk_schedule.specs.Raw.{is_end}
use Rattle.tk_script.specs.declared.cause.Cause.{Cause}
use Rattle.tk_script.specs.Grammar.{Line, item_word, raw_line, IsItem, IsTurn, IsNumber}
use Rattle.tk_script.specs.Reading.{Verdict, read_turn}
use Rattle.tk_script.proofs.Offers.{LacksFeed, turn_is, turn_whole, turn-no_end}
use Rattle.tk_report.specs.ReportLines.{no_line, kind_or, kind_said, stops}
use Rattle.tk_report.proofs.LineCuts.{IsField, fields-lack}

-- the line that says this
abbrev pub kind_text : RawKind → Line
kind_text kind = raw_line kind

-- ---- what lines say

phases : (p q t u : ℕ) (xs ys : List Item) → Order p t xs ≡ Order q u ys → p ≡ q
phases p q t u xs ys e = cc e

not-none : (phase tick : ℕ) (items : List Item) → 0 < phase → no_line ≡ Order phase tick items → ⊥
not-none phase tick items low e =
    let none = phases 0 phase 0 tick [] items e in
    omega (arith, low, none)

-- what is said in place of a line that says nothing is read
said-read : (v : Verdict RawKind) (kind : RawKind) → (no_line ≡ kind → ⊥) → kind_or v ≡ kind →
    v ≡ Ok kind
said-read (Ok k) kind some e = ap (λ (x : RawKind). Ok x) e
said-read (Err c) kind some e = absurd (some e)

pub said-text : (line : Line) (kind : RawKind) → (no_line ≡ kind → ⊥) → kind_said line ≡ kind →
    line ≡ kind_text kind
unfolding kind_said
said-text line kind some e = (turn_is line kind (said-read (read_turn line) kind some e)).0

pub text-said : (kind : RawKind) → IsTurn kind → kind_said (kind_text kind) ≡ kind
unfolding kind_said
text-said kind turn = ap kind_or (turn_whole (kind_text kind) kind refl turn)

-- what was read of a line is what it says
pub told-kind : (line : Line) (kind : RawKind) → read_turn line ≡ Ok kind → kind ≡ kind_said line
unfolding kind_said
told-kind line kind e = sym (ap kind_or e)

pub told-none : (line : Line) (c : Cause) → read_turn line ≡ Err c → no_line ≡ kind_said line
unfolding kind_said
told-none line c e = sym (ap kind_or e)

-- ---- no line says the end

pub said-no_end : (line : Line) → is_end (kind_said line) ≡ false
unfolding kind_said
said-no_end line =
    elim (read_turn line) as (λ v. read_turn line ≡ v → is_end (kind_or v) ≡ false) [
      | Ok kind ↦ λ e. turn-no_end kind (turn_is line kind e).1
      | Err c ↦ λ _. refl
    ] refl

-- ---- the lines of a history's turns

-- a line that says this alone, and whose text alone says it
pub record IsOwn (kind : RawKind) : Type 0 where
  pub told : (line : Line) → kind_said line ≡ kind → line ≡ kind_text kind
  pub said : kind_said (kind_text kind) ≡ kind
  pub goes_on : stops (kind_text kind) ≡ false
  pub no_feed : LacksFeed (kind_text kind)
  pub some : no_line ≡ kind → ⊥
  pub no_end : End ≡ kind → ⊥

pub own-order : (phase tick : ℕ) (x : Item) (items : List Item) → 0 < phase → phase < 2 ^ 32 →
    tick < 2 ^ 32 → AllByRecursion IsItem (x ∷ items) →
    AllByRecursion IsField
    (codes "order" ∷ decimal phase ∷ decimal tick ∷ map item_word (x ∷ items)) →
    IsOwn (Order phase tick (x ∷ items))
own-order phase tick x items low phase_in tick_in short are =
    let kind = Order phase tick (x ∷ items) in
    let some : no_line ≡ kind → ⊥ = not-none phase tick (x ∷ items) low in
    record {
      told = λ line e. said-text line kind some e;
      said = text-said kind (phase_in, tick_in, short, omega arith);
      goes_on = refl;
      no_feed = fields-lack
          (codes "order" ∷ decimal phase ∷ decimal tick ∷ map item_word (x ∷ items)) are;
      some = some;
      no_end = λ e. cc e;
    }

pub own-reads : (phase tick e : ℕ) (epochs : List ℕ) → phase < 2 ^ 32 →
    tick < 2 ^ 32 → AllByRecursion IsNumber (e ∷ epochs) →
    AllByRecursion IsField
    (codes "reads" ∷ decimal phase ∷ decimal tick ∷ map decimal (e ∷ epochs)) →
    IsOwn (Reads phase tick (e ∷ epochs))
own-reads phase tick e epochs phase_in tick_in short are =
    let kind = Reads phase tick (e ∷ epochs) in
    let some : no_line ≡ kind → ⊥ = λ q. cc q in
    record {
      told = λ line q. said-text line kind some q;
      said = text-said kind (phase_in, tick_in, short, omega arith);
      goes_on = refl;
      no_feed = fields-lack
          (codes "reads" ∷ decimal phase ∷ decimal tick ∷ map decimal (e ∷ epochs)) are;
      some = some;
      no_end = λ q. cc q;
    }
