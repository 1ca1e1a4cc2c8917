-- What a sound script's texts have, and tests on lists that grow at their end.
use Rattle.std.proofs.Common.{◌≡◌, ℕ, ◌+◌, ◌<◌, ◌≤◌, List, [], ◌∷◌, ◌++◌, length, drop, get_or, true, false, ◌&&◌, IsTrue, refl, ap, arith}
use Rattle.std.specs.Prelude.{nat_le, nat_lt}
use Rattle.std.specs.List.{All, list_all}
use Rattle.std.proofs.lemmas.Bool.{and_parts, and_from, leb-true}
use Rattle.std.proofs.Common.{ltb-true}
use Rattle.std.proofs.lemmas.List.Elements.{All-weaker}
use Rattle.std.proofs.lemmas.List.Sums.{AllPass-from_list_all}
use Rattle.tk_shape.specs.declared.shape.Shape.{Shape}
use Rattle.tk_seal.specs.Texts.{is_allowed}
use Rattle.tk_script.specs.SoundScript.{is_ascending, is_say, is_said_by, are_in_order}
use Rattle.tk_script.specs.declared.say.Say.{Say}

-- texts in order are so up to each of them
pub are_in_order-front : (says : List Say) (y : Say) (more : List Say) →
    IsTrue (are_in_order (says ++ y ∷ more)) →
    IsTrue (are_in_order (says ++ y ∷ []))
are_in_order-front [] y more ordered = refl
are_in_order-front (a ∷ []) y more ordered =
    let split = and_parts (is_said_by a y) (are_in_order (y ∷ more)) ordered in
    and_from (is_said_by a y) true split.0 refl
are_in_order-front (a ∷ b ∷ says) y more ordered =
    let split = and_parts (is_said_by a b) (are_in_order (b ∷ (says ++ y ∷ more))) ordered in
    and_from (is_said_by a b) (are_in_order (b ∷ (says ++ y ∷ []))) split.0
    (are_in_order-front (b ∷ says) y more split.1)

-- two numbers that ascend, and the rest
pub is_ascending-step : (xs : List ℕ) → 2 ≤ length xs →
    nat_lt (get_or xs 0 0) (get_or xs 1 0) ≡ true → is_ascending xs ≡ is_ascending (drop 1 xs)
is_ascending-step [] long ascend = absurd (omega (arith, long))
is_ascending-step (a ∷ []) long ascend = absurd (omega (arith, long))
is_ascending-step (a ∷ b ∷ xs) long ascend = ap (λ t. t && is_ascending (b ∷ xs)) ascend

pub is_ascending-broken : (xs : List ℕ) → 2 ≤ length xs →
    nat_lt (get_or xs 0 0) (get_or xs 1 0) ≡ false → is_ascending xs ≡ false
is_ascending-broken [] long broken = absurd (omega (arith, long))
is_ascending-broken (a ∷ []) long broken = absurd (omega (arith, long))
is_ascending-broken (a ∷ b ∷ xs) long broken = ap (λ t. t && is_ascending (b ∷ xs)) broken

pub is_ascending-short : (xs : List ℕ) → length xs ≤ 1 → is_ascending xs ≡ true
is_ascending-short [] short = refl
is_ascending-short (a ∷ []) short = refl
is_ascending-short (a ∷ b ∷ xs) short = absurd (omega (arith, short))

-- ---- texts

-- a text is said in a phase and a tick of the run, on a log of it; it has room, and may be sent
pub record IsSaid (shape : Shape) (say : Say) : Type 0 where
  pub phase_low : 1 ≤ say.phase
  pub phase_high : say.phase ≤ shape.phases
  pub tick_low : 1 ≤ say.tick
  pub tick_high : say.tick ≤ shape.ticks
  pub log_in : say.log < shape.logs
  pub fits : length say.text + 18 ≤ shape.block
  pub allowed : IsTrue (is_allowed say.text)

pub is_say-IsSaid : (shape : Shape) (say : Say) → IsTrue (is_say shape say) → IsSaid shape say
is_say-IsSaid shape say sound =
    let all = and_parts _ (is_allowed say.text) sound in
    let fits = and_parts _ (nat_le (length say.text + 18) shape.block) all.0 in
    let log = and_parts _ (nat_lt say.log shape.logs) fits.0 in
    let tick = and_parts _ (nat_le say.tick shape.ticks) log.0 in
    let low = and_parts _ (nat_le 1 say.tick) tick.0 in
    let phase = and_parts (nat_le 1 say.phase) (nat_le say.phase shape.phases) low.0 in
    record {
      phase_low = leb-true 1 say.phase phase.0;
      phase_high = leb-true say.phase shape.phases phase.1;
      tick_low = leb-true 1 say.tick low.1;
      tick_high = leb-true say.tick shape.ticks tick.1;
      log_in = ltb-true say.log shape.logs log.1;
      fits = leb-true (length say.text + 18) shape.block fits.1;
      allowed = all.1;
    }

-- so have all texts of a script
pub says-AreSaid : (shape : Shape) (says : List Say) → IsTrue (list_all (is_say shape) says) →
    All (IsSaid shape) says
says-AreSaid shape says sound =
    All-weaker (λ (y : Say). is_say shape y ≡ true) (IsSaid shape) (is_say-IsSaid shape) says
    (AllPass-from_list_all (is_say shape) says sound)
