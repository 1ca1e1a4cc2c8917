-- Frames of any kind and length that name who asks: what passes the checks, and what is read from their spelling.
use Rattle.std.proofs.Common.{◌≡◌, ℕ, ◌+◌, ◌<◌, ◌≤◌, List, [], ◌∷◌, ◌++◌, length, drop, None, refl, sym, ap, subst, ◌∙◌, arith}
use Rattle.std.proofs.lemmas.Bool.{ltb-true, lt-ltb, leb-true, le-leb}
use Rattle.std.proofs.lemmas.Nat.{from_be_bytes-to_be_bytes_4}
use Rattle.tk_shape.specs.declared.shape.Shape.{Shape}
use Rattle.tk_shape.specs.Lengths.{turn_count}
use Rattle.tk_frames.specs.declared.fault.Name.TheVariants as name
use Rattle.tk_frames.specs.Spelling.{be32, asked_frame}
use Rattle.tk_frames.specs.Fields.{number_at}
use Rattle.tk_frames.specs.Faults.{first_fault, check_on, client_check, turn_check, asker_checks, asked_checks}
use Rattle.tk_frames.proofs.BigEndian.{IsBytes, number-join}
use Rattle.tk_frames.proofs.Bounds.{turn_count_small}
use Rattle.tk_frames.proofs.Checking.{none-first, none-both}
use Rattle.tk_frames.proofs.Heads.{head-join, head_stands, head_passes}

pub record AskerFits (shape : Shape) (client turn epoch : ℕ) : Type 0 where
  pub client_fits : client < shape.clients
  pub turn_fits : turn < turn_count shape
  pub epoch_fits : epoch ≤ shape.phases

pub asker_stands : (shape : Shape) (bytes : List ℕ) → first_fault (asker_checks shape bytes) ≡ None →
    AskerFits shape (number_at 2 bytes) (number_at 6 bytes) (number_at 10 bytes)
asker_stands shape bytes e =
    let on_epoch = check_on name.Epoch (number_at 10 bytes) _ in
    let client = none-first (client_check shape (number_at 2 bytes)) (turn_check shape (number_at 6 bytes) ∷ on_epoch ∷ []) e in
    let turn = none-first (turn_check shape (number_at 6 bytes)) (on_epoch ∷ []) client.1 in
    let epoch = none-first on_epoch [] turn.1 in
    record { client_fits = ltb-true _ _ client.0; turn_fits = ltb-true _ _ turn.0; epoch_fits = leb-true _ _ epoch.0 }

pub asker_passes : (shape : Shape) (bytes : List ℕ) → AskerFits shape (number_at 2 bytes) (number_at 6 bytes) (number_at 10 bytes) →
    first_fault (asker_checks shape bytes) ≡ None
asker_passes shape bytes fits =
    let on_epoch = check_on name.Epoch (number_at 10 bytes) _ in
    none-both (client_check shape (number_at 2 bytes)) (turn_check shape (number_at 6 bytes) ∷ on_epoch ∷ []) (lt-ltb _ _ fits.client_fits)
    (none-both (turn_check shape (number_at 6 bytes)) (on_epoch ∷ []) (lt-ltb _ _ fits.turn_fits)
    (none-both on_epoch [] (le-leb _ _ fits.epoch_fits) refl))

-- whom a frame names, and what comes after that
pub asker-join : (bytes : List ℕ) → IsBytes bytes → 14 ≤ length bytes →
    be32 (number_at 2 bytes) ++ (be32 (number_at 6 bytes) ++ (be32 (number_at 10 bytes) ++ drop 14 bytes)) ≡ drop 2 bytes
asker-join bytes fits le =
    let at2 = number-join 2 6 bytes fits refl (omega arith) in
    let at6 = number-join 6 10 bytes fits refl (omega arith) in
    let at10 = number-join 10 14 bytes fits refl le in
    ap (λ rest. be32 (number_at 2 bytes) ++ (be32 (number_at 6 bytes) ++ rest)) at10
    ∙ ap (λ rest. be32 (number_at 2 bytes) ++ rest) at6
    ∙ at2

-- the same where that stands in parts
pub parts-join : (bytes parts : List ℕ) → IsBytes bytes → 14 ≤ length bytes → parts ≡ drop 14 bytes →
    be32 (number_at 2 bytes) ++ (be32 (number_at 6 bytes) ++ (be32 (number_at 10 bytes) ++ parts)) ≡ drop 2 bytes
parts-join bytes parts fits le joined =
    ap (λ rest. be32 (number_at 2 bytes) ++ (be32 (number_at 6 bytes) ++ (be32 (number_at 10 bytes) ++ rest))) joined
    ∙ asker-join bytes fits le

pub record AskerAgain (bytes : List ℕ) (client turn epoch : ℕ) : Type 0 where
  pub client_again : number_at 2 bytes ≡ client
  pub turn_again : number_at 6 bytes ≡ turn
  pub epoch_again : number_at 10 bytes ≡ epoch

pub asker-again : (shape : Shape) (kind client turn epoch : ℕ) (rest : List ℕ) → AskerFits shape client turn epoch →
    AskerAgain (kind ∷ 1 ∷ (be32 client ++ (be32 turn ++ (be32 epoch ++ rest)))) client turn epoch
asker-again shape kind client turn epoch rest fits =
    record {
      client_again = from_be_bytes-to_be_bytes_4 client (omega (arith, fits.client_fits, shape.in_range.clients_high));
      turn_again = from_be_bytes-to_be_bytes_4 turn (omega (arith, fits.turn_fits, turn_count_small shape));
      epoch_again = from_be_bytes-to_be_bytes_4 epoch (omega (arith, fits.epoch_fits, shape.in_range.phases_high));
    }

-- ---- any kind and length

-- what bytes are that pass
pub record StandAsked (shape : Shape) (want kind : ℕ) (bytes : List ℕ) : Type 0 where
  pub long : length bytes ≡ want
  pub asker : AskerFits shape (number_at 2 bytes) (number_at 6 bytes) (number_at 10 bytes)
  pub spelled : bytes ≡ asked_frame kind (number_at 2 bytes) (number_at 6 bytes) (number_at 10 bytes) (drop 14 bytes)

pub asked_stands : (shape : Shape) (want kind : ℕ) (bytes : List ℕ) → IsBytes bytes → 14 ≤ want →
    first_fault (asked_checks shape want kind bytes) ≡ None → StandAsked shape want kind bytes
asked_stands shape want kind bytes fits low e =
    let head = head_stands want kind bytes (asker_checks shape bytes) e in
    let long = head.0.long in
    record {
      long = long;
      asker = asker_stands shape bytes head.1;
      spelled =
          head-join kind bytes (omega (arith, long, low)) head.0.first head.0.second
          ∙ ap (λ xs. kind ∷ 1 ∷ xs) (sym (asker-join bytes fits (omega (arith, long, low))));
    }

pub asked_passes : (shape : Shape) (want kind client turn epoch : ℕ) (rest : List ℕ) → AskerFits shape client turn epoch →
    14 + length rest ≡ want →
    first_fault (asked_checks shape want kind (asked_frame kind client turn epoch rest)) ≡ None
asked_passes shape want kind client turn epoch rest fits long =
    let bytes = asked_frame kind client turn epoch rest in
    let again = asker-again shape kind client turn epoch rest fits in
    head_passes want kind bytes (asker_checks shape bytes)
    (record { long = omega (arith, long); first = refl; second = refl })
    (asker_passes shape bytes (record {
      client_fits = subst (λ n. n < shape.clients) (sym again.client_again) fits.client_fits;
      turn_fits = subst (λ n. n < turn_count shape) (sym again.turn_again) fits.turn_fits;
      epoch_fits = subst (λ n. n ≤ shape.phases) (sym again.epoch_again) fits.epoch_fits;
    }))
