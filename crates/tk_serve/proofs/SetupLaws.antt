-- The shape that 52 bytes tell.
use Rattle.std.proofs.Common.{◌≡◌, ℕ, zero, suc, ◌+◌, ◌*◌, ◌^◌, ◌<◌, ◌≤◌, refl, ap, ap₂, sym, ◌∙◌, arith, subst, List}
use Rattle.std.proofs.Common.{[], ◌∷◌, ◌++◌, length, take, drop, Some, None}
use Rattle.std.specs.Prelude.{false, Option, IfSome, IfNone, Result, Ok, Err, IfOk, IfErr}
use Rattle.std.specs.Result.{result_ok}
use Rattle.std.specs.List.{flat_map, AllByRecursion}
use Rattle.std.proofs.lemmas.Nat.{be_bytes_4, from_be_bytes-to_be_bytes_4}
use Rattle.std.proofs.Math.Nat.{mul-le-mul_left}
use Rattle.std.proofs.lemmas.List.{length-take, length-drop, take-append-drop, drop-drop, drop_all}
use Rattle.tk_shape.specs.declared.shape.Shape.{Shape}
use Rattle.tk_shape.specs.Numbers.{numbers_of, format_and_numbers}
use Rattle.tk_shape.specs.declared.shape.ShapeError.{ShapeError}
use Rattle.tk_shape.specs.Limits.{broken, numbers_in, limit}
use Rattle.tk_shape.proofs.Offers.{none_broken}
use Rattle.tk_frames.specs.Spelling.{be32}
use Rattle.tk_frames.specs.Fields.{number_at, numbers}
use Rattle.tk_frames.proofs.Offers.{IsBytes, IsBytes-drop, IsBytes-take}
use Rattle.tk_packets.specs.Packets.{PacketView}
use Rattle.tk_serve.specs.Setup.{setup, setup_bytes}

-- so many numbers in bytes spell these bytes
numbers-spelled : (count : ℕ) (bytes : List ℕ) → IsBytes bytes → length bytes ≡ 4 * count →
    flat_map be32 (numbers count bytes) ≡ bytes
unfolding numbers
numbers-spelled zero bytes fits long = sym (drop_all 0 bytes (omega (arith, long)))
numbers-spelled (suc count) bytes fits long =
    let front : be32 (number_at 0 bytes) ≡ take 4 bytes =
    be_bytes_4 (take 4 bytes) _ (omega (arith, length-take 4 bytes, long)) (IsBytes-take 4 bytes fits) refl
    in
    ap₂ (λ (a b : List ℕ). a ++ b) front
    (numbers-spelled count (drop 4 bytes) (IsBytes-drop 4 bytes fits) (omega (arith, length-drop 4 bytes, long)))
    ∙ take-append-drop 4 bytes

-- 52 bytes whose first number is a shape's format and whose others are its numbers set it up
pub spells-setup : (shape : Shape) (bytes : List ℕ) → IsBytes bytes → length bytes ≡ 52 →
    shape.format ≡ number_at 0 bytes → numbers_of shape ≡ numbers 12 (drop 4 bytes) → bytes ≡ setup_bytes shape
unfolding setup_bytes numbers
spells-setup shape bytes fits long format others =
    sym (ap₂ (λ (n : ℕ) (ns : List ℕ). flat_map be32 (n ∷ ns)) format others
    ∙ numbers-spelled 13 bytes fits long)

-- ---- what sets a shape up tells its format and its numbers

numbers-read : (ns : List ℕ) → AllByRecursion (λ n. n < 2 ^ 32) ns → numbers (length ns) (flat_map be32 ns) ≡ ns
unfolding numbers
numbers-read [] fits = refl
numbers-read (n ∷ ns) fits = rw (from_be_bytes-to_be_bytes_4 n fits.0, numbers-read ns fits.1) refl

small : (shape : Shape) → AllByRecursion (λ n. n < 2 ^ 32) (format_and_numbers shape)
small shape =
    let r = shape.in_range in (
      omega (arith, r.format_high),
      (
        omega (arith, r.servers_high),
        (
          omega (arith, r.buckets_high),
          (
            omega (arith, r.depth_high),
            (
              retained-small shape,
              (
                omega (arith, r.block_high),
                (
                  omega (arith, r.filter_high),
                  (
                    omega (arith, r.hits_high),
                    (
                      omega (arith, r.ahead_high),
                      (
                        omega (arith, r.clients_high),
                        (
                          omega (arith, r.phases_high),
                          (
                            omega (arith, r.ticks_high),
                            (omega (arith, r.logs_high), tt),
                          ),
                        ),
                      ),
                    ),
                  ),
                ),
              ),
            ),
          ),
        ),
      ),
    )
  where
    retained-small : (sh : Shape) → sh.retained < 2 ^ 32
    retained-small sh =
        let r = sh.in_range in
        omega (
          arith,
          r.retained_high,
          r.buckets_high,
          mul-le-mul_left {m = sh.depth} {n = 8} sh.buckets r.depth_high,
        )

pub setup-format : (shape : Shape) (bytes : List ℕ) → bytes ≡ setup_bytes shape → number_at 0 bytes ≡ shape.format
unfolding setup_bytes
setup-format shape bytes spelled =
    ap (number_at 0) spelled
    ∙ from_be_bytes-to_be_bytes_4 shape.format (omega (arith, shape.in_range.format_high))

pub setup-length : (shape : Shape) (bytes : List ℕ) → bytes ≡ setup_bytes shape → length bytes ≡ 52
unfolding setup_bytes
setup-length shape bytes spelled = ap length spelled

pub setup-numbers : (shape : Shape) (bytes : List ℕ) → bytes ≡ setup_bytes shape →
    numbers 12 (drop 4 bytes) ≡ numbers_of shape
unfolding setup_bytes numbers
setup-numbers shape bytes spelled =
    ap (λ (ns : List ℕ). drop 1 ns)
    (ap (numbers 13) spelled ∙ numbers-read (format_and_numbers shape) (small shape))

-- a shape's format and numbers break no limit
setup-unbroken : (shape : Shape) (bytes : List ℕ) → bytes ≡ setup_bytes shape →
    broken (numbers_in (number_at 0 bytes) (numbers 12 (drop 4 bytes))) ≡ None
setup-unbroken shape bytes spelled =
    ap₂ (λ (n : ℕ) (ns : List ℕ). broken (numbers_in n ns)) (setup-format shape bytes spelled)
    (setup-numbers shape bytes spelled)
    ∙ none_broken shape

pub setup-low : (shape : Shape) (bytes : List ℕ) → bytes ≡ setup_bytes shape → 1 ≤ number_at 0 bytes
setup-low shape bytes is = omega (arith, setup-format shape bytes is, shape.in_range.format_low)

pub setup-high : (shape : Shape) (bytes : List ℕ) → bytes ≡ setup_bytes shape → number_at 0 bytes ≤ 2
setup-high shape bytes is = omega (arith, setup-format shape bytes is, shape.in_range.format_high)

-- ---- number by number

pub numbers-step : (count place : ℕ) (bytes : List ℕ) →
    numbers (suc count) (drop place bytes) ≡ number_at place bytes ∷ numbers count (drop (place + 4) bytes)
unfolding numbers
numbers-step count place bytes =
    ap (λ xs. number_at place bytes ∷ numbers count xs) (drop-drop 4 place bytes)

pub numbers-end : (bytes : List ℕ) → numbers 0 (drop 52 bytes) ≡ []
unfolding numbers
numbers-end bytes = refl

-- ---- 52 bytes, of which the first four are the format

module _ (bytes : List ℕ) (format : ℕ) (ns : List ℕ) (fits : IsBytes bytes) (long : length bytes ≡ 52)
    (format_is : format ≡ number_at 0 bytes) (are : ns ≡ numbers 12 (drop 4 bytes)) where
  pub set_up-found : (o : Option Shape) (r : Result Shape ShapeError) → o ≡ result_ok r →
      IfOk r (λ s. s.format ≡ format) → IfOk r (λ s. numbers_of s ≡ ns) → IfSome o (λ s. bytes ≡ setup_bytes s)
  set_up-found o (Ok s) is same others =
      subst (λ x. IfSome x (λ t. bytes ≡ setup_bytes t)) (sym is)
      (spells-setup s bytes fits long (same ∙ format_is) (others ∙ are))
  set_up-found o (Err e) is same others = subst (λ x. IfSome x (λ t. bytes ≡ setup_bytes t)) (sym is) tt

  pub set_up-none : (o : Option Shape) (r : Result Shape ShapeError) → o ≡ result_ok r →
      IfErr r (λ e. broken (numbers_in format ns) ≡ Some (limit e.field e.value false)) →
      IfNone o ((shape : Shape) → bytes ≡ setup_bytes shape → ⊥)
  set_up-none o (Ok s) is none =
      subst (λ x. IfNone x ((shape : Shape) → bytes ≡ setup_bytes shape → ⊥)) (sym is) tt
  set_up-none o (Err e) is none =
      subst (λ x. IfNone x ((shape : Shape) → bytes ≡ setup_bytes shape → ⊥)) (sym is)
      (λ shape up.
      let both : Some (limit e.field e.value false) ≡ None =
      sym none ∙ ap₂ (λ (n : ℕ) (ms : List ℕ). broken (numbers_in n ms)) format_is are ∙ setup-unbroken shape bytes up
      in
      absurd (cc (both)))

-- ---- a packet of the host

pub setup-peer : (shape : Shape) (p : PacketView) → p ≡ setup shape → p.peer ≡ 0
setup-peer shape p is = ap (λ (q : PacketView). q.peer) is

module _ (p : PacketView) (bytes : List ℕ) (same : bytes ≡ p.bytes) where
  pub host-found : (o : Option Shape) → p.peer ≡ 0 → IfSome o (λ s. bytes ≡ setup_bytes s) →
      IfSome o (λ s. p ≡ setup s)
  host-found None host found = tt
  host-found (Some shape) host found =
      let spelled : p.bytes ≡ setup_bytes shape = sym same ∙ found in
      λ i. record { peer = host i; bytes = spelled i }

  pub host-none : (o : Option Shape) → IfNone o ((shape : Shape) → bytes ≡ setup_bytes shape → ⊥) →
      IfNone o ((shape : Shape) → p ≡ setup shape → ⊥)
  host-none None none = λ shape is. none shape (same ∙ ap (λ (q : PacketView). q.bytes) is)
  host-none (Some shape) none = tt
