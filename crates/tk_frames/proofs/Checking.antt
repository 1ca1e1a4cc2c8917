-- Checks one after another, as a decoder makes them.
use Rattle.std.proofs.Common.{◌≡◌, ℕ, suc, ◌-◌, ◌+◌, ◌<◌, ◌≤◌, Bool, true, false, cond, ltb, List, [], ◌∷◌, ◌++◌, map, drop, Option, Some, None, refl, sym, ap, ◌∙◌, arith}
use Rattle.std.specs.List.{AllByRecursion}
use Rattle.std.proofs.lemmas.Bool.{ltb-true, lt-ltb, cond-true}
use Rattle.tk_shape.specs.declared.shape.Shape.{Shape}
use Rattle.tk_frames.specs.declared.fault.FrameError.{FrameError}
use Rattle.tk_frames.specs.declared.fault.FrameError.TheVariants as fault
use Rattle.tk_frames.specs.declared.fault.Name.TheVariants as name
use Rattle.tk_frames.specs.Fields.{number_at, numbers}
use Rattle.tk_frames.specs.Faults.{Check, first_fault, hit_check}

-- after a check that is passed, and after one that isn't
pub passes : (b : Bool) (x : Option FrameError) (f : FrameError) → None ≡ cond b None (Some f) → cond b x (Some f) ≡ x
passes true x f e = refl
passes false x f e = absurd cc

pub fails : (b : Bool) (x : Option FrameError) (f d : FrameError) → Some d ≡ cond b None (Some f) → cond b x (Some f) ≡ Some d
fails true x f d e = absurd cc
fails false x f d e = sym e

-- after checks that are passed
pub first_fault-after : (a b : List Check) → None ≡ first_fault a → first_fault (a ++ b) ≡ first_fault b
first_fault-after [] b e = refl
first_fault-after (c ∷ cs) b e =
    elim c.passed as (λ ok. None ≡ cond ok (first_fault cs) (Some c.fault) → cond ok (first_fault (cs ++ b)) (Some c.fault) ≡ first_fault b)
    [ true ↦ λ rest. first_fault-after cs b rest | false ↦ λ none. absurd cc ] e

-- No check fails exactly where the first is passed and none of the others fails.
pub none-first : (c : Check) (cs : List Check) → first_fault (c ∷ cs) ≡ None → (c.passed ≡ true) × (first_fault cs ≡ None)
none-first c cs e =
    elim c.passed as (λ ok. cond ok (first_fault cs) (Some c.fault) ≡ None → (ok ≡ true) × (first_fault cs ≡ None))
    [ true ↦ λ rest. (refl, rest) | false ↦ λ some. absurd cc ] e

pub none-both : (c : Check) (cs : List Check) → c.passed ≡ true → first_fault cs ≡ None → first_fault (c ∷ cs) ≡ None
none-both c cs passed rest = cond-true c.passed (first_fault cs) (Some c.fault) passed ∙ rest

-- ---- hits, one after another

pub hits_below : (shape : Shape) (hits : List ℕ) → first_fault (map (hit_check shape) hits) ≡ None → AllByRecursion (λ h. h < shape.filter_bits) hits
hits_below shape [] e = tt
hits_below shape (h ∷ hs) e =
    let p = none-first (hit_check shape h) (map (hit_check shape) hs) e in
    (ltb-true h shape.filter_bits p.0, hits_below shape hs p.1)

pub hits_pass : (shape : Shape) (hits : List ℕ) → AllByRecursion (λ h. h < shape.filter_bits) hits → first_fault (map (hit_check shape) hits) ≡ None
hits_pass shape [] fits = refl
hits_pass shape (h ∷ hs) fits =
    none-both (hit_check shape h) (map (hit_check shape) hs) (lt-ltb h shape.filter_bits fits.0) (hits_pass shape hs fits.1)

abbrev pub hits_fault : Shape → ℕ → List ℕ → Option FrameError
hits_fault shape count bytes = first_fault (map (hit_check shape) (numbers count bytes))

pub hits_fault-next : (shape : Shape) (count : ℕ) (bytes : List ℕ) →
    hits_fault shape (suc count) bytes ≡
    cond (ltb (number_at 0 bytes) shape.filter_bits) (hits_fault shape count (drop 4 bytes)) (Some (fault.Field name.Hit (number_at 0 bytes)))
unfolding numbers
hits_fault-next shape count bytes = refl

pub hits_fault-none : (shape : Shape) (count i : ℕ) (bytes : List ℕ) → count ≤ i → hits_fault shape (count - i) bytes ≡ None
unfolding numbers
hits_fault-none shape count i bytes le = let k : count - i ≡ 0 = omega arith in rw k refl

-- the fault of the hits that are left, after a hit n that is passed, and at one that isn't
pub goes_on : (shape : Shape) (count i n : ℕ) (bytes rest : List ℕ) (total : Option FrameError) → i < count → n ≡ number_at 0 bytes →
    None ≡ cond (ltb n shape.filter_bits) None (Some (fault.Field name.Hit n)) →
    rest ≡ drop 4 bytes → total ≡ hits_fault shape (count - i) bytes → total ≡ hits_fault shape (count - (i + 1)) rest
goes_on shape count i n bytes rest total lt read passed at_rest so_far =
    let k : count - i ≡ suc (count - (i + 1)) = omega arith in
    let after = λ (m : ℕ). cond (ltb m shape.filter_bits) (hits_fault shape (count - (i + 1)) (drop 4 bytes)) (Some (fault.Field name.Hit m)) in
    so_far
    ∙ ap (λ m. hits_fault shape m bytes) k
    ∙ hits_fault-next shape (count - (i + 1)) bytes
    ∙ ap after (sym read)
    ∙ passes _ (hits_fault shape (count - (i + 1)) (drop 4 bytes)) _ passed
    ∙ ap (hits_fault shape (count - (i + 1))) (sym at_rest)

pub stops : (shape : Shape) (count i n : ℕ) (bytes : List ℕ) (total : Option FrameError) (d : FrameError) → i < count → n ≡ number_at 0 bytes →
    Some d ≡ cond (ltb n shape.filter_bits) None (Some (fault.Field name.Hit n)) →
    total ≡ hits_fault shape (count - i) bytes → total ≡ Some d
stops shape count i n bytes total d lt read failed so_far =
    let k : count - i ≡ suc (count - (i + 1)) = omega arith in
    let after = λ (m : ℕ). cond (ltb m shape.filter_bits) (hits_fault shape (count - (i + 1)) (drop 4 bytes)) (Some (fault.Field name.Hit m)) in
    so_far
    ∙ ap (λ m. hits_fault shape m bytes) k
    ∙ hits_fault-next shape (count - (i + 1)) bytes
    ∙ ap after (sym read)
    ∙ fails _ (hits_fault shape (count - (i + 1)) (drop 4 bytes)) _ d failed
