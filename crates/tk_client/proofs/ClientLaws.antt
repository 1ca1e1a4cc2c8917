-- What a client keeps through a read.
use Rattle.std.proofs.Common.{◌≡◌, refl, sym, subst, cond, true, false, ℕ, ◌+◌, ◌<◌}
use Rattle.std.proofs.Common.{Option, Some, None, List, length, map}
use Rattle.std.specs.Prelude.{◌==◌}
use Rattle.std.proofs.lemmas.List.{length-map}
use Rattle.std.proofs.lemmas.List.Elements.{All-map, All-set}
use Rattle.tk_shape.specs.declared.shape.Shape.{Shape}
use Rattle.tk_client.specs.declared.open_read.OpenRead.{OpenRead}
use Rattle.tk_client.specs.Reader.{Follow, Reader, Target, new_follow, untried, follow_after, follow_at}
use Rattle.tk_client.specs.Reader.{at_epoch, after_read}
use Rattle.tk_client.specs.Searching.{AreBelow, IsTargetOrNone}
use Rattle.tk_client.specs.Client.{IsOpenOrNone}

-- what the read is for that is kept
pub open-target : (shape : Shape) (count : ℕ) (kept : Option OpenRead) (o : OpenRead) →
    kept ≡ Some o → IsOpenOrNone shape count kept →
    IsTargetOrNone shape count o.target
open-target shape count kept o is target =
    subst (λ (k : Option OpenRead). IsOpenOrNone shape count k) is target

-- ---- the logs of a reader stay below

below-untried : (logs : ℕ) (fs : List Follow) → AreBelow logs fs → AreBelow logs (map untried fs)
below-untried logs fs below = All-map (λ (f : Follow). f.log < logs) untried fs below

below-epoch : (logs e : ℕ) (r : Reader) → AreBelow logs r.follows →
    AreBelow logs (at_epoch e r).follows
below-epoch logs e r below =
    let later : Reader = record { follows = map untried r.follows; cursor = r.cursor; last = e } in
    elim (e == r.last) as (λ b. AreBelow logs (cond b r later).follows)
    [ true ↦ below | false ↦ below-untried logs r.follows below ]

same_log : (shape : Shape) (j : ℕ) (answer : Option (List ℕ)) (f : Follow) →
    (follow_after shape j answer f).log ≡ f.log
same_log shape j (Some text) f = refl
same_log shape j None f =
    let tried : Follow = record f { tried = j + 1 } in
    elim (shape.ahead == 0) as (λ b. (cond b f tried).log ≡ f.log)
    [ true ↦ refl | false ↦ refl ]

below-read : (shape : Shape) (r : Reader) (t : Option Target) (answer : Option (List ℕ)) →
    IsTargetOrNone shape (length r.follows) t → AreBelow shape.logs r.follows →
    AreBelow shape.logs (after_read shape r t answer).follows
unfolding after_read
below-read shape r None answer is below = below
below-read shape r (Some t) answer is below =
    let f = follow_at r t.place in
    let here : (follow_after shape t.ahead answer f).log < shape.logs =
    subst (λ n. n < shape.logs) (sym (same_log shape t.ahead answer f))
    (below t.place (new_follow 0) is.place)
    in
    All-set (λ (g : Follow). g.log < shape.logs) r.follows t.place _ here below

length-epoch : (e : ℕ) (r : Reader) → length (at_epoch e r).follows ≡ length r.follows
length-epoch e r =
    let later : Reader = record { follows = map untried r.follows; cursor = r.cursor; last = e } in
    elim (e == r.last) as (λ b. length (cond b r later).follows ≡ length r.follows)
    [ true ↦ refl | false ↦ length-map r.follows untried ]

pub below-after : (shape : Shape) (e : ℕ) (r new : Reader) (t : Option Target)
    (answer : Option (List ℕ)) → new ≡ after_read shape (at_epoch e r) t answer →
    IsTargetOrNone shape (length r.follows) t → AreBelow shape.logs r.follows →
    AreBelow shape.logs new.follows
below-after shape e r new t answer is target below =
    subst (λ (s : Reader). AreBelow shape.logs s.follows) (sym is)
    (below-read shape (at_epoch e r) t answer
    (subst (λ n. IsTargetOrNone shape n t) (sym (length-epoch e r)) target)
    (below-epoch shape.logs e r below))
