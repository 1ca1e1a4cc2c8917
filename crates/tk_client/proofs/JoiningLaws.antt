-- The sum of replies grows reply by reply.
use Rattle.std.proofs.Common.{◌≡◌, refl, ap, sym, ◌∙◌, arith, ℕ, zero, suc, ◌+◌, ◌<◌}
use Rattle.std.proofs.Common.{List, [], ◌∷◌, ◌++◌, length, map, get_or, take, drop, replicate}
use Rattle.std.proofs.lemmas.List.{map_more, length-take-le, length-drop}
use Rattle.tk_shape.specs.declared.shape.Shape.{Shape}
use Rattle.tk_shape.specs.Lengths.{width}
use Rattle.tk_kernel.specs.Xor.{xor_bytes, xor_all}
use Rattle.tk_kernel.specs.Pieces.{AllSized}
use Rattle.tk_kernel.proofs.Offers.{xor_bytes-zeros, xor_all-append}
use Rattle.tk_frames.specs.declared.reply_frame.ReplyFrame.{ReplyFrame}
use Rattle.tk_frames.specs.Fields.{reply_in}
use Rattle.tk_client.specs.Replies.{frames_in, AreWholeReplies}

pub sized_part : {X : Type 0} (size : ℕ) (f : X → List ℕ) (xs : List X) (i : ℕ) (x : X) →
    AllSized size (map f xs) → i < length xs →
    x ≡ get_or xs i x → length (f x) ≡ size
sized_part size f [] i x h low is = absurd (omega (arith, low))
sized_part size f (y ∷ xs) zero x h low is = ap (λ z. length (f z)) is ∙ h.0
sized_part size f (y ∷ xs) (suc i) x h low is = sized_part size f xs i x h.1 (omega (arith, low)) is

pub sum_more : {X : Type 0} (size : ℕ) (f : X → List ℕ) (xs : List X) (i : ℕ) (x : X)
    (sum : List ℕ) → AllSized size (map f xs) →
    i < length xs → x ≡ get_or xs i x → sum ≡ xor_all size (map f (take i xs)) →
    xor_bytes sum (f x) ≡ xor_all size (map f (take (i + 1) xs))
sum_more size f xs i x sum h low is so_far =
    let long = sized_part size f xs i x h low is in
    let last : f (get_or xs i x) ≡ f x = ap f (sym is) in
    let one : xor_bytes (f x) (replicate size 0) ≡ f x =
    ap (λ n. xor_bytes (f x) (replicate n 0)) (sym long) ∙ xor_bytes-zeros (f x) in
    ap (λ s. xor_bytes s (f x)) so_far
    ∙ ap (xor_bytes (xor_all size (map f (take i xs)))) (sym one)
    ∙ sym (xor_all-append size (map f (take i xs)) (f x ∷ []) (long, tt))
    ∙ ap (λ y. xor_all size (map f (take i xs) ++ y ∷ [])) (sym last)
    ∙ ap (xor_all size) (sym (map_more f xs i x low))

-- ---- the replies have the blocks' length

pub firsts_sized : (shape : Shape) (replies : List (List ℕ)) → AreWholeReplies shape replies →
    AllSized (width shape) (map (λ b. (reply_in shape b).first) replies)
firsts_sized shape [] all = tt
firsts_sized shape (b ∷ bs) all =
    let long = all.0 in (
      length-take-le (width shape) (drop 14 b) (omega (arith, long, length-drop 14 b)),
      firsts_sized shape bs all.1,
    )

pub seconds_sized : (shape : Shape) (replies : List (List ℕ)) → AreWholeReplies shape replies →
    AllSized (width shape) (map (λ b. (reply_in shape b).second) replies)
seconds_sized shape [] all = tt
seconds_sized shape (b ∷ bs) all =
    let long = all.0 in (
      omega (arith, long, length-drop 14 b, length-drop (width shape) (drop 14 b)),
      seconds_sized shape bs all.1,
    )

-- the parts of frames that are read are those that lie in the replies
pub parts_in : (shape : Shape) (part : ReplyFrame → List ℕ) (replies : List (List ℕ)) →
    map (λ b. part (reply_in shape b)) replies ≡ map part (frames_in shape replies)
parts_in shape part [] = refl
parts_in shape part (b ∷ bs) =
    ap (λ (xs : List (List ℕ)). part (reply_in shape b) ∷ xs) (parts_in shape part bs)
