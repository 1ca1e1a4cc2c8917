-- Frames that are answered together.
use Rattle.std.proofs.Common.{◌*◌, ◌≡◌, ℕ, zero, suc, ◌<◌, inl, inr, refl, ap, ap₂, sym, ◌∙◌, arith}
use Rattle.std.proofs.Common.{subst, List, [], ◌∷◌, ◌++◌, length, take, map, Option, Some, None, ◌≢◌, Bool, cond}
use Rattle.std.proofs.lemmas.Bool.{eq-eqb, ne_eqb}
use Rattle.std.specs.Prelude.{slice_index_or}
use Rattle.std.specs.Option.{option_or}
use Rattle.std.specs.List.{All}
use Rattle.std.proofs.lemmas.List.{map-append}
use Rattle.tk_shape.specs.declared.shape.Shape.{Shape}
use Rattle.tk_shape.specs.Lengths.{vector_len, width}
use Rattle.tk_kernel.specs.Chosen.{chosen_sum}
use Rattle.tk_frames.specs.declared.entry.Placed.{Placed}
use Rattle.tk_frames.specs.declared.fault.FrameError.{FrameError}
use Rattle.tk_frames.specs.declared.fault.FrameError.TheVariants.{Length, Kind, Version, Field}
use Rattle.tk_frames.specs.declared.fault.FrameError.TheVariants as faults
use Rattle.tk_frames.specs.declared.read_frame.ReadFrame.{ReadFrame}
use Rattle.tk_frames.specs.Faults.{first_fault, read_checks, IsRefusal}
use Rattle.tk_frames.specs.Fields.{read_in}
use Rattle.tk_frames.proofs.Offers.{read-again}
use Rattle.tk_frames.specs.Lists.{first_some}
use Rattle.tk_frames.specs.Order.{before}
use Rattle.tk_table.specs.Table.{layout, blocks_of}
use Rattle.tk_replica.specs.declared.asker.Asker.{Asker}
use Rattle.tk_replica.specs.Replies.{reply_bytes, asker_of, both_vectors, frames_with}
use Rattle.tk_replica.proofs.Offers.{both-push}
use Rattle.tk_cluster.specs.declared.error.AnswerError.{AnswerError}
use Rattle.tk_cluster.specs.declared.error.AnswerError.TheVariants.{Epoch as OtherEpoch}
use Rattle.tk_cluster.specs.declared.set.EpochSet.{EpochSet}
use Rattle.tk_cluster.specs.Refusals.{answer_error, refusal_behind, answer_refusal, first_unanswered}
use Rattle.tk_cluster.specs.Refusals.{other_epoch, SpellsRead, IsManyRefusal, IsAnswerRefusal, IsAsked}
use Rattle.tk_cluster.specs.Many.{NamesEpoch, AreNamed, AreReads}
use Rattle.tk_cluster.proofs.Replying.{reply-blocks}

-- ---- what is refused

told : (f : FrameError) (behind : Option AnswerError) →
    IsManyRefusal (refusal_behind (Some f) behind) (answer_error f)
told (Length want got) behind = inr refl
told (Kind got) behind = inr refl
told (Version got) behind = inr refl
told (Field name got) behind = inr refl
told faults.Memory behind = inl refl

-- a fault of the frame is told before anything else
pub refused-frame : (fault : Option FrameError) (error : FrameError) (behind : Option AnswerError) →
    IsRefusal fault error → IsManyRefusal (refusal_behind fault behind) (answer_error error)
refused-frame None error behind same = inl (ap answer_error same)
refused-frame (Some f) error behind same =
    subst (λ e. IsManyRefusal (refusal_behind (Some f) behind) (answer_error e)) (sym same)
    (told f behind)

-- and it is why the bytes aren't answered
module _ (shape : Shape) (number : ℕ) (bytes : List ℕ) where
  refusing : (f : FrameError) → first_fault (read_checks shape bytes) ≡ Some f →
      IsAnswerRefusal shape number bytes (answer_error f)
  refusing (Length want got) is = is
  refusing (Kind got) is = is
  refusing (Version got) is = is
  refusing (Field name got) is = is
  refusing faults.Memory is = tt

  pub refused-bytes : (fault : Option FrameError) (error : FrameError) →
      first_fault (read_checks shape bytes) ≡ fault → IsRefusal fault error →
      IsAnswerRefusal shape number bytes (answer_error error)
  refused-bytes None error is same =
      subst (λ e. IsAnswerRefusal shape number bytes (answer_error e)) (sym same) tt
  refused-bytes (Some f) error is same =
      subst (λ e. IsAnswerRefusal shape number bytes (answer_error e)) (sym same) (refusing f is)

-- the epoch that the bytes name is that of the read that they spell
epoch-spelled : (shape : Shape) (bytes : List ℕ) (r : ReadFrame) → SpellsRead shape bytes r →
    (read_in shape bytes).epoch ≡ r.epoch
epoch-spelled shape bytes r spells =
    ap (λ (q : ReadFrame). q.epoch)
    (ap (read_in shape) spells.spelled ∙ read-again shape r spells.in_range)

-- a read of the epoch is answered
pub answered : (shape : Shape) (number : ℕ) (bytes : List ℕ) (r : ReadFrame) →
    first_fault (read_checks shape bytes) ≡ None → SpellsRead shape bytes r →
    r.epoch ≡ number → answer_refusal shape number bytes ≡ None
answered shape number bytes r none spells named =
    ap₂ (λ (fault : Option FrameError) (e : ℕ). refusal_behind fault (other_epoch number e)) none
    (epoch-spelled shape bytes r spells ∙ named)
    ∙ ap (λ (b : Bool). cond b None (Some (OtherEpoch number number))) (eq-eqb number number refl)

-- and one of another epoch is refused for it
pub unanswered : (shape : Shape) (number : ℕ) (bytes : List ℕ) (r : ReadFrame) →
    first_fault (read_checks shape bytes) ≡ None → SpellsRead shape bytes r →
    r.epoch ≢ number → answer_refusal shape number bytes ≡ Some (OtherEpoch number r.epoch)
unanswered shape number bytes r none spells other =
    ap₂ (λ (fault : Option FrameError) (e : ℕ). refusal_behind fault (other_epoch number e)) none
    (epoch-spelled shape bytes r spells)
    ∙ ap (λ (b : Bool). cond b None (Some (OtherEpoch number r.epoch)))
    (ne_eqb r.epoch number other)

module _ {X Y : Type 0} (f : X → Option Y) where
  -- after some that give nothing comes the one that gives y
  first-at : (xs : List X) (i : ℕ) (x : X) (y : Y) → first_some f (take i xs) ≡ None →
      i < length xs → x ≡ slice_index_or xs i x → f x ≡ Some y → first_some f xs ≡ Some y
  first-at [] i x y none low at is = absurd (omega (arith, low))
  first-at (z ∷ xs) zero x y none low at is =
      ap (λ o. option_or o (first_some f xs)) (ap f (sym at) ∙ is)
  first-at (z ∷ xs) (suc i) x y none low at is =
      elim (f z) as (λ o. option_or o (first_some f (take i xs)) ≡ None →
      option_or o (first_some f xs) ≡ Some y) [
        | None ↦ λ rest. first-at xs i x y rest (omega (arith, low)) at is
        | Some w ↦ λ h. absurd cc
      ] none

  -- one more that gives nothing
  pub first-push : (xs : List X) (x : X) → first_some f xs ≡ None → f x ≡ None →
      first_some f (xs ++ x ∷ []) ≡ None
  first-push [] x none is = ap (λ o. option_or o None) is
  first-push (z ∷ xs) x none is =
      elim (f z) as (λ o. option_or o (first_some f xs) ≡ None →
      option_or o (first_some f (xs ++ x ∷ [])) ≡ None) [
        | None ↦ λ rest. first-push xs x rest is
        | Some w ↦ λ h. absurd cc
      ] none

-- the first frame that is refused decides
pub refused-at : (shape : Shape) (number : ℕ) (frames : List (List ℕ)) (i : ℕ) (frame : List ℕ)
    (error : AnswerError) → first_unanswered shape number (take i frames) ≡ None →
    i < length frames → frame ≡ slice_index_or frames i frame →
    IsManyRefusal (answer_refusal shape number frame) error →
    IsManyRefusal (first_unanswered shape number frames) error
refused-at shape number frames i frame error none low at refused = elim refused [
  | inl memory ↦ inl memory
  | inr is ↦ inr (first-at (answer_refusal shape number) frames i frame error none low at is)
]

-- ---- what is asked

module _ (shape : Shape) (number : ℕ) where
  named-push : (fs : List (List ℕ)) (rs : List ReadFrame) (f : List ℕ) (r : ReadFrame) →
      AreNamed shape number fs rs → NamesEpoch shape number f r →
      AreNamed shape number (fs ++ f ∷ []) (rs ++ r ∷ [])
  named-push [] [] f r named one = (one, tt)
  named-push (x ∷ fs) (y ∷ rs) f r named one = (named.0, named-push fs rs f r named.1 one)
  named-push (x ∷ fs) [] f r named one = absurd named
  named-push [] (y ∷ rs) f r named one = absurd named

  -- one more read
  pub reads-push : (fs : List (List ℕ)) (askers : List Asker) (vectors : List (List ℕ))
      (f : List ℕ) (r : ReadFrame) → AreReads shape number fs askers vectors →
      NamesEpoch shape number f r →
      AreReads shape number (fs ++ f ∷ []) (askers ++ asker_of r ∷ [])
      (vectors ++ r.first ∷ r.second ∷ [])
  reads-push fs askers vectors f r are one =
      record {
        reads = are.reads ++ r ∷ [];
        spelled = named-push fs are.reads f r are.spelled one;
        askers_are =
            ap (λ (left : List Asker). left ++ asker_of r ∷ []) are.askers_are
            ∙ sym (map-append asker_of are.reads (r ∷ []));
        vectors_are =
            ap (λ (vs : List (List ℕ)). vs ++ r.first ∷ r.second ∷ []) are.vectors_are
            ∙ sym (both-push are.reads r);
      }

  -- each vector is as long as the shape says
  vectors-long : (fs : List (List ℕ)) (rs : List ReadFrame) → AreNamed shape number fs rs →
      All (λ (v : List ℕ). length v ≡ vector_len shape) (both_vectors rs)
  vectors-long fs [] named k d low = absurd (omega (arith, low))
  vectors-long [] (r ∷ rs) named k d low = absurd named
  vectors-long (f ∷ fs) (r ∷ rs) named zero d low = named.0.spells.in_range.first_len
  vectors-long (f ∷ fs) (r ∷ rs) named (suc zero) d low = named.0.spells.in_range.second_len
  vectors-long (f ∷ fs) (r ∷ rs) named (suc (suc k)) d low =
      vectors-long fs rs named.1 k d (omega (arith, low))

  pub reads-long : (fs : List (List ℕ)) (askers : List Asker) (vectors : List (List ℕ)) →
      AreReads shape number fs askers vectors →
      All (λ (v : List ℕ). length v ≡ vector_len shape) vectors
  reads-long fs askers vectors are =
      subst (All (λ (v : List ℕ). length v ≡ vector_len shape)) (sym are.vectors_are)
      (vectors-long fs are.reads are.spelled)

-- each frame is asked of the set
asked-each : (set : EpochSet) (fs : List (List ℕ)) (rs : List ReadFrame) →
    AreNamed set.shape set.number fs rs → All (IsAsked set) fs
asked-each set [] rs named k d low = absurd (omega (arith, low))
asked-each set (f ∷ fs) [] named k d low = absurd named
asked-each set (f ∷ fs) (r ∷ rs) named zero d low =
    record { read = r; spells = named.0.spells; named = named.0.named }
asked-each set (f ∷ fs) (r ∷ rs) named (suc k) d low =
    asked-each set fs rs named.1 k d (omega (arith, low))

pub reads-asked : (set : EpochSet) (fs : List (List ℕ)) (askers : List Asker)
    (vectors : List (List ℕ)) → AreReads set.shape set.number fs askers vectors →
    All (IsAsked set) fs
reads-asked set fs askers vectors are = asked-each set fs are.reads are.spelled

-- ---- what is replied

-- two sums for each asker
two-each : (f : List ℕ → List ℕ) (rs : List ReadFrame) →
    length (map f (both_vectors rs)) ≡ 2 * length (map asker_of rs)
two-each f [] = refl
two-each f (r ∷ rs) = omega (arith, two-each f rs)

pub two-sums : (shape : Shape) (number : ℕ) (f : List ℕ → List ℕ) (fs : List (List ℕ))
    (askers : List Asker) (vectors sums : List (List ℕ)) → AreReads shape number fs askers vectors →
    sums ≡ map f vectors → length sums ≡ 2 * length askers
two-sums shape number f fs askers vectors sums are summed =
    ap length (summed ∙ ap (map f) are.vectors_are)
    ∙ two-each f are.reads
    ∙ ap (λ (left : List Asker). 2 * length left) (sym are.askers_are)

module _ (shape : Shape) (E : List Placed) (e n : ℕ) (bs : List (List ℕ)) (wide : n ≡ width shape)
    (laid : bs ≡ blocks_of (layout shape (before E e))) where
  frames-due : (fs : List (List ℕ)) (rs : List ReadFrame) → AreNamed shape e fs rs →
      frames_with (map asker_of rs) (map (chosen_sum n bs) (both_vectors rs))
      ≡ map (reply_bytes shape E) fs
  frames-due [] [] named = refl
  frames-due (f ∷ fs) (r ∷ rs) named =
      ap₂ (λ (x : List ℕ) (xs : List (List ℕ)). x ∷ xs)
      (reply-blocks shape E e n bs f r wide laid named.0.named named.0.spells)
      (frames-due fs rs named.1)
  frames-due (f ∷ fs) [] named = absurd named
  frames-due [] (r ∷ rs) named = absurd named

  -- the frames made of all sums are the replies to the frames
  pub replies-due : (fs : List (List ℕ)) (askers : List Asker) (vectors sums : List (List ℕ)) →
      AreReads shape e fs askers vectors → sums ≡ map (chosen_sum n bs) vectors →
      frames_with askers sums ≡ map (reply_bytes shape E) fs
  replies-due fs askers vectors sums are summed =
      ap₂ (λ (left : List Asker) (xs : List (List ℕ)). frames_with left xs) are.askers_are
      (summed ∙ ap (map (chosen_sum n bs)) are.vectors_are)
      ∙ frames-due fs are.reads are.spelled
