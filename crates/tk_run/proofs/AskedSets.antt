-- What a client asks in a turn is asked of the set of its epoch.
use Rattle.std.proofs.Common.{◌≡◌, refl, sym, ◌∙◌, subst, arith, ℕ, zero, suc, List, [], ◌∷◌, map, All}
use Rattle.std.specs.List.{AllByRecursion}
use Rattle.tk_shape.specs.declared.shape.Shape.{Shape}
use Rattle.tk_schedule.specs.declared.history.History.{History}
use Rattle.tk_schedule.specs.Schedule.{epoch_at}
use Rattle.tk_script.specs.declared.script.Script.{Script}
use Rattle.tk_words.specs.Words.{WordBook}
use Rattle.tk_frames.specs.declared.read_frame.ReadFrame.{ReadFrame}
use Rattle.tk_frames.specs.Ranges.{IsRead}
use Rattle.tk_frames.specs.Spelling.{read_frame}
use Rattle.tk_client.specs.Asked.{frame_with}
use Rattle.tk_report.specs.Serving.{Serving, read_under}
use Rattle.tk_cluster.specs.declared.set.EpochSet.{EpochSet}
use Rattle.tk_cluster.specs.Refusals.{IsAsked}

-- all reads of a client in a turn name one epoch
reads-named : (S : Script) (b : WordBook) (H : History) (V : Serving) (g c : ℕ) (js : List ℕ) →
    AllByRecursion (λ (r : ReadFrame). r.epoch ≡ epoch_at H g c) (map (read_under S b H V g c) js)
unfolding frame_with
reads-named S b H V g c [] = tt
reads-named S b H V g c (j ∷ js) = (refl, reads-named S b H V g c js)

-- reads in range that name the epoch of a set are asked of it
asked-of_set : (set : EpochSet) (reads : List ReadFrame) (e : ℕ) → e ≡ set.number →
    AllByRecursion (IsRead set.shape) reads →
    AllByRecursion (λ (r : ReadFrame). r.epoch ≡ e) reads → All (IsAsked set) (map read_frame reads)
asked-of_set set [] e number in_range named k d low = absurd (omega (arith, low))
asked-of_set set (r ∷ reads) e number in_range named zero d low =
    record {
      read = r;
      spells = record { in_range = in_range.0; spelled = refl };
      named = named.0 ∙ number;
    }
asked-of_set set (r ∷ reads) e number in_range named (suc k) d low =
    asked-of_set set reads e number in_range.1 named.1 k d (omega (arith, low))

pub asked-of : (S : Script) (b : WordBook) (H : History) (V : Serving) (g c : ℕ) (js : List ℕ)
    (set : EpochSet) →
    set.shape ≡ S.shape → epoch_at H g c ≡ set.number →
    AllByRecursion (IsRead S.shape) (map (read_under S b H V g c) js) →
    All (IsAsked set) (map read_frame (map (read_under S b H V g c) js))
asked-of S b H V g c js set same number in_range =
    asked-of_set set (map (read_under S b H V g c) js) (epoch_at H g c) number
    (subst (λ (x : Shape). AllByRecursion (IsRead x) (map (read_under S b H V g c) js)) (sym same)
    in_range)
    (reads-named S b H V g c js)
