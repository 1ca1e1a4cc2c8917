-- Each station has what its server replies.
use Rattle.std.proofs.Common.{◌≡◌, ◌<◌, ℕ, suc, zero, List, [], ◌∷◌, ap, sym, ◌∙◌, subst, arith, length, map}
use Rattle.std.specs.Prelude.{slice_index_or}
use Rattle.std.proofs.lemmas.List.{length-map, with_items_is}
use Rattle.tk_run.specs.declared.stations.Station.{Station}
use Rattle.tk_run.specs.Answering.{Replies, AllReply, AreReplies}
use Rattle.tk_run.specs.Ranging.{bytes_made}
use Rattle.tk_run.proofs.answers.answers_from.Goals as goal

-- what is true of each place is true of it in a mapped list
at-map : {X Y : Type 0} (P : ℕ → Y → Type 0) (f : X → Y) (xs : List X) →
    ((i : ℕ) (d : X) → i < length xs → P i (f (slice_index_or xs i d))) →
    (i : ℕ) (d : Y) → i < length (map f xs) → P i (slice_index_or (map f xs) i d)
at-map P f [] each i d low = absurd (omega (arith, low))
at-map P f (x ∷ xs) each zero d low = each 0 x (omega arith)
at-map P f (x ∷ xs) each (suc i) d low =
    at-map (λ k. P (suc k)) f xs (λ k e less. each (suc k) e (omega (arith, less))) i d
    (omega (arith, low))

pub reply_at-requires-clause-asked : goal.reply_at-requires-clause-asked
reply_at-requires-clause-asked g c κs within = (
  c.requires.asked.0,
  ap length c.as_mut_slice.ensures.value ∙ c.in_ok-stations.ensures ∙ c.requires.asked.1,
  c.requires.asked.2,
)

pub returns-clause-counted : goal.returns-clause-counted
returns-clause-counted g c =
    let new = c.reply_at.new.stations in
    let same : length new ≡ c.in_ok-stations.stations.len =
    c.reply_at.ensures.counted ∙ ap length c.as_mut_slice.ensures.value
    ∙ sym c.in_ok-stations.stations.ok.0
    in
    let answers : c.in_ok-after.answers.items ≡ map (λ (s : Station). s.replies) new =
    c.in_ok-after.ensures
    ∙ ap (map (λ (s : Station). s.replies)) (with_items_is c.in_ok-stations.stations new same)
    in
    ap length answers ∙ length-map new (λ (s : Station). s.replies) ∙ same
    ∙ c.in_ok-stations.stations.ok.0 ∙ c.in_ok-stations.ensures

pub returns-clause-replies : goal.returns-clause-replies
returns-clause-replies g c =
    let new = c.reply_at.new.stations in
    let rs = c.args.readings.now in
    let same : length new ≡ c.in_ok-stations.stations.len =
    c.reply_at.ensures.counted ∙ ap length c.as_mut_slice.ensures.value
    ∙ sym c.in_ok-stations.stations.ok.0
    in
    let answers : c.in_ok-after.answers.items ≡ map (λ (s : Station). s.replies) new =
    c.in_ok-after.ensures
    ∙ ap (map (λ (s : Station). s.replies)) (with_items_is c.in_ok-stations.stations new same)
    in
    let due = bytes_made (g.A.Sums.sum c.args.sums.now) c.args.crew.shards in
    subst (AllReply due rs) (sym answers)
    (at-map {Y = Replies} (λ i replies. AreReplies due i rs replies) (λ (s : Station). s.replies) new
    c.reply_at.ensures.replies)
