-- All servers but one see the same of two groups apart over as many tapes.
use Rattle.tk_meeting.proofs.Terms.{◌≡◌, ℕ, List, length, map, ◌∙◌, refl, ap, arith, range_with_len, tape_len, Shape}
use Rattle.tk_meeting.proofs.Terms.{shown-as_often, serial_history, History, map-range_same, count_tapes, mirror, met}
use Rattle.tk_meeting.proofs.Terms.{LooksAlike, Meeting}
use Rattle.tk_meeting.specs.Counted.{link_seen, all_seen, MeetingsAsOften}
use Rattle.tk_meeting.proofs.hidden.LookAlike.{meetings-look-alike}
use Rattle.tk_privacy.proofs.Offers as privacy

-- where two groups look alike, the same is seen of them
same-seen : (shape : Shape) (h : ℕ) (m n : Meeting) → LooksAlike shape h m n →
    all_seen shape h m ≡ all_seen shape h n
same-seen shape h m n alike =
    privacy.others-same (λ j. map (link_seen m j) (range_with_len 0 shape.clients))
    (λ j. map (link_seen n j) (range_with_len 0 shape.clients)) shape h
    (λ j low high differ. map-range_same (link_seen m j) (link_seen n j) 0 shape.clients
    (λ c less.
    let seen = alike.seen j c low high differ (omega (arith, less)) in
    λ i. record { came = seen.came i; coming = seen.coming i; going = seen.going i }))

pub meetings-as-often : MeetingsAsOften
meetings-as-often A B h is books others keys other_keys events more tells other_events rest
    other_tells same test =
    let H : History = serial_history A.shape in
    let n : ℕ = tape_len A.shape in
    let lengths : n ≡ tape_len B.shape = ap tape_len is.one_shape in
    shown-as_often 256 n (mirror A B H h) (mirror B A H h) (privacy.mirror-undone A B H h n is refl)
    (privacy.mirror-undone B A H h n (privacy.turned A B H h is) lengths)
    (λ u. all_seen A.shape h (met A (books u) events))
    (λ v. all_seen B.shape h (met B (others v) other_events))
    (λ u tape.
    let at = privacy.at-tape A B H h u is tape.counted in
    let v : List ℕ = mirror A B H h u in
    let whole : length v ≡ tape_len B.shape = privacy.length-mirror A B H h u at in
    same-seen A.shape h (met A (books u) events) (met B (others v) other_events)
    (meetings-look-alike A B h u at (books u) (others v) (keys u tape.counted) (other_keys v whole)
    events more (tells u tape.counted) other_events rest (other_tells v whole) same)
    ∙ ap (λ (shape : Shape). all_seen shape h (met B (others v) other_events)) is.one_shape)
    test
    ∙ ap (λ k. count_tapes k (λ v. test (all_seen B.shape h (met B (others v) other_events)))) lengths
