-- What becomes of the entry that a state takes.
use Rattle.std.proofs.Common.{◌≡◌, ◌∙◌, refl, ap, sym, subst, ℕ, Bool, true, false, cond, List}
use Rattle.std.specs.Prelude.{◌↔◌, Option, Some, None, option_map}
use Rattle.tk_shape.specs.declared.shape.Shape.{Shape}
use Rattle.tk_frames.specs.declared.write_frame.WriteFrame.{WriteFrame}
use Rattle.tk_frames.specs.declared.entry.Entry.{Entry}
use Rattle.tk_frames.specs.declared.entry.Entry.TheVariants.{Write, Mark}
use Rattle.tk_frames.specs.declared.entry.Placed.{Placed as AtPlace}
use Rattle.tk_frames.specs.Order.{Record, record_at, records}
use Rattle.tk_frames.proofs.Offers.{record_of}
use Rattle.tk_table.specs.declared.table.Put.{Put}
use Rattle.tk_table.specs.declared.table.Put.TheVariants.{Placed, Displaced}
use Rattle.tk_table.specs.Ordered.{AreOrdered}
use Rattle.tk_table.specs.Puts.{put_after, put_of}
use Rattle.tk_table.specs.Stands.{Kept, TableStandsFor, IsWrite}
use Rattle.tk_table.specs.Table.{is_displaced}
use Rattle.tk_table.proofs.Offers.{order-writes}
use Rattle.tk_replica.specs.Replica.{ReplicaView, StandsFor}

-- what its table says of a write with this position, these buckets and this block
abbrev Tells : Kept → Put → ℕ → ℕ × ℕ → List ℕ → Type 0
Tells table put position pair block =
    (R : List Record) (w : Record) → TableStandsFor table R → AreOrdered table.shape R →
    IsWrite w position pair block → (put ≡ Displaced) ↔ (is_displaced table.shape R w ≡ true)

one_of_two : (put : Put) (displaced : Bool) → (put ≡ Displaced) ↔ (displaced ≡ true) →
    put ≡ cond displaced Displaced Placed
one_of_two Displaced true means = refl
one_of_two Displaced false means = absurd (cc (means.0 refl))
one_of_two Placed true means = absurd (cc (means.1 refl))
one_of_two Placed false means = refl

abbrev put_at : Shape → List AtPlace → ℕ → Entry → Option Put
put_at shape E position entry = option_map (put_after shape (records E)) (record_at position entry)

pub put-write : (shape : Shape) (E : List AtPlace) (s : ReplicaView) (p : AtPlace)
    (w : WriteFrame) (put : Put) → StandsFor shape E s → p.entry ≡ Write w →
    Tells s.table put p.position (w.first, w.second) w.block → Some put ≡ put_of shape E p
unfolding put_after
put-write shape E s p w put is at tells =
    let R = records E in
    let r = record_of p w in
    let means = subst (λ (sh : Shape). (put ≡ Displaced) ↔ (is_displaced sh R r ≡ true)) is.table_same
    (tells R r is.table
    (subst (λ (sh : Shape). AreOrdered sh R) (sym is.table_same) (order-writes shape E is.order))
    (record { position = refl; first = refl; second = refl; block = refl }))
    in
    ap Some (one_of_two put (is_displaced shape R r) means)
    ∙ ap (put_at shape E p.position) (sym at)

pub put-mark : (shape : Shape) (E : List AtPlace) (p : AtPlace) (n : ℕ) → p.entry ≡ Mark n →
    None ≡ put_of shape E p
put-mark shape E p n at = ap (put_at shape E p.position) (sym at)
