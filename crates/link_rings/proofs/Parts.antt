-- Parts of lists, and what goes on rings.
use Rattle.std.proofs.Common.{◌≡◌, ◌⊎◌, inl, inr, ℕ, zero, suc, ◌<◌, List, [], ◌∷◌, ◌++◌, length, map, get_or, append_assoc, append-nil, refl, sym, ap, ◌∙◌, ◌==◌, eq-eqb, true}
use Rattle.std.proofs.lemmas.List.Elements.{filter_map-append}
use Rattle.std.proofs.Math.ListN.{set}
use Rattle.std.proofs.lemmas.List.{map-set, get_or-map}
use Rattle.link_rings.specs.declared.outgoing.OutEnd.{OutEnd}
use Rattle.link_rings.specs.Ends.{out_view}
use Rattle.link_rings.specs.Rings.{PacketView, PutView, put, IsPart, puts_on, OutView, SendsOne, Sends, ArePuts}

pub part_none : {X : Type 0} (ys : List X) → IsPart [] ys
part_none [] = refl
part_none (y ∷ ys) = inl (part_none ys)

pub part_append : {X : Type 0} (a b c d : List X) → IsPart a b → IsPart c d → IsPart (a ++ c) (b ++ d)
part_append a [] c d h g = rw h g
part_append a (y ∷ b) c d h g = elim h [
  | inl p ↦ inl (part_append a b c d p g)
  | inr w ↦ inr (w.0 ++ c, ap (λ x. x ++ c) w.1, part_append w.0 b c d w.2 g)
]

pub sends_one_same : (puts : List PutView) (o : OutView) → SendsOne puts o o
sends_one_same puts o = record { same = refl; more = []; grown = sym (append-nil o.sent); part = part_none (puts_on o.link puts) }

pub sends_same : (puts : List PutView) (os : List OutView) → Sends puts os os
sends_same puts [] = tt
sends_same puts (o ∷ os) = (sends_one_same puts o, sends_same puts os)

pub sends_set : (puts : List PutView) (os : List OutView) (k : ℕ) (n : OutView) → ((d : OutView) → SendsOne puts (get_or os k d) n) → Sends puts os (set os k n)
sends_set puts [] k n h = tt
sends_set puts (o ∷ os) zero n h = (h o, sends_same puts os)
sends_set puts (o ∷ os) (suc k) n h = (sends_one_same puts o, sends_set puts os k n h)

pub sends_one_more : (xs ys : List PutView) (a b c : OutView) → SendsOne xs a b → SendsOne ys b c → SendsOne (xs ++ ys) a c
sends_one_more xs ys a b c h g = record {
  same = g.same ∙ h.same;
  more = h.more ++ g.more;
  grown = rw (g.grown, h.grown, append_assoc) refl;
  part =
      let p : IsPart g.more (puts_on a.link ys) = rw (← h.same) g.part in
      rw filter_map-append (part_append h.more (puts_on a.link xs) g.more (puts_on a.link ys) h.part p);
}

pub sends_more : (xs ys : List PutView) (a b c : List OutView) → Sends xs a b → Sends ys b c → Sends (xs ++ ys) a c
sends_more xs ys [] [] [] h g = tt
sends_more xs ys [] [] (z ∷ c) h g = g
sends_more xs ys [] (y ∷ b) c h g = elim h [ ]
sends_more xs ys (x ∷ a) [] c h g = elim h [ ]
sends_more xs ys (x ∷ a) (y ∷ b) [] h g = elim g [ ]
sends_more xs ys (x ∷ a) (y ∷ b) (z ∷ c) h g = (sends_one_more xs ys x y z h.0 g.0, sends_more xs ys a b c h.1 g.1)

pub are_puts_more : (xs ys : List PutView) (a b : List OutView) → ArePuts xs a → Sends ys a b → ArePuts (xs ++ ys) b
are_puts_more xs ys [] [] h s = tt
are_puts_more xs ys [] (y ∷ b) h s = elim s [ ]
are_puts_more xs ys (x ∷ a) [] h s = elim s [ ]
are_puts_more xs ys (x ∷ a) (y ∷ b) h s = (
  (let part = part_append x.sent (puts_on x.link xs) s.0.more (puts_on x.link ys) h.0 s.0.part in
      rw (s.0.same, s.0.grown, filter_map-append) part),
  are_puts_more xs ys a b h.1 s.1,
)

-- one packet that was put, or none
pub sends_put : (link : ℕ) (p : PacketView) (o n : OutView) → o.link ≡ link → n.link ≡ o.link → (n.sent ≡ o.sent) ⊎ (n.sent ≡ o.sent ++ p ∷ []) → SendsOne (put link p ∷ []) o n
sends_put link p o n here same h =
    elim h [
      | inl e ↦ record { same = same; more = []; grown = e ∙ sym (append-nil o.sent); part = part_none (puts_on o.link (put link p ∷ [])) }
      | inr e ↦ record {
        same = same;
        more = p ∷ [];
        grown = e;
        part =
            let t : (link == o.link) ≡ true = eq-eqb link o.link (sym here) in
            rw t (inr ([], refl, refl));
      }
    ]

pub sends_at : (puts : List PutView) (os : List OutEnd) (k : ℕ) (o n : OutEnd) → k < length os → o ≡ get_or os k o → SendsOne puts (out_view o) (out_view n) → Sends puts (map out_view os) (map out_view (set os k n))
sends_at puts os k o n within read h =
    rw map-set
    (sends_set puts (map out_view os) k (out_view n) (λ d.
    let e : get_or (map out_view os) k d ≡ out_view o = get_or-map out_view os k o d within ∙ ap out_view (sym read) in
    rw e h))

pub are_puts_new : (puts : List PutView) (os : List OutView) (o : OutView) → o.sent ≡ [] → ArePuts puts os → ArePuts puts (os ++ o ∷ [])
are_puts_new puts [] o none h = (rw none (part_none (puts_on o.link puts)), tt)
are_puts_new puts (x ∷ os) o none h = (h.0, are_puts_new puts os o none h.1)
