-- The packets that were put, as they are kept.
use Rattle.std.proofs.Common.{◌≡◌, ℕ, zero, suc, List, [], ◌∷◌, map, reverse, Option, Some, None, true, refl, sym, ap, ◌∙◌}
use Rattle.std.specs.Prelude.{slice_get, option_and_then}
use Rattle.net_rows.specs.Network.{Network, other_end}
use Rattle.network_law.specs.Cards.{Bytes}
use Rattle.network_law.specs.Checked.{IsChecked}
use Rattle.network_law.specs.Tables.{is_link_of}
use Rattle.switch_node.specs.Node.{NodeView}
use Rattle.net_replay.specs.Steps.{Step, entries_at, packets}
use Rattle.network_law.specs.Entries.{Entry}
use Rattle.net_replay.specs.declared.packets.PacketPlace.{PacketPlace}
use Rattle.net_replay.specs.Packets.{by_serial, bytes_at, place_of}
use Rattle.net_replay.specs.Replays.{WasSent}
use Rattle.net_replay.specs.Running.{IsAt}
use Rattle.net_replay.proofs.Ends.{link_there, end_there}
use Rattle.net_replay.proofs.Serials.{packet_was_put, put_is_packet}

some_is : {X : Type 0} (x y : X) → Some x ≡ Some y → x ≡ y
some_is x y e = cc

-- what stands at the place of a serial
read_at : (trace : List Entry) (ps : List PacketPlace) (bs : List Bytes) (s : ℕ) → map (bytes_at trace) ps ≡ map Some bs → option_and_then (bytes_at trace) (by_serial s ps) ≡ by_serial s bs
read_at trace ps bs zero e = refl
read_at trace ps bs (suc s) e = go ps bs s e
  where
    both : {X : Type 0} {x y : X} {xs ys : List X} → x ∷ xs ≡ y ∷ ys → (x ≡ y) × (xs ≡ ys)
    both q = (cc, cc)

    longer : {X : Type 0} {x : X} {xs : List X} → x ∷ xs ≡ [] → ⊥
    longer q = cc

    shorter : {X : Type 0} {x : X} {xs : List X} → [] ≡ x ∷ xs → ⊥
    shorter q = cc

    go : (ps : List PacketPlace) (bs : List Bytes) (k : ℕ) → map (bytes_at trace) ps ≡ map Some bs → option_and_then (bytes_at trace) (slice_get ps k) ≡ slice_get bs k
    go [] [] k e = refl
    go [] (b ∷ bs) k e = absurd (shorter e)
    go (p ∷ ps) [] k e = absurd (longer e)
    go (p ∷ ps) (b ∷ bs) zero e = (both e).0
    go (p ∷ ps) (b ∷ bs) (suc k) e = go ps bs k (both e).1

-- where the packet of a serial stands at the other end, and what stands there
abbrev pub packet_in : List Entry → List (List PacketPlace) → ℕ → ℕ → Option Bytes
packet_in trace links l s = option_and_then (bytes_at (reverse trace)) (place_of links l s)

-- what is kept for the other end is what it put there
kept_is : (t : Network) (nodes : List NodeView) (sent : List (List (List PacketPlace))) (line_nodes : List ℕ) (steps : List Step) → IsChecked t → IsAt t nodes sent line_nodes steps → (n l s : ℕ) → is_link_of t n l ≡ true → (links : List (List PacketPlace)) → slice_get sent (other_end t n l) ≡ Some links → packet_in (entries_at (other_end t n l) steps) links l s ≡ by_serial s (packets l (entries_at (other_end t n l) steps))
kept_is t nodes sent line_nodes steps checked at n l s own links there =
    let trace = entries_at (other_end t n l) steps in
    let k = at.sent_are.1 (other_end t n l) (end_there t checked n l own) in
    let same : k.0 ≡ links = some_is k.0 links (sym k.1 ∙ there) in
    let on = k.2.1 l (link_there t n l own) in
    let found : slice_get links l ≡ Some on.0 = ap (λ z. slice_get z l) (sym same) ∙ on.1 in
    ap (λ z. option_and_then (bytes_at (reverse trace)) (option_and_then (by_serial s) z)) found ∙ read_at (reverse trace) on.0 (packets l trace) s on.2

pub kept_was_sent : (t : Network) (nodes : List NodeView) (sent : List (List (List PacketPlace))) (line_nodes : List ℕ) (steps : List Step) → IsChecked t → IsAt t nodes sent line_nodes steps → (n l s : ℕ) → is_link_of t n l ≡ true → (links : List (List PacketPlace)) → slice_get sent (other_end t n l) ≡ Some links → (bytes : Bytes) → packet_in (entries_at (other_end t n l) steps) links l s ≡ Some bytes → WasSent t steps n l s bytes
kept_was_sent t nodes sent line_nodes steps checked at n l zero own links there bytes e = absurd (no (sym (kept_is t nodes sent line_nodes steps checked at n l zero own links there) ∙ e))
  where
    no : ◌≡◌ {A = Option Bytes} None (Some bytes) → ⊥
    no p = cc
kept_was_sent t nodes sent line_nodes steps checked at n l (suc s) own links there bytes e =
    let less = end_there t checked n l own in
    packet_was_put t checked (other_end t n l) less (entries_at (other_end t n l) steps) (at.legal (other_end t n l) less) l s bytes (sym (kept_is t nodes sent line_nodes steps checked at n l (suc s) own links there) ∙ e)

pub sent_is_kept : (t : Network) (nodes : List NodeView) (sent : List (List (List PacketPlace))) (line_nodes : List ℕ) (steps : List Step) → IsChecked t → IsAt t nodes sent line_nodes steps → (n l s : ℕ) → is_link_of t n l ≡ true → (links : List (List PacketPlace)) → slice_get sent (other_end t n l) ≡ Some links → packet_in (entries_at (other_end t n l) steps) links l s ≡ None → (bytes : Bytes) → WasSent t steps n l s bytes → ⊥
sent_is_kept t nodes sent line_nodes steps checked at n l s own links there e bytes w =
    let less = end_there t checked n l own in
    let p = put_is_packet t checked (other_end t n l) less (entries_at (other_end t n l) steps) (at.legal (other_end t n l) less) l s bytes w in
    no (sym e ∙ (kept_is t nodes sent line_nodes steps checked at n l s own links there ∙ (ap (λ z. by_serial z (packets l (entries_at (other_end t n l) steps))) p.1 ∙ p.2)))
  where
    no : ◌≡◌ {A = Option Bytes} None (Some bytes) → ⊥
    no q = cc
