-- No part of what is said of a card is a float.
use Rattle.std.proofs.Common.{◌≡◌, ℕ, zero, suc, Bool, true, false, List, [], ◌∷◌, ◌++◌, length, map, Option, Some, None, refl}
use Rattle.std.specs.Prelude.{codes, if◌then◌else◌}
use Rattle.card_digits.specs.Digits.{digits_text}
use Rattle.std.specs.Option.{option_map_or}
use Rattle.net_rows.specs.Network.{Network, issuer, route, stand_in, other_end}
use Rattle.net_rows.specs.declared.row.Acquirer.{Acquirer}
use Rattle.net_rows.specs.declared.row.Issuer.{Issuer}
use Rattle.net_rows.specs.declared.row.Route.{Route}
use Rattle.rank_rows.specs.declared.rank.Rank.{Rank}
use Rattle.table_checker.specs.declared.refusal.Refusal.{Refusal}
use Rattle.bundle_text.specs.Lines.{Text, node_name}
use Rattle.serde_json.specs.Data.{Data, null, boolean, object, member, no_members}
use Rattle.serde_json.specs.View.{items_of}
use Rattle.serde_json.specs.Written.{has_float, items_have_float}
use Rattle.refusals_json.specs.Json.{count, listed, text}
use Rattle.refusals_json.specs.ListedJson.{told}
use Rattle.refusals_json.proofs.JsonLines.{or_false, told_plain}
use Rattle.card_view.specs.View.{class, days_sum, is_home, links_of, rank_in}
use Rattle.card_json.specs.CardJson.{acquirer_data, card_data, class_data, hops_onward, issuer_data, link_data, node_data, nodes_data, object_of, refusal_data, route_data, stand_in_data, verdict_word, way_data, way_end, way_hops}

-- lists

all_plain : {A : Type 0} (f : A → Data) → ((x : A) → has_float (f x) ≡ false) → (xs : List A) → items_have_float (items_of (map f xs)) ≡ false
all_plain f plain [] = refl
all_plain f plain (x ∷ xs) = rw (plain x) (all_plain f plain xs)

more_plain : (ds : List Data) (d : Data) → items_have_float (items_of ds) ≡ false → has_float d ≡ false → items_have_float (items_of (ds ++ d ∷ [])) ≡ false
more_plain [] d plain last = rw last refl
more_plain (e ∷ ds) d plain last =
    let (here, rest) = or_false (has_float e) (items_have_float (items_of ds)) plain in
    rw here (more_plain ds d rest last)

or_plain : {A : Type 0} (f : A → Data) (o : Option A) → ((x : A) → has_float (f x) ≡ false) → has_float (option_map_or f o null) ≡ false
or_plain f None plain = refl
or_plain f (Some x) plain = plain x

-- rows

links_plain : (t : Network) (n : ℕ) (links : List ℕ) → items_have_float (items_of (map (link_data t n) links)) ≡ false
links_plain t n links = all_plain (link_data t n) (λ l. refl) links

route_plain : (t : Network) (n : ℕ) (r : Route) → has_float (route_data t n r) ≡ false
route_plain t n r = rw (links_plain t n r.links) refl

issuer_plain : (t : Network) (i : Issuer) → has_float (issuer_data t i) ≡ false
issuer_plain t i =
    let names : items_have_float (items_of (map (λ n. text (node_name t n)) i.named)) ≡ false = all_plain (λ n. text (node_name t n)) (λ n. refl) i.named in
    rw names refl

node_of_plain : (home : Bool) (name : Text) (rank route stand_in : Data) → has_float rank ≡ false → has_float route ≡ false → has_float stand_in ≡ false
    → has_float (object (member (codes "home") (boolean home) (member (codes "name") (text name) (member (codes "rank") rank (member (codes "route") route (member (codes "stand_in") stand_in no_members)))))) ≡ false
node_of_plain home name rank route stand_in a b c = rw (a, b, c) refl

module _ (t : Network) (cert : List Rank) (card : List ℕ) (class : Option (List ℕ)) where
  node_plain : (n : ℕ) → has_float (node_data t cert card class n) ≡ false
  node_plain n =
      node_of_plain (is_home (issuer t card) n) (node_name t n) (option_map_or count (rank_in t cert class n) null) (option_map_or (route_data t n) (route t n card) null) (option_map_or stand_in_data (stand_in t n card) null)
      (or_plain count (rank_in t cert class n) (λ r. refl)) (or_plain (route_data t n) (route t n card) (route_plain t n)) (or_plain stand_in_data (stand_in t n card) (λ s. refl))

  nodes_plain : (n : ℕ) → items_have_float (items_of (nodes_data t cert card class n)) ≡ false
  nodes_plain zero = refl
  nodes_plain (suc n) = more_plain (nodes_data t cert card class n) (node_data t cert card class n) (nodes_plain n) (node_plain n)

-- ways

unless_plain : (b : Bool) (ds : List Data) → items_have_float (items_of ds) ≡ false → items_have_float (items_of (if b then [] else ds)) ≡ false
unless_plain true ds plain = refl
unless_plain false ds plain = plain

way_of_plain : (end : Text) (hops : List Data) → items_have_float (items_of hops) ≡ false → has_float (object (member (codes "end") (text end) (member (codes "hops") (listed hops) no_members))) ≡ false
way_of_plain end hops plain = rw plain refl

acquirer_of_plain : (id name : Text) (way : Data) → has_float way ≡ false → has_float (object (member (codes "id") (text id) (member (codes "node") (text name) (member (codes "way") way no_members)))) ≡ false
acquirer_of_plain id name way plain = rw plain refl

module _ (t : Network) (card : List ℕ) where
  onward_plain : (further : ℕ → List Data) (n : ℕ) (links : List ℕ) → ((m : ℕ) → items_have_float (items_of (further m)) ≡ false) → items_have_float (items_of (hops_onward t card further n links)) ≡ false
  onward_plain further n [] plain = refl
  onward_plain further n (l ∷ ls) plain = rw (links_plain t n ls) (plain (other_end t n l))

  hops_plain : (k n : ℕ) → items_have_float (items_of (way_hops t card k n)) ≡ false
  hops_plain zero n = refl
  hops_plain (suc k) n = unless_plain (is_home (issuer t card) n) (hops_onward t card (way_hops t card k) n (links_of (route t n card))) (onward_plain (way_hops t card k) n (links_of (route t n card)) (hops_plain k))

  way_plain : (n : ℕ) → has_float (way_data t card n) ≡ false
  way_plain n = way_of_plain (way_end t card 64 n) (way_hops t card 64 n) (hops_plain 64 n)

  acquirer_plain : (a : Acquirer) → has_float (acquirer_data t card a) ≡ false
  acquirer_plain a = acquirer_of_plain a.id (node_name t a.node) (way_data t card a.node) (way_plain a.node)

-- the whole

object_plain : (acquirers class issuer nodes refusal : Data) (days : ℕ) (verdict : Text) → has_float acquirers ≡ false → has_float class ≡ false → has_float issuer ≡ false → has_float nodes ≡ false → has_float refusal ≡ false
    → has_float (object_of acquirers class issuer nodes refusal days verdict) ≡ false
object_plain acquirers class issuer nodes refusal days verdict a b c d e = rw (a, b, c, d, e) refl

pub card_plain : (t : Network) (cert : List Rank) (card : List ℕ) (first : Option Refusal) → has_float (card_data t cert card first) ≡ false
card_plain t cert card first =
    object_plain (listed (map (acquirer_data t card) t.acquirers)) (class_data (class t card)) (option_map_or (issuer_data t) (issuer t card) null) (listed (nodes_data t cert card (class t card) (length t.nodes))) (refusal_data t first) (days_sum t card) (verdict_word first)
    (all_plain (acquirer_data t card) (acquirer_plain t card) t.acquirers) (or_plain (λ p. text (digits_text p)) (class t card) (λ p. refl)) (or_plain (issuer_data t) (issuer t card) (issuer_plain t)) (nodes_plain t cert card (class t card) (length t.nodes)) (or_plain (λ r. object (told t r)) first (told_plain t))
