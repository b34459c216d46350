-- What goes over rings.
use Rattle.std.specs.Prelude.{◌≡◌, ◌⊎◌, ◌==◌, ℕ, Bool, nat_lt, length, List, [], ◌∷◌, ◌++◌, map, Option, Some, None, if◌then◌else◌, slice_get, slice_set}
use Rattle.std.specs.List.{filter_map, AllZip}
use mathlib.Core.List.{IsPrefix}

pub record PacketView : Type 0 where
  pub serial : ℕ
  pub bytes : List ℕ

abbrev pub packet : ℕ → List ℕ → PacketView
packet serial bytes = record { serial = serial; bytes = bytes }

-- a packet that is put on a link
pub record PutView : Type 0 where
  pub link : ℕ
  pub packet : PacketView

abbrev pub put : ℕ → PacketView → PutView
put link p = record { link = link; packet = p }

-- the first list is the second with some left out
abbrev pub IsPart : {X : Type 0} → List X → List X → Type 0
IsPart xs [] = xs ≡ []
IsPart {X} xs (y ∷ ys) = IsPart xs ys ⊎ ((rest : List X) × (xs ≡ y ∷ rest) × IsPart rest ys)

abbrev pub put_on : ℕ → PutView → Option PacketView
put_on link p = if p.link == link then Some p.packet else None

-- what is put on a link
abbrev pub puts_on : ℕ → List PutView → List PacketView
puts_on link puts = filter_map (put_on link) puts

-- the ring that leads out on a link, with all that was put on it
pub record OutView : Type 0 where
  pub link : ℕ
  pub sent : List PacketView

abbrev pub out_of : ℕ → List PacketView → OutView
out_of link sent = record { link = link; sent = sent }

-- some of what is put on the ring's link went on it, in order
pub record SendsOne (puts : List PutView) (old new : OutView) : Type 0 where
  pub same : new.link ≡ old.link
  pub more : List PacketView
  pub grown : new.sent ≡ old.sent ++ more
  pub part : IsPart more (puts_on old.link puts)

abbrev pub Sends : List PutView → List OutView → List OutView → Type 0
Sends puts old new = AllZip (SendsOne puts) old new

-- what is on each ring are some of these, in order
abbrev pub ArePuts : List PutView → List OutView → Type 0
ArePuts puts [] = Unit {0}
ArePuts puts (o ∷ os) = IsPart o.sent (puts_on o.link puts) × ArePuts puts os

-- the ring that comes in on a link, with all that was taken from it, and what it is known to hold
pub record InView : Type 0 where
  pub link : ℕ
  pub received : List PacketView
  pub known : List PacketView

abbrev pub in_of : ℕ → List PacketView → List PacketView → InView
in_of link received known = record { link = link; received = received; known = known }

abbrev pub links_in : List InView → List ℕ
links_in ins = map (λ i. i.link) ins

-- nothing was known to be there, and nothing changed
pub record IsEmptyAt (k : ℕ) (old new : List InView) : Type 0 where
  pub ring : InView
  pub there : slice_get old k ≡ Some ring
  pub nothing : ring.known ≡ []
  pub same : new ≡ old

-- a packet was taken, the first that was known to be there if there was one
pub record Takes (k : ℕ) (old : List InView) (p : PacketView) (new : List InView) : Type 0 where
  pub ring : InView
  pub rest : List PacketView
  pub there : slice_get old k ≡ Some ring
  pub first : IsPrefix ring.known (p ∷ rest)
  pub taken : new ≡ slice_set old k (in_of ring.link (ring.received ++ p ∷ []) rest)

-- a ring was looked at, which may have shown packets that were not known of
pub record Looks (k : ℕ) (old : List InView) (found : Bool) (new : List InView) : Type 0 where
  pub ring : InView
  pub known : List PacketView
  pub there : slice_get old k ≡ Some ring
  pub more : IsPrefix ring.known known
  pub seen : new ≡ slice_set old k (in_of ring.link ring.received known)
  pub some : found ≡ nat_lt 0 (length known)

abbrev pub Pops : ℕ → List InView → Option PacketView → List InView → Type 0
Pops k old None new = IsEmptyAt k old new
Pops k old (Some p) new = Takes k old p new
