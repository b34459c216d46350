-- What a line adds to a draft, or that it adds nothing.
use Rattle.std.proofs.Common.{◌≡◌, ℕ, ◌-◌, ◌==◌, List, [], ◌∷◌, ◌++◌, length, map, Bor, Some, None, Ok, Err, slice_get, slice_set, refl, nat_le, true, false}
use Rattle.std.specs.List.{list_any}
use Rattle.std.proofs.lemmas.List.{map-set, length-map, map-append}
use Rattle.std.proofs.lemmas.Option.{slice_get-map}
use Rattle.net_rows.specs.Network.{Network}
use Rattle.net_rows.specs.declared.row.Acquirer.{Acquirer}
use Rattle.run_plan.specs.declared.fault.PlanFault.{PlanFault}
use Rattle.run_plan.specs.declared.plan.Session.{Session}
use Rattle.run_plan.specs.Plans.{DraftView, session_of, or_fault, set_host, session_at, send}

pub host_twice : (d : DraftView) (n a : ℕ) (f : PlanFault) → list_any (λ h. h == n) d.hosts ≡ true → or_fault f (set_host d n a) ≡ Err f
host_twice d n a f h = rw h refl

pub acquirer_twice : (t : Network) (d : DraftView) (p : ℕ) (f : PlanFault) → list_any (λ q. q == p) d.acquirers ≡ true → or_fault f (session_at t d p) ≡ Err f
acquirer_twice t d p f h = rw h refl

pub no_row : (t : Network) (d : DraftView) (p : ℕ) (f : PlanFault) → list_any (λ q. q == p) d.acquirers ≡ false → slice_get t.acquirers p ≡ None → or_fault f (session_at t d p) ≡ Err f
no_row t d p f h e = rw (h, e) refl

pub opened : (t : Network) (d : DraftView) (p : ℕ) (f : PlanFault) (row : Acquirer) (ss : List Session) (s : Session) (ss' : List Session) (rows' : List ℕ)
    → list_any (λ q. q == p) d.acquirers ≡ false → slice_get t.acquirers p ≡ Some row
    → d.sessions ≡ map session_of ss → ss' ≡ ss ++ s ∷ [] → session_of s ≡ record { node = row.node; lines = [] } → rows' ≡ d.acquirers ++ p ∷ []
    → or_fault f (session_at t d p) ≡ Ok (record d { sessions = map session_of ss'; acquirers = rows' })
opened t d p f row ss s ss' rows' new there v all empty rows = rw (new, there, all, map-append session_of ss (s ∷ []), empty, rows, v) refl

last : (d : DraftView) (ss : List Session) (k : ℕ) (s : Session) → d.sessions ≡ map session_of ss → k ≡ length ss - 1 → slice_get ss k ≡ Some s → slice_get d.sessions (length d.sessions - 1) ≡ Some (session_of s)
last d ss k s v e h = rw (v, length-map ss session_of, ← e, slice_get-map session_of ss k, h) refl

pub full : (d : DraftView) (ss : List Session) (k : ℕ) (s : Session) (f : PlanFault) (m : List ℕ) → d.sessions ≡ map session_of ss → k ≡ length ss - 1 → slice_get ss k ≡ Some s
    → nat_le 10000 (length s.lines.items) ≡ true → or_fault f (send d m) ≡ Err f
full d ss k s f m v e h many = rw (last d ss k s v e h, length-map s.lines.items (λ (l : Bor (List ℕ)). l.now), many) refl

pub sent : (d : DraftView) (ss : List Session) (k : ℕ) (s s' : Session) (f : PlanFault) (b : Bor (List ℕ)) → d.sessions ≡ map session_of ss → k ≡ length ss - 1 → slice_get ss k ≡ Some s
    → nat_le 10000 (length s.lines.items) ≡ false → s'.node ≡ s.node → s'.lines.items ≡ s.lines.items ++ b ∷ []
    → or_fault f (send d b.now) ≡ Ok (record d { sessions = map session_of (slice_set ss k s') })
sent d ss k s s' f b v e h few node lines =
    rw (last d ss k s v e h, length-map s.lines.items (λ (l : Bor (List ℕ)). l.now), few, map-set session_of ss k s', node, lines, map-append (λ (l : Bor (List ℕ)). l.now) s.lines.items (b ∷ []), v, length-map ss session_of, ← e) refl
