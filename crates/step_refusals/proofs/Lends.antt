-- What may be lent, where a link joins the nodes, the amount is none but 0, and the borrower is named.
use Rattle.std.proofs.Common.{◌≡◌, ◌≢◌, ℕ, ◌-◌, ◌==◌, nat_lt, not, Bool, true, false, List, length, refl}
use Rattle.std.proofs.lemmas.Bool.{ne_eqb}
use Rattle.net_rows.specs.Network.{Network, issuer}
use Rattle.network_law.specs.Tables.{is_named, links_between}
use Rattle.node_machine.specs.Books.{Books}
use Rattle.node_machine.specs.Machine.{allowance, used, may_not_lend}

flip : (b : Bool) → true ≡ not b → b ≡ false
flip true e = absurd cc
flip false e = refl

pub by_what_is_left : (t : Network) (n : ℕ) (b : Books) (m : ℕ) (card date : List ℕ) (amount left : ℕ)
    → true ≡ not (length (links_between t n m) == 0) → amount ≢ 0 → is_named (issuer t card) m ≡ true → left ≡ allowance t n b card date - used b card date
    → nat_lt left amount ≡ may_not_lend t n b m card date amount
by_what_is_left t n b m card date amount left linked some named rest =
    let f : (length (links_between t n m) == 0) ≡ false = flip (length (links_between t n m) == 0) linked in
    rw (f, ne_eqb amount 0 some, named, rest) refl
