-- What is sent again.
use Rattle.std.proofs.Common.{◌≡◌, ℕ, suc, sym, ap, subst, ◌∙◌, Option, Some, None, find}
use Rattle.iso_message.specs.Fields.{Fields}
use Rattle.net_rows.specs.Network.{Network}
use Rattle.network_law.specs.declared.grant.Grant.{Grant}
use Rattle.network_law.specs.declared.grant.GrantPacket.TheVariants as packets
use Rattle.network_law.specs.Tables.{links_between}
use Rattle.network_law.specs.Traces.{PutPacket}
use Rattle.node_machine.specs.Books.{Books, Stored, Advised, Granted, Kept, KeptGrant}
use Rattle.node_machine.specs.Lists.{Lists, link_at, view}
use Rattle.node_machine.specs.Steps as steps
use Rattle.node_machine.specs.Steps.{Progress}
use Rattle.step_draft.specs.Used.{IsQuiet}
use Rattle.step_draft.proofs.Quiet.{send_quiet}

pub grant_found : (t : Network) (n : ℕ) (g : Grant) (l s : ℕ) (d : Progress) (w : Option ℕ) → Some l ≡ w → s ≡ suc (link_at d.lists.links l).serial → steps.emit (PutPacket l s (packets.Grant g)) d ≡ steps.send_grant_by t n g w d
grant_found t n g l s d w e f = ap (λ z. steps.emit (PutPacket l z (packets.Grant g)) d) f ∙ ap (λ z. steps.send_grant_by t n g z d) e

grant_quiet : (t : Network) (n : ℕ) (x : Lists) (borrower : ℕ) (g : Grant) (p : Progress) → IsQuiet x p.lists → IsQuiet x (steps.send_grant t n borrower g p).lists
grant_quiet t n x borrower g p q = go (find (view t n p.lists).is_up (links_between t n borrower))
  where
    go : (w : Option ℕ) → IsQuiet x (steps.send_grant_by t n g w p).lists
    go None = q
    go (Some l) = record { marks = q.marks; loans = q.loans; borrowed = q.borrowed }

pub next_sent_quiet : (t : Network) (n : ℕ) (b : Books) (x : Lists) (w : Stored) (p p' : Progress) → p' ≡ steps.send_due t n w p → IsQuiet x p.lists → IsQuiet x p'.lists
next_sent_quiet t n b x w p p' e q = subst (λ (z : Progress). IsQuiet x z.lists) (sym e) (go w)
  where
    go : (w : Stored) → IsQuiet x (steps.send_due t n w p).lists
    go (Advised a) = send_quiet t n b x a.message p q
    go (Granted g) = grant_quiet t n x g.borrower g.grant p q

pub advice_again : (t : Network) (n : ℕ) (a : Kept) (m : Fields) (r : Stored) (d : Progress) → m ≡ a.message → Advised a ≡ r → steps.send t n m d ≡ steps.send_due t n r d
advice_again t n a m r d e f = ap (λ z. steps.send t n z d) e ∙ ap (λ (z : Stored). steps.send_due t n z d) f

pub grant_again : (t : Network) (n : ℕ) (g : KeptGrant) (borrower : ℕ) (lent : Grant) (r : Stored) (d : Progress) → borrower ≡ g.borrower → lent ≡ g.grant → Granted g ≡ r → steps.send_grant t n borrower lent d ≡ steps.send_due t n r d
grant_again t n g borrower lent r d e f h = ap (λ z. steps.send_grant t n z lent d) e ∙ (ap (λ z. steps.send_grant t n g.borrower z d) f ∙ ap (λ (z : Stored). steps.send_due t n z d) h)
