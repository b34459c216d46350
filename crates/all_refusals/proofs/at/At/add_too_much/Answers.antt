use Rattle.std.proofs.Common.{rules, ◌≡◌, ◌==◌, Some, None, refl, ap}
use Rattle.std.specs.Prelude.{slice_get, option_and_then}
use Rattle.std.specs.List.{position_from}
use Rattle.std.specs.Cmp.Lexicographic.{pointwise}
use Rattle.std.proofs.lemmas.Result.{IfOk-weaker}
use Rattle.net_rows.specs.declared.row.Issuer.{Issuer}
use Rattle.table_checker.specs.Rules.{over_ceiling}
use Rattle.all_refusals.specs.Rows.{IssuerRow}
use Rattle.all_refusals.specs.Found.{of_row}
use Rattle.all_refusals.proofs.Adding.{same_added}
use Rattle.all_refusals.proofs.Own.{longest_place}
use Rattle.all_refusals.proofs.at.At.add_too_much.Goals as goal

pub returns-in_default : goal.returns-in_default
returns-in_default c =
    let t = c.args.self.now.tables.now in
    let position : c.issuer_place.result ≡ position_from (λ (r : Issuer). pointwise ◌==◌ r.prefix c.args.issuer.now.prefix) 0 t.issuers = search rules in
    let placed : option_and_then (slice_get t.issuers) c.issuer_place.result ≡ Some c.args.issuer.now = rw position (longest_place (λ (r : Issuer). r.prefix) c.args.self.now.class t.issuers c.args.issuer.now c.requires.issuer) in
    let none : None ≡ Some c.args.issuer.now = rw c.in_default.is at placed in
    absurd cc

pub returns : goal.returns
returns c =
    let t = c.args.self.now.tables.now in
    let position : c.issuer_place.result ≡ position_from (λ (r : Issuer). pointwise ◌==◌ r.prefix c.args.issuer.now.prefix) 0 t.issuers = search rules in
    let placed : option_and_then (slice_get t.issuers) c.issuer_place.result ≡ Some c.args.issuer.now = rw position (longest_place (λ (r : Issuer). r.prefix) c.args.self.now.class t.issuers c.args.issuer.now c.requires.issuer) in
    let at : slice_get t.issuers c.in-Some.place ≡ Some c.args.issuer.now = rw c.in-Some.is at placed in
    let over : c.over_ceiling-refusal.result ≡ over_ceiling t c.args.self.now.cert.now c.args.self.now.class c.args.issuer.now.ceiling = search rules in
    IfOk-weaker c.add.result _ _ (λ _ adds. same_added t _ _ _ _ (adds t (IssuerRow c.args.issuer.now) (rw at refl)) (ap (of_row (IssuerRow c.args.issuer.now)) over)) c.add.ensures
