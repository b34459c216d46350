use Rattle.std.proofs.Common.{◌≡◌, ◌∙◌, ◌<◌, length, is_some, true, sym, ap}
use Rattle.table_checker.specs.Rules.{no_issuer}
use Rattle.table_checker.proofs.Searching.{first_below_found}
use Rattle.table_checker.proofs.class.At.first_without_issuer.Goals as goal

pub returns-then-is_some : goal.returns-then-is_some
returns-then-is_some c =
    let f = no_issuer c.args.self.now.tables.now c.args.self.now.cert.now c.args.self.now.class in
    let here : c.no_issuer-found.result ≡ f c.loop-i.i = c.no_issuer-found.ensures ∙ ap f c.new.ensures in
    let within : c.loop-i.i < length c.args.self.now.tables.now.nodes = rw (← c.nodes-i-end.ensures.nodes) c.loop-i-test.true in
    let found : is_some (f c.loop-i.i) ≡ true = rw (← here) (sym c.is_some.ensures ∙ c.if-is_some.true) in
    here ∙ first_below_found f c.loop-i.i (length c.args.self.now.tables.now.nodes) c.loop-i.invariant within found
