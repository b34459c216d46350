use Rattle.std.proofs.Common.{◌≡◌, ◌∙◌, ◌≤◌, ℕ, Bool, true, false, length, nat_lt, sym, refl, arith}
use Rattle.std.specs.List.{list_all}
use Rattle.std.proofs.lemmas.Bool.{lt-ltb, le-ltb}
use Rattle.net_rows.specs.Network.{other_end}
use Rattle.table_checker.specs.Known.{code_at}
use Rattle.table_checker.proofs.Codes.{all_on, all_off, all_end}
use Rattle.table_checker.proofs.class.At.falls_by_known.Goals as goal

pub returns-then-far-own : goal.returns-then-far-own
returns-then-far-own c =
    let f : ℕ → Bool = λ link. nat_lt (code_at c.args.ranks.now (other_end c.args.self.now.tables.now c.args.node link)) (code_at c.args.ranks.now c.args.node) in
    let few : nat_lt (code_at c.args.ranks.now c.args.node) 65536 ≡ true = rw (← c.code_at-own.ensures) (lt-ltb c.code_at-own.result 65536 (omega (arith, c.if-own-ge-NO_RANK.false))) in
    let off : f c.link-item.result ≡ false = rw (← c.other_end.ensures c.args.self.now.tables.now c.requires.ends, ← c.code_at-far.ensures, ← c.code_at-own.ensures) (le-ltb c.code_at-far.result c.code_at-own.result c.if-far-own.true) in
    let rest : list_all f c.args.links.now ≡ false = sym c.loop-link.invariant ∙ all_off f c.args.links.now c.loop-link.link-index c.link-item.result c.loop-link-test.true c.link-item.is off in
    rw (few, rest) refl

pub loop-link-preserved : goal.loop-link-preserved
loop-link-preserved c =
    let f : ℕ → Bool = λ link. nat_lt (code_at c.args.ranks.now (other_end c.args.self.now.tables.now c.args.node link)) (code_at c.args.ranks.now c.args.node) in
    let on : f c.link-item.result ≡ true = rw (← c.other_end.ensures c.args.self.now.tables.now c.requires.ends, ← c.code_at-far.ensures, ← c.code_at-own.ensures) (lt-ltb c.code_at-far.result c.code_at-own.result (omega (arith, c.if-far-own.false))) in
    all_on f c.args.links.now c.loop-link.link-index c.link-item.result c.loop-link-test.true c.link-item.is on ∙ c.loop-link.invariant

pub returns : goal.returns
returns c =
    let f : ℕ → Bool = λ link. nat_lt (code_at c.args.ranks.now (other_end c.args.self.now.tables.now c.args.node link)) (code_at c.args.ranks.now c.args.node) in
    let few : nat_lt (code_at c.args.ranks.now c.args.node) 65536 ≡ true = rw (← c.code_at-own.ensures) (lt-ltb c.code_at-own.result 65536 (omega (arith, c.if-own-ge-NO_RANK.false))) in
    let done : length c.args.links.now ≤ c.loop-link.link-index = omega (arith, c.loop-link-test.false) in
    let rest : list_all f c.args.links.now ≡ true = sym c.loop-link.invariant ∙ all_end f c.args.links.now c.loop-link.link-index done in
    rw (few, rest) refl
