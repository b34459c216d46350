use Rattle.std.proofs.Common.{◌++◌, ◌+◌, ℕ, List, map, drop, Bor, refl, ◌∙◌, append_assoc}
use Rattle.std.specs.List.{concat}
use Rattle.iso_message.proofs.SpansMore.{on_err}
use Rattle.replay_text.proofs.SentTexts.{both_sent, front_sent, next_text}
use Rattle.replay_text.proofs.sending.add_each.Goals as goal

abbrev pub texts : List (Bor (List ℕ)) → List ℕ
texts ps = concat (map (λ (p : Bor (List ℕ)). p.now) ps)

pub returns-in_err-add_text-clause-err : goal.returns-in_err-add_text-clause-err
returns-in_err-add_text-clause-err g c =
    let l = c.loop-piece in
    on_err c.from_residual.result _ (front_sent _ _ _ _ _ l.invariant.done _ (texts (drop (l.piece-index + 1) c.args.pieces.now)) _ l.invariant.sends (record { front = c.in_err-add_text.ensures.err })
    (next_text texts (λ p. p.now) (λ x xs. refl) c.args.pieces.now l.piece-index _ l.invariant.done _ c.loop-piece-test.true l.invariant.whole))

pub loop-piece-preserved : goal.loop-piece-preserved
loop-piece-preserved g c =
    let l = c.loop-piece in
    record {
      done = l.invariant.done ++ _;
      sends = both_sent _ _ _ _ _ _ l.invariant.done _ _ l.invariant.sends c.in_ok-add_text.ensures.ok refl;
      counts = rw c.in_ok-add_text.ensures.counts l.invariant.counts;
      whole = append_assoc l.invariant.done _ (texts (drop (l.piece-index + 1) c.args.pieces.now)) ∙ next_text texts (λ p. p.now) (λ x xs. refl) c.args.pieces.now l.piece-index _ l.invariant.done _ c.loop-piece-test.true l.invariant.whole;
    }
