-- A node that the tables don't have does nothing.
use Rattle.std.proofs.Common.{◌≡◌, ℕ, zero, suc, ◌≤◌, List, [], ◌∷◌, map, filter, reverse, length, None, is_none, Bool, true, false, not, ◌&&◌, ◌||◌, refl, sym, ap, ◌∙◌, subst, arith, bytes_eq, eqb}
use Rattle.std.specs.Prelude.{slice_get, count_by}
use Rattle.std.specs.List.{list_any}
use Rattle.std.specs.Option.{option_map_or}
use Rattle.std.proofs.lemmas.Bool.{and_left, or_from, ne_eqb}
use Rattle.std.proofs.lemmas.List.Sums.{sum_by-cons}
use Rattle.card_digits.specs.Numbers.{pad11}
use Rattle.message_keys.specs.Keys.{own_key}
use Rattle.net_rows.specs.Network.{Network}
use Rattle.net_rows.specs.Sound.{IsSound, AreEnds, AreAtNodes}
use Rattle.net_rows.specs.declared.row.Acquirer.{Acquirer}
use Rattle.net_rows.specs.declared.row.Link.{Link}
use Rattle.network_law.specs.declared.fault.StepFault.TheVariants.{NotLent, UnknownAsk}
use Rattle.network_law.specs.Cards.{Bytes}
use Rattle.network_law.specs.Decision.{decide, due, fail_all, failing, in_order, is_sent_again, send_all}
use Rattle.network_law.specs.Refusals.{refusal, may_not_lend}
use Rattle.network_law.specs.Runs.{IsLegal}
use Rattle.network_law.specs.Tables.{is_attached, is_link_of, joins, links_between, numbers_below}
use Rattle.network_law.specs.Traces.{ReadInput, Enter, Take, LinkUp, LinkDown, Tick, HostAnswer, NewDate, TakePacket, Lend, In, History, acked_by, advices, approvals, ask_key, count_of, fails, grants, handled, opened}
use Rattle.network_law.specs.Entries.{Entry, read_outputs, read_trace, put_out, read_history, history, spelled, newest_outputs}
use Rattle.network_law.proofs.ReadRuns as reading
use Rattle.network_law.proofs.Reading.{HasReading, has_reading, input_read, read_trace_more}
use Rattle.network_law.proofs.Refused.{EnteredFacts, entered_facts, or_none, when_none}
use Rattle.run_report.specs.Stations.{posts_in}
use Rattle.run_report.specs.Own.{brings_answer, answers_onto, answers_given, is_post, posts_of}

not_both : (b : Bool) → b ≡ true → b ≡ false → ⊥
not_both b p q = cc

none_kept : {X : Type 0} (p : X → Bool) → ((x : X) → p x ≡ false) → (xs : List X) → filter p xs ≡ []
none_kept p none [] = refl
none_kept p none (x ∷ xs) = rw (none x) (none_kept p none xs)

-- nothing was opened, advised, lent, asked, approved or posted
pub record Nothing (t : Network) (n : ℕ) (h : History) : Type 0 where
  pub opened_none : opened t h ≡ []
  pub advices_none : advices t n h ≡ []
  pub grants_none : grants t n h ≡ []
  pub asked_none : (a : ℕ) → ask_key h a ≡ None
  pub approved_none : approvals t h ≡ []
  pub posted_none : posts_in h ≡ 0

at_first : (t : Network) (n : ℕ) → Nothing t n []
unfolding opened advices grants ask_key approvals
at_first t n = record { opened_none = refl; advices_none = refl; grants_none = refl; asked_none = λ a. refl; approved_none = refl; posted_none = refl }

after_tick : (t : Network) (n : ℕ) (h : History) → Nothing t n h → Nothing t n (In Tick ∷ h)
unfolding opened advices grants ask_key approvals handled
after_tick t n h q = record { opened_none = Nothing.opened_none q; advices_none = ap (map (acked_by Tick)) (Nothing.advices_none q); grants_none = Nothing.grants_none q; asked_none = Nothing.asked_none q; approved_none = Nothing.approved_none q; posted_none = Nothing.posted_none q }

after_date : (t : Network) (n : ℕ) (d : List ℕ) (h : History) → Nothing t n h → Nothing t n (In (NewDate d) ∷ h)
unfolding opened advices grants ask_key approvals handled
after_date t n d h q = record { opened_none = Nothing.opened_none q; advices_none = ap (map (acked_by (NewDate d))) (Nothing.advices_none q); grants_none = Nothing.grants_none q; asked_none = Nothing.asked_none q; approved_none = Nothing.approved_none q; posted_none = Nothing.posted_none q }

-- nothing fails, and nothing is due
tick_is : (t : Network) (n : ℕ) (past : History) → Nothing t n past → decide t n past Tick ≡ In Tick ∷ past
unfolding decide fail_all failing send_all due
tick_is t n past q =
    ap (λ ks. fail_all t n past Tick (filter (fails t past Tick) (reverse ks)) (send_all t n Tick (due t n past) (In Tick ∷ past))) (Nothing.opened_none q)
    ∙ (ap (λ as'. send_all t n Tick (filter (is_sent_again t n (suc (count_of past))) (reverse (in_order as' (grants t n past)))) (In Tick ∷ past)) (Nothing.advices_none q)
    ∙ ap (λ gs. send_all t n Tick (filter (is_sent_again t n (suc (count_of past))) (reverse (in_order [] gs))) (In Tick ∷ past)) (Nothing.grants_none q))

module _ (t : Network) (n : ℕ) (sound : IsSound t) (unknown : length t.nodes ≤ n) where
  -- it has no link
  no_end : (links : List Link) (l : ℕ) → AreEnds (length t.nodes) links → option_map_or (λ k. eqb k.from n || eqb k.to n) (slice_get links l) false ≡ false
  no_end [] l all = refl
  no_end (k ∷ ks) zero all =
      let from = all.0.from in
      let to = all.0.to in
      or_from (eqb k.from n) (eqb k.to n) (ne_eqb k.from n (λ e. absurd (omega (arith, from, unknown, e)))) (ne_eqb k.to n (λ e. absurd (omega (arith, to, unknown, e))))
  no_end (k ∷ ks) (suc l) all = no_end ks l all.1

  no_link : (l : ℕ) → is_link_of t n l ≡ true → ⊥
  no_link l e = not_both (is_link_of t n l) e (no_end t.links l sound.ends)

  none_between : (m : ℕ) → links_between t n m ≡ []
  unfolding links_between
  none_between m = none_kept (joins t n m) (λ l. and_left (is_link_of t n l) _ (no_end t.links l sound.ends)) (numbers_below (length t.links))

  may_not : (past : History) (m : ℕ) (card date : List ℕ) (amount : ℕ) → may_not_lend t n past m card date amount ≡ true
  may_not past m card date amount = rw (none_between m) refl

  -- and no acquirer
  not_at : (rows : List Acquirer) (acquirer : Bytes) → AreAtNodes (length t.nodes) rows → list_any (λ row. eqb row.node n && bytes_eq (pad11 row.id) acquirer) rows ≡ false
  not_at [] acquirer all = refl
  not_at (row ∷ rows) acquirer all =
      let at = all.0 in
      or_from (eqb row.node n && bytes_eq (pad11 row.id) acquirer) _ (and_left (eqb row.node n) _ (ne_eqb row.node n (λ e. absurd (omega (arith, at, unknown, e))))) (not_at rows acquirer all.1)

  -- so only ticks and new dates aren't refused, and these do nothing
  record DoesNothing (past : History) (i : ReadInput) : Type 0 where
    is : decide t n past i ≡ In i ∷ past
    nothing : Nothing t n (In i ∷ past)

  input_does_nothing : (past : History) (i : ReadInput) → reading.NamesOwnLink t n i → refusal t n past i ≡ None → Nothing t n past → DoesNothing past i
  unfolding decide refusal
  input_does_nothing past Tick own ok q = record { is = tick_is t n past q; nothing = after_tick t n past q }
  input_does_nothing past (NewDate d) own ok q = record { is = refl; nothing = after_date t n d past q }
  input_does_nothing past (Enter m) own ok q = absurd (not_both (is_attached t n (own_key m).acquirer) (EnteredFacts.attached (entered_facts t n past m ok)) (not_at t.acquirers (own_key m).acquirer sound.gates))
  input_does_nothing past (Take l s m) own ok q = absurd (no_link l own)
  input_does_nothing past (TakePacket l s p) own ok q = absurd (no_link l own)
  input_does_nothing past (LinkUp l) own ok q = absurd (no_link l own)
  input_does_nothing past (LinkDown l) own ok q = absurd (no_link l own)
  input_does_nothing past (HostAnswer a c) own ok q = absurd (not_both (is_none (ask_key past a)) (ap is_none (Nothing.asked_none q a)) (when_none (is_none (ask_key past a)) UnknownAsk ok))
  input_does_nothing past (Lend m card date amount) own ok q =
      absurd (not_both (may_not_lend t n past m card date amount) (may_not past m card date amount) (when_none (may_not_lend t n past m card date amount) NotLent (or_none _ _ ok).0))

  pub record Idle (es : List Entry) : Type 0 where
    pub nothing : Nothing t n (history es)
    pub answers : answers_given es ≡ []
    pub posts : posts_of es ≡ 0

  pub idle : (es : List Entry) → IsLegal t n es → Idle es
  unfolding history read_history read_trace
  idle [] l = record { nothing = at_first t n; answers = refl; posts = refl }
  idle (e ∷ es) l = more (has_reading t n es e l.1) (idle es l.0)
    where
      more : HasReading t n es e → Idle es → Idle (e ∷ es)
      more r before =
          let i = r.input in
          let own = (input_read t n (history es) e.input i r.is l.1.own l.1.typed r.accepted).2 in
          let d = input_does_nothing (history es) i own r.accepted before.nothing in
          let none : e.outputs ≡ [] = r.outputs ∙ ap (λ h. map spelled (newest_outputs h)) (DoesNothing.is d) in
          let here : history (e ∷ es) ≡ In i ∷ history es = ap read_history (read_trace_more e es i r.is) ∙ ap (λ os. put_out i (read_outputs os) (In i ∷ history es)) none in
          record {
            nothing = subst (Nothing t n) (sym here) (DoesNothing.nothing d);
            answers = ap (λ os. answers_onto (not (brings_answer e.input)) os (answers_given es)) none ∙ before.answers;
            posts = (let a = sum_by-cons (λ (x : Entry). count_by is_post x.outputs) e es in let b = ap (count_by is_post) none in let c = before.posts in omega (arith, a, b, c));
          }

  pub idle_approvals : (es : List Entry) → IsLegal t n es → approvals t (history es) ≡ []
  idle_approvals es l = Nothing.approved_none (idle es l).nothing

  pub idle_posts : (es : List Entry) → IsLegal t n es → posts_in (history es) ≡ 0
  idle_posts es l = Nothing.posted_none (idle es l).nothing
