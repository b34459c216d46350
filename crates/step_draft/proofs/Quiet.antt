-- A request that fails neither accepts a reversal nor lends.
use Rattle.std.proofs.Common.{ℕ, [], ◌∷◌, ◌++◌, Bool, true, false, cond, Option, Some, None, bytes_eq}
use Rattle.std.proofs.lemmas.Bool.{cond_both}
use Rattle.iso_message.specs.Fields.{Fields}
use Rattle.message_elements.specs.Codes.{code_00}
use Rattle.message_keys.specs.Keys.{key_of, identity_of}
use Rattle.iso_message.specs.Made.{response, made_reversal, made_stand_in}
use Rattle.net_rows.specs.Network.{Network}
use Rattle.network_law.specs.Cards.{Bytes}
use Rattle.network_law.specs.Tables.{node_id}
use Rattle.network_law.specs.Traces.{Source, ReadOutput, Post, is_at_home}
use Rattle.node_machine.specs.Books.{Request, Books, Advised}
use Rattle.node_machine.specs.Machine as machine
use Rattle.node_machine.specs.Lists.{Lists, view, is_among}
use Rattle.node_machine.specs.Steps as steps
use Rattle.node_machine.specs.Steps.{Progress}
use Rattle.step_draft.specs.Used.{IsQuiet}

module _ (t : Network) (n : ℕ) (b : Books) (x : Lists) where
  emit_quiet : (o : ReadOutput) (p : Progress) → IsQuiet x p.lists → IsQuiet x (steps.emit o p).lists
  emit_quiet o p q = record { marks = q.marks; loans = q.loans; borrowed = q.borrowed }

  pub reply_quiet : (src : Source) (m : Fields) (p : Progress) → IsQuiet x p.lists → IsQuiet x (steps.reply t n src m p).lists
  reply_quiet src m p q = record { marks = q.marks; loans = q.loans; borrowed = q.borrowed }

  pub send_quiet : (a : Fields) (p : Progress) → IsQuiet x p.lists → IsQuiet x (steps.send t n a p).lists
  send_quiet a p q = go (machine.own_way t n (view t n p.lists) a ((view t n p.lists).link (key_of a)))
    where
      go : (w : Option ℕ) → IsQuiet x (steps.send_by t n a w p).lists
      go None = q
      go (Some l) = record { marks = q.marks; loans = q.loans; borrowed = q.borrowed }

  pub keep_quiet : (a : Fields) (p : Progress) → IsQuiet x p.lists → IsQuiet x (steps.keep t n b a p).lists
  keep_quiet a p q =
      cond_both (machine.is_known b (identity_of a)) p (cond (is_at_home t n a) (steps.emit (Post a) p) (steps.send t n a p)) (λ z. IsQuiet x z.lists) (λ _. q)
      (λ _. cond_both (is_at_home t n a) (steps.emit (Post a) p) (steps.send t n a p) (λ z. IsQuiet x z.lists) (λ _. emit_quiet (Post a) p q) (λ _. send_quiet a p q))

  own_quiet : (m : Fields) (count : ℕ) (put : Bool) (p : Progress) → IsQuiet x p.lists → IsQuiet x (steps.store t n true m count put p).lists
  own_quiet m count put p q = go (is_among (identity_of m) p.lists.known)
    where
      go : (c : Bool) → IsQuiet x (cond c p.lists (record { rows = p.lists.rows; marks = p.lists.marks; takes = p.lists.takes; store = cond (is_at_home t n m) p.lists.store (p.lists.store ++ Advised (record { message = m; count = count; put = put }) ∷ []); known = p.lists.known ++ identity_of m ∷ []; loans = p.lists.loans; borrowed = p.lists.borrowed; links = p.lists.links; asks = p.lists.asks; date = p.lists.date; count = p.lists.count }))
      go true = q
      go false = record { marks = q.marks; loans = q.loans; borrowed = q.borrowed }

  take_quiet : (m : Fields) (p : Progress) → IsQuiet x p.lists → IsQuiet x (steps.take m p).lists
  take_quiet m p q = record { marks = q.marks; loans = q.loans; borrowed = q.borrowed }

  standin_quiet : (r : Request) (c : Bytes) (p : Progress) → IsQuiet x p.lists → IsQuiet x (steps.standin_by t n b r c p).lists
  standin_quiet r c p q =
      cond_both (bytes_eq c code_00) (steps.keep t n b (made_stand_in r.message (node_id t n)) (steps.store t n true (made_stand_in r.message (node_id t n)) p.lists.count false (steps.take r.message replied))) replied (λ z. IsQuiet x z.lists)
      (λ _. keep_quiet (made_stand_in r.message (node_id t n)) (steps.store t n true (made_stand_in r.message (node_id t n)) p.lists.count false (steps.take r.message replied)) (own_quiet (made_stand_in r.message (node_id t n)) p.lists.count false (steps.take r.message replied) (take_quiet r.message replied first)))
      (λ _. first)
    where
      replied : Progress
      replied = steps.reply t n r.source (response r.message c) p

      first : IsQuiet x (steps.reply t n r.source (response r.message c) p).lists
      first = reply_quiet r.source (response r.message c) p q

  pub fail_quiet : (w : Option Request) (p : Progress) → IsQuiet x p.lists → IsQuiet x (steps.fail t n b w p).lists
  fail_quiet None p q = q
  fail_quiet (Some r) p q =
      standin_quiet r (machine.standin_code t n (view t n kept.lists) r.message) (steps.store t n true rev kept.lists.count (steps.is_sent t n b rev p) kept)
      (own_quiet rev kept.lists.count (steps.is_sent t n b rev p) kept (keep_quiet rev p q))
    where
      rev : Fields
      rev = made_reversal r.message (node_id t n)

      kept : Progress
      kept = steps.keep t n b rev p
