-- How far one step of the machine over lists lets the lists grow.
use Rattle.std.proofs.Common.{◌≡◌, ◌≤◌, ◌+◌, ◌*◌, ◌^◌, ◌++◌, ℕ, suc, List, [], ◌∷◌, map, filter, reverse, length, Bool, true, false, cond, not, ◌&&◌, Option, Some, None, ◌∙◌, find, is_none, bytes_eq, arith}
use Rattle.std.specs.Prelude.{nat_lt}
use Rattle.std.proofs.lemmas.Bool.{cond_both}
use Rattle.std.proofs.lemmas.List.{length-map, length-append, length-reverse}
use Rattle.card_digits.specs.declared.key.Key.{Key}
use Rattle.message_elements.specs.declared.kind.Kind.TheVariants.{K0100}
use Rattle.message_elements.specs.declared.kind.Group.{Group}
use Rattle.message_elements.specs.declared.kind.Group.TheVariants as groups
use Rattle.iso_message.specs.Fields.{Fields, el, as_kind}
use Rattle.message_elements.specs.Groups.{group, is_request, is_04xx}
use Rattle.message_keys.specs.Keys.{key_of, content, content_eq, identity_of, code_of}
use Rattle.message_elements.specs.Codes.{code_00, code_05, code_68, code_96}
use Rattle.iso_message.specs.Made.{made_reversal, response}
use Rattle.net_rows.specs.Network.{Network, issuer}
use Rattle.net_rows.specs.declared.row.Issuer.{Issuer}
use Rattle.network_law.specs.Tables.{is_home, node_id, route_links}
use Rattle.network_law.specs.declared.grant.Grant.{Grant}
use Rattle.network_law.specs.declared.grant.GrantPacket.{GrantPacket}
use Rattle.network_law.specs.declared.grant.GrantPacket.TheVariants as packets
use Rattle.network_law.specs.Cards.{Bytes, is_good_card, card_of}
use Rattle.network_law.specs.Traces.{Source, Gate, ByLink, ReadInput, Enter, Take, LinkUp, LinkDown, Tick, HostAnswer, NewDate, TakePacket, Lend, ReadOutput, Put, Answer, Ask, Post, PutPacket, Handled, is_link, is_at_home, as_kept}
use Rattle.network_law.specs.Decision.{same_source}
use Rattle.node_machine.specs.Books.{Request, Stored, Advised, Granted, Books}
use Rattle.node_machine.specs.Machine as machine
use Rattle.node_machine.specs.Lists as lists
use Rattle.node_machine.specs.Lists.{Row, Lists, LinkState, link_at, with_put, with_up, fresh, of_key, view}
use Rattle.node_machine.specs.Steps as steps
use Rattle.node_machine.specs.Steps.{Progress}
use Rattle.node_machine.proofs.Puts.{put_within, one_more, up_within, fresh_within}
use Rattle.node_machine.specs.Counts.{PutsAreWithin, AreWithin, BeginsWithin, StaysWithin}

-- links

output_within : (o : ReadOutput) (links : List LinkState) (v : ℕ) → PutsAreWithin v links → PutsAreWithin (v + 1) (lists.links_after o links)
output_within (Put l s m) links v h = put_within links l v h
output_within (PutPacket l s p) links v h = put_within links l v h
output_within (Answer m) links v h = one_more links v h
output_within (Ask a m) links v h = one_more links v h
output_within (Post m) links v h = one_more links v h

received_within : (i : ReadInput) (links : List LinkState) (v : ℕ) → PutsAreWithin v links → PutsAreWithin v (lists.links_received i links)
received_within (LinkUp l) links v h = up_within links l v true h
received_within (LinkDown l) links v h = up_within links l v false h
received_within (Enter m) links v h = h
received_within (Take l s m) links v h = h
received_within Tick links v h = h
received_within (HostAnswer a c) links v h = h
received_within (NewDate d) links v h = h
received_within (TakePacket l s p) links v h = h
received_within (Lend m c d a) links v h = h

-- lengths

filter_short : {X : Type 0} (p : X → Bool) (xs : List X) → length (filter p xs) ≤ length xs
filter_short p [] = omega arith
filter_short p (x ∷ xs) = cond_both (p x) (x ∷ filter p xs) (filter p xs) (λ z. length z ≤ suc (length xs)) (λ _. (let a = filter_short p xs in omega (arith, a))) (λ _. (let a = filter_short p xs in omega (arith, a)))

one_longer : {X : Type 0} (xs : List X) (x : X) (s : ℕ) → length xs ≤ s → length (xs ++ x ∷ []) ≤ s + 1
one_longer xs x s h = rw (length-append xs (x ∷ [])) (omega (arith, h))

opened_within : (count : ℕ) (w : Option Handled) (rows : List Row) (r : ℕ) → length rows ≤ r → length (lists.open_row count w rows) ≤ r + 1
opened_within count None rows r h = omega (arith, h)
opened_within count (Some x) rows r h = cond_both (is_request x.message.kind && is_none (of_key (key_of x.message) rows)) (rows ++ lists.new_row count x ∷ []) rows (λ z. length z ≤ r + 1) (λ _. one_longer rows (lists.new_row count x) r h) (λ _. omega (arith, h))

acked_within : (f : Stored → Bool) (store : List Stored) (s : ℕ) → length store ≤ s → length (filter f store) ≤ s + 1
acked_within f store s h = (let a = filter_short f store in omega (arith, a, h))

stored_within : (t : Network) (n number count : ℕ) (i : ReadInput) (store : List Stored) (s : ℕ) → length store ≤ s → length (machine.store_after t n number count i store) ≤ s + 1
stored_within t n number count (Lend m c d a) store s h = one_longer store _ s h
stored_within t n number count (Enter m) store s h = acked_within (λ a. not (machine.acks (Enter m) a)) store s h
stored_within t n number count (Take l k m) store s h = acked_within (λ a. not (machine.acks (Take l k m) a)) store s h
stored_within t n number count (LinkUp l) store s h = acked_within (λ a. not (machine.acks (LinkUp l) a)) store s h
stored_within t n number count (LinkDown l) store s h = acked_within (λ a. not (machine.acks (LinkDown l) a)) store s h
stored_within t n number count Tick store s h = acked_within (λ a. not (machine.acks Tick a)) store s h
stored_within t n number count (HostAnswer a c) store s h = acked_within (λ z. not (machine.acks (HostAnswer a c) z)) store s h
stored_within t n number count (NewDate d) store s h = acked_within (λ a. not (machine.acks (NewDate d) a)) store s h
stored_within t n number count (TakePacket l k p) store s h = acked_within (λ a. not (machine.acks (TakePacket l k p) a)) store s h

ticks_within : (i : ReadInput) (c k : ℕ) → c ≤ k → Rattle.network_law.specs.Traces.ticks_in i + c ≤ k + 1
ticks_within (Enter m) c k h = omega (arith, h)
ticks_within (Take l s m) c k h = omega (arith, h)
ticks_within (LinkUp l) c k h = omega (arith, h)
ticks_within (LinkDown l) c k h = omega (arith, h)
ticks_within Tick c k h = omega (arith, h)
ticks_within (HostAnswer a b) c k h = omega (arith, h)
ticks_within (NewDate d) c k h = omega (arith, h)
ticks_within (TakePacket l s p) c k h = omega (arith, h)
ticks_within (Lend m b d a) c k h = omega (arith, h)

-- the parts of a step. r and k bound the requests and the ticks, which no part changes; s and v bound what is stored and the puts

record Within (r k s v : ℕ) (d : Progress) : Type 0 where
  lists_are : AreWithin r s v k d.lists

module _ (t : Network) (n r k : ℕ) where
  looser : (s v s2 v2 : ℕ) (d : Progress) → s ≤ s2 → v ≤ v2 → Within r k s v d → Within r k s2 v2 d
  looser s v s2 v2 d a b w = record {
    lists_are = record {
      in_rows = w.lists_are.in_rows;
      in_store = (let h = w.lists_are.in_store in omega (arith, a, h));
      in_links = λ l. (let h = w.lists_are.in_links l in omega (arith, b, h));
      in_count = w.lists_are.in_count;
    };
  }

  either : (c : Bool) (x y : Progress) (s v : ℕ) → Within r k s v x → Within r k s v y → Within r k s v (cond c x y)
  either c x y s v a b = cond_both c x y (Within r k s v) (λ _. a) (λ _. b)

  emits : (o : ReadOutput) (d : Progress) (s v : ℕ) → Within r k s v d → Within r k s (v + 1) (steps.emit o d)
  emits o d s v w = record {
    lists_are = record {
      in_rows = rw (length-map d.lists.rows (lists.row_after o)) w.lists_are.in_rows;
      in_store = rw (length-map d.lists.store (machine.marked o)) w.lists_are.in_store;
      in_links = output_within o d.lists.links v w.lists_are.in_links;
      in_count = w.lists_are.in_count;
    };
  }

  replies : (src : Source) (m : Fields) (d : Progress) (s v : ℕ) → Within r k s v d → Within r k s (v + 1) (steps.reply t n src m d)
  replies src m d s v w = emits _ d s v w

  stores : (own : Bool) (m : Fields) (count : ℕ) (put : Bool) (d : Progress) (s v : ℕ) → Within r k s v d → Within r k (s + 1) v (steps.store t n own m count put d)
  stores own m count put d s v w = record {
    lists_are = cond_both (lists.is_among (identity_of m) d.lists.known) d.lists more (AreWithin r (s + 1) v k) (λ _. (looser s v (s + 1) v d (omega arith) (omega arith) w).lists_are) (λ _. record {
      in_rows = w.lists_are.in_rows;
      in_store = cond_both (is_at_home t n m) d.lists.store (d.lists.store ++ item ∷ []) (λ z. length z ≤ s + 1) (λ _. (let h = w.lists_are.in_store in omega (arith, h))) (λ _. one_longer d.lists.store item s w.lists_are.in_store);
      in_links = w.lists_are.in_links;
      in_count = w.lists_are.in_count;
    });
  }
    where
      item : Stored
      item = Advised (record { message = m; count = count; put = put })

      more : Lists
      more = record {
        rows = d.lists.rows;
        marks = cond (not own && is_04xx m.kind) (d.lists.marks ++ record { key = key_of m; actual = lists.leaves m } ∷ []) d.lists.marks;
        takes = cond (not own && is_04xx m.kind) (lists.give_back_to (key_of m) (lists.leaves m) d.lists.takes) d.lists.takes;
        store = cond (is_at_home t n m) d.lists.store (d.lists.store ++ item ∷ []);
        known = d.lists.known ++ identity_of m ∷ [];
        loans = d.lists.loans;
        borrowed = d.lists.borrowed;
        links = d.lists.links;
        asks = d.lists.asks;
        date = d.lists.date;
        count = d.lists.count;
      }

  takes : (m : Fields) (d : Progress) (s v : ℕ) → Within r k s v d → Within r k s v (steps.take m d)
  takes m d s v w = record { lists_are = record { in_rows = w.lists_are.in_rows; in_store = w.lists_are.in_store; in_links = w.lists_are.in_links; in_count = w.lists_are.in_count } }

  sends_by : (x : Fields) (l : Option ℕ) (d : Progress) (s v : ℕ) → Within r k s v d → Within r k s (v + 1) (steps.send_by t n x l d)
  sends_by x None d s v w = looser s v s (v + 1) d (omega arith) (omega arith) w
  sends_by x (Some l) d s v w = emits _ d s v w

  sends : (x : Fields) (d : Progress) (s v : ℕ) → Within r k s v d → Within r k s (v + 1) (steps.send t n x d)
  sends x d s v w = sends_by x _ d s v w

  keeps : (b : Books) (x : Fields) (d : Progress) (s v : ℕ) → Within r k s v d → Within r k s (v + 1) (steps.keep t n b x d)
  keeps b x d s v w =
      either (machine.is_known b (identity_of x)) d _ s (v + 1) (looser s v s (v + 1) d (omega arith) (omega arith) w)
      (either (is_at_home t n x) (steps.emit (Post x) d) (steps.send t n x d) s (v + 1) (emits (Post x) d s v w) (sends x d s v w))

  -- stand-in

  stands_in_by : (b : Books) (q : Request) (c : Bytes) (d : Progress) (s v : ℕ) → Within r k s v d → Within r k (s + 1) (v + 2) (steps.standin_by t n b q c d)
  stands_in_by b q c d s v w =
      let replied = replies q.source (response q.message c) d s v w in
      either (bytes_eq c code_00) _ (steps.reply t n q.source (response q.message c) d) (s + 1) (v + 2)
      (looser (s + 1) (v + 1 + 1) (s + 1) (v + 2) _ (omega arith) (omega arith) (keeps b _ _ (s + 1) (v + 1) (stores true _ _ false _ s (v + 1) (takes q.message _ s (v + 1) replied))))
      (looser s (v + 1) (s + 1) (v + 2) _ (omega arith) (omega arith) replied)

  stands_in : (b : Books) (q : Request) (d : Progress) (s v : ℕ) → Within r k s v d → Within r k (s + 1) (v + 2) (steps.standin t n b q d)
  stands_in b q d s v w = stands_in_by b q (machine.standin_code t n (view t n d.lists) q.message) d s v w

  fails_from : (b : Books) (q : Request) (put : Bool) (d : Progress) (s v : ℕ) → Within r k s v d → Within r k (s + 2) (v + 2) (steps.fail_from t n b q put d)
  fails_from b q put d s v w = looser (s + 1 + 1) (v + 2) (s + 2) (v + 2) _ (omega arith) (omega arith) (stands_in_by b q (machine.standin_code t n (view t n d.lists) q.message) _ (s + 1) v (stores true (made_reversal q.message (node_id t n)) (view t n d.lists).count put d s v w))

  fails : (b : Books) (q : Option Request) (d : Progress) (s v : ℕ) → Within r k s v d → Within r k (s + 2) (v + 3) (steps.fail t n b q d)
  fails b None d s v w = looser s v (s + 2) (v + 3) d (omega arith) (omega arith) w
  fails b (Some q) d s v w = looser (s + 2) (v + 1 + 2) (s + 2) (v + 3) _ (omega arith) (omega arith) (fails_from b q _ _ s (v + 1) (keeps b _ d s v w))

  fails_all : (b : Books) (ks : List Key) (d : Progress) (s v : ℕ) → Within r k s v d → Within r k (s + 2 * length ks) (v + 3 * length ks) (steps.fail_all t n b ks d)
  fails_all b [] d s v w = looser s v (s + 2 * 0) (v + 3 * 0) d (omega arith) (omega arith) w
  fails_all b (x ∷ ks) d s v w = looser (s + 2 + 2 * length ks) (v + 3 + 3 * length ks) (s + 2 * suc (length ks)) (v + 3 * suc (length ks)) _ (omega arith) (omega arith) (fails_all b ks _ (s + 2) (v + 3) (fails b (b.opening x) d s v w))

  -- grants

  sends_grant_by : (g : Grant) (l : Option ℕ) (d : Progress) (s v : ℕ) → Within r k s v d → Within r k s (v + 1) (steps.send_grant_by t n g l d)
  sends_grant_by g None d s v w = looser s v s (v + 1) d (omega arith) (omega arith) w
  sends_grant_by g (Some l) d s v w = emits _ d s v w

  sends_grant : (borrower : ℕ) (g : Grant) (d : Progress) (s v : ℕ) → Within r k s v d → Within r k s (v + 1) (steps.send_grant t n borrower g d)
  sends_grant borrower g d s v w = sends_grant_by g _ d s v w

  acks_packet : (l : ℕ) (p : GrantPacket) (d : Progress) (s v : ℕ) → Within r k s v d → Within r k s (v + 1) (steps.on_packet t n l p d)
  acks_packet l (packets.Grant g) d s v w = emits _ d s v w
  acks_packet l (packets.Ack lender number) d s v w = looser s v s (v + 1) d (omega arith) (omega arith) w

  sends_due : (x : Stored) (d : Progress) (s v : ℕ) → Within r k s v d → Within r k s (v + 1) (steps.send_due t n x d)
  sends_due (Advised a) d s v w = sends a.message d s v w
  sends_due (Granted g) d s v w = sends_grant g.borrower g.grant d s v w

  sends_all : (xs : List Stored) (d : Progress) (s v : ℕ) → Within r k s v d → Within r k s (v + length xs) (steps.send_all t n xs d)
  sends_all [] d s v w = looser s v s (v + 0) d (omega arith) (omega arith) w
  sends_all (x ∷ xs) d s v w = looser s (v + 1 + length xs) s (v + suc (length xs)) _ (omega arith) (omega arith) (sends_all xs _ s (v + 1) (sends_due x d s v w))

  -- messages. Each is kept once at most, and makes three outputs at most

  replies_only : (src : Source) (m : Fields) (d : Progress) (s v : ℕ) → Within r k s v d → Within r k (s + 1) (v + 3) (steps.reply t n src m d)
  replies_only src m d s v w = looser s (v + 1) (s + 1) (v + 3) _ (omega arith) (omega arith) (replies src m d s v w)

  none_done : (d : Progress) (s v : ℕ) → Within r k s v d → Within r k (s + 1) (v + 3) d
  none_done d s v w = looser s v (s + 1) (v + 3) d (omega arith) (omega arith) w

  forwards : (b : Books) (m : Fields) (src : Source) (l : Option ℕ) (d : Progress) (s v : ℕ) → Within r k s v d → Within r k (s + 1) (v + 3) (steps.on_forward t n b m src l d)
  forwards b m src None d s v w = looser (s + 1) (v + 2) (s + 1) (v + 3) _ (omega arith) (omega arith) (stands_in b (record { message = m; source = src; count = b.count }) d s v w)
  forwards b m src (Some l) d s v w = looser s (v + 1) (s + 1) (v + 3) _ (omega arith) (omega arith) (emits _ d s v w)

  for_issuer : (b : Books) (m : Fields) (src : Source) (x : Option Issuer) (d : Progress) (s v : ℕ) → Within r k s v d → Within r k (s + 1) (v + 3) (steps.on_issuer t n b m src x d)
  for_issuer b m src None d s v w = replies_only src _ d s v w
  for_issuer b m src (Some x) d s v w =
      either (nat_lt 65536 (machine.load b + 2)) _ _ (s + 1) (v + 3) (replies_only src _ d s v w)
      (either (is_home x n) _ _ (s + 1) (v + 3) (looser s (v + 1) (s + 1) (v + 3) _ (omega arith) (omega arith) (emits (Ask (suc b.ask_count) (as_kind K0100 m)) d s v w)) (forwards b m src (find b.is_up (route_links t n (card_of m))) d s v w))

  repeats : (src : Source) (a : Option Fields) (d : Progress) (s v : ℕ) → Within r k s v d → Within r k (s + 1) (v + 3) (steps.on_repeat t n src a d)
  repeats src None d s v w = none_done d s v w
  repeats src (Some a) d s v w = replies_only src a d s v w

  requests : (b : Books) (m : Fields) (src : Source) (q : Option Request) (d : Progress) (s v : ℕ) → Within r k s v d → Within r k (s + 1) (v + 3) (steps.on_request t n b m src q d)
  requests b m src (Some q) d s v w = either (same_source q.source src && content_eq (content q.message) (content m)) _ _ (s + 1) (v + 3) (repeats src (b.answer (key_of m)) d s v w) (replies_only src _ d s v w)
  requests b m src None d s v w =
      either (machine.is_reversed b (key_of m)) _ _ (s + 1) (v + 3) (replies_only src _ d s v w)
      (either (not (is_good_card (el m 2))) _ _ (s + 1) (v + 3) (replies_only src _ d s v w) (for_issuer b m src (issuer t (card_of m)) d s v w))

  answers_pending : (p : Bool) (q : Option Request) (c : Bytes) (d : Progress) (s v : ℕ) → Within r k s v d → Within r k s (v + 1) (steps.answer_pending t n p q c d)
  answers_pending true (Some q) c d s v w = replies q.source _ d s v w
  answers_pending true None c d s v w = looser s v s (v + 1) d (omega arith) (omega arith) w
  answers_pending false q c d s v w = looser s v s (v + 1) d (omega arith) (omega arith) w

  accepts : (b : Books) (m : Fields) (src : Source) (d : Progress) (s v : ℕ) → Within r k s v d → Within r k (s + 1) (v + 2) (steps.accept t n b m src d)
  accepts b m src d s v w = looser (s + 1) (v + 1 + 1) (s + 1) (v + 2) _ (omega arith) (omega arith) (keeps b _ _ (s + 1) (v + 1) (stores false _ _ false _ s (v + 1) (replies src _ d s v w)))

  reverses : (b : Books) (m : Fields) (src : Source) (d : Progress) (s v : ℕ) → Within r k s v d → Within r k (s + 1) (v + 3) (steps.on_reversal t n b m src d)
  reverses b m src d s v w =
      either (not (is_good_card (el m 2))) _ _ (s + 1) (v + 3) (replies_only src _ d s v w)
      (either (is_none (issuer t (card_of m))) _ _ (s + 1) (v + 3) (replies_only src _ d s v w)
      (either (machine.other_content (b.opening (key_of m)) m) _ _ (s + 1) (v + 3) (replies_only src _ d s v w)
      (either (machine.is_known b (identity_of m)) _ _ (s + 1) (v + 3) (replies_only src _ d s v w)
      (looser (s + 1) (v + 1 + 2) (s + 1) (v + 3) _ (omega arith) (omega arith) (accepts b m src _ s (v + 1) (answers_pending (machine.is_pending b (key_of m)) (b.opening (key_of m)) code_68 d s v w))))))

  advises : (b : Books) (m : Fields) (src : Source) (d : Progress) (s v : ℕ) → Within r k s v d → Within r k (s + 1) (v + 3) (steps.on_advice t n b m src d)
  advises b m src d s v w =
      either (not (is_good_card (el m 2))) _ _ (s + 1) (v + 3) (replies_only src _ d s v w)
      (either (is_none (issuer t (card_of m))) _ _ (s + 1) (v + 3) (replies_only src _ d s v w)
      (either (machine.is_known b (identity_of m)) _ _ (s + 1) (v + 3) (replies_only src _ d s v w)
      (looser (s + 1) (v + 2) (s + 1) (v + 3) _ (omega arith) (omega arith) (accepts b m src d s v w))))

  by_code : (b : Books) (x : Key) (c other : Bytes) (q : Option Request) (d : Progress) (s v : ℕ) → Within r k s v d → Within r k (s + 1) (v + 3) (steps.on_code t n b x c other q d)
  by_code b x c other None d s v w = none_done d s v w
  by_code b x c other (Some q) d s v w =
      either (machine.is_pending b x) _ _ (s + 1) (v + 3) (replies_only q.source _ d s v w)
      (either (bytes_eq c code_00 && machine.comes_late b x) _ _ (s + 1) (v + 3) (looser (s + 1) (v + 1) (s + 1) (v + 3) _ (omega arith) (omega arith) (keeps b _ _ (s + 1) v (stores true _ _ false d s v w))) (none_done d s v w))

  answers : (b : Books) (m : Fields) (src : Source) (d : Progress) (s v : ℕ) → Within r k s v d → Within r k (s + 1) (v + 3) (steps.on_answer t n b m src d)
  answers b m Gate d s v w = none_done d s v w
  answers b m (ByLink l) d s v w = either (is_link l (b.link (key_of m))) _ _ (s + 1) (v + 3) (by_code b (key_of m) (code_of m) code_96 (b.opening (key_of m)) d s v w) (none_done d s v w)

  by_host : (b : Books) (c : Bytes) (x : Option Key) (d : Progress) (s v : ℕ) → Within r k s v d → Within r k (s + 1) (v + 3) (steps.on_host t n b c x d)
  by_host b c None d s v w = none_done d s v w
  by_host b c (Some x) d s v w = by_code b x c code_05 (b.opening x) d s v w

  by_group : (b : Books) (m : Fields) (src : Source) (g : Group) (d : Progress) (s v : ℕ) → Within r k s v d → Within r k (s + 1) (v + 3) (steps.on_group t n b m src g d)
  by_group b m src groups.AuthorizationRequest d s v w = requests b m src (b.opening (key_of m)) d s v w
  by_group b m src groups.AuthorizationResponse d s v w = answers b m src d s v w
  by_group b m src groups.Advice d s v w = advises b m src d s v w
  by_group b m src groups.Reversal d s v w = reverses b m src d s v w
  by_group b m src groups.AdviceResponse d s v w = none_done d s v w
  by_group b m src groups.ReversalResponse d s v w = none_done d s v w

  handles : (b : Books) (x : Option Handled) (d : Progress) (s v : ℕ) → Within r k s v d → Within r k (s + 1) (v + 3) (steps.on_handled t n b x d)
  handles b None d s v w = none_done d s v w
  handles b (Some x) d s v w = by_group b x.message x.source (group x.message.kind) d s v w

-- the whole step

starts : (t : Network) (n r k s v : ℕ) (i : ReadInput) (x : Lists) → AreWithin r s v k x → Within (r + 1) (k + 1) (s + 1) v (steps.start t n i x)
starts t n r k s v i x w = record {
  lists_are = record {
    in_rows = opened_within x.count (machine.handled (view t n x) i) x.rows r w.in_rows;
    in_store = stored_within t n _ x.count i x.store s w.in_store;
    in_links = received_within i x.links v w.in_links;
    in_count = ticks_within i x.count k w.in_count;
  };
}

few_fail : (t : Network) (n : ℕ) (i : ReadInput) (x : Lists) (r : ℕ) → length x.rows ≤ r → length (machine.failing t (view t n x) i) ≤ r
few_fail t n i x r h =
    let keys = reverse (reverse (map lists.row_key x.rows)) in
    let short : length (machine.failing t (view t n x) i) ≤ length keys = filter_short (machine.fails t (view t n x) i) keys in
    let same : length keys ≡ length x.rows = length-reverse (reverse (map lists.row_key x.rows)) ∙ (length-reverse (map lists.row_key x.rows) ∙ length-map x.rows lists.row_key) in
    omega (arith, short, same, h)

few_due : (t : Network) (n : ℕ) (x : Lists) (s : ℕ) → length x.store ≤ s → length (machine.due t (view t n x)) ≤ s
few_due t n x s h = (let short = filter_short (machine.is_due t.settings.advice_ticks (suc x.count)) x.store in omega (arith, short, h))

module _ (t : Network) (n r k s v : ℕ) (x : Lists) (w : AreWithin r s v k x) where
  abbrev Ends : Progress → Type 0
  Ends d = Within (r + 1) (k + 1) (s + 2 * r + 2) (v + s + 3 * r + 3) d

  ends : (s2 v2 : ℕ) (d : Progress) → s2 ≤ s + 2 * r + 2 → v2 ≤ v + s + 3 * r + 3 → Within (r + 1) (k + 1) s2 v2 d → Ends d
  ends s2 v2 d a b h = looser t n (r + 1) (k + 1) s2 v2 _ _ d a b h

  ends_handled : (i : ReadInput) (h : Option Handled) → Ends (steps.on_handled t n (view t n x) h (steps.start t n i x))
  ends_handled i h = ends (s + 1 + 1) (v + 3) _ (omega arith) (omega arith) (handles t n (r + 1) (k + 1) (view t n x) h _ (s + 1) v (starts t n r k s v i x w))

  ends_started : (i : ReadInput) → Ends (steps.start t n i x)
  ends_started i = ends (s + 1) v _ (omega arith) (omega arith) (starts t n r k s v i x w)

  ends_down : (l : ℕ) → Ends (steps.step t n x (LinkDown l))
  unfolding steps.step
  ends_down l =
      let ks = machine.failing t (view t n x) (LinkDown l) in
      let few : length (machine.failing t (view t n x) (LinkDown l)) ≤ r = few_fail t n (LinkDown l) x r w.in_rows in
      ends (s + 1 + 2 * length (machine.failing t (view t n x) (LinkDown l))) (v + 3 * length (machine.failing t (view t n x) (LinkDown l))) _ (omega (arith, few)) (omega (arith, few)) (fails_all t n (r + 1) (k + 1) (view t n x) (machine.failing t (view t n x) (LinkDown l)) _ (s + 1) v (starts t n r k s v (LinkDown l) x w))

  ends_tick : Ends (steps.step t n x Tick)
  unfolding steps.step
  ends_tick =
      let few : length (machine.failing t (view t n x) Tick) ≤ r = few_fail t n Tick x r w.in_rows in
      let due : length (machine.due t (view t n x)) ≤ s = few_due t n x s w.in_store in
      ends (s + 1 + 2 * length (machine.failing t (view t n x) Tick)) (v + length (machine.due t (view t n x)) + 3 * length (machine.failing t (view t n x) Tick)) _ (omega (arith, few)) (omega (arith, few, due))
      (fails_all t n (r + 1) (k + 1) (view t n x) (machine.failing t (view t n x) Tick) _ (s + 1) (v + length (machine.due t (view t n x)))
      (sends_all t n (r + 1) (k + 1) (machine.due t (view t n x)) _ (s + 1) v (starts t n r k s v Tick x w)))

  step_within : (i : ReadInput) → Ends (steps.step t n x i)
  unfolding steps.step
  step_within (Enter m) = ends_handled (Enter m) (machine.handled (view t n x) (Enter m))
  step_within (Take l c m) = ends_handled (Take l c m) (machine.handled (view t n x) (Take l c m))
  step_within (LinkUp l) = ends_started (LinkUp l)
  step_within (LinkDown l) = ends_down l
  step_within Tick = ends_tick
  step_within (HostAnswer a c) = ends (s + 1 + 1) (v + 3) _ (omega arith) (omega arith) (by_host t n (r + 1) (k + 1) (view t n x) c ((view t n x).ask_key a) _ (s + 1) v (starts t n r k s v (HostAnswer a c) x w))
  step_within (NewDate date) = ends_started (NewDate date)
  step_within (TakePacket l c p) = ends (s + 1) (v + 1) _ (omega arith) (omega arith) (acks_packet t n (r + 1) (k + 1) l p _ (s + 1) v (starts t n r k s v (TakePacket l c p) x w))
  step_within (Lend m c d a) = ends (s + 1) (v + 1) _ (omega arith) (omega arith) (sends_grant t n (r + 1) (k + 1) m _ _ (s + 1) v (starts t n r k s v (Lend m c d a) x w))

pub stays_within : (t : Network) → StaysWithin t
stays_within t n e i x few w =
    let h = (step_within t n e e (2000000 * e) (2 ^ 41 * e) x w i).lists_are in
    record {
      in_rows = (let a = h.in_rows in omega (arith, a));
      in_store = (let a = h.in_store in omega (arith, a, few));
      in_links = λ l. (let a = h.in_links l in omega (arith, a, few));
      in_count = (let a = h.in_count in omega (arith, a));
    }

pub begins_within : (t : Network) → BeginsWithin t
begins_within t links = record { in_rows = omega arith; in_store = omega arith; in_links = fresh_within links 0; in_count = omega arith }
