-- Parts of the decision, as the code takes them.
use Rattle.std.proofs.Common.{◌≡◌, inl, inr, ◌<◌, ℕ, zero, suc, List, [], ◌∷◌, length, get_or, arith, Bool, true, refl, sym, ap, ◌∙◌, Option, Some, None, Result, Ok, Err, OnOk, slice_get}
use Rattle.std.specs.List.{cons_option}
use Rattle.std.specs.Option.{option_map}
use Rattle.card_digits.specs.Digits.{digits_of}
use Rattle.card_digits.specs.Numbers.{decimal}
use Rattle.card_digits.specs.declared.key.Key.{Key}
use Rattle.iso_message.specs.Made.{made_reversal}
use Rattle.iso_message.specs.Fields.{Fields, as_kind, el}
use Rattle.network_law.specs.Cards.{Bytes, card_of, label_of}
use Rattle.network_law.specs.Tables.{node_id}
use Rattle.node_machine.specs.Books.{Request, Books}
use Rattle.node_machine.specs.Machine as machine
use Rattle.node_machine.specs.Lists.{Lists, Row, Take, of_key, row_key, request_of}
use Rattle.message_elements.specs.Groups.{is_04xx}
use Rattle.message_keys.specs.Keys.{key_of, identity_of}
use Rattle.net_rows.specs.Network.{Network, issuer}
use Rattle.network_law.specs.Traces.{Source, IsIn, home_is, is_at_home}
use Rattle.network_law.specs.Decision.{sent_kind}
use Rattle.node_machine.specs.Machine.{own_way, put_before}
use Rattle.node_machine.specs.Lists.{view}
use Rattle.node_machine.specs.Steps as steps
use Rattle.node_machine.specs.Steps.{Progress}
use Rattle.node_books.specs.Effects.{Drafted, progress, with_effect}
use Rattle.node_books.proofs.Loads.{one_row}
use Rattle.pending_book.specs.Rows.{IsUnique}
use Rattle.node_books.specs.Values.{NewAdvice}
use Rattle.node_books.specs.declared.effect.Effect.TheVariants as effects
use Rattle.step_draft.specs.Failures.{keys_at}
use Rattle.step_draft.specs.Used.{IsQuiet}
use Rattle.step_draft.proofs.Quiet.{fail_quiet}
use Rattle.step_draft.proofs.Drafts.{kept_is, took_is}

pub on_ok : {A E : Type 0} {P Q : Type 0} (r : Result A E) → (P → Q) → OnOk r P → OnOk r Q
on_ok (Ok a) f p = f p
on_ok (Err e) f p = tt

-- what is done with a message that is kept is done with the message
pub of_kept : (f : Fields → Progress → Progress) (kept m : Fields) (d e : Drafted) → kept ≡ m → d ≡ e → f kept (progress d) ≡ f m (progress e)
of_kept f kept m d e p q = ap (λ x. f x (progress d)) p ∙ ap (λ x. f m (progress x)) q

-- the home of a card number is that of the message which has it
pub home_at : (t : Network) (n : ℕ) (m : Fields) (digits : List ℕ) (home : Bool) → digits_of digits ≡ card_of m → home ≡ home_is n (issuer t (digits_of digits)) → home ≡ is_at_home t n m
home_at t n m digits home e is = is ∙ ap (λ d. home_is n (issuer t d)) e

pub stored_is : (t : Network) (n : ℕ) (own : Bool) (m : Fields) (count : ℕ) (put home : Bool) (d d' : Drafted) (a : NewAdvice) → a ≡ record { message = m; count = count; own = own; home = home; put = put } → home ≡ is_at_home t n m → d' ≡ with_effect (effects.Kept a) d → progress d' ≡ steps.store t n own m count put (progress d)
stored_is t n own m count put home d d' a is at e =
    ap progress e
    ∙ (ap (λ z. progress (with_effect (effects.Kept z) d)) is
    ∙ kept_is t n (record { message = m; count = count; own = own; home = home; put = put }) d (sym at))

pub send_found : (t : Network) (n : ℕ) (x : Fields) (d : Progress) (l : ℕ) (m : Fields) → Some l ≡ own_way t n (view t n d.lists) x ((view t n d.lists).link (key_of x)) → m ≡ as_kind (sent_kind (is_04xx x.kind) (put_before (view t n d.lists) (identity_of x))) x → steps.put_on t n l m d ≡ steps.send t n x d
send_found t n x d l m e f = ap (λ z. steps.put_on t n l z d) f ∙ ap (λ w. steps.send_by t n x w d) e

-- own approvals

pub take_is : (m : Fields) (a : Take) (d d' : Drafted) (k : Key) (card date : List ℕ) (amount : ℕ) → a ≡ record { key = k; card = card; date = date; amount = amount; left = amount } → k ≡ key_of m → card ≡ card_of m → date ≡ label_of m → amount ≡ decimal (el m 4) → d' ≡ with_effect (effects.Approved a) d → progress d' ≡ steps.take m (progress d)
take_is m a d d' k card date amount is ek ec ed ea e =
    ap progress e ∙ took_is m a d (is ∙ (λ j. record { key = ek j; card = ec j; date = ed j; amount = ea j; left = ea j }))

-- a request that fails

pub fail_steps : (t : Network) (n : ℕ) (b : Books) (r : Request) (put : Bool) (code : Bytes) (count : ℕ) (p0 p1 p2 p3 : Progress) → p1 ≡ steps.keep t n b (made_reversal r.message (node_id t n)) p0 → put ≡ steps.is_sent t n b (made_reversal r.message (node_id t n)) p0 → code ≡ machine.standin_code t n (view t n p1.lists) r.message → count ≡ p1.lists.count → p2 ≡ steps.store t n true (made_reversal r.message (node_id t n)) count put p1 → p3 ≡ steps.standin_by t n b r code p2 → p3 ≡ steps.fail t n b (Some r) p0
fail_steps t n b r put code count p0 p1 p2 p3 e1 eput ecode ecount e2 e3 =
    e3
    ∙ (ap (steps.standin_by t n b r code) e2
    ∙ (ap (λ z. steps.standin_by t n b r z (steps.store t n true rev count put p1)) ecode
    ∙ (ap (λ z. steps.standin_by t n b r (machine.standin_code t n (view t n p1.lists) r.message) (steps.store t n true rev z put p1)) ecount
    ∙ (ap (λ z. steps.fail_from t n b r z p1) eput
    ∙ ap (λ z. steps.fail_from t n b r (steps.is_sent t n b rev p0) z) e1))))
  where
    rev : Fields
    rev = made_reversal r.message (node_id t n)

request_at : (r : Row) (m : Fields) (src : Source) → m ≡ r.message → src ≡ r.source → Path Request (record { message = m; source = src; count = r.count }) (request_of r)
request_at r m src e f = λ j. record { message = e j; source = f j; count = r.count }

swap : {A E Q : Type 0} (f : Q → Progress) (q : ℕ → Q) (c : ℕ) (q' : Q) (d' : Progress) (w : Result A E) → q c ≡ q' → OnOk w ((count : ℕ) → d' ≡ f (q count)) → OnOk w (d' ≡ f q')
swap f q c q' d' w e h = on_ok w (λ g. g c ∙ ap f e) h

found_request : (x : Lists) (k : Key) (r : Row) (m : Fields) (src : Source) → Some r ≡ of_key k x.rows → m ≡ r.message → src ≡ r.source → Path (Option Request) (Some (record { message = m; source = src; count = r.count })) (option_map request_of (of_key k x.rows))
found_request x k r m src found e f = ap Some (request_at r m src e f) ∙ ap (option_map request_of) found

fail_with : {A E : Type 0} (t : Network) (n : ℕ) (x : Lists) (k : Key) (r : Row) (m : Fields) (src : Source) (d d' : Progress) (w : Result A E) → Some r ≡ of_key k x.rows → m ≡ r.message → src ≡ r.source → OnOk w ((count : ℕ) → d' ≡ steps.fail t n (view t n x) (Some (record { message = m; source = src; count = count })) d) → OnOk w (d' ≡ steps.fail t n (view t n x) (option_map request_of (of_key k x.rows)) d)
fail_with t n x k r m src d d' w found e f h = swap (λ z. steps.fail t n (view t n x) z d) (λ count. Some (record { message = m; source = src; count = count })) r.count (option_map request_of (of_key k x.rows)) d' w (found_request x k r m src found e f) h

-- the request at a place

in_at : (rows : List Row) (i : ℕ) (r : Row) → i < length rows → r ≡ get_or rows i r → IsIn r rows
in_at [] i r lt e = absurd (omega arith)
in_at (y ∷ ys) zero r lt e = inl (sym e)
in_at (y ∷ ys) (suc i) r lt e = inr (in_at ys i r (omega arith) e)

key_at : (rows : List Row) (place : ℕ) (r : Row) → place < length rows → r ≡ get_or rows place r → keys_at rows (place ∷ []) ≡ row_key r ∷ []
key_at [] place r lt e = absurd (omega arith)
key_at (y ∷ ys) zero r lt e = ap (λ z. row_key z ∷ []) (sym e)
key_at (y ∷ ys) (suc i) r lt e = key_at ys i r (omega arith) e

view_opening : (t : Network) (n : ℕ) (x : Lists) (k : Key) → (view t n x).opening k ≡ option_map request_of (of_key k x.rows)
view_opening t n x k = refl

one_key : (t : Network) (n : ℕ) (b : Books) (rows : List Row) (place : ℕ) (k : Key) (d : Progress) → keys_at rows (place ∷ []) ≡ k ∷ [] → steps.fail t n b (b.opening k) d ≡ steps.fail_all t n b (keys_at rows (place ∷ [])) d
one_key t n b rows place k d only = sym (ap (λ ks. steps.fail_all t n b ks d) only)

one_request : (t : Network) (n : ℕ) (b : Books) (rows : List Row) (place : ℕ) (k : Key) (q : Option Request) (d : Progress) → b.opening k ≡ q → keys_at rows (place ∷ []) ≡ k ∷ [] → steps.fail t n b q d ≡ steps.fail_all t n b (keys_at rows (place ∷ [])) d
one_request t n b rows place k q d is only = ap (λ z. steps.fail t n b z d) (sym is) ∙ one_key t n b rows place k d only

then_is : {A E : Type 0} (w : Result A E) (d' p q : Progress) → p ≡ q → OnOk w (d' ≡ p) → OnOk w (d' ≡ q)
then_is w d' p q e h = on_ok w (λ g. g ∙ e) h

pub fails_at : {A E : Type 0} (t : Network) (n : ℕ) (x : Lists) (place : ℕ) (r : Row) (m : Fields) (src : Source) (d d' : Progress) (w : Result A E) → IsUnique x.rows → place < length x.rows → r ≡ get_or x.rows place r → m ≡ r.message → src ≡ r.source
    → OnOk w ((count : ℕ) → d' ≡ steps.fail t n (view t n x) (Some (record { message = m; source = src; count = count })) d)
    → OnOk w (d' ≡ steps.fail_all t n (view t n x) (keys_at x.rows (place ∷ [])) d)
fails_at t n x place r m src d d' w unique lt is em es h =
    let found : Some r ≡ of_key (row_key r) x.rows = sym (one_row x.rows unique r (in_at x.rows place r lt is)) in
    then_is w d' (steps.fail t n (view t n x) (option_map request_of (of_key (row_key r) x.rows)) d) (steps.fail_all t n (view t n x) (keys_at x.rows (place ∷ [])) d)
    (one_request t n (view t n x) x.rows place (row_key r) (option_map request_of (of_key (row_key r) x.rows)) d (view_opening t n x (row_key r)) (key_at x.rows place r lt is))
    (fail_with t n x (row_key r) r m src d d' w found em es h)

-- the requests at places, one after another

pub fail_next : (t : Network) (n : ℕ) (b : Books) (rows : List Row) (place : ℕ) (places : List ℕ) (d : Progress) → steps.fail_all t n b (keys_at rows (place ∷ places)) d ≡ steps.fail_all t n b (keys_at rows places) (steps.fail_all t n b (keys_at rows (place ∷ [])) d)
fail_next t n b rows place places d = go (option_map row_key (slice_get rows place))
  where
    go : (o : Option Key) → steps.fail_all t n b (cons_option o (keys_at rows places)) d ≡ steps.fail_all t n b (keys_at rows places) (steps.fail_all t n b (cons_option o []) d)
    go None = refl
    go (Some k) = refl

pub fails_quiet : (t : Network) (n : ℕ) (b : Books) (x : Lists) (ks : List Key) (p : Progress) → IsQuiet x p.lists → IsQuiet x (steps.fail_all t n b ks p).lists
fails_quiet t n b x [] p q = q
fails_quiet t n b x (k ∷ ks) p q = fails_quiet t n b x ks (steps.fail t n b (b.opening k) p) (fail_quiet t n b x (b.opening k) p q)
