-- Neither the puts on a link nor the ticks ever get fewer.
use Rattle.std.proofs.Common.{◌≡◌, ◌≤◌, ◌^◌, ◌++◌, ℕ, suc, List, [], ◌∷◌, Bool, true, false, cond, not, ◌&&◌, refl, subst, ap, arith}
use Rattle.kept_messages.specs.declared.output.Way.{Way}
use Rattle.kept_messages.specs.Ways.{message_of, output_of}
use Rattle.network_law.specs.Traces.{ReadOutput, Put, Answer, Ask, Post, PutPacket}
use Rattle.node_machine.specs.Counts.{PutsAreWithin}
use Rattle.node_machine.specs.Lists.{Lists, after_output, is_among, give_back_to, leaves}
use Rattle.node_machine.proofs.Puts.{before_put, before_up}
use Rattle.message_elements.specs.Groups.{is_04xx}
use Rattle.message_keys.specs.Keys.{key_of, identity_of}
use Rattle.node_machine.specs.Books.{Advised}
use Rattle.node_books.specs.Effects.{applied_one, applied, keep_in}
use Rattle.node_books.specs.Values.{AreFew, NewAdvice}
use Rattle.node_books.specs.Ways.{links_by}
use Rattle.node_books.specs.declared.effect.Effect.{Effect}
use Rattle.node_books.specs.declared.effect.Effect.TheVariants as effects
use Rattle.node_books.proofs.Codes.{after_is}

before_output : (o : ReadOutput) (x : Lists) → AreFew (after_output o x) → AreFew x
before_output (Put l s m) x f = record { puts = before_put x.links l (2 ^ 62) f.puts; ticks = f.ticks }
before_output (PutPacket l s p) x f = record { puts = before_put x.links l (2 ^ 62) f.puts; ticks = f.ticks }
before_output (Answer m) x f = record { puts = f.puts; ticks = f.ticks }
before_output (Ask a m) x f = record { puts = f.puts; ticks = f.ticks }
before_output (Post m) x f = record { puts = f.puts; ticks = f.ticks }

before_kept : (a : NewAdvice) (x : Lists) → AreFew (keep_in a x) → AreFew x
before_kept a x f = go (is_among (identity_of a.message) x.known) f
  where
    more : Lists
    more = record {
      rows = x.rows;
      marks = cond (not a.own && is_04xx a.message.kind) (x.marks ++ record { key = key_of a.message; actual = leaves a.message } ∷ []) x.marks;
      takes = cond (not a.own && is_04xx a.message.kind) (give_back_to (key_of a.message) (leaves a.message) x.takes) x.takes;
      store = cond a.home x.store (x.store ++ Advised (record { message = a.message; count = a.count; put = a.put }) ∷ []);
      known = x.known ++ identity_of a.message ∷ [];
      loans = x.loans;
      borrowed = x.borrowed;
      links = x.links;
      asks = x.asks;
      date = x.date;
      count = x.count;
    }

    go : (b : Bool) → AreFew (cond b x more) → AreFew x
    go true h = h
    go false h = record { puts = h.puts; ticks = h.ticks }

before_one : (e : Effect) (x : Lists) → AreFew (applied_one e x) → AreFew x
before_one (effects.Sent o) x f = before_output o x f
before_one (effects.Kept a) x f = before_kept a x f
before_one (effects.Approved a) x f = record { puts = f.puts; ticks = f.ticks }
before_one (effects.Opened r) x f = record { puts = f.puts; ticks = f.ticks }
before_one (effects.Acknowledged id) x f = record { puts = f.puts; ticks = f.ticks }
before_one (effects.LinkIs l up) x f = record { puts = before_up x.links l (2 ^ 62) up f.puts; ticks = f.ticks }
before_one (effects.Dated date) x f = record { puts = f.puts; ticks = f.ticks }
before_one effects.Ticked x f = record { puts = f.puts; ticks = (let a = f.ticks in omega (arith, a)) }
before_one (effects.PacketSent l s p) x f = before_output (PutPacket l s p) x f
before_one (effects.Lent g) x f = record { puts = f.puts; ticks = f.ticks }
before_one (effects.PacketTaken p) x f = record { puts = f.puts; ticks = f.ticks }

-- so all changes leave few of both only where each beginning of them does
pub few_before : (es : List Effect) (x : Lists) → AreFew (applied es x) → AreFew x
few_before [] x f = f
few_before (e ∷ es) x f = before_one e x (few_before es (applied_one e x) f)

-- what a change does to the links and the ticks

pub sent_few : (w : Way) (o : ReadOutput) (x : Lists) → output_of w (message_of o) ≡ o → AreFew (after_output o x) → PutsAreWithin (2 ^ 62) (links_by w x.links)
sent_few w o x e f = subst (λ (z : Lists). PutsAreWithin (2 ^ 62) z.links) (Rattle.std.proofs.Common.sym (after_is w o x e)) f.puts
