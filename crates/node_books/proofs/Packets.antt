-- A packet that goes out changes a link, and nothing else.
use Rattle.std.proofs.Common.{◌≡◌, ℕ, List, [], ◌∷◌, map, refl, sym}
use Rattle.network_law.specs.declared.grant.GrantPacket.{GrantPacket}
use Rattle.network_law.specs.Traces.{PutPacket}
use Rattle.node_machine.specs.Lists.{Row, Lists, row_after, with_put, after_output}
use Rattle.node_books.proofs.Codes.{marks_put}
use Rattle.pending_book.proofs.Unique.{or_none, or_false}

rows_quiet : (l s : ℕ) (p : GrantPacket) (rows : List Row) → map (row_after (PutPacket l s p)) rows ≡ rows
rows_quiet l s p [] = refl
rows_quiet l s p (r ∷ rs) = rw (or_none r.link, or_none r.answer, or_false r.asked, rows_quiet l s p rs) refl

pub packet_quiet : (l s : ℕ) (p : GrantPacket) (x : Lists) → record { rows = x.rows; marks = x.marks; takes = x.takes; store = x.store; known = x.known; loans = x.loans; borrowed = x.borrowed; links = with_put l x.links; asks = x.asks; date = x.date; count = x.count } ≡ after_output (PutPacket l s p) x
packet_quiet l s p x = rw (rows_quiet l s p x.rows, sym (marks_put (PutPacket l s p) x.store)) refl
