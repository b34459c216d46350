-- Tests that find what a node put out.
use Rattle.std.specs.Prelude.{ℕ, ◌==◌, ◌&&◌, Bool, false, bytes_eq}
use Rattle.std.specs.List.{list_any}
use Rattle.network_law.specs.Cards.{Bytes}
use Rattle.network_law.specs.Entries.{Entry, Output, Put, Answer}

abbrev pub is_put : ℕ → ℕ → Bytes → Output → Bool
is_put l s bytes (Put k r body) = (k == l) && (r == s) && bytes_eq body bytes
is_put l s bytes _ = false

abbrev pub is_answer : Bytes → Output → Bool
is_answer bytes (Answer body) = bytes_eq body bytes
is_answer bytes _ = false

abbrev pub entry_puts : ℕ → ℕ → Bytes → Entry → Bool
entry_puts l s bytes e = list_any (is_put l s bytes) e.outputs

abbrev pub entry_answers : Bytes → Entry → Bool
entry_answers bytes e = list_any (is_answer bytes) e.outputs
