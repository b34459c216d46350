-- What the lists say of a key: what their view says, whatever the tables.
use Rattle.std.specs.Prelude.{ℕ, Bool, ◌&&◌, Option, is_some, is_none}
use Rattle.std.specs.Option.{option_map, option_and_then}
use Rattle.card_digits.specs.declared.key.Key.{Key}
use Rattle.node_machine.specs.Books.{Request}
use Rattle.node_machine.specs.Lists.{Lists, of_key, request_of, row_answer, row_link}

abbrev pub request_at : Lists → Key → Option Request
request_at x k = option_map request_of (of_key k x.rows)

abbrev pub is_pending_at : Lists → Key → Bool
is_pending_at x k = is_some (request_at x k) && is_none (option_and_then row_answer (of_key k x.rows))

-- the link on which its request was put
abbrev pub link_at_key : Lists → Key → Option ℕ
link_at_key x k = option_and_then row_link (of_key k x.rows)
