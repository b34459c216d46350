-- Grants of lent amounts, what acknowledges them, and the bytes as which they are put on links.
use Rattle.std.specs.Prelude.{ℕ, zero, suc, ◌≡◌, ◌<◌, true, ◌+◌, ◌/◌, ◌%◌, ◌==◌, [], ◌∷◌, ◌++◌, length, drop, Bool, ◌&&◌, if◌then◌else◌, nat_le, bytes_eq, codes, Option, Some, None}
use Rattle.std.specs.Char.{is_ascii_digit}
use Rattle.std.specs.List.{list_all}
use Rattle.card_digits.specs.Digits.{digits_of, IsCard, IsDateLabel}
use Rattle.card_digits.specs.Numbers.{decimal}
use Rattle.message_keys.specs.Keys.{part}
use Rattle.network_law.specs.declared.grant.Grant.{Grant}
use Rattle.network_law.specs.declared.grant.GrantPacket.{GrantPacket}
use Rattle.network_law.specs.declared.grant.GrantPacket.TheVariants as packets
use Rattle.network_law.specs.Cards.{Bytes, text_of}

-- what a packet is that nodes put on links

-- eleven ASCII digits
pub record IsPaddedId (id : Bytes) : Type 0 where
  pub size : length id ≡ 11
  pub digits : list_all is_ascii_digit id ≡ true

pub record IsGrant (g : Grant) : Type 0 where
  pub lender : IsPaddedId g.lender
  pub number : g.number < 10000000000
  pub borrower : IsPaddedId g.borrower
  pub card : IsCard g.card
  pub date : IsDateLabel g.date
  pub amount : g.amount < 1000000000000

abbrev pub IsPacket : GrantPacket → Type 0
IsPacket (packets.Grant g) = IsGrant g
IsPacket (packets.Ack lender number) = IsPaddedId lender × (number < 10000000000)

-- writing

-- the last digits of a number, so many
abbrev pub number_text : ℕ → ℕ → Bytes
number_text zero n = []
number_text (suc width) n = number_text width (n / 10) ++ (48 + n % 10) ∷ []

abbrev pub grant_bytes : Grant → Bytes
grant_bytes g = codes "GRNT" ++ (g.lender ++ (number_text 10 g.number ++ (g.borrower ++ (number_text 2 (length g.card) ++ (text_of g.card ++ (text_of g.date ++ number_text 12 g.amount))))))

unfoldable pub packet_bytes : GrantPacket → Bytes
packet_bytes (packets.Grant g) = grant_bytes g
packet_bytes (packets.Ack lender number) = codes "GACK" ++ (lender ++ number_text 10 number)

-- reading

-- the text begins with this word, and so many digits follow and nothing else
abbrev pub is_word_and_digits : Bytes → ℕ → Bytes → Bool
is_word_and_digits word count bytes = bytes_eq (part 0 4 bytes) word && length bytes == 4 + count && list_all is_ascii_digit (drop 4 bytes)

-- the fields of a grant of a card of this size, each in its place
abbrev pub grant_at : ℕ → Bytes → Grant
grant_at size bytes = record {
  lender = part 4 11 bytes;
  number = decimal (part 15 10 bytes);
  borrower = part 25 11 bytes;
  card = digits_of (part 38 size bytes);
  date = digits_of (part (38 + size) 4 bytes);
  amount = decimal (part (42 + size) 12 bytes);
}

abbrev pub card_size : Bytes → ℕ
card_size bytes = decimal (part 36 2 bytes)

-- the bytes are a grant of a card of 8 to 19 digits
abbrev pub is_grant : Bytes → Bool
is_grant bytes = is_word_and_digits (codes "GRNT") (50 + card_size bytes) bytes && nat_le 8 (card_size bytes) && nat_le (card_size bytes) 19

-- what the bytes are exactly, if they are a grant or what acknowledges one
unfoldable pub read_packet : Bytes → Option GrantPacket
read_packet bytes =
    if is_word_and_digits (codes "GACK") 21 bytes then Some (packets.Ack (part 4 11 bytes) (decimal (part 15 10 bytes)))
    else if is_grant bytes then Some (packets.Grant (grant_at (card_size bytes) bytes))
    else None
