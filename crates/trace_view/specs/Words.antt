-- Words for types and response codes (ISO 8583:1987).
use Rattle.std.specs.Prelude.{codes, bytes_eq, if◌then◌else◌}
use Rattle.message_elements.specs.declared.kind.Kind.{Kind}
use Rattle.message_elements.specs.declared.kind.Kind.TheVariants.{K0100, K0101, K0110, K0120, K0121, K0130, K0400, K0401, K0410, K0420, K0421, K0430}
use Rattle.bundle_text.specs.Lines.{Text}

abbrev pub kind_words : Kind → Text
kind_words K0100 = codes "authorization request"
kind_words K0101 = codes "authorization request repeat"
kind_words K0110 = codes "authorization request response"
kind_words K0120 = codes "authorization advice"
kind_words K0121 = codes "authorization advice repeat"
kind_words K0130 = codes "authorization advice response"
kind_words K0400 = codes "reversal request"
kind_words K0401 = codes "reversal request repeat"
kind_words K0410 = codes "reversal request response"
kind_words K0420 = codes "reversal advice"
kind_words K0421 = codes "reversal advice repeat"
kind_words K0430 = codes "reversal advice response"

-- behind a space; none for a code that no node gives
abbrev pub code_words : Text → Text
code_words code =
    if bytes_eq code (codes "00") then codes " approved" else
    if bytes_eq code (codes "05") then codes " do not honor" else
    if bytes_eq code (codes "14") then codes " invalid card number" else
    if bytes_eq code (codes "57") then codes " transaction not permitted to cardholder" else
    if bytes_eq code (codes "61") then codes " exceeds amount limit" else
    if bytes_eq code (codes "68") then codes " response received too late" else
    if bytes_eq code (codes "91") then codes " issuer or switch inoperative" else
    if bytes_eq code (codes "92") then codes " no institution found for routing" else
    if bytes_eq code (codes "94") then codes " duplicate transmission" else
    if bytes_eq code (codes "96") then codes " system malfunction" else
    codes ""
