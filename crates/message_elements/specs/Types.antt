-- The twelve types.
use Rattle.std.specs.Prelude.{ℕ, List, Option, Some, None, codes, bytes_eq, if◌then◌else◌}
use Rattle.message_elements.specs.declared.kind.Kind.{Kind}
use Rattle.message_elements.specs.declared.kind.Kind.TheVariants.{K0100, K0101, K0110, K0120, K0121, K0130, K0400, K0401, K0410, K0420, K0421, K0430}

-- its four bytes
abbrev pub kind_text : Kind → List ℕ
kind_text K0100 = codes "0100"
kind_text K0101 = codes "0101"
kind_text K0110 = codes "0110"
kind_text K0120 = codes "0120"
kind_text K0121 = codes "0121"
kind_text K0130 = codes "0130"
kind_text K0400 = codes "0400"
kind_text K0401 = codes "0401"
kind_text K0410 = codes "0410"
kind_text K0420 = codes "0420"
kind_text K0421 = codes "0421"
kind_text K0430 = codes "0430"

-- the type that four bytes write
abbrev pub kind_of : List ℕ → Option Kind
kind_of text =
    if bytes_eq text (codes "0100") then Some K0100 else
    if bytes_eq text (codes "0101") then Some K0101 else
    if bytes_eq text (codes "0110") then Some K0110 else
    if bytes_eq text (codes "0120") then Some K0120 else
    if bytes_eq text (codes "0121") then Some K0121 else
    if bytes_eq text (codes "0130") then Some K0130 else
    if bytes_eq text (codes "0400") then Some K0400 else
    if bytes_eq text (codes "0401") then Some K0401 else
    if bytes_eq text (codes "0410") then Some K0410 else
    if bytes_eq text (codes "0420") then Some K0420 else
    if bytes_eq text (codes "0421") then Some K0421 else
    if bytes_eq text (codes "0430") then Some K0430 else
    None
