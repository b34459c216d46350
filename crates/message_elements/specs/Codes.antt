-- Response codes.
use Rattle.std.specs.Prelude.{ℕ, ◌==◌, ◌&&◌, List, length, codes, Option, Some, None, if◌then◌else◌}
use Rattle.std.specs.List.{list_all}
use Rattle.message_elements.specs.declared.form.Class.TheVariants.{Text}
use Rattle.message_elements.specs.Values.{fits}

-- approved
abbrev pub code_00 : List ℕ
code_00 = codes "00"

-- do not honour
abbrev pub code_05 : List ℕ
code_05 = codes "05"

-- invalid card number
abbrev pub code_14 : List ℕ
code_14 = codes "14"

-- transaction not permitted to cardholder
abbrev pub code_57 : List ℕ
code_57 = codes "57"

-- exceeds amount limit
abbrev pub code_61 : List ℕ
code_61 = codes "61"

-- response received too late
abbrev pub code_68 : List ℕ
code_68 = codes "68"

-- issuer inoperative
abbrev pub code_91 : List ℕ
code_91 = codes "91"

-- no issuer to route to
abbrev pub code_92 : List ℕ
code_92 = codes "92"

-- duplicate transmission
abbrev pub code_94 : List ℕ
code_94 = codes "94"

-- system malfunction
abbrev pub code_96 : List ℕ
code_96 = codes "96"

-- two bytes of text
abbrev pub read_code : List ℕ → Option (List ℕ)
read_code text = if length text == 2 && list_all (fits Text) text then Some text else None
