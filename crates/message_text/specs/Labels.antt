-- The numbers of elements, as they are printed.
use Rattle.std.specs.Prelude.{ℕ, nat_lt, if◌then◌else◌}

-- how many bytes the number of an element and a space take
abbrev pub label_len : ℕ → ℕ
label_len n = if nat_lt n 10 then 2 else if nat_lt n 100 then 3 else 4
