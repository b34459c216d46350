-- What answers in JSON are made of.
use Rattle.std.specs.Prelude.{ℕ, List, ◌++◌}
use Rattle.serde_json.specs.Data.{Data, array, number, unsigned, string}
use Rattle.serde_json.specs.View.{items_of}
use Rattle.serde_json.specs.Written.{compact_text}
use Rattle.bundle_text.specs.Lines.{Text, line_feed}

abbrev pub text : Text → Data
text t = string t

abbrev pub count : ℕ → Data
count n = number (unsigned n)

abbrev pub listed : List Data → Data
listed values = array (items_of values)

-- a value on a line of its own, the keys of each object in byte order
abbrev pub json_line : Data → Text
json_line value = compact_text value ++ line_feed
