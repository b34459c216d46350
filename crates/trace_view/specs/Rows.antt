-- The rows of the table.
use Rattle.std.specs.Prelude.{ℕ, ◌-◌, ◌++◌, length, replicate, codes, List, Option, Some, None}
use Rattle.std.specs.Fmt.{decimal}
use Rattle.card_digits.specs.declared.key.Key.{Key}
use Rattle.message_elements.specs.declared.kind.Kind.{Kind}
use Rattle.message_elements.specs.Types.{kind_text}
use Rattle.net_rows.specs.Network.{Network}
use Rattle.bundle_text.specs.Lines.{Text, line_feed, node_name, link_name}
use Rattle.trace_view.specs.declared.line.Step.{Step}
use Rattle.trace_view.specs.declared.line.Way.{Way}
use Rattle.trace_view.specs.declared.line.Way.TheVariants as ways
use Rattle.trace_view.specs.declared.packet.Known.{Known}
use Rattle.trace_view.specs.declared.packet.Packet.{Packet}
use Rattle.trace_view.specs.declared.packet.Packet.TheVariants.{Message, Grant, GrantTaken}
use Rattle.trace_view.specs.Words.{kind_words, code_words}

-- what a cell holds, spaces up to the width of its column, and two more; what is longer isn't cut
abbrev pub cell : ℕ → Text → Text
cell width held = held ++ replicate (width - length held) 32 ++ codes "  "

-- what the columns are
abbrev pub heading : Text
heading =
    cell 8 (codes "line") ++ cell 8 (codes "node") ++ cell 23 (codes "in/out") ++ cell 4 (codes "type") ++ cell 30 (codes "message")
    ++ cell 6 (codes "STAN") ++ cell 10 (codes "time") ++ cell 11 (codes "acquirer") ++ codes "code\n"

-- the number of a script's line, and its node
abbrev pub front : Network → Step → Text
front t s = cell 8 (decimal s.number) ++ cell 8 (node_name t s.node)

-- something came in
abbrev pub step_row : Network → Step → Text
step_row t s = front t s ++ codes "in\n"

-- where something goes
abbrev pub way_text : Network → Way → Text
way_text t (ways.Put l s) = codes "put " ++ link_name t l ++ codes " " ++ decimal s
way_text t ways.Answer = codes "answer"
way_text t (ways.Ask a) = codes "ask " ++ decimal a
way_text t ways.Post = codes "post"

-- the number of a type and its words
abbrev pub kind_cells : Kind → Text
kind_cells k = cell 4 (kind_text k) ++ cell 30 (kind_words k)

-- trace number, time and acquirer of a key
abbrev pub key_cells : Option Key → Text
key_cells None = cell 6 (codes "-") ++ cell 10 (codes "-") ++ cell 11 (codes "-")
key_cells (Some k) = cell 6 k.trace ++ cell 10 k.time ++ cell 11 k.acquirer

-- a response code and its words
abbrev pub code_text : Option (List ℕ) → Text
code_text None = codes "-"
code_text (Some code) = code ++ code_words code

abbrev pub known_text : Known → Text
known_text k = kind_cells k.kind ++ key_cells k.key ++ code_text k.code

-- what is no message has no type
abbrev pub other_text : Text → Text
other_text words = cell 4 (codes "-") ++ words

abbrev pub packet_text : Packet → Text
packet_text (Message k) = known_text k
packet_text Grant = other_text (codes "grant")
packet_text GrantTaken = other_text (codes "grant taken")

-- something went out
abbrev pub output_row : Network → Step → Way → Packet → Text
output_row t s way packet = front t s ++ cell 23 (way_text t way) ++ packet_text packet ++ line_feed
