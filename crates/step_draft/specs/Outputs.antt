-- Outputs as code hands them out.
use Rattle.std.specs.Prelude.{List, map}
use Rattle.network_law.specs.Cards.{Bytes}
use Rattle.network_law.specs.Entries.{Output, Put, Answer, Ask, Post, spelled}
use Rattle.kept_messages.specs.declared.output.Way.{Way}
use Rattle.kept_messages.specs.declared.output.Way.TheVariants as ways
use Rattle.node_books.specs.declared.effect.Effect.{Effect}
use Rattle.node_books.specs.Effects.{sent_in}

abbrev pub put_out : Way → Bytes → Output
put_out (ways.Put l s) bytes = Put l s bytes
put_out ways.Answer bytes = Answer bytes
put_out (ways.Ask a) bytes = Ask a bytes
put_out ways.Post bytes = Post bytes

abbrev pub bytes_of : Output → Bytes
bytes_of (Put l s bytes) = bytes
bytes_of (Answer bytes) = bytes
bytes_of (Ask a bytes) = bytes
bytes_of (Post bytes) = bytes

-- the outputs of what was done, spelled
abbrev pub spelled_in : List Effect → List Output
spelled_in es = map spelled (sent_in es)
