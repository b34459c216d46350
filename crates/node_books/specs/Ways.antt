-- What outputs do to the books, as code keeps them.
use Rattle.std.specs.Prelude.{List, [], ◌∷◌, ◌++◌, map, Option, Some, None}
use Rattle.message_keys.specs.declared.keys.AdviceId.{AdviceId}
use Rattle.node_machine.specs.Books.{Stored}
use Rattle.advice_store.specs.Advices.{marked_by}
use Rattle.card_digits.specs.declared.key.Key.{Key}
use Rattle.node_machine.specs.Lists.{LinkState, Lists, with_put, row_after}
use Rattle.kept_messages.specs.Ways.{message_of, output_key, advice_of}
use Rattle.network_law.specs.Traces.{ReadOutput, Put}
use Rattle.kept_messages.specs.declared.output.Way.{Way}
use Rattle.kept_messages.specs.declared.output.Way.TheVariants as ways

abbrev pub mark_if : Option AdviceId → List Stored → List Stored
mark_if None store = store
mark_if (Some id) store = map (marked_by id) store

-- the advice that an output puts
abbrev pub put_in : ReadOutput → Option AdviceId
put_in (Put l s m) = advice_of m
put_in o = None

-- what an output that goes this way does to the links, the store and the asks
abbrev pub links_by : Way → List LinkState → List LinkState
links_by (ways.Put l s) links = with_put l links
links_by _ links = links

abbrev pub store_by : Way → Option AdviceId → List Stored → List Stored
store_by (ways.Put l s) id store = mark_if id store
store_by _ id store = store

abbrev pub asks_by : Way → Key → List Key → List Key
asks_by (ways.Ask a) k asks = asks ++ k ∷ []
asks_by _ k asks = asks

abbrev pub after_way : Way → ReadOutput → Lists → Lists
after_way w o x = record {
  rows = map (row_after o) x.rows;
  marks = x.marks;
  takes = x.takes;
  store = store_by w (advice_of (message_of o)) x.store;
  known = x.known;
  loans = x.loans;
  borrowed = x.borrowed;
  links = links_by w x.links;
  asks = asks_by w (output_key o) x.asks;
  date = x.date;
  count = x.count;
}
