use Rattle.kept_messages.proofs.FirstElement.{low_found, high_found, no_second}
use Rattle.response_bytes.proofs.Whole.{no_kind, no_map}
use Rattle.kept_messages.proofs.first_element.elements_of.Goals as goal

pub returns-in_default : goal.returns-in_default
returns-in_default c = λ m h e. no_kind c.args.bytes.now m c.in_default.field-0 e c.in_default.ensures

pub returns-in_default-bit_map : goal.returns-in_default-bit_map
returns-in_default-bit_map c = λ m h e. no_map c.args.bytes.now c.in-Ok.maps.now m c.in-Ok._kind c.in_default-bit_map.field-0 h e c.in-Ok.ensures c.in_default-bit_map.ensures

pub returns-then-first-lt-SECOND_MAP : goal.returns-then-first-lt-SECOND_MAP
returns-then-first-lt-SECOND_MAP c = λ m h e. low_found c.args.bytes.now c.in-Ok.maps.now c.in-Ok-bit_map.behind.now m c.in-Ok._kind c.in-Ok-bit_map.first h e c.in-Ok.ensures c.in-Ok-bit_map.ensures c.if-first-lt-SECOND_MAP.true

pub returns-in_default-bit_map-2 : goal.returns-in_default-bit_map-2
returns-in_default-bit_map-2 c = λ m h e. no_second c.args.bytes.now c.in-Ok.maps.now c.in-Ok-bit_map.behind.now m c.in-Ok._kind c.in-Ok-bit_map.first c.in_default-bit_map-2.field-0 h e c.in-Ok.ensures c.in-Ok-bit_map.ensures c.if-first-lt-SECOND_MAP.false c.in_default-bit_map-2.ensures

pub returns : goal.returns
returns c = λ m h e. high_found c.args.bytes.now c.in-Ok.maps.now c.in-Ok-bit_map.behind.now c.in-Ok-bit_map-2.elements.now m c.in-Ok._kind c.in-Ok-bit_map.first c.in-Ok-bit_map-2._second h e c.in-Ok.ensures c.in-Ok-bit_map.ensures c.if-first-lt-SECOND_MAP.false c.in-Ok-bit_map-2.ensures
