-- Nothing finds no place where there is one.
use Rattle.std.proofs.Common.{◌≡◌, ℕ, ◌+◌, ◌-◌, ◌<◌, Bool, true, false, nat_lt, refl, sym, ◌∙◌, arith}
use Rattle.std.specs.Prelude.{◌&&◌, not, bytes_eq}
use Rattle.std.proofs.lemmas.Bool.{le-ltb}
use Rattle.message_elements.specs.Codes.{code_00}
use Rattle.message_elements.specs.Groups.{is_answer}
use Rattle.message_keys.specs.declared.keys.AdviceId.{AdviceId}
use Rattle.message_keys.specs.Keys.{key_of, identity_of, code_of}
use Rattle.iso_message.specs.Fields.{Fields}
use Rattle.iso_message.specs.Made.{without_forwarder}
use Rattle.net_rows.specs.Network.{Network}
use Rattle.network_law.specs.Traces.{is_at_home, is_link, dated}
use Rattle.node_machine.specs.Lists.{Lists, view, is_among}
use Rattle.node_machine.specs.Machine.{finds_no_place, late_finds_no_place, comes_late, home_of_key, load}
use Rattle.step_refusals.specs.Places.{finds_no_place_as, is_accepted, given_up, entered_identity}
use Rattle.step_refusals.proofs.Entered.{taken_is, entered_is}

last_false : (a b c d : Bool) → d ≡ false → false ≡ (a && b && (c && d))
last_false true true true d e = sym e
last_false true true false d e = refl
last_false true false c d e = refl
last_false false b c d e = refl

sixth_false : (a b c d e f : Bool) → f ≡ false → false ≡ (a && b && c && d && e && f)
sixth_false true true true true true f is = sym is
sixth_false true true true true false f is = refl
sixth_false true true true false e f is = refl
sixth_false true true false d e f is = refl
sixth_false true false c d e f is = refl
sixth_false false b c d e f is = refl

room_as : (t : Network) (n : ℕ) (x : Lists) (m : Fields) (id : AdviceId) → load (view t n x) < 65536 → false ≡ finds_no_place_as t n x m id
room_as t n x m id less = last_false (is_accepted t x m id.key) (not (is_among id x.known)) (not (is_at_home t n m)) (nat_lt 65536 (load (view t n x) - given_up x m id.key + 1)) (le-ltb 65536 (load (view t n x) - given_up x m id.key + 1) (omega (arith, less)))

pub room_taken : (t : Network) (n : ℕ) (x : Lists) (m : Fields) → load (view t n x) < 65536 → false ≡ finds_no_place t n (view t n x) m
room_taken t n x m less = room_as t n x m (identity_of m) less ∙ sym (taken_is m t n x)

pub room_entered : (t : Network) (n : ℕ) (x : Lists) (m : Fields) → load (view t n x) < 65536 → false ≡ finds_no_place t n (view t n x) (dated x.date (without_forwarder m))
room_entered t n x m less = room_as t n x m (entered_identity m) less ∙ sym (entered_is m t n x x.date)

pub room_late : (t : Network) (n : ℕ) (x : Lists) (l : ℕ) (m : Fields) → load (view t n x) < 65536 → false ≡ late_finds_no_place t n (view t n x) l m
room_late t n x l m less = sixth_false (is_answer m.kind) (bytes_eq (code_of m) code_00) (is_link l ((view t n x).link (key_of m))) (comes_late (view t n x) (key_of m)) (not (home_of_key t n ((view t n x).opening (key_of m)))) (nat_lt 65536 (load (view t n x) + 1)) (le-ltb 65536 (load (view t n x) + 1) (omega (arith, less)))
