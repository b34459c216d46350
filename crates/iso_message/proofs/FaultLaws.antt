-- Reading finds the fault that stands in the place of the first piece that isn't right.
use Rattle.std.proofs.Common.{◌≡◌, ℕ, ◌^◌, false, ltb, eqb, List, [], ◌∷◌, ◌++◌, length, map, Result, Ok, Err, refl, sym, ap, ◌∙◌}
use Rattle.std.proofs.lemmas.Bool.{le-ltb, ne_eqb}
use Rattle.std.proofs.lemmas.List.{nil_from_length}
use Rattle.message_elements.specs.declared.kind.Kind.{Kind}
use Rattle.message_elements.specs.declared.fault.DecodeFault.{DecodeFault}
use Rattle.message_elements.specs.declared.fault.DecodeFault.TheVariants as faults
use Rattle.card_digits.specs.Attempts.{◌>>=◌}
use Rattle.iso_message.specs.Elements.{field_at, with_next, with_all}
use Rattle.message_elements.specs.Table.{form_of}
use Rattle.iso_message.specs.Fields.{Fields}
use Rattle.iso_message.specs.Messages.{kind_at, map_at, second_at, read}
use Rattle.iso_message.specs.Grammar.{ArePieces, AreMaps, announced, Spells, IsKind, IsFault, AtKind, AtFirst, AtSecond, AtElement, AtEnd}
use Rattle.iso_message.proofs.ReadingLaws.{Elements, ended, after_maps, at_once, all_again, all-append, kind_again, map_again, maps_again, read_again}

abbrev behind_kind : Kind × List ℕ → Result Fields DecodeFault
behind_kind kind = map_at kind.1 >>= λ first. second_at first.0 first.1 >>= λ s. after_maps kind.0 first.0 s

read_is : (bytes : List ℕ) → read bytes ≡ (kind_at bytes >>= behind_kind)
unfolding read
read_is bytes = refl

-- what is read behind a type
after_kind : (bytes text rest : List ℕ) (kind : Kind) → bytes ≡ text ++ rest → IsKind text kind → read bytes ≡ behind_kind (kind, rest)
after_kind bytes text rest kind e k = ap read e ∙ read_is (text ++ rest) ∙ ap (λ r. r >>= behind_kind) (kind_again text rest kind k.0 k.1)

-- what is read behind the maps
behind_maps : (bytes text maps rest : List ℕ) (kind : Kind) (first second : ℕ) → bytes ≡ text ++ (maps ++ rest) → IsKind text kind → AreMaps first second maps
    → read bytes ≡ (with_all [] (announced first second) rest >>= λ x. ended kind x)
behind_maps bytes text maps rest kind first second e k are =
    let p = maps_again first second maps rest are in
    after_kind bytes text (maps ++ rest) kind e k
    ∙ ap (λ r. r >>= λ first. second_at first.0 first.1 >>= λ s. after_maps kind first.0 s) p.1
    ∙ ap (λ r. r >>= λ s. after_maps kind p.0.0 s) p.3
    ∙ ap (λ n. after_maps kind n (second, rest)) p.2
    ∙ at_once kind first (second, rest)

-- the elements whose pieces stand before the rest
some_read : (es : Elements) (body rest later ns : List ℕ) → ArePieces es body → map (λ e. e.0) es ++ later ≡ ns → with_all [] ns (body ++ rest) ≡ with_all es later rest
some_read es body rest later ns pieces numbers =
    ap (λ ks. with_all [] ks (body ++ rest)) (sym numbers) ∙ all-append (map (λ e. e.0) es) later [] (body ++ rest) ∙ ap (λ r. r >>= λ x. with_all x.0 later x.1) (all_again es [] body rest pieces)

stops : (es : Elements) (n : ℕ) (later rest : List ℕ) (fault : DecodeFault) → field_at (form_of n) n rest ≡ Err fault → with_all es (n ∷ later) rest ≡ Err fault
unfolding with_all with_next
stops es n later rest fault e = rw e refl

pub fault_again : (bytes : List ℕ) (fault : DecodeFault) → IsFault bytes fault → read bytes ≡ Err fault
unfolding second_at with_all
fault_again bytes fault (AtKind e) = read_is bytes ∙ ap (λ r. r >>= behind_kind) e
fault_again bytes fault (AtFirst text rest kind whole is_kind e) =
    after_kind bytes text rest kind whole is_kind ∙ ap (λ r. r >>= λ first. second_at first.0 first.1 >>= λ s. after_maps kind first.0 s) e
fault_again bytes fault (AtSecond text maps rest kind first whole is_kind is_map high e) =
    let again : ltb first (2 ^ 63) ≡ false = le-ltb _ _ high in
    let second : second_at first rest ≡ Err fault = rw again e in
    after_kind bytes text (maps ++ rest) kind whole is_kind
    ∙ ap (λ r. r >>= λ first. second_at first.0 first.1 >>= λ s. after_maps kind first.0 s) (map_again first maps rest is_map)
    ∙ ap (λ r. r >>= λ s. after_maps kind first s) second
fault_again bytes fault (AtElement text maps body rest kind first second es n later whole is_kind are_maps numbers pieces e) =
    behind_maps bytes text maps (body ++ rest) kind first second whole is_kind are_maps
    ∙ ap (λ r. r >>= λ x. ended kind x) (some_read es body rest (n ∷ later) (announced first second) pieces numbers ∙ stops es n later rest fault e)
fault_again bytes fault (AtEnd text maps body rest kind first second es whole is_kind are_maps numbers pieces some e) =
    let left : eqb (length rest) 0 ≡ false = ne_eqb _ _ (λ none. some (nil_from_length rest none)) in
    let all : with_all [] (announced first second) (body ++ rest) ≡ Ok (es, rest) = ap (λ ks. with_all [] ks (body ++ rest)) (sym numbers) ∙ all_again es [] body rest pieces in
    let last : ended kind (es, rest) ≡ Err faults.Trailing = rw left refl in
    behind_maps bytes text maps (body ++ rest) kind first second whole is_kind are_maps ∙ ap (λ r. r >>= λ x. ended kind x) all ∙ last ∙ ap (λ (d : DecodeFault). Err d) (sym e)

pub one_fault : (bytes : List ℕ) (e d : DecodeFault) → IsFault bytes e → IsFault bytes d → e ≡ d
one_fault bytes e d h k = let both : ◌≡◌ {A = Result Fields DecodeFault} (Err e) (Err d) = sym (fault_again bytes e h) ∙ fault_again bytes d k in cc

pub no_fault : (bytes : List ℕ) (m : Fields) (e : DecodeFault) → Spells bytes m → IsFault bytes e → ⊥
no_fault bytes m e h k = let both : ◌≡◌ {A = Result Fields DecodeFault} (Ok m) (Err e) = sym (read_again bytes m h) ∙ fault_again bytes e k in cc
