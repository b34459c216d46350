-- Items in order.
use Rattle.std.specs.Prelude.{List, [], ◌∷◌, ◌++◌, Result, Ok}
use Rattle.card_digits.specs.Attempts.{◌>>=◌}
use Rattle.table_fields.specs.declared.fault.TableFault.{TableFault}

-- the items in order, each read after those before it
abbrev pub each : {A R : Type 0} → (List R → A → Result R TableFault) → List R → List A → Result (List R) TableFault
each read done [] = Ok done
each read done (x ∷ rest) = read done x >>= λ r. each read (done ++ r ∷ []) rest
