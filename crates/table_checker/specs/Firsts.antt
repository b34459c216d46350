-- The first refusals by their kinds.
use Rattle.std.specs.Prelude.{Option}
use Rattle.table_checker.specs.declared.refusal.Refusal.{Refusal}
use Rattle.table_checker.specs.declared.refusal.Kind.{Kind}
use Rattle.table_checker.specs.declared.refusal.Kind.TheVariants as kind
use Rattle.table_checker.specs.declared.firsts.Firsts.{Firsts}

abbrev pub of_kind : Firsts → Kind → Option Refusal
of_kind f kind.NoRank = f.no_rank
of_kind f kind.NotLess = f.not_less
of_kind f kind.NotNamed = f.not_named
of_kind f kind.OverCeiling = f.over_ceiling
of_kind f kind.NoIssuer = f.no_issuer
