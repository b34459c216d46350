-- The program's command line, as clap has it.
use Rattle.std.specs.Prelude.{true, Some, codes}
use Rattle.clap.specs.Words.{App, Rule, new_app, new_rule, with_rule, with_subcommand}
use Rattle.clap.specs.declared.builder.action.ArgAction.TheVariants.{SetTrue}

-- a number that has to be there
abbrev pub number_rule : Rule
number_rule = record (new_rule (codes "number")) { value_names = 1; required = true }

abbrev pub json_rule : Rule
json_rule = record (new_rule (codes "json")) { long = Some (codes "json"); action = Some SetTrue }

abbrev pub prefix_rule : Rule
prefix_rule = record (new_rule (codes "prefix")) { long = Some (codes "prefix"); value_names = 1 }

abbrev pub dot_rule : Rule
dot_rule = record (new_rule (codes "dot")) { long = Some (codes "dot"); action = Some SetTrue }

abbrev pub card : App
card = with_rule (with_rule (new_app (codes "card")) number_rule) json_rule

abbrev pub refusals : App
refusals = with_rule (new_app (codes "refusals")) json_rule

abbrev pub picture : App
picture = with_rule (with_rule (new_app (codes "picture")) prefix_rule) dot_rule

abbrev pub trace : App
trace = new_app (codes "trace")

abbrev pub plain : App
plain = new_app (codes "network_view")

-- the words begin behind the program's name; a subcommand has to be there, and `help` is none
abbrev pub bare : App
bare = record plain { top = record plain.top { no_binary_name = true; disable_help_subcommand = true; subcommand_required = true } }

-- a subcommand for each job
abbrev pub program : App
program = with_subcommand (with_subcommand (with_subcommand (with_subcommand bare card.top) refusals.top) picture.top) trace.top
