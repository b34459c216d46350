use Rattle.std.proofs.Common.{rules, ◌≡◌, ◌∙◌, Some, codes, option_map, sym}
use Rattle.clap.specs.Words.{found_of, rows_of, subcommand_name_of, subcommand_rows_of}
use Rattle.command_line.proofs.Lines.{flag_named, name_in_rows}
use Rattle.command_line.proofs.parse.job_named.Goals as goal

pub returns-in-decode : goal.returns-in-decode
returns-in-decode c =
    let m = c.args.matches.now in
    let named : subcommand_name_of m ≡ Some (codes "decode") = search rules in
    let rows : option_map (λ p. p.1) (subcommand_rows_of m) ≡ Some (rows_of (found_of c.in_ok-name.found.now)) = search rules in
    λ job h. flag_named (subcommand_rows_of m) (found_of c.in_ok-name.found.now) c.get_flag.result job (sym (name_in_rows m) ∙ named) rows c.get_flag.ensures.value c.get_flag.ensures.other h
