use Rattle.command_line.proofs.Entered.{asked_by, unread_by, none_by}
use Rattle.command_line.proofs.words.read_matches.Goals as goal

pub returns-in-Some : goal.returns-in-Some
returns-in-Some c = record {
  asks = asked_by c.args.matches.now c.subcommand.result _ _ c.read_tied.result c.in-Some.is c.subcommand.ensures.name
      c.subcommand.ensures.rows
      c.read_tied.ensures.tied c.read_tied.ensures.asks;
  unread = unread_by c.args.matches.now c.subcommand.result _ _ c.read_tied.result c.in-Some.is
      c.subcommand.ensures.name c.subcommand.ensures.rows
      c.read_tied.ensures.misread;
}

pub returns-in_ok-usage_of-in-None-clause-unread : goal.returns-in_ok-usage_of-in-None-clause-unread
returns-in_ok-usage_of-in-None-clause-unread c =
    none_by c.args.matches.now c.subcommand.result c.in-None.is c.subcommand.ensures.name
