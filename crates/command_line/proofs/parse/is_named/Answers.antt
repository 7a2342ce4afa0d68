use Rattle.std.proofs.Common.{rules}
use Rattle.command_line.proofs.Works.{found_by_name}
use Rattle.command_line.proofs.parse.is_named.Goals as goal

pub returns : goal.returns
returns c = let named = found_by_name c.args.name.now c.args.matches.now in search rules
