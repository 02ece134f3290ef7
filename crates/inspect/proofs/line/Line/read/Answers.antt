use Rattle.inspect.proofs.Kept.{decisive}
use Rattle.inspect.proofs.line.Line.read.Goals as goal

pub returns-in_err-read_hex-in_default-clause-cut : goal.returns-in_err-read_hex-in_default-clause-cut
returns-in_err-read_hex-in_default-clause-cut c = decisive c.args.text.now

pub returns-in-empty-clause-cut : goal.returns-in-empty-clause-cut
returns-in-empty-clause-cut c = decisive c.args.text.now

pub returns-in-35-clause-cut : goal.returns-in-35-clause-cut
returns-in-35-clause-cut c = decisive c.args.text.now

pub returns-in_ok-read_hex-in_default-clause-cut : goal.returns-in_ok-read_hex-in_default-clause-cut
returns-in_ok-read_hex-in_default-clause-cut c = decisive c.args.text.now
