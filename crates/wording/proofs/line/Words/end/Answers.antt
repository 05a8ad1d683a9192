use Rattle.std.proofs.Common.{rules}
use Rattle.wording.proofs.Uncut.{words_of_some}
use Rattle.wording.proofs.line.Words.end.Goals as goal

pub returns-in-Some-clause-ended : goal.returns-in-Some-clause-ended
returns-in-Some-clause-ended c = search (rules, words_of_some c.in-Some.field-0.now)
