use Rattle.std.proofs.Common.{rules, ◌==◌}
use Rattle.std.proofs.lemmas.List.Splits.{slice_split_first}
use Rattle.wording.proofs.Uncut.{words_of_uncut}
use Rattle.wording.proofs.line.Words.word.Goals as goal

pub returns-in-Some-clause-ok : goal.returns-in-Some-clause-ok
returns-in-Some-clause-ok c = search (rules, slice_split_first (λ b. b == 32) c.in_ok-text.text.now 0)

pub returns-in-None-clause-ok : goal.returns-in-None-clause-ok
returns-in-None-clause-ok c = search (rules, words_of_uncut c.in_ok-text.text.now)
