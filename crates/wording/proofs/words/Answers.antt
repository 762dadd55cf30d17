use Rattle.std.proofs.Common.{rules, sym, ap, ◌∙◌}
use Rattle.common.proofs.TableLaws.{find_none}
use Rattle.append.specs.Lent.{putting}
use Rattle.wording.specs.Words.{page_words, refusals, words_of}
use Rattle.wording.proofs.words.Goals as goal

pub returns-in_default : goal.returns-in_default
unfolding words_of
returns-in_default c =
    c.put-in_default.ensures ∙ ap (putting _) (sym (find_none Unit refusals c.args.number page_words (search rules)))
