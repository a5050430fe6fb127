use Rattle.s2script.proofs.NamedLemmas.{named_by_token, named_by_debug, names_by_debug}
use Rattle.s2script.proofs.named.cell_in.Goals as goal

pub returns-in-Some-clause-value : goal.returns-in-Some-clause-value
returns-in-Some-clause-value c =
    named_by_token c.args.word.now _ c.in-Some.ensures.names.0 c.in-Some.ensures.value

pub returns-in-None-clause-value : goal.returns-in-None-clause-value
returns-in-None-clause-value c = named_by_debug c.args.word.now c.debug_in.result c.in-None.ensures.value
    c.debug_in.ensures.value c.debug_in.ensures.names

pub returns-in-None-clause-names : goal.returns-in-None-clause-names
returns-in-None-clause-names c = names_by_debug c.args.word.now c.debug_in.result c.in-None.ensures.names
    c.debug_in.ensures.names
