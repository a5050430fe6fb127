use Rattle.s2list.proofs.Normal.{local_from_normal, normal_from_local, one_normal_form, same_from_leaves}
use Rattle.s2list.proofs.laws.one_list.Goals as goal

pub returns-clause-lists : goal.returns-clause-lists
returns-clause-lists c = same_from_leaves

pub returns-clause-normal : goal.returns-clause-normal
returns-clause-normal c = normal_from_local

pub returns-clause-forms : goal.returns-clause-forms
returns-clause-forms c = one_normal_form

pub returns-clause-local : goal.returns-clause-local
returns-clause-local c = local_from_normal
