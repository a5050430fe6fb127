use Rattle.std.proofs.Common.{arith}
use Rattle.s2list.proofs.Putting.{rest_later, rest_put}
use Rattle.s2list.proofs.room.put.Goals as goal

pub returns-then-n-out-clause-rest : goal.returns-then-n-out-clause-rest
returns-then-n-out-clause-rest c room e = rest_put c.args.out.now room c.args.n c.args.id (omega arith) e

pub returns-clause-rest : goal.returns-clause-rest
returns-clause-rest c room e = rest_later c.args.out.now room c.args.n c.saturating_add.result (omega arith) e
