use Rattle.std.proofs.Common.{◌≢◌}
use Rattle.s2list.specs.Union.{has_leaf}
use Rattle.s2edit.specs.Content.{Content}
use Rattle.s2session.specs.Session.{IsUnionFile}
use Rattle.s2file.specs.declared.fault.FileFault.TheVariants.{Memory}
use Rattle.s2session.proofs.SessionReading.{refuses}
use Rattle.s2session.proofs.session_file.session_of_bytes.Goals as goal

pub returns-in-Err : goal.returns-in-Err
returns-in-Err c =
    refuses c.fault_of.result (c.in-Err.fault ≢ Memory) ((s : Content) → IsUnionFile c.args.bytes.now s → ⊥)
    (λ n s f. n (c.in-Err.ensures.exact (has_leaf f.cells) f.file)) c.fault_of.ensures
