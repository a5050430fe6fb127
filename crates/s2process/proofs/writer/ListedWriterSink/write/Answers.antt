use Rattle.s2process.proofs.ListedLemmas.{wrote, took_none}
use Rattle.s2process.proofs.writer.ListedWriterSink.write.Goals as goal

pub returns-in-Ok-clause-takes : goal.returns-in-Ok-clause-takes
returns-in-Ok-clause-takes g c some = rw c.in-Ok.is (λ more. wrote c.args.self.now.calls.entries
    c.and-self.result.entries c.args.bytes.now c.in-Ok.count c.and-self.ensures some more)

pub returns-in-Ok-clause-takes_nothing : goal.returns-in-Ok-clause-takes_nothing
returns-in-Ok-clause-takes_nothing g c some = rw c.in-Ok.is (λ none. took_none c.args.self.now.calls.entries
    c.and-self.result.entries c.args.bytes.now c.in-Ok.count c.and-self.ensures none)
