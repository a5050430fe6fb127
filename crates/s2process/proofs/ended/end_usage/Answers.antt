use Rattle.std.proofs.Common.{refl}
use Rattle.s2process.specs.Errors.{usage_text}
use Rattle.s2process.proofs.ErrorLemmas.{given_alone}
use Rattle.s2process.proofs.ended.end_usage.Goals as goal

pub returns : goal.returns
returns g c = record {
  unread = c.requires.unread;
  unwritten = c.requires.unwritten;
  unopened = (c.args.folders, refl);
  tells = given_alone c.args.streams.errors c.tell_usage.new.errors (usage_text c.args.wrong.now) c.requires.untold
      c.tell_usage.ensures;
  status_is = refl;
}
