use Rattle.std.proofs.Common.{refl}
use Rattle.s2process.proofs.ended.end_answer.Goals as goal

pub returns : goal.returns
returns g c = record {
  input_is = refl;
  output_is = refl;
  folder_is = refl;
  text = c.tell_of_answer.ensures.0;
  text_is = c.tell_of_answer.ensures.1;
  tells = c.tell_of_answer.ensures.2;
  status_is = c.answer_status-status.ensures;
}
