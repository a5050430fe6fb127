use Rattle.std.proofs.Common.{◌++◌, filter, flat_map, sym, ap, ◌∙◌, append_assoc}
use Rattle.std.proofs.Output.{writes_in_calls_append}
use Rattle.s2script.specs.Similar.{is_like}
use Rattle.s2script.specs.MisfitTexts.{other_text}
use Rattle.s2script.proofs.misfit_text.put_others.Goals as goal

pub loop-name-preserved : goal.loop-name-preserved
loop-name-preserved g c =
    let now = c.loop-name.invariant in
    let name = c.in-Some.name.now in
    let left = flat_map other_text (filter (is_like c.args.word.now) c.next_like.new.names) in (
      now.0 ++ other_text name,
      writes_in_calls_append g.T.TextSink.puts _ _ _ _ _ now.1 c.put_other.ensures,
      append_assoc now.0 (other_text name) left
          ∙ ap (λ l. now.0 ++ l) (sym (ap (flat_map other_text) c.in-Some.ensures)) ∙ now.2,
    )
