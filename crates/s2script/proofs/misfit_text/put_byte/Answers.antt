use Rattle.std.proofs.Common.{◌++◌, encode_utf8, encode_utf8_all, sym, ap, ◌∙◌, append_assoc, rules}
use Rattle.std.proofs.Output.{writes_in_calls_append}
use Rattle.s2script.proofs.misfit_text.put_byte.Goals as goal

pub escape-preserved : goal.escape-preserved
escape-preserved g c =
    let now = c.escape.invariant.1 in
    let ch = c.in-Some.escaped in (
      search rules,
      (
        now.0 ++ encode_utf8 ch,
        writes_in_calls_append g.T.TextSink.puts _ _ _ _ _ now.1 (search rules),
        append_assoc now.0 (encode_utf8 ch) _
            ∙ ap (λ l. now.0 ++ encode_utf8_all l) (sym c.in-Some.ensures.steps.1.0) ∙ now.2,
      ),
    )
