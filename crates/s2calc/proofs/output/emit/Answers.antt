use Rattle.std.proofs.Common.{◌<◌, OnErr, subst, length, take, drop, sym, arith, length-drop, take-append-drop}
use Rattle.s2calc.proofs.output.emit.Goals as goal

pub returns-in-Err-clause-err : goal.returns-in-Err-clause-err
returns-in-Err-clause-err g c =
    let bytes = c.args.bytes.now in
    let n = c.write_out-ended.result.0 in
    let short : n < length bytes = subst (λ r. OnErr r (n < length bytes)) c.in-Err.is
    c.write_out-ended.ensures.lacking in
    record {
      part = take n bytes;
      rest = drop n bytes;
      bytes_are = sym (take-append-drop n bytes);
      lacking = omega (arith, length-drop n bytes, short);
      written = c.write_out-ended.ensures.written;
    }
