use Rattle.std.proofs.Common.{◌+◌, ◌*◌, ◌++◌, inl, inr, refl, sym, ap, arith, length, drop}
use Rattle.s2file.proofs.Texts.{length-file_text}
use Rattle.s2union_c.proofs.files.s2u_encode.Goals as goal

pub returns-then-size-out-clause-made : goal.returns-then-size-out-clause-made
returns-then-size-out-clause-made c =
    let size = length-file_text c.args.ids.now in
    inr (refl, record { len_is = sym size; short = omega arith; same = refl })

pub returns-clause-made : goal.returns-clause-made
returns-clause-made c =
    let size = length-file_text c.args.ids.now in
    inl (
      refl,
      record {
        len_is = sym size;
        fits = omega arith;
        front = ap (λ x. x ++ drop (9 + 8 * length c.args.ids.now) c.args.out.now) c.write_file.ensures;
      },
    )
