use Rattle.std.proofs.Common.{◌≡◌, ◌+◌, refl, rules, arith, length}
use Rattle.std.proofs.lemmas.Grind.{common_steps}
use Rattle.std.proofs.lemmas.Slice.{overwrites}
use Rattle.s2list.specs.Numbers.{number_text}
use Rattle.s2union_c.proofs.Encoding.{file_written}
use Rattle.s2union_c.proofs.files.write_file.Goals as goal

pub returns : goal.returns
unfolding number_text
returns c =
    let same : length c.write_u64.new.buf + 1 ≡ length c.args.out.now = first_of (
      search rules,
      omega arith,
      grind (arith, common_steps),
      search (rules, overwrites),
    ) in
    file_written c.args.ids.now c.args.out.now c.write_u64.new.buf _ c.write_u64_into.new.dst c.requires
    c.write_u64.ensures same c.write_u64_into.ensures _ refl
