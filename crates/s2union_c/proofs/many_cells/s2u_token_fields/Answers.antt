use Rattle.std.proofs.Common.{rules, arith, ◌∙◌, ◌+◌, ◌-◌, ◌*◌, ◌<◌, ◌≤◌, ◌≡◌, length}
use Rattle.std.specs.Prelude.{slice_index}
use Rattle.std.proofs.lemmas.Slice.{drop-put_mid}
use Rattle.s2union_c.proofs.Fields.{fields_more}
use Rattle.s2union_c.specs.ManyCells.{IsTokenField}
use Rattle.s2union_c.proofs.many_cells.s2u_token_fields.Goals as goal

pub loop-k-preserved : goal.loop-k-preserved
loop-k-preserved c =
    let h : c.loop-k.k < length c.args.ids.now = omega (arith, c.loop-k-test.true) in
    let room : 16 * c.loop-k.k + 16 ≤ length c.loop-k.text = (let r = c.loop-k.invariant.room in omega arith) in
    let width : length c.put_field.new.field ≡ 16 * c.loop-k.k + 16 - 16 * c.loop-k.k =
    c.put_field.ensures.len ∙ omega arith in
    record {
      so_far = fields_more (λ n field. IsTokenField (slice_index c.args.ids.now n) field) c.loop-k.text c.loop-k.k
          c.put_field.new.field room c.put_field.ensures.len c.loop-k.invariant.so_far c.put_field.ensures.token;
      rest = drop-put_mid (16 * c.loop-k.k) (16 * c.loop-k.k + 16 - 16 * c.loop-k.k) c.loop-k.text
          c.put_field.new.field (16 * length c.args.ids.now) (omega arith) (omega arith) width
          ∙ c.loop-k.invariant.rest;
      room = search (rules, arith);
      bad = c.first_without.ensures;
    }
