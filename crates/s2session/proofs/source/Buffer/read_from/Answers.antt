use Rattle.std.proofs.Common.{rules, ◌≡◌, Ok, Err, ◌-◌, ◌+◌, ◌≤◌, ℕ, List, length, take}
use Rattle.std.proofs.Common.{slice_range, refl, sym, ap, ◌∙◌, arith}
use Rattle.std.proofs.lemmas.List.{with_items_is, places}
use Rattle.std.proofs.lemmas.Result.{err_from_is_err_and}
use Rattle.s2shelf.proofs.Given.{gave, gave_none}
use Rattle.s2session.proofs.Pieces.{grown, unchanged}
use Rattle.s2session.proofs.source.Buffer.read_from.Goals as goal
use borrow.Rule.Slice.PartMut.{put_mid}

pub returns-in_err-count-clause-err : goal.returns-in_err-count-clause-err
returns-in_err-count-clause-err g c =
    let b = c.args.self.now in
    let within : b.end ≤ length b.bytes.items = omega (arith, b.within, b.bytes.ok.0) in
    let p = err_from_is_err_and c.from_residual.result c.from_residual.ensures.1 in
    let k = length c.as_mut_slice.result.now - b.end in
    rw p.1 (
      ap (λ (l : List ℕ). slice_range l b.start b.end)
          (with_items_is b.bytes (put_mid b.end k c.as_mut_slice.result.now c.read.new.buf) (search (rules, places)))
          ∙ unchanged b.bytes.items c.as_mut_slice.result.now c.read.new.buf b.start b.end k
          c.as_mut_slice.ensures.value b.ordered within,
      refl,
      record {
        back = gave_none g.F.Read.remaining c.args.file.now c.read.new.self c.in_err-count.ensures.name
            c.in_err-count.ensures.err.0 c.in_err-count.ensures.err.1 c.in_err-count.ensures.below
            (λ e. absurd (failed (c.in_err-count.ensures.ended e).0));
      },
    )
  where
    failed : {T E : Type 0} {x : T} {e : E} → Err e ≡ Ok x → ⊥
    failed h = absurd cc

pub returns-clause-ok : goal.returns-clause-ok
returns-clause-ok g c =
    let b = c.args.self.now in
    let within : b.end ≤ length b.bytes.items = omega (arith, b.within, b.bytes.ok.0) in
    let n = c.in_ok-count.count in
    let bound = c.in_ok-count.ensures.bound in
    let k = length c.as_mut_slice.result.now - b.end in (
      take n c.read.new.buf,
      sym bound.1,
      ap (λ (l : List ℕ). slice_range l b.start (b.end + n))
          (with_items_is b.bytes (put_mid b.end k c.as_mut_slice.result.now c.read.new.buf) (search (rules, places)))
          ∙ grown b.bytes.items c.as_mut_slice.result.now c.read.new.buf b.start b.end k n
          c.as_mut_slice.ensures.value b.ordered within bound.0,
      record {
        back = gave g.F.Read.remaining c.args.file.now c.read.new.self c.in_ok-count.ensures.name (Ok n) n
            c.read.new.buf
            refl c.in_ok-count.ensures.given c.in_ok-count.ensures.below c.in_ok-count.ensures.end
            c.in_ok-count.ensures.ended;
      },
    )
