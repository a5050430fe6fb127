use Rattle.std.proofs.Common.{◌≡◌, ◌≢◌, ◌∙◌, ap, sym, refl, inl, inr, rules, to_z, of_z}
use Rattle.std.specs.Int.{w32}
use Rattle.std.proofs.lemmas.Int.{to_z-of_z}
use mir.Val.{SFits}
use Rattle.s2union_c.specs.Polygons.{CutsOne, IsInnerUpTo, IsOuterUpTo}
use Rattle.s2union_c.specs.Status.{made}
use Rattle.s2union_c.proofs.Both.{both_passed, both_refused, cuts_one}
use Rattle.s2union_c.proofs.polygons.put_both.Goals as goal

pub returns-in_default-clause-made : goal.returns-in_default-clause-made
returns-in_default-clause-made c =
    inr ((refl, c.requires.outer_len, refl), (refl, c.requires.inner_len, refl))

pub returns-in_default-covering_up_to-clause-made :
    goal.returns-in_default-covering_up_to-clause-made
returns-in_default-covering_up_to-clause-made c =
    inr ((refl, c.requires.outer_len, refl), (refl, c.requires.inner_len, refl))

pub returns-then-first-eq-MADE-clause-made : goal.returns-then-first-eq-MADE-clause-made
returns-then-first-eq-MADE-clause-made c =
    let fits : SFits w32 c.put_cut-second.result = search rules in
    let first : SFits w32 c.put_cut-first.result = search rules in
    let is : c.put_cut-first.result ≡ made =
    sym (to_z-of_z w32 c.put_cut-first.result first) ∙ ap (to_z w32) c.if-first-eq-MADE.true in
    rw (to_z-of_z w32 c.put_cut-second.result fits)
    (inl (both_passed
    (λ s. CutsOne c.args.least (IsOuterUpTo c.args.polygon.now c.args.deepest c.args.most) s c.args.outer.now
    c.put_cut-first.new.out c.put_cut-first.new.len)
    (λ s. CutsOne c.args.least (IsInnerUpTo c.args.polygon.now c.args.deepest c.args.most) s c.args.inner.now
    c.put_cut-second.new.out c.put_cut-second.new.len)
    c.put_cut-first.result c.put_cut-second.result is
    (cuts_one _ (IsOuterUpTo c.args.polygon.now c.args.deepest c.args.most) _ _ _ _ _ c.in-Ok.ensures.made
    c.put_cut-first.ensures.made c.put_cut-first.ensures.many)
    (cuts_one _ (IsInnerUpTo c.args.polygon.now c.args.deepest c.args.most) _ _ _ _ _
    c.in-Ok-covering_up_to.ensures.made c.put_cut-second.ensures.made c.put_cut-second.ensures.many)))

pub returns-clause-made : goal.returns-clause-made
returns-clause-made c =
    let fits : SFits w32 c.put_cut-first.result = search rules in
    let isnt : c.put_cut-first.result ≢ made = λ is. c.if-first-eq-MADE.false (ap (of_z w32) is) in
    rw (to_z-of_z w32 c.put_cut-first.result fits)
    (inl (both_refused
    (λ s. CutsOne c.args.least (IsOuterUpTo c.args.polygon.now c.args.deepest c.args.most) s c.args.outer.now
    c.put_cut-first.new.out c.put_cut-first.new.len)
    (λ s. CutsOne c.args.least (IsInnerUpTo c.args.polygon.now c.args.deepest c.args.most) s c.args.inner.now
    c.put_cut-second.new.out c.put_cut-second.new.len)
    c.put_cut-first.result c.put_cut-second.result isnt
    (cuts_one _ (IsOuterUpTo c.args.polygon.now c.args.deepest c.args.most) _ _ _ _ _ c.in-Ok.ensures.made
    c.put_cut-first.ensures.made c.put_cut-first.ensures.many)
    (cuts_one _ (IsInnerUpTo c.args.polygon.now c.args.deepest c.args.most) _ _ _ _ _
    c.in-Ok-covering_up_to.ensures.made c.put_cut-second.ensures.made c.put_cut-second.ensures.many)))
