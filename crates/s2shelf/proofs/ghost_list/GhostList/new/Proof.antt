-- `new` makes the empty struct, with the entries that its clause names. Assumes `Logic`.
use Rattle.std.proofs.Common.{[], ◌∷◌, refl}
use Rattle.std.proofs.raw_atomic.Walks.{proved}
use mir.Syntax.{a_type}
use mir.Val.{Val, vstruct, vcons, vnil}
use mir.MapTy.{inst_fn}
use base.Logic.{SProp}
use base.Fml.{Fml}
use contract.Running.{tables}
use types.Kit.{‵, raw, ◌⊛◌, ◌$◌, ◌∵◌, !, qed, move, keep, split, use0, suffices, done}
use types.Part.{agg}
use types.Run.{enter, returns, and_then, no_more}
use types.ByLocal.{alloc_all, pass_all, free_all, look_at, get, sets}
use denote.RattleType.{owns}
use denote.Param.{layouts}
use denote.Shadow.{makes_shadow}
use denote.Signature.{types_at, type_at}
use denote.Steps.{nothing}
use denote.Triple.Entry.{Res, alive}
use denote.Triple.Walked.{says, Stays, walk_of, ends_at}
use Rattle.s2shelf.specs.contracts.ghost_list.GhostList.new as F
use Rattle.s2shelf.specs.contracts.ghost_list.GhostList.new.Key.{name as #self}
use Rattle.s2shelf.proofs.ghost_list.GhostList.new.Statement as stated
use Rattle.s2shelf.proofs.ghost_list.GhostList.new.Code as code

pub new_spec : {M : Type 1} → stated.statement M
new_spec 𝓤 𝓛 𝓜 𝓡 wired E LE =
    let H = 𝓛.H in
    let 𝓣 = tables 𝓤 H 𝓜 𝓡 𝓡.env in
    let T = F.ended E in
    let c = F.clauses E 𝓛 𝓜.mem 𝓡.returns in
    let inst = layouts (a_type ∷ []) (E, tt) in
    let fn = inst_fn inst code.function in
    let stayed : Stays T.signature.params T.kept = tt in
    proved 𝓛 T stayed c 𝓜 𝓡 tt (#self inst) fn (code.unfolded 𝓤 H 𝓜 𝓡 wired (E, tt)) (λ κs. tt) (λ κs. tt)
    (λ κs qs bounds a g are.
    let y : (walk_of 𝓛 T stayed c).Ghost = ((κs, qs, bounds, a, tt), g) in
    let Post : Val → SProp 𝓤 = (walk_of 𝓛 T stayed c).post y in
    let v : Val = vstruct (vcons (vstruct vnil) vnil) in
    let list : Res T.signature κs = record { of = record {}; entries = [] } in
    let made : Fml = (type_at T.signature.result κs).own_val list (v ∷ []) in
    qed 𝓛 ((raw (alive 𝓛 T.signature κs qs) ⊛ ‵ (owns (types_at T.signature.params κs) a y.0.4))
    ∷ raw ((c κs a).requires g) ∷ []) ∵
    keep ! (0 ∷ []) $ split ! $ keep ! (0 ∷ []) $
    enter ! 𝓣.C 𝓣.Λ fn [] Post $ alloc_all ! (λ l. pass_all ! refl tt $
    sets ! (agg ! (no_more !)) refl (tt, tt) $
    sets ! (agg ! (and_then ! (get ! refl) (no_more !))) refl (tt, (tt, tt)) $
    returns ! (look_at ! 0 refl) $ free_all ! refl $
    use0 𝓛 (‵ made) (makes_shadow 𝓛 made ((λ vss. (tt, ((λ uss. (tt, tt)), tt))), tt)
    (((vstruct vnil ∷ [], tt), (refl, ((tt, (refl, tt)), tt))), tt)) $
    suffices ! _ (ends_at 𝓛 T stayed c y v list tt tt) $ says ! refl $
    nothing ! $ move ! (2 ∷ 0 ∷ 1 ∷ []) $ done !))
