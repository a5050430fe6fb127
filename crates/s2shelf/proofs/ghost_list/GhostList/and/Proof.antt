-- `and` makes the same struct, with one more entry. Assumes `Logic`.
use Rattle.std.proofs.Common.{[], ◌∷◌, ◌++◌, refl}
use Rattle.std.proofs.raw_atomic.Walks.{proved}
use mir.Syntax.{a_type, dcons, dnil, named}
use mir.Val.{Val, vptr, vstruct, vcons, vnil}
use mir.MapTy.{inst_fn}
use base.Logic.{SProp}
use base.Fml.{Fml}
use contract.Running.{tables}
use types.Kit.{‵, raw, ◌⊛◌, ◌$◌, ◌∵◌, !, qed, move, keep, split, fjoin, use0, suffices, done}
use types.Part.{agg}
use types.Run.{enter, returns, and_then, no_more}
use types.ByLocal.{alloc_all, pass_all, free_all, look_at, get, sets}
use denote.Exit.{yes}
use denote.RattleType.{RattleType, owns}
use denote.Builtin.{RefOf}
use denote.Param.{param, bounded}
use denote.Ref.{shr_vals, shr_Tells}
use denote.Shadow.{makes_shadow}
use denote.Signature.{types_at, type_at, plain}
use denote.Steps.{nothing}
use denote.Triple.Entry.{Res, alive}
use denote.Triple.Walked.{says, Stays, stay_dropped, walk_of, ends_at, Goes-dropped}
use Rattle.s2shelf.specs.contracts.ghost_list.GhostList as GhostList
use Rattle.s2shelf.specs.contracts.ghost_list.GhostList.and as F
use Rattle.s2shelf.specs.contracts.ghost_list.GhostList.and.Key.{name as #self}
use Rattle.s2shelf.proofs.ghost_list.GhostList.and.Statement as stated
use Rattle.s2shelf.proofs.ghost_list.GhostList.and.Code as code

pub and_spec : {M : Type 1} → stated.statement M
and_spec 𝓤 𝓛 𝓜 𝓡 wired E V LE LV g d met =
    let H = 𝓛.H in
    let 𝓣 = tables 𝓤 H 𝓜 𝓡 𝓡.env in
    let T = F.ended E V g d in
    let c = F.clauses E V g d 𝓛 𝓜.mem 𝓡.returns in
    let inst = bounded (a_type ∷ a_type ∷ []) (E, (V, tt)) (dcons d dnil) in
    let fn = inst_fn inst code.function in
    let row : RattleType = GhostList.the_row (param 0 E) in
    let self = RefOf (0 ∷ []) tt (plain (λ _. row)) (λ _. tt) in
    let shows = RefOf (1 ∷ []) tt (plain (λ _. param 1 V)) (λ _. tt) in
    let stayed : Stays T.signature.params T.kept = (stay_dropped self yes, (stay_dropped shows yes, tt)) in
    proved 𝓛 T stayed c 𝓜 𝓡
    (Goes-dropped 𝓛 4 self yes (λ κs x f. refl), (Goes-dropped 𝓛 4 shows yes (λ κs x f. refl), tt))
    (#self inst) fn (code.unfolded 𝓤 H 𝓜 𝓡 wired (E, (V, tt)) d) (λ κs. (shr_vals, (shr_vals, tt)))
    (λ κs. (shr_Tells (named 0) κs.0 row, (shr_Tells (named 1) κs.1.0 (param 1 V), tt)))
    (λ κs qs bounds a gh are.
    let p : Val = vptr a.0.ref_ptr.0 a.0.ref_ptr.1 in
    let q : Val = vptr a.1.0.ref_ptr.0 a.1.0.ref_ptr.1 in
    let y : (walk_of 𝓛 T stayed c).Ghost = ((κs, qs, bounds, a, (p ∷ [], (q ∷ [], tt))), gh) in
    let Post : Val → SProp 𝓤 = (walk_of 𝓛 T stayed c).post y in
    let v : Val = vstruct (vcons (vstruct vnil) vnil) in
    let list : Res T.signature κs =
    record { of = record {}; entries = a.0.now.entries ++ g.shown a.1.0.now ∷ [] } in
    let made : Fml = (type_at T.signature.result κs).own_val list (v ∷ []) in
    qed 𝓛 ((raw (alive 𝓛 T.signature κs qs) ⊛ ‵ (owns (types_at T.signature.params κs) a y.0.4))
    ∷ raw ((c κs a).requires gh) ∷ []) ∵
    keep ! (0 ∷ []) $ split ! $ keep ! (0 ∷ []) $
    enter ! 𝓣.C 𝓣.Λ fn (p ∷ q ∷ []) Post $ alloc_all ! (λ l. pass_all ! refl ((tt, tt), ((tt, tt), tt)) $
    sets ! (agg ! (no_more !)) refl (tt, tt) $
    sets ! (agg ! (and_then ! (get ! refl) (no_more !))) refl (tt, (tt, tt)) $
    returns ! (look_at ! 0 refl) $ free_all ! refl $
    use0 𝓛 (‵ made) (makes_shadow 𝓛 made ((λ vss. (tt, ((λ uss. (tt, tt)), tt))), tt)
    (((vstruct vnil ∷ [], tt), (refl, ((tt, (refl, tt)), tt))), tt)) $
    suffices ! _ (ends_at 𝓛 T stayed c y v list (tt, (tt, tt)) (tt, (tt, tt))) $ says ! refl $
    nothing ! $ nothing ! $ fjoin ! $ nothing ! $ fjoin ! $ move ! (2 ∷ 0 ∷ 1 ∷ []) $ done !))
