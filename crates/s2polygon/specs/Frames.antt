-- The frames of the six faces.
use Rattle.std.specs.Prelude.{ℕ, zero, suc, ℤ, neg_ℤ, ◌*ℤ◌, ◌-ℤ◌}
use Rattle.s2polygon.specs.Directions.{Point}
use Rattle.s2polygon.specs.declared.directions.Edge.{Edge}
use Rattle.s2polygon.specs.declared.frames.Framed.{Framed}
use Rattle.s2polygon.specs.declared.frames.FramedEdge.{FramedEdge}

-- a direction in the frame of a face: along the axis of the face, its rows and its columns
abbrev pub in_frame : ℕ → Point → Framed
in_frame zero p = record { w = p.x; u = p.y; v = p.z }
in_frame (suc zero) p = record { w = p.y; u = neg_ℤ p.x; v = p.z }
in_frame (suc (suc zero)) p = record { w = p.z; u = neg_ℤ p.x; v = neg_ℤ p.y }
in_frame (suc (suc (suc zero))) p = record { w = neg_ℤ p.x; u = neg_ℤ p.z; v = neg_ℤ p.y }
in_frame (suc (suc (suc (suc zero)))) p = record { w = neg_ℤ p.y; u = neg_ℤ p.z; v = p.x }
in_frame (suc (suc (suc (suc (suc _))))) p = record { w = neg_ℤ p.z; u = p.y; v = p.x }

-- the coordinate along the axis of the product `a` x `b`, the normal of the edge from `a` to `b`
abbrev pub normal_w_of : Framed → Framed → ℤ
normal_w_of a b = a.u *ℤ b.v -ℤ a.v *ℤ b.u

-- the coordinate along the rows
abbrev pub normal_u_of : Framed → Framed → ℤ
normal_u_of a b = a.v *ℤ b.w -ℤ a.w *ℤ b.v

-- the coordinate along the columns
abbrev pub normal_v_of : Framed → Framed → ℤ
normal_v_of a b = a.w *ℤ b.u -ℤ a.u *ℤ b.w

-- the product itself
abbrev pub normal_of : Framed → Framed → Framed
normal_of a b = record { w = normal_w_of a b; u = normal_u_of a b; v = normal_v_of a b }

-- an edge in the frame of a face, with its normal
abbrev pub framed : ℕ → Edge → FramedEdge
framed f e =
    let a = in_frame f e.a in let b = in_frame f e.b in record { a = a; b = b; n = normal_of a b }
