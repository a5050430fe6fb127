use Rattle.std.proofs.lemmas.Result.{IfOk-weaker}
use Rattle.s2draw.specs.Zoom.{face_pieces, face_piece}
use Rattle.s2draw.proofs.Notes.{six}
use Rattle.s2draw.proofs.zoom.put_faces.Goals as goal

pub returns : goal.returns
unfolding face_pieces
returns c =
    let p = face_piece c.args.part in
    IfOk-weaker c.put-2.result _ _
    (λ u q. six _ _ (p 0) (p 1) (p 2) (p 3) (p 4) (p 5) _ c.in_ok-put.ensures c.in_ok-put_face.ensures
    c.in_ok-put_face-2.ensures c.in_ok-put_face-3.ensures c.in_ok-put_face-4.ensures c.in_ok-put_face-5.ensures
    c.in_ok-put_face-6.ensures q) c.put-2.ensures
