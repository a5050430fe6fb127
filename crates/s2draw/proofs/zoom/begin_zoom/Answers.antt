use Rattle.s2draw.specs.Zoom.{zoom_head, zoom_size, depth_line, window, face_pieces}
use Rattle.s2draw.proofs.Notes.{begun_zoom}
use Rattle.s2draw.proofs.zoom.begin_zoom.Goals as goal

pub returns : goal.returns
unfolding zoom_head
returns c =
    begun_zoom (zoom_size c.args.lists) (depth_line c.args.part.deepest) _ (window c.args.part)
    (face_pieces c.args.part) _ c.new-text.ensures.items
    c.in_ok-put_size.ensures c.in_ok-put.ensures c.in_ok-put-2.ensures c.in_ok-put_depth.ensures c.in_ok-put-3.ensures
    c.in_ok-put_window.ensures c.in_ok-put_faces.ensures c.in_ok-put-4.ensures c.as_bytes.ensures.value
    c.as_bytes-2.ensures.value
