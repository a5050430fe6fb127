-- What a register gets by an edit.
use Rattle.std.proofs.Common.{◌≡◌, ℕ, Bool, List, inl, inr, Result, Ok, Err, OnOk, OnErr, IfOk, ap, refl}
use Rattle.s2list.proofs.Normal.{normal_form_same}
use Rattle.s2edit.specs.History.{History, numbers}
use Rattle.s2edit.specs.Named.{Becomes}
use Rattle.s2edit.specs.declared.editor.EditFault.{EditFault}
use Rattle.s2edit.specs.declared.editor.EditFault.TheVariants.{TooMany as AboveLimit, Memory as NoRoom}
use Rattle.s2calc.specs.Replies.{Reply, Says}
use Rattle.s2calc.specs.Texts.{ok_line}
use Rattle.s2calc.specs.Edits.{IsTooLong, Gets}
use Rattle.s2calc.specs.Working.Answer.{reply_of}
use Rattle.s2calc.specs.Working.Edits.{answer_of}

-- an edit for a set of leaves is one for any other set with the same leaves
pub gets_same : (S T : ℕ → Bool) (r : ℕ) (old new : History (List ℕ)) (reply : Reply) → ((x : ℕ) → S x ≡ T x) →
    Gets S r old reply new → Gets T r old reply new
gets_same S T r old new reply same (inl (b, told)) = inl (
  record {
    list = b.list;
    normal = normal_form_same S T b.list same b.normal;
    within = b.within;
    state = b.state;
    state_sets = b.state_sets;
  },
  told,
)
gets_same S T r old new reply same (inr (inl h)) = inr (inl (
  h.0,
  record {
    list = h.1.list;
    normal = normal_form_same S T h.1.list same h.1.normal;
    above = h.1.above;
  },
  h.2,
))
gets_same S T r old new reply same (inr (inr h)) = inr (inr h)

-- what is answered is what the editor did
pub gets : (S : ℕ → Bool) (r : ℕ) (old new : History (List ℕ)) (edited : Result (ℕ × ℕ) EditFault) →
    OnOk edited (Becomes S r old new) → IfOk edited (λ n. n ≡ numbers old.now new.now) →
    (edited ≡ Err AboveLimit → IsTooLong S old.limit) → OnErr edited (new ≡ old) →
    Gets S r old (reply_of (answer_of edited) new) new
gets S r old new (Ok n) b e long kept = inl (b, ap (λ (p : ℕ × ℕ). Says (ok_line p.0 p.1)) e)
gets S r old new (Err AboveLimit) b e long kept = inr (inl (refl, long refl, kept))
gets S r old new (Err NoRoom) b e long kept = inr (inr (refl, kept))
