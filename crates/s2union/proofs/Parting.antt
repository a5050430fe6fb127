-- The part of a list that a change concerns.
use Rattle.std.proofs.Common.{◌≡◌, ℕ, ◌+◌, ◌-◌, List, [], ◌∷◌, ◌++◌, length, take, drop, refl, sym, ap, ◌∙◌}
use Rattle.std.proofs.Common.{append-nil, append_assoc, drop-drop, arith}
use Rattle.s2union.specs.Apply.{applied}
use Rattle.s2union.specs.Working.Merge.{Left, CanApply, IsRest, Goes, Keeps, made_list}
use Rattle.s2union.proofs.MergeSteps.{whole_on}

unchanged : (us : List ℕ) → applied [] [] us ≡ us
unchanged [] = refl
unchanged (u ∷ us) = ap (λ (l : List ℕ). u ∷ l) (unchanged us)

-- the cells before the part, when none of it is written yet
pub part_begins : {run list us : List ℕ} {old new : Left} → us ≡ old.cells → list ≡ [] →
    take (length run) old.cells ≡ run → CanApply old → Keeps run old new →
    (take (length run) us ++ list) ++ made_list new ≡ made_list old
part_begins {run = run} {new = new} u e f can k = rw (u, e, f)
    (ap (λ (l : List ℕ). l ++ made_list new) (append-nil run) ∙ sym (k.gives can))

-- a run and a turn, once part of it is written
pub part_grows : (before list : List ℕ) {copied written whole run front : List ℕ} {old ran new : Left} →
    (before ++ list) ++ made_list old ≡ whole → copied ≡ list ++ run → written ≡ copied ++ front →
    Keeps run old ran → Goes front ran new → CanApply old → (before ++ written) ++ made_list new ≡ whole
part_grows before list {copied = copied} {run = run} {front = front} w c e k t can =
    whole_on (before ++ list) w (ap (λ (l : List ℕ). before ++ l) c ∙ sym (append_assoc before list run))
    (ap (λ (l : List ℕ). before ++ l) e ∙ sym (append_assoc before copied front)) k t can

pub rest_on : (us vs ws : List ℕ) → IsRest vs us → IsRest ws vs → IsRest ws us
rest_on us vs ws (m, e) (n, f) =
    let k : length us - length vs + (length vs - length ws) ≡ length us - length ws = omega (arith, m, n) in (
      omega (arith, m, n),
      ap (λ (i : ℕ). drop i us) (sym k) ∙ sym (drop-drop (length vs - length ws) (length us - length vs) us)
          ∙ ap (drop (length vs - length ws)) e ∙ f,
    )

-- the cells after the part, when the change is made
pub part_ends : (before us whole : List ℕ) (left : Left) → (left.out ≡ []) × (left.put ≡ []) → IsRest left.cells us →
    before ++ made_list left ≡ whole → before ++ drop (length us - length left.cells) us ≡ whole
part_ends before us whole left done rest e =
    ap (λ (l : List ℕ). before ++ l) (rest.1 ∙ sym (unchanged left.cells)
    ∙ ap (λ (l : List ℕ). applied [] l left.cells) (sym done.1)
    ∙ ap (λ (l : List ℕ). applied l left.put left.cells) (sym done.0)) ∙ e
